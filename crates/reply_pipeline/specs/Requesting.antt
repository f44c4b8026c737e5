-- What a request stage did through its pass.
use Rattle.std.specs.Prelude.{⊤, ◌≡◌, ℕ, ◌+◌, ◌≤◌, true, List, [], ◌∷◌, ◌++◌, map, flat_map, length, slice_get, Option, None, Some, IfSome, IsSomeAnd}
use Rattle.batch_pool.specs.declared.batch.Entry.{Entry}
use Rattle.persist_batches.specs.declared.numbered.Numbered.{Numbered}
use Rattle.queue_passes.specs.Holds.{Holds}
use Rattle.request_rule.specs.declared.account.Ticket.{Ticket}
use Rattle.request_rule.specs.declared.account.RequestAccount.{RequestAccount}
use Rattle.request_rule.specs.Tickets.{tickets}
use Rattle.batch_rule.specs.declared.account.BatchAccount.{BatchAccount}
use Rattle.batch_rule.specs.Numbers.{next_after}
use Rattle.stage_queues.specs.Plan.{Plan}
use Rattle.stage_queues.specs.Passes.{StageAccount, at_node}
use Rattle.reply_pipeline.specs.declared.request.Served.{Served}
use Rattle.reply_pipeline.specs.declared.request.Served.TheVariants as served
use Rattle.reply_pipeline.specs.Reach.{ReachesNode}
use Rattle.reply_pipeline.specs.Picks.{IsPickOf}

abbrev pub taken_tickets : Option (Holds RequestAccount) → List Ticket
taken_tickets None = []
taken_tickets (Some p) = tickets p.account.taken

abbrev pub put_batches : Option (Holds BatchAccount) → List Numbered
put_batches None = []
put_batches (Some p) = p.account.put

-- the tickets that were taken at a node, and the batches that were put there
abbrev pub tickets_at : StageAccount → ℕ → List Ticket
tickets_at p node = taken_tickets (at_node p node).requests

abbrev pub batches_at : StageAccount → ℕ → List Numbered
batches_at p node = put_batches (at_node p node).batches

-- a request stage's pass of a node
pub record IsRequestPass (queues : Plan) (node : ℕ) (p : StageAccount) : Type 0 where
  pub reaches : ReachesNode queues node p
  pub takes : IsSomeAnd (at_node p node).requests (λ q. q.account.receives ≡ true)
  pub sends : IsSomeAnd (at_node p node).batches (λ q. q.account.sends ≡ true)

-- nothing was taken or put through the pass
abbrev pub IsUnused : ℕ → StageAccount → Type 0
IsUnused node p = (tickets_at p node ≡ []) × (batches_at p node ≡ [])

-- the request that an entry is of
abbrev pub ticket_of : Entry → Ticket
ticket_of entry = record { session = entry.session; term = entry.term }

-- the entry of a ticket whose request is drawn
abbrev pub entry_of : Ticket → ℕ → Option ℕ → Entry
entry_of ticket start commit = record { session = ticket.session; term = ticket.term; start = start; commit = commit }

abbrev pub tickets_of : List Entry → List Ticket
tickets_of entries = map ticket_of entries

-- the requests of the entries that batches have
abbrev pub entered : List Numbered → List Ticket
entered batches = flat_map (λ batch. tickets_of batch.batch.entries) batches

-- The entries of the batches that were put are of tickets that were taken, in the order of these, each at most once
abbrev pub EntersTickets : ℕ → StageAccount → Type 0
EntersTickets node p = IsPickOf (entered (batches_at p node)) (tickets_at p node)

-- the batches are numbered 0, 1, 2, ..
abbrev pub AreNumbered : List Numbered → Type 0
AreNumbered batches = (n : ℕ) (batch : Numbered) → slice_get batches n ≡ Some batch → batch.number ≡ n

-- so while it holds so many batches, with these entries that were not put yet; the next batch has the number
pub record IsRequesting (queues : Plan) (node number hand : ℕ) (entries : List Entry) (p : StageAccount) : Type 0 where
  pub pass : IsRequestPass queues node p
  pub holds : p.held ≡ hand
  pub numbered : AreNumbered (batches_at p node)
  pub next : number ≡ length (batches_at p node)
  pub below : next_after 0 (batches_at p node) ≤ number
  pub enters : IsPickOf (entered (batches_at p node) ++ tickets_of entries) (tickets_at p node)

-- with an entry more, if there is one
abbrev pub with_entry : List Entry → Option Entry → List Entry
with_entry entries None = entries
with_entry entries (Some entry) = entries ++ entry ∷ []

-- tickets were taken, and the entry, if there is one, is of the last of them
abbrev pub Enters : Plan → ℕ → Option Entry → StageAccount → StageAccount → Type 0
Enters queues node found old new =
    (number hand : ℕ) (entries : List Entry) → IsRequesting queues node number hand entries old → IsRequesting queues node number hand (with_entry entries found) new

-- a ticket was taken, of which an entry may be entered
abbrev pub MayEnter : Plan → ℕ → Ticket → StageAccount → StageAccount → Type 0
MayEnter queues node ticket old new = (entry : Entry) → ticket_of entry ≡ ticket → Enters queues node (Some entry) old new

-- ---- a ticket that was taken, and is left for a while
-- an entry of it may still be entered
abbrev pub MayStill : Plan → ℕ → ℕ → ℕ → List Entry → Ticket → StageAccount → Type 0
MayStill queues node number hand entries ticket p = (entry : Entry) → ticket_of entry ≡ ticket → IsRequesting queues node number hand (entries ++ entry ∷ []) p

-- a batch of this number is next, and an entry of the ticket that is left may be its first
abbrev pub GoesOnWith : Plan → ℕ → ℕ → Option Ticket → StageAccount → Type 0
GoesOnWith queues node number left p = IsRequesting queues node number 0 [] p × IfSome left (λ ticket. MayStill queues node number 0 [] ticket p)

-- a ticket that is left when a batch is sent is left behind it
abbrev pub KeepsLeft : Plan → ℕ → Numbered → StageAccount → StageAccount → Type 0
KeepsLeft queues node batch old new = (ticket : Ticket) → MayStill queues node batch.number 1 batch.batch.entries ticket old → MayStill queues node (batch.number + 1) 0 [] ticket new

-- tickets were taken, and the entry, if there is one, is of the one that was left or of the last of them
abbrev pub EntersLeft : Plan → ℕ → Option Ticket → Option Entry → StageAccount → StageAccount → Type 0
EntersLeft queues node left found old new = (number : ℕ) → GoesOnWith queues node number left old → IsRequesting queues node number 0 (with_entry [] found) new

-- an entry is of the ticket, and what is left is the ticket
abbrev pub IsServed : Ticket → Served → Type 0
IsServed ticket (served.Drawn entry) = ticket_of entry ≡ ticket
IsServed ticket served.Ended = ⊤
IsServed ticket (served.Held left) = left ≡ ticket

-- the request stage has ended, and holds nothing
pub record HasRequested (queues : Plan) (node : ℕ) (p : StageAccount) : Type 0 where
  pub pass : IsRequestPass queues node p
  pub holds : p.held ≡ 0
  pub numbered : AreNumbered (batches_at p node)
  pub enters : EntersTickets node p
