-- What a refusal says of the state that it is made in: the state is as the cause tells.
use Rattle.std.specs.Prelude.{◌≡◌, ◌≢◌, ℕ, ◌+◌, ◌<◌, ◌≤◌, ◌^◌, ◌⊎◌, All, List, [], ◌∷◌, ◌++◌, slice_get, None, Some, IsSome}
use Rattle.stamp_base.specs.SetupNumbers.{SetupNumbers}
use Rattle.stamp_base.specs.declared.stores.Store.TheVariants.{Table}
use Rattle.history_book.specs.Members.{AtEach}
use Rattle.history_book.specs.declared.cause.Cause.{Cause}
use Rattle.history_book.specs.declared.cause.Cause.TheVariants as cause
use Rattle.history_book.specs.declared.item.Actor.{Actor}
use Rattle.history_book.specs.declared.item.Actor.TheVariants.{Session, Node, Janitor, Clock}
use Rattle.history_book.specs.declared.item.StoreStep.TheVariants.{PutFound}
use Rattle.history_book.specs.declared.item.Item.{Item}
use Rattle.history_book.specs.declared.item.Item.TheVariants.{Refused, Crash, Placed, Step, Fault}
use Rattle.system_parts.specs.declared.session.State.TheVariants as phase
use Rattle.system_parts.specs.declared.buckets.Verdict.{Verdict}
use Rattle.system_parts.specs.declared.buckets.Verdict.TheVariants.{Conflict, Hidden}
use Rattle.system_parts.specs.declared.instance.Progress.{Progress}
use Rattle.system_parts.specs.declared.instance.Progress.TheVariants as progress
use Rattle.system_parts.specs.declared.instance.Request.{Request}
use Rattle.system_parts.specs.declared.instance.Request.TheVariants.{Begin, Commit}
use Rattle.system_parts.specs.declared.instance.Settled.{Settled}
use Rattle.system_parts.specs.declared.instance.Settled.TheVariants as how
use Rattle.system_parts.specs.Instance.{InstanceEntry, in_flight, least_unsettled}
use Rattle.machine.specs.State.{Client, State}
use Rattle.machine.specs.Events.Decide.{both_verdict}
use Rattle.cause_rules.specs.Explained.{ShownCause}
use Rattle.machine.specs.FoundAt.{InstanceAt, HeldBy, ClientAt, Marked}

-- ---- the refusals of a request
-- an instance holds the session's request, which has come this far
pub record Serves (w : State) (s : ℕ) (i : InstanceEntry) (request : Request) (p : Progress) : Type 0 where
  pub node : ℕ
  pub at : InstanceAt w.nodes node i
  pub holds : HeldBy i s request p

-- the buckets give the commit this verdict, by the keys that it writes and by those that its client has read
pub record DueVerdict (w : State) (s : ℕ) (why : Verdict) : Type 0 where
  pub i : InstanceEntry
  pub asker : ℕ
  pub start : ℕ
  pub keys : List ℕ
  pub serves : Serves w s i (Commit asker start keys) progress.Accepted
  pub client : Client
  pub client_at : ClientAt w.clients s client
  pub judged : both_verdict i.buckets client.reads (Commit asker start keys) ≡ why

pub record DueOldEpoch (w : State) (s start epoch : ℕ) : Type 0 where
  pub i : InstanceEntry
  pub asker : ℕ
  pub keys : List ℕ
  pub serves : Serves w s i (Commit asker start keys) progress.Asked
  pub epoch_is : i.epoch ≡ epoch
  pub old : start ≤ epoch

pub record DueExpired (w : State) (s reading until : ℕ) : Type 0 where
  pub i : InstanceEntry
  pub request : Request
  pub serves : Serves w s i request progress.Asked
  pub until_is : i.until ≡ until
  pub over : until ≤ reading

-- the instance keeps the refusal
pub record DueStop (w : State) (s : ℕ) (why : Cause) : Type 0 where
  pub i : InstanceEntry
  pub request : Request
  pub serves : Serves w s i request progress.Accepted
  pub stop_is : i.stop ≡ Some why

-- its range is used up
pub record DueNoStamp (w : State) (s last : ℕ) : Type 0 where
  pub i : InstanceEntry
  pub request : Request
  pub serves : Serves w s i request progress.Accepted
  pub last_is : i.last ≡ last
  pub used_up : i.last ≡ i.ceiling

-- the commit was settled in this way
pub record DueSettled (w : State) (s start : ℕ) (by : Settled) : Type 0 where
  pub i : InstanceEntry
  pub asker : ℕ
  pub commit : ℕ
  pub keys : List ℕ
  pub serves : Serves w s i (Commit asker start keys) (progress.Settled commit by)

pub record DueNotYet (w : State) (s commit : ℕ) : Type 0 where
  pub i : InstanceEntry
  pub asker : ℕ
  pub start : ℕ
  pub serves : Serves w s i (Begin asker) (progress.Drawn start)
  pub least : least_unsettled i.requests start ≡ Some commit

-- ---- the other refusals
pub record DueFull (w : State) (count : ℕ) : Type 0 where
  pub node : ℕ
  pub i : InstanceEntry
  pub at : InstanceAt w.nodes node i
  pub held : in_flight i ≡ count
  pub all : count ≡ i.slots

pub record DueGone (w : State) (s : ℕ) : Type 0 where
  pub client : Client
  pub at : ClientAt w.clients s client
  pub gone : client.entry.state ≡ phase.Gone

abbrev pub DueNone : State → ℕ → Type 0
DueNone w node = slice_get w.nodes node ≡ Some None

pub record DueEarly (w : State) (reading until : ℕ) : Type 0 where
  pub holder : IsSome w.master.holder
  pub until_is : w.master.until ≡ until
  pub before : reading < until + w.setup.skew

pub record DueSpent (w : State) (ceiling : ℕ) : Type 0 where
  pub ceiling_is : w.master.ceiling ≡ ceiling
  pub past : 2 ^ 62 < ceiling + w.setup.range

pub record DueHolding (w : State) (node term : ℕ) : Type 0 where
  pub i : InstanceEntry
  pub at : InstanceAt w.nodes node i
  pub term_is : i.term ≡ term

-- the record has another term than the node's instance
pub record DueOvertaken (w : State) (node found : ℕ) : Type 0 where
  pub i : InstanceEntry
  pub at : InstanceAt w.nodes node i
  pub found_is : w.master.term ≡ found
  pub other : i.term ≢ found

-- ---- what is told to a session, to a node and to the janitor
abbrev pub DueToSession : State → ℕ → Cause → Type 0
DueToSession w s (cause.Conflict key by) = DueVerdict w s (Conflict key by)
DueToSession w s (cause.Hidden key water) = DueVerdict w s (Hidden key water)
DueToSession w s (cause.OldEpoch start epoch) = DueOldEpoch w s start epoch
DueToSession w s (cause.Expired reading until) = DueExpired w s reading until
DueToSession w s (cause.Replaced found) = DueStop w s (cause.Replaced found)
DueToSession w s (cause.Spent ceiling) = DueStop w s (cause.Spent ceiling)
DueToSession w s (cause.NoStamp last) = DueNoStamp w s last
DueToSession w s (cause.Invalid start) = DueSettled w s start how.Invalid
DueToSession w s (cause.Open start) = DueSettled w s start how.Faulted
DueToSession w s (cause.NotYet commit) = DueNotYet w s commit
DueToSession w s (cause.Full count) = DueFull w count
DueToSession w s (cause.NoOracle node) = DueNone w node
DueToSession w s cause.Gone = DueGone w s
DueToSession w s _ = ⊥

abbrev pub DueToNode : State → ℕ → Cause → Type 0
DueToNode w n (cause.Early reading until) = DueEarly w reading until
DueToNode w n (cause.Spent ceiling) = DueSpent w ceiling
DueToNode w n (cause.Replaced found) = DueOvertaken w n found
DueToNode w n (cause.Holding term) = DueHolding w n term
DueToNode w n (cause.NoOracle node) = (node ≡ n) × DueNone w node
DueToNode w n _ = ⊥

abbrev pub DueToJanitor : State → Cause → Type 0
DueToJanitor w (cause.NoOracle node) = DueNone w node
DueToJanitor w _ = ⊥

abbrev pub DueNow : State → Actor → Cause → Type 0
DueNow w (Session s) why = DueToSession w s why
DueNow w (Node n) why = DueToNode w n why
DueNow w Janitor why = DueToJanitor w why
DueNow w Clock why = ⊥

-- ---- a request that a crash has lost
-- what its session is told
abbrev pub cause_of_loss : ℕ → ℕ → Request → Cause
cause_of_loss node term (Begin session) = cause.Crashed node term
cause_of_loss node term (Commit session start keys) = cause.Open start

abbrev pub IsRefusal : Item → Type 0
IsRefusal (Refused actor why) = Unit {0}
IsRefusal _ = ⊥

-- after the crash and the refusals of other sessions
pub record DueLoss (w : State) (told : List Item) (actor : Actor) (why : Cause) : Type 0 where
  pub session : ℕ
  pub actor_is : actor ≡ Session session
  pub i : InstanceEntry
  pub request : Request
  pub p : Progress
  pub serves : Serves w session i request p
  pub why_is : why ≡ cause_of_loss serves.node i.term request
  pub earlier : List Item
  pub told_is : told ≡ Crash serves.node i.term ∷ earlier
  pub refusals : All IsRefusal earlier

-- ---- a placing that did not end well
-- a session places its commit
pub record Places (w : State) (s start commit : ℕ) : Type 0 where
  pub client : Client
  pub at : ClientAt w.clients s client
  pub placing : client.entry.state ≡ phase.Placing
  pub start_is : client.entry.start ≡ Some start
  pub commit_is : client.entry.commit ≡ Some commit

-- it met the mark, which it was told of before
pub record MetMark (w : State) (s start : ℕ) (told : List Item) : Type 0 where
  pub marked : Marked w.pairs start
  pub told_is : told ≡ Step (Session s) (PutFound start) ∷ []

-- its call failed, of which it was told before; the record may have been placed all the same
pub record FailedToPlace (s start commit : ℕ) (told : List Item) : Type 0 where
  pub kept : List Item
  pub kept_is : (kept ≡ []) ⊎ (kept ≡ Placed start commit ∷ [])
  pub told_is : told ≡ kept ++ Fault (Session s) Table ∷ []

abbrev pub HowPlaced : State → ℕ → ℕ → ℕ → List Item → Cause → Type 0
HowPlaced w s start commit told (cause.Invalid t) = (t ≡ start) × MetMark w s start told
HowPlaced w s start commit told (cause.Open t) = (t ≡ start) × FailedToPlace s start commit told
HowPlaced w s start commit told _ = ⊥

pub record DuePlacing (w : State) (told : List Item) (actor : Actor) (why : Cause) : Type 0 where
  pub session : ℕ
  pub actor_is : actor ≡ Session session
  pub start : ℕ
  pub commit : ℕ
  pub places : Places w session start commit
  pub how : HowPlaced w session start commit told why

-- a cause without a row is shown by anything
abbrev pub NeedsNoRow : Actor → Cause → Type 0
NeedsNoRow actor why = (setup : SetupNumbers) (h : List Item) → ShownCause setup h actor why

-- ---- every refusal among the items of an event
abbrev pub Due : State → List Item → Item → Type 0
Due w told (Refused actor why) = NeedsNoRow actor why ⊎ ((told ≡ []) × DueNow w actor why) ⊎ DueLoss w told actor why ⊎ DuePlacing w told actor why
Due w told _ = Unit {0}

abbrev pub AreDue : State → List Item → Type 0
AreDue w items = AtEach (Due w) items
