-- The passes that a thread has at one node, and what each call does to them.
use Rattle.std.specs.Prelude.{◌≡◌, ℕ, ◌<◌, ◌≤◌, true, length, Option, None, Some, IsSomeAnd, IfSome, option_map}
use Rattle.persist_batches.specs.declared.numbered.Numbered.{Numbered}
use Rattle.queue_passes.specs.Holds.{Ring, Holds, holds}
use Rattle.request_rule.specs.declared.account.Ticket.{Ticket}
use Rattle.request_rule.specs.declared.account.RequestAccount.{RequestAccount}
use Rattle.request_rule.specs.Accounts as request
use Rattle.request_rule.specs.Rule as request_rule
use Rattle.batch_rule.specs.Accounts as batch
use Rattle.batch_rule.specs.Numbers.{next_after}
use Rattle.batch_rule.specs.Rule as batch_rule
use Rattle.settled_rule.specs.Accounts as settled
use Rattle.settled_rule.specs.Rule as settled_rule
use Rattle.stage_queues.specs.declared.node_pass.NodePass.{NodePass}
use Rattle.stage_queues.specs.Plan.{NodeRings}

-- at a node that the thread does not reach
abbrev pub nothing : NodePass
nothing = record { requests = None; batches = None; settled = None }

-- a pass of the ring
abbrev pub IsOfRing : {Account : Type 0} → Ring → Holds Account → Type 0
IsOfRing ring p = p.ring ≡ ring.id

-- which calls the passes allow
abbrev pub MaySendTicket : Ring → NodePass → Type 0
MaySendTicket ring n = IsSomeAnd n.requests (λ p. IsOfRing ring p × (0 < length p.account.rows))

abbrev pub MayTakeTicket : Ring → NodePass → Type 0
MayTakeTicket ring n = IsSomeAnd n.requests (λ p. IsOfRing ring p × (p.account.receives ≡ true))

abbrev pub MaySendBatch : Ring → ℕ → NodePass → Type 0
MaySendBatch ring number n = IsSomeAnd n.batches (λ p. IsOfRing ring p × (p.account.sends ≡ true) × (next_after 0 p.account.put ≤ number))

-- after a call
abbrev pub changed : {Account : Type 0} → (Account → Account) → Option (Holds Account) → Option (Holds Account)
changed change pass = option_map (λ p. holds p.ring (change p.account)) pass

abbrev pub ticket_put : Ticket → NodePass → NodePass
ticket_put ticket n = record n { requests = changed (λ a. request.with_put a ticket) n.requests }

abbrev pub batch_put : Numbered → NodePass → NodePass
batch_put item n = record n { batches = changed (λ a. batch.with_put a item) n.batches }

abbrev pub batch_taken : Numbered → NodePass → NodePass
batch_taken item n = record n { batches = changed (λ a. batch.with_taken a item) n.batches }

abbrev pub settled_put : Numbered → NodePass → NodePass
settled_put item n = record n { settled = changed (λ a. settled.with_put a item) n.settled }

abbrev pub settled_taken : Numbered → NodePass → NodePass
settled_taken item n = record n { settled = changed (λ a. settled.with_taken a item) n.settled }

-- a ticket was taken: the receiver's list has it at its end
abbrev pub TakesOneOf : Ticket → Option (Holds RequestAccount) → Option (Holds RequestAccount) → Type 0
TakesOneOf ticket None new = ⊥
TakesOneOf ticket (Some old) None = ⊥
TakesOneOf ticket (Some old) (Some new) = (new.ring ≡ old.ring) × request.TakesOne old.account ticket new.account

abbrev pub TakesTicket : Ticket → NodePass → NodePass → Type 0
TakesTicket ticket old new = TakesOneOf ticket old.requests new.requests × (new ≡ record old { requests = new.requests })

-- all tickets that were put through the senders that are joined here were taken
abbrev pub TookAllTickets : NodePass → Type 0
TookAllTickets n = IfSome n.requests (λ p. request_rule.TookAll p.account)

-- so many tickets that were put through the senders that are joined here were not taken
abbrev pub HasLeftTickets : ℕ → NodePass → Type 0
HasLeftTickets count n = IfSome n.requests (λ p. request_rule.HasLeft count p.account)

-- so many batches that were put through the passes that are joined here were not taken through them
abbrev pub HasLeftBatches : ℕ → NodePass → Type 0
HasLeftBatches count n = IfSome n.batches (λ p. batch_rule.HasLeft count p.account)

abbrev pub HasLeftSettled : ℕ → NodePass → Type 0
HasLeftSettled count n = IfSome n.settled (λ p. settled_rule.HasLeft count p.account)

-- each pass is of the node's ring
pub record IsNodePassOf (rings : NodeRings) (n : NodePass) : Type 0 where
  pub requests : IfSome n.requests (IsOfRing rings.requests)
  pub batches : IfSome n.batches (IsOfRing rings.batches)
  pub settled : IfSome n.settled (IsOfRing rings.settled)

-- two passes of one ring become one
abbrev pub both : {Account : Type 0} → (Account → Account → Account) → Option (Holds Account) → Option (Holds Account) → Option (Holds Account)
both joined None theirs = theirs
both joined (Some mine) None = Some mine
both joined (Some mine) (Some theirs) = Some (holds mine.ring (joined mine.account theirs.account))

abbrev pub joined_node : NodePass → NodePass → NodePass
joined_node mine theirs = record {
  requests = both request.joined mine.requests theirs.requests;
  batches = both batch.joined mine.batches theirs.batches;
  settled = both settled.joined mine.settled theirs.settled;
}

-- what the accounts tell: how that which was taken stands to that which was put
pub record TellsNode (n : NodePass) : Type 0 where
  pub requests : IfSome n.requests (λ p. request_rule.Tells p.account)
  pub batches : IfSome n.batches (λ p. batch_rule.Tells p.account)
  pub settled : IfSome n.settled (λ p. settled_rule.IsFair p.account)
