-- The rule of a request ring: any number of senders, and one receiver.
use Rattle.std.specs.Prelude.{◌≡◌, ℕ, ◌+◌, ◌<◌, ◌≤◌, ◌==◌, nat_lt, true, List, [], ◌++◌, All, length, take, sum_by, if◌then◌else◌}
use mathlib.Core.Option.{some}
use lib.ListN.{get_elem?}
use Rattle.request_rule.specs.declared.account.Ticket.{Ticket}
use Rattle.request_rule.specs.declared.account.TakenTicket.{TakenTicket}
use Rattle.request_rule.specs.declared.account.SenderRow.{SenderRow}
use Rattle.request_rule.specs.declared.account.RequestAccount.{RequestAccount}
use Rattle.request_rule.specs.Tickets.{tickets, of_sender}

-- how many rows are of the sender
abbrev pub rows_of : ℕ → List SenderRow → ℕ
rows_of sender rows = sum_by (λ row. if row.sender == sender then 1 else 0) rows

-- one for a sender that was made
abbrev pub one_below : ℕ → ℕ → ℕ
one_below senders sender = if nat_lt sender senders then 1 else 0

-- one pass is the receiver's, and has all that was taken
abbrev pub FitsReceiver : ℕ → ℕ → List TakenTicket → ℕ → RequestAccount → Type 0
FitsReceiver receiver senders gone pass a = a.receives ≡ true → (pass ≡ receiver) × (a.taken ≡ gone) × (a.senders ≡ senders)

-- each row has what its sender put
abbrev pub HaveAll : List TakenTicket → List SenderRow → Type 0
HaveAll log rows = All (λ row. row.put ≡ of_sender row.sender log) rows

-- What was put is what is gone from the ring and then what the ring holds, each ticket with its sender, which was made.
-- Each sender has one row at most, in one pass.
pub record AreInTurn (items : List Ticket) (accounts : List RequestAccount) : Type 0 where
  pub receiver : ℕ
  pub senders : ℕ
  pub gone : List TakenTicket
  pub waiting : List TakenTicket
  pub queued : items ≡ tickets waiting
  pub rows : (sender : ℕ) → sum_by (λ a. rows_of sender a.rows) accounts ≤ one_below senders sender
  pub made : (sender : ℕ) → senders ≤ sender → of_sender sender (gone ++ waiting) ≡ []
  pub each : (pass : ℕ) (a : RequestAccount) → get_elem? accounts pass ≡ some a → FitsReceiver receiver senders gone pass a × HaveAll (gone ++ waiting) a.rows

-- the first list is a front of the second
abbrev pub IsFrontOf : List Ticket → List Ticket → Type 0
IsFrontOf front whole = front ≡ take (length front) whole

-- What the receiver's account tells: what was taken of each sender that was joined to it is a front of what that sender put,
-- and nothing was taken but of senders that were made.
pub record Tells (a : RequestAccount) : Type 0 where
  pub fronts : a.receives ≡ true → All (λ row. IsFrontOf (of_sender row.sender a.taken) row.put) a.rows
  pub no_other : a.receives ≡ true → (sender : ℕ) → a.senders ≤ sender → of_sender sender a.taken ≡ []

-- With the receiver's account: all that was put through the senders that were joined to it was taken
abbrev pub TookAll : RequestAccount → Type 0
TookAll a = a.receives ≡ true → HaveAll a.taken a.rows

-- every sender that was made is here, as far as the account tells
abbrev pub HasEverySender : RequestAccount → Type 0
HasEverySender a = (sender : ℕ) → sender < a.senders → rows_of sender a.rows ≡ 1

-- With the receiver's account and every sender's: just so many of the tickets that were put were not taken
abbrev pub HasLeft : ℕ → RequestAccount → Type 0
HasLeft count a = a.receives ≡ true → HasEverySender a → sum_by (λ row. length row.put) a.rows ≡ length a.taken + count
