-- Accounts of a request ring, and what each call does to one.
use Rattle.std.specs.Prelude.{◌≡◌, ℕ, ◌+◌, Bool, true, false, cond, ◌||◌, List, [], ◌∷◌, ◌++◌, length, take}
use Rattle.request_rule.specs.declared.account.Ticket.{Ticket}
use Rattle.request_rule.specs.declared.account.TakenTicket.{TakenTicket}
use Rattle.request_rule.specs.declared.account.SenderRow.{SenderRow}
use Rattle.request_rule.specs.declared.account.RequestAccount.{RequestAccount}
use Rattle.request_rule.specs.Tickets.{tickets}

abbrev pub request_account : Bool → ℕ → List TakenTicket → List SenderRow → RequestAccount
request_account receives senders taken rows = record { receives = receives; senders = senders; taken = taken; rows = rows }

abbrev pub sender_row : ℕ → List Ticket → SenderRow
sender_row sender put = record { sender = sender; put = put }

-- of the receiver's pass, which comes with the ring
abbrev pub first_account : RequestAccount
first_account = request_account true 0 [] []

-- of the pass of the sender of a number
abbrev pub sender_account : ℕ → RequestAccount
sender_account sender = request_account false 0 [] (sender_row sender [] ∷ [])

-- of a pass that was joined to another
abbrev pub spent_account : RequestAccount
spent_account = request_account false 0 [] []

-- after a sender's pass was made
abbrev pub with_sender : RequestAccount → RequestAccount
with_sender old = request_account old.receives (old.senders + 1) old.taken old.rows

-- a ticket more in the first row, which is the pass's own
abbrev pub put_in : Ticket → List SenderRow → List SenderRow
put_in ticket [] = []
put_in ticket (row ∷ rows) = sender_row row.sender (row.put ++ ticket ∷ []) ∷ rows

abbrev pub with_put : RequestAccount → Ticket → RequestAccount
with_put old ticket = request_account old.receives old.senders old.taken (put_in ticket old.rows)

-- what was taken stays, and the ticket comes behind it
pub record TakesOne (old : RequestAccount) (ticket : Ticket) (new : RequestAccount) : Type 0 where
  pub before : take (length old.taken) new.taken ≡ old.taken
  pub last : tickets new.taken ≡ tickets old.taken ++ ticket ∷ []
  pub rest : new ≡ request_account old.receives old.senders new.taken old.rows

-- the receiver's list, if one of the two is the receiver's, and the rows of both
abbrev pub joined : RequestAccount → RequestAccount → RequestAccount
joined mine theirs = request_account (mine.receives || theirs.receives) (cond mine.receives mine.senders theirs.senders) (cond mine.receives mine.taken theirs.taken) (mine.rows ++ theirs.rows)
