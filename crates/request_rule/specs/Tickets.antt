-- Tickets that were taken, by sender.
use Rattle.std.specs.Prelude.{ℕ, ◌==◌, List, map, filter}
use Rattle.request_rule.specs.declared.account.Ticket.{Ticket}
use Rattle.request_rule.specs.declared.account.TakenTicket.{TakenTicket}

abbrev pub taken_ticket : ℕ → Ticket → TakenTicket
taken_ticket sender ticket = record { sender = sender; ticket = ticket }

-- the tickets alone
abbrev pub tickets : List TakenTicket → List Ticket
tickets log = map (λ taken. taken.ticket) log

-- those of one sender, in their order
abbrev pub of_sender : ℕ → List TakenTicket → List Ticket
of_sender sender log = tickets (filter (λ taken. taken.sender == sender) log)
