-- The ticket of an ask, and what a thread does with it.
use Rattle.std.specs.Prelude.{◌≡◌, ℕ, nat_lt, if◌then◌else◌, Option, None, Some}
use Rattle.history_book.specs.declared.item.Actor.{Actor}
use Rattle.history_book.specs.declared.item.Actor.TheVariants.{Session}
use Rattle.stage_queues.specs.NodePasses.{ticket_put}
use Rattle.stage_queues.specs.Passes.{StageAccount, at_node, with_node}
use Rattle.thread_steps.specs.declared.actors.ActorStep.{ActorStep}
use Rattle.thread_steps.specs.declared.actors.ActorStep.TheVariants.{Did, Waits}
use Rattle.actor_threads.specs.declared.asking.Unsent.{Unsent}

-- a session's ask of a node and a term has a ticket
abbrev pub ticket_of_ask : Actor → Option (ℕ × ℕ) → Option Unsent
ticket_of_ask (Session session) (Some ask) = Some (record { node = ask.0; ticket = record { session = session; term = ask.1 } })
ticket_of_ask actor asked = None

-- it is the last that was put for its node, if there is that node
abbrev pub ticket_sent : ℕ → Unsent → StageAccount → StageAccount
ticket_sent nodes unsent p = if nat_lt unsent.node nodes then with_node p unsent.node (ticket_put unsent.ticket (at_node p unsent.node)) else p

-- the ticket at hand is sent, or it is at hand still and nothing was sent
abbrev pub Offers : ℕ → Option Unsent → Option Unsent → StageAccount → StageAccount → Type 0
Offers nodes None left old new = (left ≡ None) × (new ≡ old)
Offers nodes (Some unsent) None old new = new ≡ ticket_sent nodes unsent old
Offers nodes (Some unsent) (Some left) old new = (left ≡ unsent) × (new ≡ old)

-- after a step: the ticket of what was asked takes the place of the one at hand; an actor that waits offers that again
abbrev pub Follows : ℕ → Actor → ActorStep → Option Unsent → Option Unsent → StageAccount → StageAccount → Type 0
Follows nodes actor (Did asked) before left old new = Offers nodes (ticket_of_ask actor asked) left old new
Follows nodes actor Waits before left old new = Offers nodes before left old new
Follows nodes actor step before left old new = (left ≡ before) × (new ≡ old)
