-- A node's instance ends, and so do its requests. Then, in the order of the sessions, a session that was asking there is
-- free, and one whose commit was in flight there has an open outcome. A session that has vanished hears nothing.
use Rattle.std.specs.Prelude.{ℕ, List, [], ◌∷◌, ◌++◌, Option, None, Some}
use Rattle.history_book.specs.declared.cause.Cause.TheVariants as cause
use Rattle.history_book.specs.declared.item.Actor.TheVariants.{Node, Session}
use Rattle.history_book.specs.declared.item.Item.{Item}
use Rattle.history_book.specs.declared.item.Item.TheVariants.{Crash, Refused}
use Rattle.system_parts.specs.declared.session.State as state
use Rattle.system_parts.specs.declared.instance.Held.{Held}
use Rattle.system_parts.specs.declared.instance.Request.{Request}
use Rattle.system_parts.specs.declared.instance.Request.TheVariants.{Begin, Commit}
use Rattle.system_parts.specs.Instance.{InstanceEntry}
use Rattle.machine.specs.State.{Client}
use Rattle.machine.specs.Effect.{Effect, done, refused}
use Rattle.machine.specs.Clients.{client_freed, client_opened, unless_gone}

-- what a session is told whose request was lost
abbrev pub loss_heard : state.State → List Item → List Item
loss_heard state.TheVariants.Gone items = []
loss_heard _ items = items

abbrev pub loss_items : ℕ → ℕ → Request → Client → List Item
loss_items node term (Begin session) c = loss_heard c.entry.state (Refused (Session session) (cause.Crashed node term) ∷ [])
loss_items node term (Commit session start keys) c = loss_heard c.entry.state (Refused (Session session) (cause.Open start) ∷ [])

abbrev pub after_loss : Request → Client → Client
after_loss (Begin session) c = unless_gone c (client_freed c)
after_loss (Commit session start keys) c = unless_gone c (client_opened c)

-- a client by the request of its session, where one was held
abbrev pub crashed_client : Option Held → Client → Client
crashed_client None c = c
crashed_client (Some held) c = after_loss held.request c

abbrev pub crashed_items : ℕ → ℕ → Option Held → Client → List Item
crashed_items node term None c = []
crashed_items node term (Some held) c = loss_items node term held.request c

-- all clients, each by the request of its session
unfoldable pub crashed_clients : List (Option Held) → List Client → List Client
crashed_clients [] cs = cs
crashed_clients (held ∷ others) [] = []
crashed_clients (held ∷ others) (c ∷ cs) = crashed_client held c ∷ crashed_clients others cs

unfoldable pub all_crashed_items : ℕ → ℕ → List (Option Held) → List Client → List Item
all_crashed_items node term [] cs = []
all_crashed_items node term (held ∷ others) [] = []
all_crashed_items node term (held ∷ others) (c ∷ cs) = crashed_items node term held c ++ all_crashed_items node term others cs

abbrev pub crash_on : ℕ → Option InstanceEntry → List Client → Effect (Option InstanceEntry × List Client)
crash_on node None clients = refused (None, clients) (Node node) (cause.NoOracle node)
crash_on node (Some i) clients = done (None, crashed_clients i.requests clients) (Crash node i.term ∷ all_crashed_items node i.term i.requests clients)
