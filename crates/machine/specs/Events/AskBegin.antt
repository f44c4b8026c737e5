-- A session asks a node for a start: the session's state comes first, then the node's instance, then its slots.
use Rattle.std.specs.Prelude.{ℕ, [], ◌∷◌, Option, None, Some, Result, Ok, Err}
use Rattle.history_book.specs.declared.cause.Cause.{Cause}
use Rattle.history_book.specs.declared.cause.Cause.TheVariants as cause
use Rattle.history_book.specs.declared.item.Actor.TheVariants.{Session}
use Rattle.history_book.specs.declared.item.Item.{Item}
use Rattle.history_book.specs.declared.item.Item.TheVariants.{AskBegin}
use Rattle.system_parts.specs.SessionSteps.{begin_refusal}
use Rattle.system_parts.specs.declared.instance.Request.TheVariants.{Begin}
use Rattle.system_parts.specs.Instance.{InstanceEntry}
use Rattle.system_parts.specs.InstanceSteps.{InstanceStep, instance_ask}
use Rattle.machine.specs.State.{Client}
use Rattle.machine.specs.Effect.{Effect, done, refused}
use Rattle.machine.specs.Clients.{client_asked}

-- by whether the instance took the request; for begins and commits alike
abbrev pub asked_by : ℕ → Client → Item → InstanceStep (Unit {0}) → Result (Unit {0}) Cause → Effect (Client × Option InstanceEntry)
asked_by session c item step (Ok tt) = done (client_asked c, Some step.left) (item ∷ [])
asked_by session c item step (Err why) = refused (c, Some step.left) (Session session) why

abbrev pub begin_asked : ℕ → ℕ → Client → Option InstanceEntry → Effect (Client × Option InstanceEntry)
begin_asked session node c None = refused (c, None) (Session session) (cause.NoOracle node)
begin_asked session node c (Some i) = asked_by session c (AskBegin session node) (instance_ask i (Begin session)) (instance_ask i (Begin session)).answer

abbrev pub ask_begin_by : ℕ → ℕ → Client → Option InstanceEntry → Option Cause → Effect (Client × Option InstanceEntry)
ask_begin_by session node c post (Some why) = refused (c, post) (Session session) why
ask_begin_by session node c post None = begin_asked session node c post

abbrev pub ask_begin_on : ℕ → ℕ → Client → Option InstanceEntry → Effect (Client × Option InstanceEntry)
ask_begin_on session node c post = ask_begin_by session node c post (begin_refusal c.entry.state)
