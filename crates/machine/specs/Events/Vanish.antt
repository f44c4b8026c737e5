-- A session is gone for good. Its cells and its entry in the commit table stay, and its request goes on.
use Rattle.std.specs.Prelude.{ℕ, [], ◌∷◌, Option, None, Some}
use Rattle.history_book.specs.declared.cause.Cause.{Cause}
use Rattle.history_book.specs.declared.item.Actor.TheVariants.{Session}
use Rattle.history_book.specs.declared.item.Item.TheVariants.{Vanish}
use Rattle.system_parts.specs.SessionSteps.{vanish_refusal}
use Rattle.machine.specs.State.{Client}
use Rattle.machine.specs.Effect.{Effect, done, refused}
use Rattle.machine.specs.Clients.{client_vanished}

abbrev pub vanish_by : ℕ → Client → Option Cause → Effect Client
vanish_by session c (Some why) = refused c (Session session) why
vanish_by session c None = done (client_vanished c) (Vanish session ∷ [])

abbrev pub vanish_on : ℕ → Client → Effect Client
vanish_on session c = vanish_by session c (vanish_refusal c.entry.state)
