-- A session ends its transaction without a commit. What it wrote is undone by steps.
use Rattle.std.specs.Prelude.{ℕ, [], ◌∷◌, Option, None, Some}
use Rattle.history_book.specs.declared.cause.Cause.{Cause}
use Rattle.history_book.specs.declared.item.Actor.TheVariants.{Session}
use Rattle.history_book.specs.declared.item.Ending.TheVariants.{Aborted}
use Rattle.history_book.specs.declared.item.Item.TheVariants.{End}
use Rattle.system_parts.specs.SessionSteps.{work_refusal}
use Rattle.machine.specs.State.{Client}
use Rattle.machine.specs.Effect.{Effect, done, refused}
use Rattle.machine.specs.Clients.{is_reading, client_aborted}

abbrev pub abort_by : ℕ → Client → Option Cause → Option ℕ → Effect Client
abort_by session c (Some why) start = refused c (Session session) why
abort_by session c None None = done c []
abort_by session c None (Some start) = done (client_aborted c) (End session start Aborted ∷ [])

abbrev pub abort_on : ℕ → Client → Effect Client
abort_on session c = abort_by session c (work_refusal c.entry.state (is_reading c)) c.entry.start
