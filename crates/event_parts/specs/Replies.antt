-- What a session hears as the answer to its request.
use Rattle.std.specs.Prelude.{◌≢◌, ℕ, [], ◌∷◌}
use Rattle.history_book.specs.declared.cause.Cause.TheVariants as cause
use Rattle.history_book.specs.declared.item.Actor.TheVariants.{Session}
use Rattle.history_book.specs.declared.item.StoreStep.TheVariants.{Handed}
use Rattle.history_book.specs.declared.item.Item.TheVariants as item
use Rattle.system_parts.specs.declared.session.State.TheVariants.{Gone}
use Rattle.system_parts.specs.SessionSteps.{SessionEntry, CanBegin, CanHand, CanCommit, CanAbort, CanOpen}
use Rattle.system_parts.specs.declared.instance.Reply.{Reply}
use Rattle.system_parts.specs.declared.instance.Reply.TheVariants as reply
use Rattle.machine.specs.State.{Client}
use Rattle.machine.specs.Effect.{Effect, done, refused}
use Rattle.machine.specs.Clients.{client_begun, client_handed, client_committed, client_aborted, client_opened, unless_gone}
use Rattle.event_parts.specs.Made.{no_parts}

-- the client that a reply is for, once it has heard it
abbrev pub replied : Reply → Client → Client
replied (reply.Begun start epoch) c = unless_gone c (client_begun c start epoch)
replied (reply.Committed commit) c = unless_gone c (client_committed c commit)
replied (reply.Handed commit) c = unless_gone c (client_handed c commit)
replied reply.Invalid c = unless_gone c (client_aborted c)
replied reply.Open c = unless_gone c (client_opened c)

-- the session waits for such a reply, unless it has vanished
abbrev pub WaitsForReply : Reply → SessionEntry → Type 0
WaitsForReply (reply.Begun start epoch) e = e.state ≢ Gone → CanBegin e
WaitsForReply (reply.Committed commit) e = e.state ≢ Gone → CanCommit e
WaitsForReply (reply.Handed commit) e = e.state ≢ Gone → CanHand e
WaitsForReply reply.Invalid e = e.state ≢ Gone → CanAbort e
WaitsForReply reply.Open e = e.state ≢ Gone → CanOpen e

-- what is told of a reply to a transaction with this start
abbrev pub reply_told : ℕ → ℕ → Reply → Effect (Unit {0})
reply_told session start (reply.Begun begun epoch) = done no_parts (item.Begin session begun ∷ [])
reply_told session start (reply.Committed commit) = done no_parts (item.Committed session start commit ∷ [])
reply_told session start (reply.Handed commit) = done no_parts (item.Step (Session session) (Handed start commit) ∷ [])
reply_told session start reply.Invalid = refused no_parts (Session session) (cause.Invalid start)
reply_told session start reply.Open = refused no_parts (Session session) (cause.Open start)
