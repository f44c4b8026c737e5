-- A node answers a begin that it drew, or a commit that is settled, or hands a commit that it drew to its session. A begin
-- waits for the commits that were drawn below it and that the oracle is to place, which it is told once.
use Rattle.std.specs.Prelude.{ℕ, [], ◌∷◌, Option, None, Some, Result, Ok, Err}
use Rattle.history_book.specs.declared.cause.Cause.{Cause}
use Rattle.history_book.specs.declared.cause.Cause.TheVariants as cause
use Rattle.history_book.specs.declared.item.Actor.TheVariants.{Node, Session}
use Rattle.history_book.specs.declared.item.StoreStep.TheVariants.{Handed}
use Rattle.history_book.specs.declared.item.Item.TheVariants as item
use Rattle.system_parts.specs.declared.instance.Reply.{Reply}
use Rattle.system_parts.specs.declared.instance.Reply.TheVariants as reply
use Rattle.system_parts.specs.Instance.{InstanceEntry, stamps_at, was_told_not_yet}
use Rattle.system_parts.specs.InstanceSteps.{instance_answer}
use Rattle.machine.specs.State.{Client}
use Rattle.machine.specs.Effect.{Effect, done, refused, refused_once}
use Rattle.machine.specs.Clients.{client_begun, client_handed, client_committed, client_aborted, client_opened, unless_gone}

-- by the reply, `start` being the transaction's; nobody hears an answer to a session that has vanished
abbrev pub answer_by : ℕ → ℕ → ℕ → Client → InstanceEntry → InstanceEntry → Result Reply Cause → Effect (Option InstanceEntry × Client)
answer_by node session start c i left (Ok (reply.Begun begun epoch)) = done (Some left, unless_gone c (client_begun c begun epoch)) (item.Begin session begun ∷ [])
answer_by node session start c i left (Ok (reply.Committed commit)) = done (Some left, unless_gone c (client_committed c commit)) (item.Committed session start commit ∷ [])
answer_by node session start c i left (Ok (reply.Handed commit)) = done (Some left, unless_gone c (client_handed c commit)) (item.Step (Session session) (Handed start commit) ∷ [])
answer_by node session start c i left (Ok reply.Invalid) = refused (Some left, unless_gone c (client_aborted c)) (Session session) (cause.Invalid start)
answer_by node session start c i left (Ok reply.Open) = refused (Some left, unless_gone c (client_opened c)) (Session session) (cause.Open start)
answer_by node session start c i left (Err (cause.NotYet commit)) = refused_once (was_told_not_yet i session) (Some left, c) (Session session) (cause.NotYet commit)
answer_by node session start c i left (Err why) = refused (Some left, c) (Node node) why

abbrev pub answer_request : ℕ → ℕ → InstanceEntry → Client → Option (ℕ × Option ℕ) → Effect (Option InstanceEntry × Client)
answer_request node session i c None = refused (Some i, c) (Node node) (cause.NoRequest session)
answer_request node session i c (Some stamps) = answer_by node session stamps.0 c i (instance_answer i session).left (instance_answer i session).answer

abbrev pub answer_on : ℕ → ℕ → Option InstanceEntry → Client → Effect (Option InstanceEntry × Client)
answer_on node session None c = refused (None, c) (Node node) (cause.NoOracle node)
answer_on node session (Some i) c = answer_request node session i c (stamps_at i session)
