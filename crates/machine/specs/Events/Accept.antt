-- A node accepts a request. The lease is checked here and nowhere else; a refusal of the lease or the epoch ends the
-- request.
use Rattle.std.specs.Prelude.{ℕ, [], ◌∷◌, Option, None, Some, Result, Ok, Err}
use Rattle.history_book.specs.declared.cause.Cause.{Cause}
use Rattle.history_book.specs.declared.cause.Cause.TheVariants as cause
use Rattle.history_book.specs.declared.item.Actor.TheVariants.{Node, Session}
use Rattle.history_book.specs.declared.item.Item.TheVariants.{Accept}
use Rattle.system_parts.specs.declared.instance.Held.{Held}
use Rattle.system_parts.specs.declared.instance.Request.{Request}
use Rattle.system_parts.specs.Instance.{InstanceEntry, held_of}
use Rattle.system_parts.specs.InstanceSteps.{instance_accept}
use Rattle.machine.specs.State.{Client}
use Rattle.machine.specs.Effect.{Effect, done, refused}
use Rattle.machine.specs.Clients.{after_refusal}

abbrev pub accept_by : ℕ → ℕ → ℕ → Request → InstanceEntry → Client → Result (Unit {0}) Cause → Effect (Option InstanceEntry × Client)
accept_by node session reading request left c (Ok tt) = done (Some left, c) (Accept session node left.term reading ∷ [])
accept_by node session reading request left c (Err (cause.NoRequest s)) = refused (Some left, c) (Node node) (cause.NoRequest s)
accept_by node session reading request left c (Err why) = refused (Some left, after_refusal request c) (Session session) why

abbrev pub accept_request : ℕ → ℕ → ℕ → InstanceEntry → Client → Option Held → Effect (Option InstanceEntry × Client)
accept_request node session reading i c None = refused (Some i, c) (Node node) (cause.NoRequest session)
accept_request node session reading i c (Some held) =
    accept_by node session reading held.request (instance_accept i session reading).left c (instance_accept i session reading).answer

abbrev pub accept_on : ℕ → ℕ → ℕ → Option InstanceEntry → Client → Effect (Option InstanceEntry × Client)
accept_on node session reading None c = refused (None, c) (Node node) (cause.NoOracle node)
accept_on node session reading (Some i) c = accept_request node session reading i c (held_of i session)
