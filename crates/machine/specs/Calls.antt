-- What the calls of events on their parts ask of the state that they are made in: of the sessions that wait for a node's
-- requests, of what a session has under way, and of the cell that is to get a shadow.
use Rattle.std.specs.Prelude.{◌≡◌, ◌≢◌, ℕ, List, Option, None, Some}
use Rattle.system_parts.specs.Rows.{Row, HasOnly}
use Rattle.system_parts.specs.declared.asks.Ask.{Ask}
use Rattle.system_parts.specs.declared.asks.Ask.TheVariants.{Shadow}
use Rattle.system_parts.specs.declared.session.State.TheVariants.{Asking, Committing, Gone}
use Rattle.system_parts.specs.SessionSteps.{SessionEntry, CanCommit, CanFree, step_refusal}
use Rattle.system_parts.specs.declared.instance.Held.{Held}
use Rattle.system_parts.specs.declared.instance.Request.{Request}
use Rattle.system_parts.specs.declared.instance.Request.TheVariants.{Begin, Commit}
use Rattle.system_parts.specs.Instance.{InstanceEntry, held_of}
use Rattle.machine.specs.State.{UnderWay, Settles, Completes, Client}
use Rattle.machine.specs.Clients.{is_reading}

-- ---- requests
-- the session of a request waits for it, unless it has vanished
abbrev pub Waits : Request → SessionEntry → Type 0
Waits (Begin session) e = e.state ≢ Gone → e.state ≡ Asking
Waits (Commit session start keys) e = e.state ≢ Gone → e.state ≡ Committing

abbrev pub WaitsFor : Option Held → SessionEntry → Type 0
WaitsFor None e = Unit {0}
WaitsFor (Some held) e = Waits held.request e

-- where the node's instance holds a request of the session, the session waits for it
abbrev pub WaitsAt : Option InstanceEntry → ℕ → SessionEntry → Type 0
WaitsAt None session e = Unit {0}
WaitsAt (Some i) session e = WaitsFor (held_of i session) e

-- the node's instance holds no request of the session
abbrev pub HoldsNone : Option InstanceEntry → ℕ → Type 0
HoldsNone None session = Unit {0}
HoldsNone (Some i) session = held_of i session ≡ None

-- ---- steps
-- no refusal stands against the client's next step
abbrev pub MayStep : Client → Type 0
MayStep c = step_refusal c.entry.state (is_reading c) ≡ None

-- the session can hear what its work may come to
abbrev pub CanWork : UnderWay → SessionEntry → Type 0
CanWork (Settles x) e = CanCommit e
CanWork (Completes asks) e = CanFree e
CanWork _ e = Unit {0}

-- a shadow that is there, where one is to be set, is the same commit
abbrev pub KeepsShadow : Ask → List Row → Type 0
KeepsShadow (Shadow key txn commit) rows = HasOnly rows key txn commit
KeepsShadow _ rows = Unit {0}

-- the same for what is asked next, if anything is
abbrev pub KeepsShadowNext : Option Ask → List Row → Type 0
KeepsShadowNext None rows = Unit {0}
KeepsShadowNext (Some asked) rows = KeepsShadow asked rows
