-- What an event requires of the parts that it touches, so that its calls on them may be made. It speaks of no other part.
use Rattle.std.specs.Prelude.{◌≡◌, ◌≤◌, ◌^◌, ℕ, Option, None, IfSome}
use Rattle.system_parts.specs.Rows.{IsBare, HasOnly}
use Rattle.system_parts.specs.Record.{MasterRecord}
use Rattle.system_parts.specs.SessionSteps.{begin_refusal, work_refusal, handed_commit}
use Rattle.system_parts.specs.Sweep.{sweep_ask}
use Rattle.system_parts.specs.Instance.{InstanceEntry}
use Rattle.machine.specs.declared.event.Event.{Event}
use Rattle.machine.specs.declared.event.Event.TheVariants as event
use Rattle.machine.specs.State.{Client, State}
use Rattle.machine.specs.Clients.{is_reading}
use Rattle.machine.specs.Calls.{WaitsAt, HoldsNone, MayStep, KeepsShadowNext}
use Rattle.machine.specs.Events.Step.{work_of, next_of}
use Rattle.machine.specs.Events.Write.{write_refused}
use Rattle.machine.specs.Events.Heal.{offer_of}
use Rattle.isolation_laws.specs.Words.{ClientAt}
use Rattle.cause_laws.specs.RequestCalls.{PostAt}

-- ---- a node and the record
-- the record of the instance's own term reaches as far as the instance may draw
abbrev pub Covers : MasterRecord → InstanceEntry → Type 0
Covers master i = i.term ≡ master.term → i.ceiling ≤ master.ceiling

abbrev pub MayExtend : State → ℕ → Type 0
MayExtend w node = (post : Option InstanceEntry) → PostAt w node post → IfSome post (Covers w.master)

-- ---- a session and the node of its request
-- the node holds no request of the session, where that may begin
abbrev pub MayBegin : State → ℕ → ℕ → Type 0
MayBegin w session node =
    (c : Client) (post : Option InstanceEntry) → ClientAt w.clients session c → PostAt w node post → begin_refusal c.entry.state ≡ None → HoldsNone post session

-- nor where its transaction may go on
abbrev pub MayCommit : State → ℕ → ℕ → Type 0
MayCommit w session node =
    (c : Client) (post : Option InstanceEntry) → ClientAt w.clients session c → PostAt w node post → work_refusal c.entry.state (is_reading c) ≡ None → HoldsNone post session

-- the session waits for its request, which the node holds, or has vanished
abbrev pub IsWaitedFor : State → ℕ → ℕ → Type 0
IsWaitedFor w node session = (post : Option InstanceEntry) (c : Client) → PostAt w node post → ClientAt w.clients session c → WaitsAt post session c.entry

-- so does each session
abbrev pub AreWaitedFor : State → ℕ → Type 0
AreWaitedFor w node = (session : ℕ) → IsWaitedFor w node session

-- ---- a session and the stores
abbrev pub MayWrite : State → ℕ → ℕ → Type 0
MayWrite w session key = (c : Client) → ClientAt w.clients session c → write_refused c key ≡ None → IfSome c.entry.start (λ start. IsBare w.rows key start)

abbrev pub MayHeal : State → ℕ → Type 0
MayHeal w session = (c : Client) → ClientAt w.clients session c → IfSome (offer_of c) (λ offer. HasOnly w.rows offer.0 offer.1 offer.2)

-- where no commit is to be placed, a shadow that the step sets is the only one that the cell may have
abbrev pub MayMakeStep : State → ℕ → Type 0
MayMakeStep w session = (c : Client) → ClientAt w.clients session c → MayStep c → handed_commit c.entry ≡ None → KeepsShadowNext (next_of (work_of c)) w.rows

-- ---- the janitor and the stores
abbrev pub MaySweep : State → Type 0
MaySweep w = IfSome w.sweep (λ s. KeepsShadowNext (sweep_ask s) w.rows)

abbrev pub CanMake : State → Event → Type 0
CanMake w (event.Take node reading) = reading ≤ 2 ^ 61
CanMake w (event.Renew node reading) = reading ≤ 2 ^ 61
CanMake w (event.Extend node) = MayExtend w node
CanMake w (event.Crash node) = AreWaitedFor w node
CanMake w (event.AskBegin session node) = MayBegin w session node
CanMake w (event.AskCommit session node) = MayCommit w session node
CanMake w (event.Accept node session reading) = IsWaitedFor w node session
CanMake w (event.Decide node session) = IsWaitedFor w node session
CanMake w (event.Answer node session) = IsWaitedFor w node session
CanMake w (event.Write session key value) = MayWrite w session key
CanMake w (event.Step session) = MayMakeStep w session
CanMake w (event.Heal session) = MayHeal w session
CanMake w event.SweepStep = MaySweep w
CanMake w _ = Unit {0}
