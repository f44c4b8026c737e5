-- What an instance answers: a refusal that leaves all is NoRequest, and it does leave all.
use Rattle.machine.proofs.Names.{◌≡◌, ℕ, ◌+◌, ◌==◌, Bool, true, false, IsTrue, if◌then◌else◌, List, Option, Some, None}
use Rattle.machine.proofs.Names.{Result, Ok, Err, refl, nat_lt, nat_le, IfSome, Cause, Verdict, Free, Conflict, Hidden}
use Rattle.machine.proofs.Names.{Held, Decided, Progress, Asked, Accepted, Drawn, Request, Begin, Commit, InstanceEntry}
use Rattle.machine.proofs.Names.{least_unsettled, InstanceStep, IsStop, epoch_refusal, accept_unless, accept_if_asked}
use Rattle.machine.proofs.Names.{accept_held, out_of_stamps, decide_drawn, verdict_by, answer_begin, answer_if_ready}
use Rattle.machine.proofs.Names.{answer_held, both_verdict, both_if_accepted, both_held, leaves_all, KeepsStop}
use Rattle.history_book.specs.declared.cause.Cause.TheVariants as cause
use Rattle.system_parts.specs.declared.instance.Progress.TheVariants.{Settled, Handed}

-- ---- what an instance answers: a refusal that leaves all is NoRequest, and it does leave all
abbrev pub IsNoRequest : Cause → Type 0
IsNoRequest (cause.NoRequest session) = Unit {0}
IsNoRequest _ = ⊥

abbrev pub Stands : {A : Type 0} → InstanceEntry → InstanceEntry → Result A Cause → Type 0
Stands i left (Ok x) = Unit {0}
Stands i left (Err why) = IsTrue (leaves_all why) → (left ≡ i) × IsNoRequest why

stands_epoch : (i : InstanceEntry) (session : ℕ) (held : Held) (request : Request) (start : ℕ) (old : Bool) → let step : InstanceStep (Unit {0}) = accept_unless i session held (if old then Some (cause.OldEpoch start i.epoch) else None) in Stands i step.left step.answer
stands_epoch i session held request start true = λ is. absurd (cc)
stands_epoch i session held request start false = tt

stands_lease : (i : InstanceEntry) (session reading : ℕ) (held : Held) (request : Request) (within : Bool) → let step : InstanceStep (Unit {0}) = accept_unless i session held (if within then epoch_refusal i request else Some (cause.Expired reading i.until)) in Stands i step.left step.answer
stands_lease i session reading held request false = λ is. absurd (cc)
stands_lease i session reading held (Begin s) true = tt
stands_lease i session reading held (Commit s start keys) true = stands_epoch i session held (Commit s start keys) start (nat_le start i.epoch)

stands_asked : (i : InstanceEntry) (session reading : ℕ) (held : Held) (progress : Progress) → Stands i (accept_if_asked i session reading held progress).left (accept_if_asked i session reading held progress).answer
stands_asked i session reading held Asked = stands_lease i session reading held held.request (nat_lt reading i.until)
stands_asked i session reading held _ = λ is. (refl, tt)

pub stands_accept : (i : InstanceEntry) (session reading : ℕ) (held : Option Held) → Stands i (accept_held i session reading held).left (accept_held i session reading held).answer
stands_accept i session reading None = λ is. (refl, tt)
stands_accept i session reading (Some held) = stands_asked i session reading held held.progress

stop_ends : (why : Cause) → IsStop why → IsTrue (leaves_all why) → ⊥
stop_ends (cause.Replaced found) stop is = cc
stop_ends (cause.Spent ceiling) stop is = cc
stop_ends _ stop is = stop

stands_out : (i : InstanceEntry) (session : ℕ) (held : Held) (stop : Option Cause) → IfSome stop IsStop → Stands i (out_of_stamps i session held stop).left (out_of_stamps i session held stop).answer
stands_out i session held None keeps = λ is. absurd (cc)
stands_out i session held (Some why) keeps = λ is. absurd (stop_ends why keeps is)

stands_free : (i : InstanceEntry) (session : ℕ) (held : Held) (out : Bool) → KeepsStop i → let step : InstanceStep Decided = (if out then out_of_stamps i session held i.stop else decide_drawn i session held (i.last + 1)) in Stands i step.left step.answer
stands_free i session held true keeps = stands_out i session held i.stop keeps
stands_free i session held false keeps = tt

stands_verdict : (i : InstanceEntry) (session : ℕ) (held : Held) (verdict : Verdict) → KeepsStop i → Stands i (verdict_by i session held verdict).left (verdict_by i session held verdict).answer
stands_verdict i session held Free keeps = stands_free i session held (i.last == i.ceiling) keeps
stands_verdict i session held (Conflict key by) keeps = λ is. absurd (cc)
stands_verdict i session held (Hidden key water) keeps = λ is. absurd (cc)

stands_accepted : (i : InstanceEntry) (session : ℕ) (reads : List ℕ) (held : Held) (progress : Progress) → KeepsStop i → Stands i (both_if_accepted i session reads held progress).left (both_if_accepted i session reads held progress).answer
stands_accepted i session reads held Accepted keeps = stands_verdict i session held (both_verdict i.buckets reads held.request) keeps
stands_accepted i session reads held _ keeps = λ is. (refl, tt)

pub stands_decide : (i : InstanceEntry) (session : ℕ) (reads : List ℕ) (held : Option Held) → KeepsStop i → Stands i (both_held i session reads held).left (both_held i session reads held).answer
stands_decide i session reads None keeps = λ is. (refl, tt)
stands_decide i session reads (Some held) keeps = stands_accepted i session reads held held.progress keeps

stands_begin : (i : InstanceEntry) (session : ℕ) (held : Held) (start : ℕ) (wait : Option ℕ) → Stands i (answer_begin i session held start wait).left (answer_begin i session held start wait).answer
stands_begin i session held start None = tt
stands_begin i session held start (Some commit) = λ is. absurd (cc)

stands_ready : (i : InstanceEntry) (session : ℕ) (held : Held) (request : Request) (progress : Progress) → Stands i (answer_if_ready i session held request progress).left (answer_if_ready i session held request progress).answer
stands_ready i session held (Begin s) (Drawn start) = stands_begin i session held start (least_unsettled i.requests start)
stands_ready i session held (Commit s start keys) (Settled commit how) = tt
stands_ready i session held (Commit s start keys) (Handed commit) = tt
stands_ready i session held _ _ = λ is. (refl, tt)

pub stands_answer : (i : InstanceEntry) (session : ℕ) (held : Option Held) → Stands i (answer_held i session held).left (answer_held i session held).answer
stands_answer i session None = λ is. (refl, tt)
stands_answer i session (Some held) = stands_ready i session held held.request held.progress
