-- For machine too.
-- Laws for the crates above: only a decision that draws changes more of an instance than its requests.
use Rattle.std.proofs.Common.{◌≡◌, ◌≢◌, ℕ, ◌+◌, ◌==◌, Bool, true, false, Option, Some, None, Result, Ok, Err, ◌⊎◌, inl, inr, refl, sym, ap, ◌∙◌, if◌then◌else◌}
use Rattle.std.proofs.lemmas.Bool.{eqb-false}
use Rattle.history_book.specs.declared.cause.Cause.{Cause}
use Rattle.history_book.specs.declared.cause.Cause.TheVariants as cause
use Rattle.system_parts.specs.declared.buckets.Verdict.{Verdict}
use Rattle.system_parts.specs.declared.buckets.Verdict.TheVariants.{Free, Conflict, Hidden}
use Rattle.system_parts.specs.declared.instance.Request.{Request}
use Rattle.system_parts.specs.declared.instance.Request.TheVariants.{Begin, Commit}
use Rattle.system_parts.specs.declared.instance.Progress.{Progress}
use Rattle.system_parts.specs.declared.instance.Progress.TheVariants.{Asked, Accepted, Drawn, Settled}
use Rattle.system_parts.specs.declared.instance.Held.{Held}
use Rattle.system_parts.specs.declared.instance.Settled.{Settled as How}
use Rattle.system_parts.specs.declared.instance.Decided.{Decided}
use Rattle.system_parts.specs.Instance.{InstanceEntry, held_of, in_flight, with_request, session_of, unsettled_by, least_unsettled}
use Rattle.system_parts.specs.InstanceSteps.{InstanceStep, stays, just_asked, instance_ask, accept_refusal, accept_unless, accept_if_asked, accept_held, instance_accept, out_of_stamps, decided_by, decide_drawn, decide_by, request_verdict, decide_if_accepted, decide_held, instance_decide, refuse_if_accepted, refuse_held, instance_refuse, settle_if_drawn, settle_held, instance_settle, answer_begin, answer_if_ready, answer_held, instance_answer}
use Rattle.system_parts.specs.InstanceLaws.{InstanceCall, Asks, Accepts, Refuses, Settles, Answers, after_call, ChangesRequestsAlone, IsNoDecision}

-- ---- ask
quiet_ask_by : (i : InstanceEntry) (request : Request) (full : Bool) → ChangesRequestsAlone i (if full then stays {A = Unit {0}} i (cause.Full (in_flight i)) else record { left = with_request i (session_of request) (Some (just_asked request)); answer = Ok tt }).left
quiet_ask_by i request true = refl
quiet_ask_by i request false = refl

pub quiet_ask : (i : InstanceEntry) (request : Request) → ChangesRequestsAlone i (instance_ask i request).left
quiet_ask i request = quiet_ask_by i request (in_flight i == i.slots)

-- ---- accept
quiet_accept_unless : (i : InstanceEntry) (session : ℕ) (held : Held) (why : Option Cause) → ChangesRequestsAlone i (accept_unless i session held why).left
quiet_accept_unless i session held None = refl
quiet_accept_unless i session held (Some why) = refl

quiet_accept_if_asked : (i : InstanceEntry) (session reading : ℕ) (held : Held) (progress : Progress) → ChangesRequestsAlone i (accept_if_asked i session reading held progress).left
quiet_accept_if_asked i session reading held Asked = quiet_accept_unless i session held (accept_refusal i reading held.request)
quiet_accept_if_asked i session reading held _ = refl

quiet_accept_held : (i : InstanceEntry) (session reading : ℕ) (held : Option Held) → ChangesRequestsAlone i (accept_held i session reading held).left
quiet_accept_held i session reading None = refl
quiet_accept_held i session reading (Some held) = quiet_accept_if_asked i session reading held held.progress

pub quiet_accept : (i : InstanceEntry) (session reading : ℕ) → ChangesRequestsAlone i (instance_accept i session reading).left
quiet_accept i session reading = quiet_accept_held i session reading (held_of i session)

-- ---- refuse
quiet_refuse_if_accepted : (i : InstanceEntry) (session : ℕ) (request : Request) (progress : Progress) → ChangesRequestsAlone i (refuse_if_accepted i session request progress).left
quiet_refuse_if_accepted i session (Commit s start keys) Accepted = refl
quiet_refuse_if_accepted i session request progress = refl

quiet_refuse_held : (i : InstanceEntry) (session : ℕ) (held : Option Held) → ChangesRequestsAlone i (refuse_held i session held).left
quiet_refuse_held i session None = refl
quiet_refuse_held i session (Some held) = quiet_refuse_if_accepted i session held.request held.progress

pub quiet_refuse : (i : InstanceEntry) (session : ℕ) → ChangesRequestsAlone i (instance_refuse i session).left
quiet_refuse i session = quiet_refuse_held i session (held_of i session)

-- ---- settle
quiet_settle_if_drawn : (i : InstanceEntry) (session : ℕ) (how : How) (held : Held) (commit : Option ℕ) → ChangesRequestsAlone i (settle_if_drawn i session how held commit).left
quiet_settle_if_drawn i session how held None = refl
quiet_settle_if_drawn i session how held (Some commit) = refl

quiet_settle_held : (i : InstanceEntry) (session : ℕ) (how : How) (held : Option Held) → ChangesRequestsAlone i (settle_held i session how held).left
quiet_settle_held i session how None = refl
quiet_settle_held i session how (Some held) = quiet_settle_if_drawn i session how held (unsettled_by held.request held.progress)

pub quiet_settle : (i : InstanceEntry) (session : ℕ) (how : How) → ChangesRequestsAlone i (instance_settle i session how).left
quiet_settle i session how = quiet_settle_held i session how (held_of i session)

-- ---- answer
quiet_answer_begin : (i : InstanceEntry) (session : ℕ) (held : Held) (start : ℕ) (wait : Option ℕ) → ChangesRequestsAlone i (answer_begin i session held start wait).left
quiet_answer_begin i session held start None = refl
quiet_answer_begin i session held start (Some commit) = refl

quiet_answer_if_ready : (i : InstanceEntry) (session : ℕ) (held : Held) (request : Request) (progress : Progress) → ChangesRequestsAlone i (answer_if_ready i session held request progress).left
quiet_answer_if_ready i session held (Begin s) (Drawn start) = quiet_answer_begin i session held start (least_unsettled i.requests start)
quiet_answer_if_ready i session held (Commit s start keys) (Settled commit how) = refl
quiet_answer_if_ready i session held request progress = refl

quiet_answer_held : (i : InstanceEntry) (session : ℕ) (held : Option Held) → ChangesRequestsAlone i (answer_held i session held).left
quiet_answer_held i session None = refl
quiet_answer_held i session (Some held) = quiet_answer_if_ready i session held held.request held.progress

pub quiet_answer : (i : InstanceEntry) (session : ℕ) → ChangesRequestsAlone i (instance_answer i session).left
quiet_answer i session = quiet_answer_held i session (held_of i session)

-- ---- decide
-- a decision that is refused
pub record StaysUndrawn (i : InstanceEntry) (step : InstanceStep Decided) : Type 0 where
  pub quiet : ChangesRequestsAlone i step.left
  pub never : (d : Decided) → step.answer ≡ Ok d → ⊥

-- a decision that draws the next stamp for a request
pub record Draws (i : InstanceEntry) (session : ℕ) (held : Held) (step : InstanceStep Decided) : Type 0 where
  pub free : request_verdict i.buckets held.request ≡ Free
  pub room : i.last ≢ i.ceiling
  pub made : step ≡ decide_drawn i session held (i.last + 1)

abbrev refusal : Cause → Result Decided Cause
refusal why = Err why

err_never : (why : Cause) (d : Decided) → refusal why ≡ Ok d → ⊥
err_never why d e = cc

out_refuses : (i : InstanceEntry) (session : ℕ) (held : Held) (stop : Option Cause) → StaysUndrawn i (out_of_stamps i session held stop)
out_refuses i session held None = record { quiet = refl; never = err_never (cause.NoStamp i.last) }
out_refuses i session held (Some why) = record { quiet = refl; never = err_never why }

free_cases : (i : InstanceEntry) (session : ℕ) (held : Held) (out : Bool) → let step : InstanceStep Decided = (if out then out_of_stamps i session held i.stop else decide_drawn i session held (i.last + 1)) in StaysUndrawn i step ⊎ ((out ≡ false) × (step ≡ decide_drawn i session held (i.last + 1)))
free_cases i session held true = inl (out_refuses i session held i.stop)
free_cases i session held false = inr (refl, refl)

by_cases : (i : InstanceEntry) (session : ℕ) (held : Held) (v : Verdict) → request_verdict i.buckets held.request ≡ v → StaysUndrawn i (decide_by i session held v) ⊎ Draws i session held (decide_by i session held v)
by_cases i session held Free e = elim (free_cases i session held (i.last == i.ceiling)) [
  | inl r ↦ inl r
  | inr d ↦ inr (record { free = e; room = eqb-false i.last i.ceiling d.0; made = d.1 })
]
by_cases i session held (Conflict key by) e = inl (record { quiet = refl; never = err_never (cause.Conflict key by) })
by_cases i session held (Hidden key water) e = inl (record { quiet = refl; never = err_never (cause.Hidden key water) })

if_accepted_cases : (i : InstanceEntry) (session : ℕ) (held : Held) (progress : Progress) → StaysUndrawn i (decide_if_accepted i session held progress) ⊎ Draws i session held (decide_if_accepted i session held progress)
if_accepted_cases i session held Accepted = by_cases i session held (request_verdict i.buckets held.request) refl
if_accepted_cases i session held _ = inl (record { quiet = refl; never = err_never (cause.NoRequest session) })

abbrev pub DrawsFor : InstanceEntry → ℕ → Option Held → InstanceStep Decided → Type 0
DrawsFor i session None step = ⊥
DrawsFor i session (Some held) step = Draws i session held step

pub held_cases : (i : InstanceEntry) (session : ℕ) (held : Option Held) → StaysUndrawn i (decide_held i session held) ⊎ DrawsFor i session held (decide_held i session held)
held_cases i session None = inl (record { quiet = refl; never = err_never (cause.NoRequest session) })
held_cases i session (Some held) = if_accepted_cases i session held held.progress

-- ---- all calls
pub alone-after_call : (i : InstanceEntry) (call : InstanceCall) → IsNoDecision call → ChangesRequestsAlone i (after_call i call)
alone-after_call i (Asks request) is = quiet_ask i request
alone-after_call i (Accepts session reading) is = quiet_accept i session reading
alone-after_call i (Refuses session) is = quiet_refuse i session
alone-after_call i (Settles session how) is = quiet_settle i session how
alone-after_call i (Answers session) is = quiet_answer i session
alone-after_call i _ is = absurd is

draws_answer : (i : InstanceEntry) (session : ℕ) (held : Option Held) (step : InstanceStep Decided) (why : Cause) → DrawsFor i session held step → step.answer ≡ Err why → ⊥
draws_answer i session None step why drew e = drew
draws_answer i session (Some held) step why drew e = err_never why (decided_by held.request (i.last + 1)) (sym e ∙ ap (λ (s : InstanceStep Decided). s.answer) drew.made)

pub alone-refused : (i : InstanceEntry) (session : ℕ) (why : Cause) → (instance_decide i session).answer ≡ Err why → ChangesRequestsAlone i (instance_decide i session).left
alone-refused i session why e = elim (held_cases i session (held_of i session)) [
  | inl refused ↦ refused.quiet
  | inr drew ↦ absurd (draws_answer i session (held_of i session) (instance_decide i session) why drew e)
]
