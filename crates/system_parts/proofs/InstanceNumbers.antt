-- For this crate's own proofs.
-- Laws for the crates above: the stamps, the range and the lease of an instance.
use Rattle.std.proofs.Common.{◌≡◌, ◌≢◌, ℕ, ◌+◌, ◌≤◌, Bool, Option, Some, None, Result, Ok, inl, inr, refl, sym, ap, ◌∙◌, arith}
use Rattle.history_book.specs.declared.cause.Cause.{Cause}
use Rattle.system_parts.specs.declared.record.Grant.{Grant}
use Rattle.system_parts.specs.declared.instance.Request.{Request}
use Rattle.system_parts.specs.declared.instance.Request.TheVariants.{Begin, Commit}
use Rattle.system_parts.specs.declared.instance.Held.{Held}
use Rattle.system_parts.specs.declared.instance.Decided.{Decided}
use Rattle.system_parts.specs.Instance.{InstanceEntry, instance_new, held_of}
use Rattle.system_parts.specs.InstanceSteps.{InstanceStep, decided_by, decide_drawn, instance_decide}
use Rattle.system_parts.specs.InstanceLaws.{InstanceCall, Asks, Accepts, Decides, Refuses, Settles, Answers, Widens, Renews, Stops, after_call, CanCall, IsInRange, GoesUp, stamp_of, DrawsNext, ChangesRequestsAlone}
use Rattle.system_parts.proofs.InstanceMoves.{quiet_ask, quiet_accept, quiet_refuse, quiet_settle, quiet_answer, DrawsFor, held_cases}

quiet_goes_up : (i j : InstanceEntry) → ChangesRequestsAlone i j → GoesUp i j
quiet_goes_up i j q =
    let last : j.last ≡ i.last = ap (λ (e : InstanceEntry). e.last) q in
    let ceiling : j.ceiling ≡ i.ceiling = ap (λ (e : InstanceEntry). e.ceiling) q in
    let until : j.until ≡ i.until = ap (λ (e : InstanceEntry). e.until) q in
    record {
      node = ap (λ (e : InstanceEntry). e.node) q;
      term = ap (λ (e : InstanceEntry). e.term) q;
      epoch = ap (λ (e : InstanceEntry). e.epoch) q;
      slots = ap (λ (e : InstanceEntry). e.slots) q;
      direct = ap (λ (e : InstanceEntry). e.direct) q;
      last = omega arith;
      ceiling = omega arith;
      until = omega arith;
    }

drawn_goes_up : (i : InstanceEntry) (session : ℕ) (held : Held) → GoesUp i (decide_drawn i session held (i.last + 1)).left
drawn_goes_up i session held = record { node = refl; term = refl; epoch = refl; slots = refl; direct = refl; last = omega arith; ceiling = omega arith; until = omega arith }

draws_goes_up : (i : InstanceEntry) (session : ℕ) (held : Option Held) (step : InstanceStep Decided) → DrawsFor i session held step → GoesUp i step.left
draws_goes_up i session None step d = absurd d
draws_goes_up i session (Some held) step d = rw d.made (drawn_goes_up i session held)

pub goes_up : (i : InstanceEntry) (call : InstanceCall) → CanCall i call → GoesUp i (after_call i call)
goes_up i (Asks request) can = quiet_goes_up i (after_call i (Asks request)) (quiet_ask i request)
goes_up i (Accepts session reading) can = quiet_goes_up i (after_call i (Accepts session reading)) (quiet_accept i session reading)
goes_up i (Decides session) can = elim (held_cases i session (held_of i session)) [
  | inl r ↦ quiet_goes_up i (after_call i (Decides session)) r.quiet
  | inr d ↦ draws_goes_up i session (held_of i session) (instance_decide i session) d
]
goes_up i (Refuses session) can = quiet_goes_up i (after_call i (Refuses session)) (quiet_refuse i session)
goes_up i (Settles session how) can = quiet_goes_up i (after_call i (Settles session how)) (quiet_settle i session how)
goes_up i (Answers session) can = quiet_goes_up i (after_call i (Answers session)) (quiet_answer i session)
goes_up i (Widens ceiling) can = record { node = refl; term = refl; epoch = refl; slots = refl; direct = refl; last = omega arith; ceiling = can; until = omega arith }
goes_up i (Renews until) can = record { node = refl; term = refl; epoch = refl; slots = refl; direct = refl; last = omega arith; ceiling = omega arith; until = omega arith }
goes_up i (Stops why) can = record { node = refl; term = refl; epoch = refl; slots = refl; direct = refl; last = omega arith; ceiling = omega arith; until = omega arith }

-- ---- the range
quiet_in_range : (i j : InstanceEntry) → ChangesRequestsAlone i j → IsInRange i → IsInRange j
quiet_in_range i j q r =
    let last : j.last ≡ i.last = ap (λ (e : InstanceEntry). e.last) q in
    let ceiling : j.ceiling ≡ i.ceiling = ap (λ (e : InstanceEntry). e.ceiling) q in
    let epoch : j.epoch ≡ i.epoch = ap (λ (e : InstanceEntry). e.epoch) q in
    record { above = omega arith; within = omega arith }

room_left : (last ceiling : ℕ) → last ≤ ceiling → last ≢ ceiling → last + 1 ≤ ceiling
room_left last ceiling within room = grind arith

abbrev answered : Decided → Result Decided Cause
answered d = Ok d

same_ok : (a b : Decided) → answered a ≡ answered b → a ≡ b
same_ok a b e = cc

pub stamp_of-decided_by : (request : Request) (stamp : ℕ) → stamp_of (decided_by request stamp) ≡ stamp
stamp_of-decided_by (Begin s) stamp = refl
stamp_of-decided_by (Commit s start keys) stamp = refl

drawn_next : (i : InstanceEntry) (session : ℕ) (held : Held) (d : Decided) → IsInRange i → i.last ≢ i.ceiling → (decide_drawn i session held (i.last + 1)).answer ≡ Ok d → DrawsNext i (stamp_of d) (decide_drawn i session held (i.last + 1)).left
drawn_next i session held d r room e =
    let same : stamp_of d ≡ i.last + 1 = ap stamp_of (sym (same_ok (decided_by held.request (i.last + 1)) d e)) ∙ stamp_of-decided_by held.request (i.last + 1) in
    record { next = same; above = omega (arith, r.above); within = rw same (room_left i.last i.ceiling r.within room); last = sym same }

draws_next : (i : InstanceEntry) (session : ℕ) (held : Option Held) (step : InstanceStep Decided) (d : Decided) → IsInRange i → DrawsFor i session held step → step.answer ≡ Ok d → DrawsNext i (stamp_of d) step.left
draws_next i session None step d r drew e = absurd drew
draws_next i session (Some held) step d r drew e = rw drew.made (drawn_next i session held d r drew.room (sym (ap (λ (s : InstanceStep Decided). s.answer) drew.made) ∙ e))

pub stamp_next : (i : InstanceEntry) (session : ℕ) (d : Decided) → IsInRange i → (instance_decide i session).answer ≡ Ok d → DrawsNext i (stamp_of d) (instance_decide i session).left
stamp_next i session d r e = elim (held_cases i session (held_of i session)) [
  | inl refused ↦ absurd (refused.never d e)
  | inr drew ↦ draws_next i session (held_of i session) (instance_decide i session) d r drew e
]

drawn_in_range : (i : InstanceEntry) (session : ℕ) (held : Held) → IsInRange i → i.last ≢ i.ceiling → IsInRange (decide_drawn i session held (i.last + 1)).left
drawn_in_range i session held r room = record { above = omega (arith, r.above); within = room_left i.last i.ceiling r.within room }

draws_in_range : (i : InstanceEntry) (session : ℕ) (held : Option Held) (step : InstanceStep Decided) → IsInRange i → DrawsFor i session held step → IsInRange step.left
draws_in_range i session None step r drew = absurd drew
draws_in_range i session (Some held) step r drew = rw drew.made (drawn_in_range i session held r drew.room)

pub stays_in_range : (i : InstanceEntry) (call : InstanceCall) → CanCall i call → IsInRange i → IsInRange (after_call i call)
stays_in_range i (Asks request) can r = quiet_in_range i (after_call i (Asks request)) (quiet_ask i request) r
stays_in_range i (Accepts session reading) can r = quiet_in_range i (after_call i (Accepts session reading)) (quiet_accept i session reading) r
stays_in_range i (Decides session) can r = elim (held_cases i session (held_of i session)) [
  | inl refused ↦ quiet_in_range i (after_call i (Decides session)) refused.quiet r
  | inr drew ↦ draws_in_range i session (held_of i session) (instance_decide i session) r drew
]
stays_in_range i (Refuses session) can r = quiet_in_range i (after_call i (Refuses session)) (quiet_refuse i session) r
stays_in_range i (Settles session how) can r = quiet_in_range i (after_call i (Settles session how)) (quiet_settle i session how) r
stays_in_range i (Answers session) can r = quiet_in_range i (after_call i (Answers session)) (quiet_answer i session) r
stays_in_range i (Widens ceiling) can r = record { above = r.above; within = omega (arith, r.within, can) }
stays_in_range i (Renews until) can r = record { above = r.above; within = r.within }
stays_in_range i (Stops why) can r = record { above = r.above; within = r.within }

pub new_in_range : (grant : Grant) (node count width slots : ℕ) (direct : Bool) → grant.epoch ≤ grant.ceiling → IsInRange (instance_new grant node count width slots direct)
new_in_range grant node count width slots direct within = record { above = omega arith; within = within }
