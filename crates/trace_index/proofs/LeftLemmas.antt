-- The processes that are left, one by one.
use Rattle.std.proofs.Common.{◌≡◌, ℕ, zero, suc, ◌+◌, ◌<◌, List, [], ◌∷◌, ◌++◌, Option, drop, length, refl, sym, ap, ◌∙◌, arith, add-one, option_map, append_assoc}
use Rattle.std.specs.Prelude.{slice_get}
use Rattle.trace_reading.specs.declared.event.Event.{Event}
use Rattle.trace_index.specs.declared.attempts.Attempt.{Attempt}
use Rattle.trace_index.specs.Attempts.{left_unanswered, unanswered}

here : (es : List (ℕ × Event)) (i : ℕ) → i < length es → left_unanswered (drop i es) ≡ unanswered (option_map (λ e. e.1) (slice_get es i)) ++ left_unanswered (drop (suc i) es)
here [] i within = absurd (omega (arith, within))
here (e ∷ es) zero within = refl
here (e ∷ es) (suc i) within = here es i (omega (arith, within))

pub left_here : (es : List (ℕ × Event)) (i : ℕ) → i < length es → left_unanswered (drop i es) ≡ unanswered (option_map (λ e. e.1) (slice_get es i)) ++ left_unanswered (drop (i + 1) es)
left_here es i within = rw add-one (here es i within)

-- one more of them was added
pub left_next : (old new done : List Attempt) (es : List (ℕ × Event)) (i : ℕ) (event : Option Event) → i < length es → event ≡ option_map (λ e. e.1) (slice_get es i)
    → new ≡ old ++ unanswered event → old ++ left_unanswered (drop i es) ≡ done → new ++ left_unanswered (drop (i + 1) es) ≡ done
left_next old new done es i event within at added so_far =
    let front = ap (λ (xs : List Attempt). xs ++ left_unanswered (drop (i + 1) es)) (added ∙ ap (λ e. old ++ unanswered e) at) in
    front ∙ append_assoc old _ _ ∙ ap (λ (xs : List Attempt). old ++ xs) (sym (left_here es i within)) ∙ so_far
