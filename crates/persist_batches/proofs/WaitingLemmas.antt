-- The batches that wait keep their order.
use Rattle.std.proofs.Common.{◌≡◌, ℕ, ◌+◌, ◌<◌, ◌≤◌, ◌==◌, nat_lt, false, List, [], ◌∷◌, length, get_or, inl, inr, refl, ap, ◌∙◌, arith}
use Rattle.std.proofs.lemmas.Bool.{cases_Bool, ne_eqb, eqb-false, ltb-true, ltb-false, or_parts}
use Rattle.persist_batches.specs.declared.numbered.Numbered.{Numbered}
use Rattle.persist_batches.specs.Waiting.{holds, placed, IsAscendingFrom}

pub ascending-none : (low : ℕ) → IsAscendingFrom low []
unfolding IsAscendingFrom
ascending-none low = tt

-- a number below all is not there
not_below : (low number : ℕ) (waiting : List Numbered) → number < low → IsAscendingFrom low waiting → holds waiting number ≡ false
unfolding IsAscendingFrom
not_below low number [] lt h = refl
not_below low number (other ∷ waiting) lt h = rw (ne_eqb other.number number (λ e. let le = h.0 in omega arith)) (not_below (other.number + 1) number waiting (let le = h.0 in omega arith) h.1)

-- the least number waits first
pub not_first : (next : ℕ) (waiting : List Numbered) (first : Numbered) → IsAscendingFrom next waiting → 0 < length waiting → first ≡ get_or waiting 0 first → (first.number ≡ next → ⊥) → holds waiting next ≡ false
unfolding IsAscendingFrom
not_first next [] first h some e ne = refl
not_first next (other ∷ waiting) first h some e ne =
    let same : first.number ≡ other.number = ap (λ (b : Numbered). b.number) e in
    let other_ne : other.number ≡ next → ⊥ = λ eq. ne (same ∙ eq) in
    rw (ne_eqb other.number next other_ne) (not_below (other.number + 1) next waiting (let le = h.0 in omega arith) h.1)

lower : (low next : ℕ) (waiting : List Numbered) → low ≤ next → IsAscendingFrom next waiting → IsAscendingFrom low waiting
unfolding IsAscendingFrom
lower low next [] le h = tt
lower low next (other ∷ waiting) le h = (let up = h.0 in omega arith, h.1)

pub ascending-after : (low : ℕ) (first : Numbered) (waiting rest : List Numbered) → waiting ≡ first ∷ rest → IsAscendingFrom low waiting → IsAscendingFrom (first.number + 1) rest
unfolding IsAscendingFrom
ascending-after low first waiting rest e h = (rw e at h).1

pub ascending-rest : (low : ℕ) (first : Numbered) (waiting rest : List Numbered) → waiting ≡ first ∷ rest → IsAscendingFrom low waiting → IsAscendingFrom low rest
unfolding IsAscendingFrom
ascending-rest low first waiting rest e h =
    let both = rw e at h in
    lower low (first.number + 1) rest (let le = both.0 in omega arith) both.1

pub ascending-placed : (low : ℕ) (waiting : List Numbered) (batch : Numbered) → low ≤ batch.number → holds waiting batch.number ≡ false → IsAscendingFrom low waiting → IsAscendingFrom low (placed waiting batch)
unfolding IsAscendingFrom placed
ascending-placed low [] batch le new h = (le, tt)
ascending-placed low (other ∷ waiting) batch le new h = elim (cases_Bool (nat_lt batch.number other.number)) [
  | inl q ↦ rw q (le, ((let lt = ltb-true batch.number other.number q in omega arith), h.1))
  | inr q ↦ let parts = or_parts (other.number == batch.number) (holds waiting batch.number) new in
      let above : other.number + 1 ≤ batch.number = (let up = ltb-false batch.number other.number q in let ne = eqb-false other.number batch.number parts.0 in omega arith) in
      rw q (h.0, ascending-placed (other.number + 1) waiting batch above parts.1 h.1)
]
