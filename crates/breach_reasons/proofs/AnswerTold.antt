-- The right answer that is told is the right one.
use Rattle.std.proofs.Common.{◌≡◌, ◌==◌, ◌&&◌, ℕ, Bool, true, false, if◌then◌else◌, List, Option, Some, None, take, inl, refl, sym, ap, subst, ◌∙◌}
use Rattle.std.specs.Prelude.{slice_get, option_and_then}
use Rattle.std.proofs.lemmas.Bool.{eqb-true, and_parts}
use Rattle.std.proofs.lemmas.Option.{same_Some}
use Rattle.history_book.specs.Isolation.{RightAnswer, RightRead, Visible, last_write, written_by}
use Rattle.history_book.specs.declared.item.Found.{Found}
use Rattle.history_book.specs.declared.item.Item.{Item}
use Rattle.history_book.specs.declared.item.Item.TheVariants.{Read, Write}
use Rattle.isolation_rules.specs.ReadPairs.{AnswersAt, BreaksRead, IsGivenAt, IsRightAt, written_at}
use Rattle.isolation_rules.proofs.PlaceLemmas.{slice_get_taken, some_and}
use Rattle.breach_reasons.specs.Told.{told_answer}

-- ---- what a write is told to give
value_told : (t k start key : ℕ) (value v : List ℕ) (b : Bool) → ((start == t) && (key == k)) ≡ b → (if b then Some value else None) ≡ Some v → (start ≡ t) × (value ≡ v)
value_told t k start key value v true fits e = (eqb-true start t (and_parts (start == t) (key == k) fits).0, same_Some value v e)
value_told t k start key value v false fits e = absurd cc

write_told : (t k : ℕ) (v : List ℕ) (x : Item) → written_by t k x ≡ Some v → told_answer (Some x) ≡ Some (record { from = t; value = v })
write_told t k v (Write session start key value) e =
    let same = value_told t k start key value v ((start == t) && (key == k)) refl e in
    rw (same.0, same.1) refl
write_told t k v _ e = absurd cc

told_by : (h : List Item) (t k : ℕ) (v : List ℕ) (place : ℕ) (there : Option Item) → slice_get h place ≡ there → option_and_then (λ x. written_by t k x) there ≡ Some v
    → told_answer (slice_get h place) ≡ Some (record { from = t; value = v })
told_by h t k v place None is e = absurd cc
told_by h t k v place (Some x) is e = ap (λ (o : Option Item). told_answer o) is ∙ write_told t k v x e

told_at : (h : List Item) (t k : ℕ) (v : List ℕ) (place : ℕ) → written_at h t k place ≡ Some v → told_answer (slice_get h place) ≡ Some (record { from = t; value = v })
told_at h t k v place e = told_by h t k v place (slice_get h place) refl e

-- what a front of the history writes there, the history does
whole_by : (h : List Item) (i t k : ℕ) (v : List ℕ) (place : ℕ) (there : Option Item) → slice_get (take i h) place ≡ there → option_and_then (λ x. written_by t k x) there ≡ Some v → written_at h t k place ≡ Some v
whole_by h i t k v place None is e = absurd cc
whole_by h i t k v place (Some x) is e = ap (λ (o : Option Item). option_and_then (λ y. written_by t k y) o) (slice_get_taken x i h place is) ∙ e

-- ---- by where the right answer was written
visible_told : (h : List Item) (i j session s k : ℕ) (answer found : Option Found) → slice_get h i ≡ Some (Read session s k answer) → Visible h s k found → IsGivenAt h i k found j
    → Visible h s k (told_answer (slice_get h j))
visible_told h i j session s k answer None stands visible given =
    let none : told_answer (slice_get h j) ≡ None = ap (λ (p : ℕ). told_answer (slice_get h p)) given ∙ ap (λ (o : Option Item). told_answer o) stands in
    subst (λ (o : Option Found). Visible h s k o) (sym none) visible
visible_told h i j session s k answer (Some found) stands visible given =
    subst (λ (o : Option Found). Visible h s k o) (sym (told_at h found.from k found.value j given.wrote)) visible

right_by : (h : List Item) (i j session s k : ℕ) (answer : Option Found) (own : Option (List ℕ)) → slice_get h i ≡ Some (Read session s k answer) → IsRightAt h i s k own j
    → RightAnswer h (take i h) s k (told_answer (slice_get h j)) own
right_by h i j session s k answer None stands right = visible_told h i j session s k answer right.answer stands right.visible right.given
right_by h i j session s k answer (Some own) stands right = inl (told_at h s k own j (whole_by h i s k own j (slice_get (take i h) j) refl right.wrote))

pub right_told : (h : List Item) (i j session s k : ℕ) (answer : Option Found) → slice_get h i ≡ Some (Read session s k answer) → BreaksRead h i j
    → RightRead h (take i h) (Read session s k (told_answer (slice_get h j)))
right_told h i j session s k answer stands breaks =
    let at = some_and (slice_get h i) (λ x. (RightRead h (take i h) x → ⊥) × AnswersAt h i x j) breaks in
    let same : at.0 ≡ Read session s k answer = same_Some _ _ (sym at.1 ∙ stands) in
    right_by h i j session s k answer (last_write (take i h) s k) stands (subst (λ (x : Item). AnswersAt h i x j) same at.2.1)
