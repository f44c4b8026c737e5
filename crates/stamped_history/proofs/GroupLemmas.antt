-- Groups of operations, and one group or one operation more.
use Rattle.std.proofs.Common.{◌≡◌, ◌≢◌, ℕ, zero, suc, ◌==◌, Bool, true, false, cond, List, [], ◌∷◌, ◌++◌, Some, Vec, slice_get, slice_set, ◌⊎◌, inl, inr, refl, sym, ap, ◌∙◌, arith}
use Rattle.std.specs.Global.{Global}
use Rattle.std.proofs.lemmas.List.{append-nil}
use Rattle.std.proofs.lemmas.List.Elements.{filter-append}
use Rattle.std.proofs.lemmas.Option.{same_Some}
use Rattle.history_book.proofs.MemberLemmas.{slice_get-push}
use Rattle.trace_rules.specs.declared.trace.Operation.{Operation}
use Rattle.trace_items.specs.Items.{operations_of, txn_of}
use Rattle.stamped_history.specs.Groups.{AreGroups}

pub one_more_group : (groups : List (Vec Operation Global)) (group : Vec Operation Global) → AreGroups groups [] → group.items ≡ [] → AreGroups (groups ++ group ∷ []) []
one_more_group groups group old new t other at = elim (slice_get-push groups group t other at) [
  | inl before ↦ old t other before
  | inr here ↦ ap (λ (g : Vec Operation Global). g.items) here.0 ∙ new
]

set_cases : {X : Type 0} (xs : List X) (u t : ℕ) (w g : X) → slice_get (slice_set xs u w) t ≡ Some g → ((t ≡ u) × (g ≡ w)) ⊎ ((t ≢ u) × (slice_get xs t ≡ Some g))
set_cases [] zero t w g e = absurd (cc)
set_cases [] (suc u) t w g e = absurd (cc)
set_cases (x ∷ xs) zero zero w g e = inl (refl, sym (same_Some _ _ e))
set_cases (x ∷ xs) zero (suc t) w g e = inr ((λ same. absurd (omega (arith, same))), e)
set_cases (x ∷ xs) (suc u) zero w g e = inr ((λ same. absurd (omega (arith, same))), e)
set_cases (x ∷ xs) (suc u) (suc t) w g e = elim (set_cases xs u t w g e) [
  | inl s ↦ inl (ap suc s.0, s.1)
  | inr s ↦ inr ((λ same. s.0 (omega (arith, same))), s.1)
]

same_test : (a b : ℕ) → a ≡ b → (a == b) ≡ true
same_test a b same = grind (arith, same)

other_test : (a b : ℕ) → a ≢ b → (a == b) ≡ false
other_test a b other = grind (arith, other)

-- an operation more of the transaction, and of another one
pub own_more : (t : ℕ) (seen : List Operation) (x : Operation) → txn_of x ≡ t → operations_of t (seen ++ x ∷ []) ≡ operations_of t seen ++ x ∷ []
own_more t seen x own = filter-append (λ y. txn_of y == t) seen (x ∷ []) ∙ ap (λ (b : Bool). operations_of t seen ++ cond b (x ∷ []) []) (same_test (txn_of x) t own)

pub other_more : (t : ℕ) (seen : List Operation) (x : Operation) → txn_of x ≢ t → operations_of t (seen ++ x ∷ []) ≡ operations_of t seen
other_more t seen x other = filter-append (λ y. txn_of y == t) seen (x ∷ []) ∙ ap (λ (b : Bool). operations_of t seen ++ cond b (x ∷ []) []) (other_test (txn_of x) t other) ∙ append-nil (operations_of t seen)

pub operation_added : (groups : List (Vec Operation Global)) (u : ℕ) (old new : Vec Operation Global) (seen : List Operation) (x : Operation) → slice_get groups u ≡ Some old → new.items ≡ old.items ++ x ∷ [] → u ≡ txn_of x → AreGroups groups seen → AreGroups (slice_set groups u new) (seen ++ x ∷ [])
operation_added groups u old new seen x there made own all t group at = elim (set_cases groups u t new group at) [
  | inl here ↦
      ap (λ (g : Vec Operation Global). g.items) here.1 ∙ made
      ∙ ap (λ (l : List Operation). l ++ x ∷ []) (all u old there ∙ ap (λ (m : ℕ). operations_of m seen) (sym here.0))
      ∙ sym (own_more t seen x (sym own ∙ sym here.0))
  | inr apart ↦ all t group apart.1 ∙ sym (other_more t seen x (λ same. apart.0 (sym same ∙ sym own)))
]

pub operation_passed : (groups : List (Vec Operation Global)) (u : ℕ) (seen : List Operation) (x : Operation) → u ≡ txn_of x → ((t : ℕ) (group : Vec Operation Global) → slice_get groups t ≡ Some group → t ≢ u) → AreGroups groups seen → AreGroups groups (seen ++ x ∷ [])
operation_passed groups u seen x own none all t group at = all t group at ∙ sym (other_more t seen x (λ same. none t group at (sym same ∙ sym own)))
