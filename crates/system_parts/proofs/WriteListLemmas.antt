-- For refusal_reasons too.
-- Public laws, for the proofs of crates above: what a write of a key leaves of a write list.
use Rattle.std.proofs.Common.{◌≡◌, ℕ, ◌≤◌, ◌==◌, nat_eq, nat_lt, Bool, true, false, ◌||◌, List, [], ◌∷◌, ◌++◌, None, Some, if◌then◌else◌, length, refl, sym, ap, ◌∙◌, inl, inr, arith, length-append}
use Rattle.std.specs.List.{list_any}
use Rattle.std.proofs.lemmas.Bool.{eq-eqb, eqb-true, leb-true}
use Rattle.std.proofs.lemmas.Cmp.{nat_eq_equiv}
use Rattle.std.proofs.lemmas.Map.Keys.{IsDistinct-push}
use Rattle.history_book.specs.declared.cause.Cause.TheVariants.{TooManyKeys}
use Rattle.history_book.specs.Members.{◌∈◌}
use Rattle.history_book.proofs.MemberLemmas.{in_front, in_last, in_push}
use Rattle.system_parts.specs.SessionSteps.{has_key}
use Rattle.system_parts.specs.WriteLists.{TakesIn}

found_cons : (k : ℕ) (keys : List ℕ) (key : ℕ) (same : Bool) → (k == key) ≡ same → (has_key keys key ≡ true → key ∈ keys) → same || has_key keys key ≡ true → key ∈ (k ∷ keys)
unfolding ◌∈◌
found_cons k keys key true e h there = inl (sym (eqb-true k key e))
found_cons k keys key false e h there = inr (h there)

pub in_found : (keys : List ℕ) (key : ℕ) → has_key keys key ≡ true → key ∈ keys
unfolding ◌∈◌
in_found [] key there = absurd cc
in_found (k ∷ keys) key there = found_cons k keys key (k == key) refl (in_found keys key) there

behind : (same found : Bool) → found ≡ true → same || found ≡ true
behind true found e = refl
behind false found e = e

pub found_in : (keys : List ℕ) (key : ℕ) → key ∈ keys → has_key keys key ≡ true
unfolding ◌∈◌
found_in [] key m = absurd m
found_in (k ∷ keys) key m = elim m [
  | inl e ↦ let same : (k == key) ≡ true = eq-eqb k key (sym e) in rw same refl
  | inr deeper ↦ behind (k == key) (has_key keys key) (found_in keys key deeper)
]

flipped : (keys : List ℕ) (key : ℕ) → list_any (nat_eq key) keys ≡ has_key keys key
flipped [] key = refl
flipped (k ∷ keys) key = ap (λ b. b || list_any (nat_eq key) keys) (nat_eq_equiv.symm key k) ∙ ap (λ b. nat_eq k key || b) (flipped keys key)

takes_again : (keys : List ℕ) (key : ℕ) → has_key keys key ≡ true → TakesIn keys key
takes_again keys key e = record {
  again = λ m. rw e refl;
  first = λ out. absurd (out (in_found keys key e));
  once = λ distinct. rw e distinct;
  has = λ other. rw e (λ m. inl m, λ m. elim m [ inl there ↦ there | inr same ↦ rw same (in_found keys key e) ]);
  few = λ few none. rw e few;
}

few_more : (keys : List ℕ) (key : ℕ) (room : Bool) → nat_lt (length keys) 64 ≡ room → (if room then None else Some TooManyKeys) ≡ None → length (keys ++ key ∷ []) ≤ 64
few_more keys key true e none = omega (arith, leb-true _ _ e, length-append keys (key ∷ []))
few_more keys key false e none = absurd cc

takes_first : (keys : List ℕ) (key : ℕ) → has_key keys key ≡ false → TakesIn keys key
takes_first keys key e = record {
  again = λ m. let there : has_key keys key ≡ true = found_in keys key m in absurd cc;
  first = λ out. rw e refl;
  once = λ distinct. rw e (IsDistinct-push nat_eq_equiv keys key distinct (flipped keys key ∙ e));
  has = λ other. rw e (in_push other key keys, λ m. elim m [ inl there ↦ in_front other keys (key ∷ []) there | inr same ↦ rw same (in_last key keys) ]);
  few = λ few none. rw e (few_more keys key (nat_lt (length keys) 64) refl (rw e at none));
}

takes_by : (keys : List ℕ) (key : ℕ) (there : Bool) → has_key keys key ≡ there → TakesIn keys key
takes_by keys key true e = takes_again keys key e
takes_by keys key false e = takes_first keys key e

pub takes_in : (keys : List ℕ) (key : ℕ) → TakesIn keys key
takes_in keys key = takes_by keys key (has_key keys key) refl
