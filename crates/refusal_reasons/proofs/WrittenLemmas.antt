-- A key stands in the write list of a transaction where an item writes it.
use Rattle.std.proofs.Common.{◌≡◌, ℕ, ◌==◌, ◌&&◌, ◌||◌, nat_eq, Bool, true, false, List, [], ◌∷◌, ◌⊎◌, inl, inr, Some, Contains, refl, sym, subst, ap, ◌∙◌, arith}
use Rattle.std.specs.Prelude.{if◌then◌else◌}
use Rattle.std.specs.List.{list_any}
use Rattle.std.proofs.lemmas.Bool.{eqb-true, eq-eqb, and_parts}
use Rattle.std.proofs.lemmas.Cmp.{nat_eq_equiv}
use Rattle.std.proofs.lemmas.Map.Views.{Contains-from_any, list_any-from_Contains}
use Rattle.history_book.specs.Members.{◌∈◌}
use Rattle.history_book.specs.declared.item.Item.{Item}
use Rattle.history_book.specs.declared.item.Item.TheVariants as item
use Rattle.history_book.proofs.MemberLemmas.{in_at}
use Rattle.system_parts.specs.SessionSteps.{has_key, key_added}
use Rattle.system_parts.proofs.WriteListLemmas.{in_found, found_in, takes_in}
use Rattle.cause_rules.specs.Written.{keys_with, keys_from, written_keys}
use Rattle.refusal_reasons.specs.declared.clue.Clue.TheVariants as clue
use Rattle.refusal_reasons.specs.Clues.{writes, fits}
use Rattle.refusal_reasons.specs.Sought.{seek}
use Rattle.refusal_reasons.proofs.SeekLemmas.{Found, found, last_is}
use Rattle.refusal_reasons.proofs.PartLemmas.{in_drop}

-- ---- members by index, and as the definitions have them
flipped : (keys : List ℕ) (key : ℕ) → list_any (nat_eq key) keys ≡ has_key keys key
flipped [] key = refl
flipped (k ∷ keys) key = ap (λ b. b || list_any (nat_eq key) keys) (nat_eq_equiv.symm key k) ∙ ap (λ b. nat_eq k key || b) (flipped keys key)

contains_in : (keys : List ℕ) (key : ℕ) → Contains keys key → key ∈ keys
contains_in keys key has = in_found keys key (sym (flipped keys key) ∙ list_any-from_Contains nat_eq_equiv key keys has)

in_contains : (keys : List ℕ) (key : ℕ) → key ∈ keys → Contains keys key
in_contains keys key m = Contains-from_any eqb-true key keys (flipped keys key ∙ found_in keys key m)

-- ---- one write more
stays_by : (keys : List ℕ) (key k : ℕ) (b : Bool) → key ∈ keys → key ∈ (if b then key_added keys k else keys)
stays_by keys key k true m = ((takes_in keys k).has key).1 (inl m)
stays_by keys key k false m = m

stays : (keys : List ℕ) (t key : ℕ) (x : Item) → key ∈ keys → key ∈ keys_with keys t x
stays keys t key (item.Write session start k value) m = stays_by keys key k (start == t) m
stays keys t key _ m = m

writes_in : (keys : List ℕ) (t key : ℕ) (x : Item) → writes t key x ≡ true → key ∈ keys_with keys t x
writes_in keys t key (item.Write session start k value) w =
    let parts = and_parts (start == t) (k == key) w in
    let own : (start == t) ≡ true = parts.0 in
    let same : key ≡ k = sym (eqb-true k key parts.1) in
    rw own (((takes_in keys k).has key).1 (inr same))
writes_in keys t key _ w = absurd cc

new_by : (keys : List ℕ) (t key start k : ℕ) (b : Bool) → (start == t) ≡ b → key ∈ (if b then key_added keys k else keys) → (key ∈ keys) ⊎ (((start == t) && (k == key)) ≡ true)
new_by keys t key start k true own m = elim (((takes_in keys k).has key).0 m) [
  | inl old ↦ inl old
  | inr same ↦ inr (rw (own, eq-eqb k key (sym same)) refl)
]
new_by keys t key start k false own m = inl m

new_in : (keys : List ℕ) (t key : ℕ) (x : Item) → key ∈ keys_with keys t x → (key ∈ keys) ⊎ (writes t key x ≡ true)
new_in keys t key (item.Write session start k value) m = new_by keys t key start k (start == t) refl m
new_in keys t key _ m = inl m

-- ---- of a whole history
kept : (keys : List ℕ) (t key : ℕ) (h : List Item) → key ∈ keys → key ∈ keys_from keys t h
unfolding keys_from
kept keys t key [] m = m
kept keys t key (x ∷ xs) m = kept (keys_with keys t x) t key xs (stays keys t key x m)

all_in : (keys : List ℕ) (t key : ℕ) (h : List Item) (x : Item) → x ∈ h → writes t key x ≡ true → key ∈ keys_from keys t h
unfolding keys_from ◌∈◌
all_in keys t key [] x m w = absurd m
all_in keys t key (y ∷ ys) x m w = elim m [
  | inl e ↦ kept (keys_with keys t y) t key ys (writes_in keys t key y (subst (λ (z : Item). writes t key z ≡ true) e w))
  | inr deeper ↦ all_in (keys_with keys t y) t key ys x deeper w
]

by_one : (keys : List ℕ) (t key : ℕ) (h : List Item) → key ∈ keys_from keys t h → (key ∈ keys) ⊎ ((x : Item) × ((x ∈ h) × (writes t key x ≡ true)))
unfolding keys_from ◌∈◌
by_one keys t key [] m = inl m
by_one keys t key (y ∷ ys) m = elim (by_one (keys_with keys t y) t key ys m) [
  | inl here ↦ elim (new_in keys t key y here) [ inl old ↦ inl old | inr w ↦ inr (y, (inl refl, w)) ]
  | inr later ↦ inr (later.0, (inr later.1.0, later.1.1))
]

none_in : (key : ℕ) → key ∈ [] → ⊥
unfolding ◌∈◌
none_in key m = m

-- ---- the key of a write that is found, and the other way round
pub wrote_found : (h : List Item) (t key : ℕ) → Contains (written_keys h t) key → Found (fits (clue.Wrote t key)) h 0
wrote_found h t key has = elim (by_one [] t key h (contains_in (written_keys h t) key has)) [
  | inl none ↦ absurd (none_in key none)
  | inr one ↦ let at = in_drop one.0 h 0 one.1.0 in found (fits (clue.Wrote t key)) h 0 at.0 one.0 (omega arith) at.1.1 one.1.1
]

pub found_wrote : (h : List Item) (t key place : ℕ) → seek h 0 (clue.Wrote t key) ≡ Some place → Contains (written_keys h t) key
found_wrote h t key place is =
    let last = last_is (fits (clue.Wrote t key)) h 0 place is in
    in_contains (written_keys h t) key (all_in [] t key h last.item (in_at h place last.item last.stands) last.fits)
