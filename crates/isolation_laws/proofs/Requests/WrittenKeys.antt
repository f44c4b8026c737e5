-- What a transaction wrote: its last writes, and the keys of its write list.
use Rattle.isolation_laws.proofs.Names.{◌≡◌, ℕ, ◌==◌, true, List, [], ◌∷◌, Option, Some, None, ◌⊎◌, inl, inr, refl, sym}
use Rattle.isolation_laws.proofs.Names.{◌∙◌, ap, subst, option_or, cases_Bool, cases_eq, eq-eqb, ne_eqb, none-some, ◌∈◌}
use Rattle.isolation_laws.proofs.Names.{Wrote, last_write, written_by, Item, Write, in_front, in_last, in_push, has_key}
use Rattle.isolation_laws.proofs.Names.{key_added, keys_with, keys_from, written_keys}
use Rattle.isolation_laws.proofs.Requests.ClientsAfter.{keys_with_own}
use Rattle.isolation_laws.proofs.Stores.Calm.{written_here}

value_of : (s u j t k : ℕ) (v value : List ℕ) → written_by t k (Write s u j v) ≡ Some value → Write s t k value ≡ Write s u j v
value_of s u j t k v value e = elim (cases_eq u t) [
  | inl a ↦ elim (cases_eq j k) [
    | inl b ↦ let there : Some v ≡ Some value = rw (eq-eqb u t a, eq-eqb j k b) at e in cc
    | inr b ↦ let there : None ≡ Some value = rw (eq-eqb u t a, ne_eqb j k b) at e in absurd (none-some value there)
  ]
  | inr a ↦ let there : None ≡ Some value = rw (ne_eqb u t a) at e in absurd (none-some value there)
]

writer_of : (x : Item) (t k : ℕ) (value : List ℕ) → written_by t k x ≡ Some value → (s : ℕ) × (Write s t k value ≡ x)
writer_of (Write s u j v) t k value e = (s, value_of s u j t k v value e)
writer_of _ t k value e = absurd (none-some value e)

-- a last write was written
pub write_of : (h : List Item) (t k : ℕ) (value : List ℕ) → last_write h t k ≡ Some value → (s : ℕ) × (Write s t k value ∈ h)
unfolding last_write ◌∈◌
write_of [] t k value is = absurd (none-some value is)
write_of (x ∷ xs) t k value is = by (last_write xs t k) (λ v later. write_of xs t k value (later ∙ v)) refl is
  where
    by : (later : Option (List ℕ)) → (later ≡ Some value → last_write xs t k ≡ later → (s : ℕ) × (Write s t k value ∈ xs)) → last_write xs t k ≡ later → option_or later (written_by t k x) ≡ Some value → (s : ℕ) × (Write s t k value ∈ (x ∷ xs))
    by None deeper e here = let who = writer_of x t k value here in (who.0, inl who.1)
    by (Some v) deeper e here = let who = deeper here e in (who.0, inr who.1)

-- what was never begun wrote nothing
pub last_write-none : (h : List Item) (t k : ℕ) → ((s : ℕ) (value : List ℕ) → Write s t k value ∈ h → ⊥) → last_write h t k ≡ None
last_write-none h t k none = by (last_write h t k) refl
  where
    by : (found : Option (List ℕ)) → last_write h t k ≡ found → last_write h t k ≡ None
    by None e = e
    by (Some value) e = let who = write_of h t k value e in absurd (none who.0 value who.1)

-- ---- the keys that a transaction wrote
pub added_stays : (keys : List ℕ) (k j : ℕ) → k ∈ keys → k ∈ key_added keys j
added_stays keys k j m = elim (cases_Bool (has_key keys j)) [
  | inl has ↦ rw has m
  | inr has ↦ rw has (in_front k keys (j ∷ []) m)
]

pub has_key_in : (keys : List ℕ) (k : ℕ) → has_key keys k ≡ true → k ∈ keys
unfolding ◌∈◌
has_key_in [] k has = absurd (cc)
has_key_in (j ∷ keys) k has = elim (cases_eq j k) [
  | inl same ↦ inl (sym same)
  | inr other ↦ inr (has_key_in keys k (rw (ne_eqb j k other) at has))
]

pub added_in : (keys : List ℕ) (k : ℕ) → k ∈ key_added keys k
added_in keys k = elim (cases_Bool (has_key keys k)) [
  | inl has ↦ rw has (has_key_in keys k has)
  | inr has ↦ rw has (in_last k keys)
]

with_stays : (keys : List ℕ) (t k : ℕ) (x : Item) → k ∈ keys → k ∈ keys_with keys t x
with_stays keys t k (Write s u j value) m = elim (cases_Bool (u == t)) [
  | inl own ↦ rw own (added_stays keys k j m)
  | inr other ↦ rw other m
]
with_stays keys t k _ m = m

from_stays : (keys : List ℕ) (t k : ℕ) (h : List Item) → k ∈ keys → k ∈ keys_from keys t h
unfolding keys_from
from_stays keys t k [] m = m
from_stays keys t k (x ∷ xs) m = from_stays (keys_with keys t x) t k xs (with_stays keys t k x m)

write_in_keys : (keys : List ℕ) (s t k : ℕ) (value : List ℕ) (h : List Item) → Write s t k value ∈ h → k ∈ keys_from keys t h
unfolding keys_from ◌∈◌
write_in_keys keys s t k value [] m = absurd m
write_in_keys keys s t k value (x ∷ xs) m = elim m [
  | inl here ↦ from_stays (keys_with keys t x) t k xs (subst (λ y. k ∈ keys_with keys t y) here (subst (λ ks. k ∈ ks) (sym (keys_with_own keys s t k value)) (added_in keys k)))
  | inr deeper ↦ write_in_keys (keys_with keys t x) s t k value xs deeper
]

pub wrote_in_keys : (h : List Item) (t k : ℕ) (value : List ℕ) → Wrote h t k value → k ∈ written_keys h t
wrote_in_keys h t k value wrote = let who = write_of h t k value wrote in write_in_keys [] who.0 t k value h who.1

-- and each of these was written
pub wrote_some : (h : List Item) (s t k : ℕ) (value : List ℕ) → Write s t k value ∈ h → (last : List ℕ) × Wrote h t k last
unfolding last_write ◌∈◌
wrote_some [] s t k value m = absurd m
wrote_some (x ∷ xs) s t k value m = elim m [
  | inl here ↦ by (last_write xs t k) (ap (written_by t k) (sym here) ∙ written_here s t k value)
  | inr deeper ↦ let later = wrote_some xs s t k value deeper in (later.0, ap (λ o. option_or o (written_by t k x)) later.1)
]
  where
    by : (later : Option (List ℕ)) → written_by t k x ≡ Some value → (last : List ℕ) × (option_or later (written_by t k x) ≡ Some last)
    by None e = (value, e)
    by (Some v) e = (v, refl)

in_added : (keys : List ℕ) (j k : ℕ) → k ∈ key_added keys j → (k ∈ keys) ⊎ (k ≡ j)
in_added keys j k m = elim (cases_Bool (has_key keys j)) [
  | inl has ↦ inl (rw has at m)
  | inr has ↦ in_push k j keys (rw has at m)
]

in_with : (keys : List ℕ) (t k : ℕ) (x : Item) → k ∈ keys_with keys t x → (k ∈ keys) ⊎ ((s : ℕ) × (value : List ℕ) × (Write s t k value ≡ x))
in_with keys t k (Write s u j value) m = elim (cases_eq u t) [
  | inl own ↦ elim (in_added keys j k (rw (eq-eqb u t own) at m)) [
    | inl old ↦ inl old
    | inr now ↦ inr (s, value, cc)
  ]
  | inr other ↦ inl (rw (ne_eqb u t other) at m)
]
in_with keys t k _ m = inl m

in_from : (keys : List ℕ) (t k : ℕ) (h : List Item) → k ∈ keys_from keys t h → (k ∈ keys) ⊎ ((s : ℕ) × (value : List ℕ) × (Write s t k value ∈ h))
unfolding keys_from ◌∈◌
in_from keys t k [] m = inl m
in_from keys t k (x ∷ xs) m = elim (in_from (keys_with keys t x) t k xs m) [
  | inl early ↦ elim (in_with keys t k x early) [
    | inl old ↦ inl old
    | inr here ↦ inr (here.0, here.1, inl here.2)
  ]
  | inr later ↦ inr (later.0, later.1, inr later.2)
]

in_no_keys : (k : ℕ) → k ∈ [] → ⊥
unfolding ◌∈◌
in_no_keys k m = m

pub key_was_written : (h : List Item) (t k : ℕ) → k ∈ written_keys h t → (value : List ℕ) × Wrote h t k value
key_was_written h t k m = elim (in_from [] t k h m) [
  | inl none ↦ absurd (in_no_keys k none)
  | inr write ↦ wrote_some h write.0 t k write.1 write.2
]

pub first_key_in : (k : ℕ) (rest keys : List ℕ) → keys ≡ k ∷ rest → k ∈ keys
unfolding ◌∈◌
first_key_in k rest keys is = subst (λ (ks : List ℕ). k ∈ ks) (sym is) (inl refl)
