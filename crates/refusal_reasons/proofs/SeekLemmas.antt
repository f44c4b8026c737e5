-- The last place from one on: how it is found, and what is known of it. For breach_reasons too.
use Rattle.std.proofs.Common.{◌≡◌, ℕ, zero, suc, ◌+◌, ◌-◌, ◌<◌, ◌≤◌, inl, inr, Bool, true, false, if◌then◌else◌, List, Option, Some, None, length, get_or, refl, sym, subst, ap, ◌∙◌, arith}
use Rattle.std.specs.Prelude.{slice_get, MatchOption}
use Rattle.std.proofs.lemmas.Bool.{cases_order}
use Rattle.std.proofs.lemmas.Option.{same_Some, slice_get_within, slice_get_read}
use Rattle.history_book.specs.declared.item.Item.{Item}
use Rattle.refusal_reasons.specs.Sought.{passes, last_in, last_place}

-- ---- one place more
pub last_in_more : (test : Item → Bool) (h : List Item) (from place : ℕ) → from ≤ place → last_in test h from (suc place - from) ≡ (if passes test (slice_get h place) then Some place else last_in test h from (place - from))
unfolding last_in
last_in_more test h from place le =
    let count : suc place - from ≡ suc (place - from) = omega arith in
    let at : from + (place - from) ≡ place = omega arith in
    ap (last_in test h from) count ∙ ap (λ (p : ℕ). if passes test (slice_get h p) then Some p else last_in test h from (place - from)) at

-- ---- what is known of the last place
pub record IsLast (test : Item → Bool) (h : List Item) (from place : ℕ) : Type 0 where
  pub from_on : from ≤ place
  pub item : Item
  pub stands : slice_get h place ≡ Some item
  pub fits : test item ≡ true
  pub last : (later : ℕ) (x : Item) → place < later → slice_get h later ≡ Some x → test x ≡ false

-- none from the place on
abbrev pub NoneFrom : (Item → Bool) → List Item → ℕ → Type 0
NoneFrom test h from = (place : ℕ) (x : Item) → from ≤ place → slice_get h place ≡ Some x → test x ≡ false

-- the answer is the last place, or there is none
abbrev pub Known : (Item → Bool) → List Item → ℕ → Option ℕ → Type 0
Known test h from place = MatchOption place (NoneFrom test h from) (IsLast test h from)

one_fails : (test : Item → Bool) (h : List Item) (at : ℕ) (there : Option Item) (x : Item) → slice_get h at ≡ there → passes test there ≡ false → slice_get h at ≡ Some x → test x ≡ false
one_fails test h at None x is fails stands = absurd cc
one_fails test h at (Some y) x is fails stands = subst (λ (z : Item). test z ≡ false) (same_Some y x (sym is ∙ stands)) fails

none_more : (test : Item → Bool) (h : List Item) (at : ℕ) (there : Option Item) → slice_get h at ≡ there → passes test there ≡ false → NoneFrom test h (suc at) → NoneFrom test h at
none_more test h at there is fails none place x le stands = elim (cases_order at place) [
  | inl e ↦ one_fails test h at there x is fails (ap (slice_get h) e ∙ stands)
  | inr other ↦ elim other [ inl later ↦ none place x (omega arith) stands | inr earlier ↦ absurd (omega arith) ]
]

known_by : (test : Item → Bool) (h : List Item) (from n : ℕ) (there : Option Item) (b : Bool) → slice_get h (from + n) ≡ there → passes test there ≡ b → NoneFrom test h (suc (from + n))
    → (NoneFrom test h (from + n) → Known test h from (last_in test h from n)) → Known test h from (if b then Some (from + n) else last_in test h from n)
known_by test h from n None true is passing none more = absurd cc
known_by test h from n (Some x) true is passing none more = record {
  from_on = omega arith;
  item = x;
  stands = is;
  fits = passing;
  last = λ later y after stands. none later y (omega arith) stands;
}
known_by test h from n there false is passing none more = more (none_more test h (from + n) there is passing none)

known_in : (test : Item → Bool) (h : List Item) (from n : ℕ) → NoneFrom test h (from + n) → Known test h from (last_in test h from n)
unfolding last_in
known_in test h from zero none = λ place x le stands. none place x (omega arith) stands
known_in test h from (suc n) none =
    known_by test h from n (slice_get h (from + n)) (passes test (slice_get h (from + n))) refl refl (λ place x le stands. none place x (omega arith) stands) (known_in test h from n)

pub known : (test : Item → Bool) (h : List Item) (from : ℕ) → Known test h from (last_place test h from)
known test h from = known_in test h from (length h - from) (λ place x le stands. absurd (omega (arith, slice_get_within h place x stands)))

-- ---- what stands there is found
pub record Found (test : Item → Bool) (h : List Item) (from : ℕ) : Type 0 where
  pub place : ℕ
  pub is : last_place test h from ≡ Some place
  pub last : IsLast test h from place

found_by : (test : Item → Bool) (h : List Item) (from q : ℕ) (x : Item) (place : Option ℕ) → last_place test h from ≡ place → Known test h from place → from ≤ q → slice_get h q ≡ Some x → test x ≡ true → Found test h from
found_by test h from q x None is none le stands fits = let not : test x ≡ false = none q x le stands in absurd cc
found_by test h from q x (Some place) is last le stands fits = record { place = place; is = is; last = last }

pub found : (test : Item → Bool) (h : List Item) (from q : ℕ) (x : Item) → from ≤ q → slice_get h q ≡ Some x → test x ≡ true → Found test h from
found test h from q x = found_by test h from q x (last_place test h from) refl (known test h from)

pub last_is : (test : Item → Bool) (h : List Item) (from place : ℕ) → last_place test h from ≡ Some place → IsLast test h from place
last_is test h from place is = subst (λ (o : Option ℕ). Known test h from o) is (known test h from)

-- ---- a turn of the loop, at a place whose item fails
pub fails_at : (test : Item → Bool) (h : List Item) (from rest : ℕ) (x : Item) → from < rest → rest ≤ length h → x ≡ get_or h (rest - 1) x → test x ≡ false → last_in test h from (rest - 1 - from) ≡ last_in test h from (rest - from)
fails_at test h from rest x ahead within is fails =
    let stands : slice_get h (rest - 1) ≡ Some x = slice_get_read h (length h) (rest - 1) x refl (omega arith) is in
    let count : suc (rest - 1) - from ≡ rest - from = omega arith in
    let more = last_in_more test h from (rest - 1) (omega arith) in
    let past : (if passes test (slice_get h (rest - 1)) then Some (rest - 1) else last_in test h from (rest - 1 - from)) ≡ last_in test h from (rest - 1 - from) = rw (stands, fails) refl in
    sym past ∙ (sym more ∙ ap (last_in test h from) count)

pub passes_at : (test : Item → Bool) (h : List Item) (from rest : ℕ) (x : Item) → from < rest → rest ≤ length h → x ≡ get_or h (rest - 1) x → test x ≡ true → Some (rest - 1) ≡ last_in test h from (rest - from)
passes_at test h from rest x ahead within is fits =
    let stands : slice_get h (rest - 1) ≡ Some x = slice_get_read h (length h) (rest - 1) x refl (omega arith) is in
    let count : suc (rest - 1) - from ≡ rest - from = omega arith in
    let more = last_in_more test h from (rest - 1) (omega arith) in
    let here : (if passes test (slice_get h (rest - 1)) then Some (rest - 1) else last_in test h from (rest - 1 - from)) ≡ Some (rest - 1) = rw (stands, fits) refl in
    sym here ∙ (sym more ∙ ap (last_in test h from) count)
