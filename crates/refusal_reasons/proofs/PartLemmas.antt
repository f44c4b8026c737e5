-- What a history told last, and what stands in it since an item, by the place of that item.
use Rattle.std.proofs.Common.{◌≡◌, ℕ, zero, suc, ◌≤◌, Bool, true, false, if◌then◌else◌, List, [], ◌∷◌, ◌++◌, append_assoc, inl, inr, Option, Some, None, drop, refl, sym, subst, ap, ◌∙◌, arith}
use Rattle.std.specs.Prelude.{slice_get, is_some, MatchOption, IfSome}
use Rattle.std.specs.List.{fold}
use Rattle.std.specs.Option.{option_or}
use Rattle.std.proofs.lemmas.List.{append-nil}
use Rattle.std.proofs.lemmas.Option.{same_Some}
use Rattle.history_book.specs.Members.{◌∈◌}
use Rattle.history_book.specs.declared.item.Item.{Item}
use Rattle.cause_rules.specs.Since.{since, since_then, told_then, last_told}
use Rattle.refusal_reasons.specs.Sought.{last_place, behind}
use Rattle.refusal_reasons.proofs.SeekLemmas.{IsLast, NoneFrom, Known, known}

-- ---- the same of the rest of a list
none_rest : (test : Item → Bool) (y : Item) (ys : List Item) → NoneFrom test (y ∷ ys) 0 → NoneFrom test ys 0
none_rest test y ys none = λ place x le stands. none (suc place) x (omega arith) stands

none_behind : (test : Item → Bool) (y : Item) (ys : List Item) → IsLast test (y ∷ ys) 0 zero → NoneFrom test ys 0
none_behind test y ys last = λ place x le stands. last.last (suc place) x (omega arith) stands

last_rest : (test : Item → Bool) (y : Item) (ys : List Item) (place : ℕ) → IsLast test (y ∷ ys) 0 (suc place) → IsLast test ys 0 place
last_rest test y ys place last = record {
  from_on = omega arith;
  item = last.item;
  stands = last.stands;
  fits = last.fits;
  last = λ later x after stands. last.last (suc later) x (omega arith) stands;
}

first_fits : (test : Item → Bool) (y : Item) (ys : List Item) → IsLast test (y ∷ ys) 0 zero → test y ≡ true
first_fits test y ys last = subst (λ (x : Item). test x ≡ true) (sym (same_Some y last.item last.stands)) last.fits

-- ---- what stands since
since_none : (begins : Item → Bool) (part h : List Item) → NoneFrom begins h 0 → fold (since_then begins) part h ≡ part ++ h
since_none begins part [] none = sym (append-nil part)
since_none begins part (y ∷ ys) none =
    ap (λ (b : Bool). fold (since_then begins) (if b then [] else part ++ y ∷ []) ys) (none 0 y (omega arith) refl)
    ∙ (since_none begins (part ++ y ∷ []) ys (none_rest begins y ys none) ∙ append_assoc part (y ∷ []) ys)

since_last : (begins : Item → Bool) (part h : List Item) (place : ℕ) → IsLast begins h 0 place → fold (since_then begins) part h ≡ drop (suc place) h
since_last begins part [] place last = absurd (let stands = last.stands in cc)
since_last begins part (y ∷ ys) zero last =
    ap (λ (b : Bool). fold (since_then begins) (if b then [] else part ++ y ∷ []) ys) (first_fits begins y ys last)
    ∙ since_none begins [] ys (none_behind begins y ys last)
since_last begins part (y ∷ ys) (suc place) last = since_last begins (since_then begins part y) ys place (last_rest begins y ys place last)

since_by : (begins : Item → Bool) (h : List Item) (place : Option ℕ) → Known begins h 0 place → since begins h ≡ drop (behind place) h
since_by begins h None none = since_none begins [] h none
since_by begins h (Some place) last = since_last begins [] h place last

pub since_is : (begins : Item → Bool) (h : List Item) → since begins h ≡ drop (behind (last_place begins h 0)) h
since_is begins h = since_by begins h (last_place begins h 0) (known begins h 0)

-- ---- what was told last
-- the items that tell are those that pass the test
pub record Tells {A : Type 0} (told : Item → Option A) (test : Item → Bool) : Type 0 where
  pub no : (x : Item) → test x ≡ false → told x ≡ None
  pub one : (x : Item) → test x ≡ true → is_some (told x) ≡ true

or_some : {A : Type 0} (here last : Option A) → is_some here ≡ true → option_or here last ≡ here
or_some None last some = absurd cc
or_some (Some a) last some = refl

told_none : {A : Type 0} (told : Item → Option A) (test : Item → Bool) (h : List Item) (last : Option A) → Tells told test → NoneFrom test h 0 → fold (told_then told) last h ≡ last
told_none told test [] last tells none = refl
told_none told test (y ∷ ys) last tells none =
    ap (λ o. fold (told_then told) (option_or o last) ys) (tells.no y (none 0 y (omega arith) refl)) ∙ told_none told test ys last tells (none_rest test y ys none)

told_last : {A : Type 0} (told : Item → Option A) (test : Item → Bool) (h : List Item) (last : Option A) (place : ℕ) → Tells told test → (is : IsLast test h 0 place) → fold (told_then told) last h ≡ told is.item
unfolding last_rest
told_last told test [] last place tells is = absurd (let stands = is.stands in cc)
told_last told test (y ∷ ys) last zero tells is =
    told_none told test ys (told_then told last y) tells (none_behind test y ys is)
    ∙ (or_some (told y) last (tells.one y (first_fits test y ys is)) ∙ ap told (same_Some y is.item is.stands))
told_last told test (y ∷ ys) last (suc place) tells is = told_last told test ys (told_then told last y) place tells (last_rest test y ys place is)

-- at the place
abbrev pub ToldAt : {A : Type 0} → (Item → Option A) → List Item → Option ℕ → Type 0
ToldAt told h place = MatchOption place (last_told told h ≡ None) (λ p. IfSome (slice_get h p) (λ x. last_told told h ≡ told x))

at_place : {A : Type 0} (told : Item → Option A) (h : List Item) (there : Option Item) (x : Item) → there ≡ Some x → last_told told h ≡ told x → IfSome there (λ y. last_told told h ≡ told y)
at_place told h None x is e = absurd cc
at_place told h (Some y) x is e = e ∙ ap told (sym (same_Some y x is))

told_by : {A : Type 0} (told : Item → Option A) (test : Item → Bool) (h : List Item) (place : Option ℕ) → Tells told test → Known test h 0 place → ToldAt told h place
told_by told test h None tells none = told_none told test h None tells none
told_by told test h (Some place) tells is = at_place told h (slice_get h place) is.item is.stands (told_last told test h None place tells is)

pub told_is : {A : Type 0} (told : Item → Option A) (test : Item → Bool) (h : List Item) → Tells told test → ToldAt told h (last_place test h 0)
told_is told test h tells = told_by told test h (last_place test h 0) tells (known test h 0)

-- ---- members of a part, by their places
pub in_drop : {X : Type 0} (x : X) (h : List X) (from : ℕ) → x ∈ drop from h → (place : ℕ) × ((from ≤ place) × (slice_get h place ≡ Some x))
unfolding ◌∈◌
in_drop x [] zero m = absurd m
in_drop x [] (suc from) m = absurd m
in_drop x (y ∷ ys) zero m = elim m [
  | inl e ↦ (0, (omega arith, ap Some (sym e)))
  | inr deeper ↦ let at = in_drop x ys 0 deeper in (suc at.0, (omega arith, at.1.1))
]
in_drop x (y ∷ ys) (suc from) m = let at = in_drop x ys from m in (suc at.0, (omega (arith, at.1.0), at.1.1))

pub drop_in : {X : Type 0} (x : X) (h : List X) (from place : ℕ) → from ≤ place → slice_get h place ≡ Some x → x ∈ drop from h
unfolding ◌∈◌
drop_in x [] from place le stands = absurd cc
drop_in x (y ∷ ys) zero zero le stands = inl (sym (same_Some y x stands))
drop_in x (y ∷ ys) zero (suc place) le stands = inr (drop_in x ys 0 place (omega arith) stands)
drop_in x (y ∷ ys) (suc from) zero le stands = absurd (omega (arith, le))
drop_in x (y ∷ ys) (suc from) (suc place) le stands = drop_in x ys from place (omega (arith, le)) stands

pub at_head : {X : Type 0} (xs : List X) (from : ℕ) (x : X) → slice_get xs from ≡ Some x → drop from xs ≡ x ∷ drop (suc from) xs
at_head [] from x e = absurd cc
at_head (y ∷ ys) zero x e = ap (λ z. z ∷ ys) (same_Some y x e)
at_head (y ∷ ys) (suc from) x e = at_head ys from x e
