-- A refusal is explained where what stands before it shows the cause, and else not.
use Rattle.std.proofs.Common.{◌≡◌, ℕ, zero, suc, Bool, true, false, ◌&&◌, List, [], ◌∷◌, ◌++◌, Some, inl, inr, refl, sym, ap, subst, length, take, get_or, ◌<◌, arith, Contains}
use Rattle.std.specs.Prelude.{slice_get}
use Rattle.std.specs.List.{list_all}
use Rattle.stamp_base.specs.SetupNumbers.{SetupNumbers}
use Rattle.history_book.specs.Members.{◌∈◌}
use Rattle.history_book.specs.declared.cause.Cause.{Cause}
use Rattle.history_book.specs.declared.item.Actor.{Actor}
use Rattle.history_book.specs.declared.item.StoreStep.TheVariants.{Fetch}
use Rattle.history_book.specs.declared.item.Item.{Item}
use Rattle.history_book.specs.declared.item.Item.TheVariants.{Step, Refused}
use Rattle.history_book.proofs.MemberLemmas.{in_at, AtEach-push}
use Rattle.cause_rules.specs.Explained.{ShownCause, Shown, Explained}
use Rattle.cause_rules.specs.WorkedHistories.{told, told_between}

-- ---- what holds of every item holds of each that stands in the list
abbrev pub AllOf : {X : Type 0} → (X → Type 0) → List X → Type 0
AllOf P [] = Unit {0}
AllOf P (x ∷ xs) = P x × AllOf P xs

pub of_each : {X : Type 0} (P : X → Type 0) (x : X) (xs : List X) → AllOf P xs → x ∈ xs → P x
unfolding ◌∈◌
of_each P x [] all m = absurd m
of_each P x (y ∷ ys) all m = elim m [ inl e ↦ subst P (sym e) all.0 | inr deeper ↦ of_each P x ys all.1 deeper ]

-- what every item passes
both_true : (a b : Bool) → (a && b) ≡ true → (a ≡ true) × (b ≡ true)
both_true true b both = (refl, both)
both_true false b both = absurd (cc)

all_pass : {X : Type 0} (test : X → Bool) (xs : List X) → list_all test xs ≡ true → AllOf (λ x. test x ≡ true) xs
all_pass test [] all = tt
all_pass test (x ∷ xs) all = let both = both_true (test x) (list_all test xs) all in (both.0, all_pass test xs both.1)

pub passes : {X : Type 0} (test : X → Bool) (x : X) (xs : List X) → list_all test xs ≡ true → x ∈ xs → test x ≡ true
passes test x xs all m = of_each (λ y. test y ≡ true) x xs (all_pass test xs all) m

-- the only key of a list
pub only_key : (only key : ℕ) → Contains (only ∷ []) key → only ≡ key
only_key only key found = at_place found.0 found.1 found.2 where
  at_place : (place : ℕ) → place < 1 → get_or (only ∷ []) place key ≡ key → only ≡ key
  at_place zero within same = same
  at_place (suc place) within same = absurd (omega (arith, within))

-- the only key that is fetched
abbrev pub FetchesOnly : ℕ → Item → Type 0
FetchesOnly only (Step actor (Fetch key cells)) = only ≡ key
FetchesOnly only _ = Unit {0}

-- ---- the only refusal
abbrev is_quiet : Item → Bool
is_quiet (Refused actor why) = false
is_quiet _ = true

quiet_shown : (setup : SetupNumbers) (before : List Item) (x : Item) → is_quiet x ≡ true → Shown setup before x
quiet_shown setup before (Refused actor why) quiet = absurd (cc)
quiet_shown setup before _ quiet = tt

pub shown_explains : (setup : SetupNumbers) (h : List Item) (actor : Actor) (why : Cause) → list_all is_quiet h ≡ true → ShownCause setup h actor why → Explained setup (told h actor why)
shown_explains setup h actor why quiet shown =
    AtEach-push (Shown setup) h (Refused actor why) (record {
      at = λ place x found. quiet_shown setup (take place h) x (passes is_quiet x h quiet (in_at h place x found));
    }) shown

-- ---- a refusal that stands there
behind_get : {X : Type 0} (xs : List X) (x : X) (later : List X) → slice_get (xs ++ x ∷ later) (length xs) ≡ Some x
behind_get [] x later = refl
behind_get (y ∷ ys) x later = behind_get ys x later

front_take : {X : Type 0} (xs later : List X) → take (length xs) (xs ++ later) ≡ xs
front_take [] later = refl
front_take (y ∷ ys) later = ap (λ zs. y ∷ zs) (front_take ys later)

pub explained_between : (setup : SetupNumbers) (h : List Item) (actor : Actor) (why : Cause) (later : List Item) → Explained setup (told_between h actor why later) → ShownCause setup h actor why
explained_between setup h actor why later explained =
    subst (λ before. ShownCause setup before actor why) (front_take h (Refused actor why ∷ later)) (explained.at (length h) (Refused actor why) (behind_get h (Refused actor why) later))

pub explained_shows : (setup : SetupNumbers) (h : List Item) (actor : Actor) (why : Cause) → Explained setup (told h actor why) → ShownCause setup h actor why
explained_shows setup h actor why = explained_between setup h actor why []
