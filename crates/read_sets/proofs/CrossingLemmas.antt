-- What crosses a read, from the walk over placed commits, and when no read is crossed.
use Rattle.std.proofs.Common.{◌≡◌, ◌<◌, ◌≤◌, ◌+◌, ◌-◌, ℕ, suc, true, false, List, [], ◌∷◌, ◌++◌, Option, None, Some, is_some, length, take, get_or, slice_get, IfSome, IsSomeAnd, MatchOption, inl, inr, refl, sym, ap, subst, ◌∙◌, arith}
use Rattle.std.specs.List.{list_any}
use Rattle.std.proofs.Math.Seq.{take-suc}
use Rattle.std.proofs.lemmas.Option.{slice_get_within}
use Rattle.history_book.specs.Members.{◌∈◌}
use Rattle.history_book.specs.Isolation.{Committed, Wrote, last_write}
use Rattle.history_book.specs.Serial.{StoodAtCommit, Serial}
use Rattle.history_book.specs.declared.item.Found.{Found}
use Rattle.history_book.specs.declared.item.Item.{Item}
use Rattle.history_book.specs.declared.item.Item.TheVariants.{Read, Placed}
use Rattle.history_book.proofs.MemberLemmas.{in_at, in_push, in_front, in_last}
use Rattle.isolation_rules.specs.ApartPairs.{writes}
use Rattle.isolation_rules.proofs.KeyLemmas.{any_writes}
use Rattle.isolation_rules.proofs.PlaceLemmas.{some_and, and_some, place_of}
use Rattle.read_sets.specs.declared.judge.SerialVerdict.{SerialVerdict}
use Rattle.read_sets.specs.declared.judge.SerialVerdict.TheVariants as verdict
use Rattle.read_sets.specs.Crossings.{CrossesKey, CrossesRead, Crosses, IsLeastCrossing, IsJudged, StoodFor, Stands, IsSecond, IsSecondOf, IsLastOf, IsGreater, CrossesUpTo, CrossesAt}

-- the items passed so far, and the next one
pub one_more : (xs : List Item) (i : ℕ) (x : Item) → i < length xs → x ≡ get_or xs i x → take i xs ++ x ∷ [] ≡ take (i + 1) xs
one_more xs i x less e =
    let next : i + 1 ≡ suc i = omega arith in
    ap (λ (y : Item). take i xs ++ y ∷ []) e ∙ sym (take-suc xs i x less) ∙ ap (λ n. take n xs) (sym next)

-- ---- the item at a place
abbrev SecondIn : List Item → ℕ → Option Item → Option ℕ → Type 0
SecondIn h i here second = MatchOption second (IfSome here (λ x. StoodAtCommit h (take i h) x)) (λ j. IsSomeAnd here (λ x. CrossesRead h (take i h) x j) × ((q : ℕ) → q < j → IsSomeAnd here (λ x. CrossesRead h (take i h) x q) → ⊥))

pub read_second : (h : List Item) (i session s k : ℕ) (answer : Option Found) (second : Option ℕ) → slice_get h i ≡ Some (Read session s k answer) → IsSecondOf h (take i h) s k second → IsSecond h i second
read_second h i session s k answer second there is = subst (λ (o : Option Item). SecondIn h i o second) (sym there) (by second is)
  where
    by : (second : Option ℕ) → IsSecondOf h (take i h) s k second → SecondIn h i (Some (Read session s k answer)) second
    by None is = is
    by (Some j) is = is

other_stands : (h before : List Item) (x : Item) → ((session s k : ℕ) (answer : Option Found) → x ≡ Read session s k answer → ⊥) → StoodAtCommit h before x
other_stands h before (Read session s k answer) other = absurd (other session s k answer refl)
other_stands h before _ other = tt

pub other_second : (h : List Item) (i : ℕ) (x : Item) → slice_get h i ≡ Some x → ((session s k : ℕ) (answer : Option Found) → x ≡ Read session s k answer → ⊥) → IsSecond h i None
other_second h i x there other = subst (λ (o : Option Item). IfSome o (λ y. StoodAtCommit h (take i h) y)) (sym there) (other_stands h (take i h) x other)

pub stands_here : (h : List Item) (i : ℕ) (x : Item) → slice_get h i ≡ Some x → Stands h i → StoodAtCommit h (take i h) x
stands_here h i x there stands = subst (λ (o : Option Item). IfSome o (λ y. StoodAtCommit h (take i h) y)) there stands

-- ---- the greatest commit
pub last_none : (s : ℕ) → IsLastOf [] s None
unfolding ◌∈◌
last_none s = λ c m. m

pub placed_same : (t c u d : ℕ) → Placed t c ≡ Placed u d → (t ≡ u) × (c ≡ d)
placed_same t c u d e = let start : t ≡ u = cc in let commit : c ≡ d = cc in (start, commit)

pub last_more : (part : List Item) (x : Item) (s c : ℕ) (old new : Option ℕ) → x ≡ Placed s c → IsGreater old c new → IsLastOf part s old → IsLastOf (part ++ x ∷ []) s new
last_more part x s c old new is greater was = subst (λ (y : Item). IsLastOf (part ++ y ∷ []) s new) (sym is) (by old greater was)
  where
    latest : (d : ℕ) → d ≤ c → ((e : ℕ) → Committed part s e → e ≤ d) → IsLastOf (part ++ Placed s c ∷ []) s (Some c)
    latest d less most = (in_last (Placed s c) part, λ e m. elim (in_push (Placed s e) (Placed s c) part m) [ inl before ↦ let low = most e before in omega (arith, low, less) | inr here ↦ let same = (placed_same s e s c here).1 in omega (arith, same) ])

    first : ((e : ℕ) → Committed part s e → ⊥) → IsLastOf (part ++ Placed s c ∷ []) s (Some c)
    first none = (in_last (Placed s c) part, λ e m. elim (in_push (Placed s e) (Placed s c) part m) [ inl before ↦ absurd (none e before) | inr here ↦ let same = (placed_same s e s c here).1 in omega (arith, same) ])

    stays : (d : ℕ) → c ≤ d → Committed part s d → ((e : ℕ) → Committed part s e → e ≤ d) → IsLastOf (part ++ Placed s c ∷ []) s (Some d)
    stays d less there most = (in_front (Placed s d) part (Placed s c ∷ []) there, λ e m. elim (in_push (Placed s e) (Placed s c) part m) [ inl before ↦ most e before | inr here ↦ let same = (placed_same s e s c here).1 in omega (arith, same, less) ])

    by : (old : Option ℕ) → IsGreater old c new → IsLastOf part s old → IsLastOf (part ++ Placed s c ∷ []) s new
    by None greater none = subst (λ (o : Option ℕ). IsLastOf (part ++ Placed s c ∷ []) s o) (sym greater) (first none)
    by (Some d) greater was = elim greater [
      | inl new_one ↦ subst (λ (o : Option ℕ). IsLastOf (part ++ Placed s c ∷ []) s o) (sym new_one.0) (latest d new_one.1 was.1)
      | inr old_one ↦ subst (λ (o : Option ℕ). IsLastOf (part ++ Placed s c ∷ []) s o) (sym old_one.0) (stays d old_one.1 was.0 was.1)
    ]

pub last_stays : (part : List Item) (x : Item) (s : ℕ) (last : Option ℕ) → ((c : ℕ) → x ≡ Placed s c → ⊥) → IsLastOf part s last → IsLastOf (part ++ x ∷ []) s last
last_stays part x s None other none = λ c m. elim (in_push (Placed s c) x part m) [ inl before ↦ none c before | inr here ↦ other c (sym here) ]
last_stays part x s (Some d) other was = (in_front (Placed s d) part (x ∷ []) was.0, λ c m. elim (in_push (Placed s c) x part m) [ inl before ↦ was.1 c before | inr here ↦ absurd (other c (sym here)) ])

-- ---- from the walk over placed commits
value_of : (h : List Item) (t k : ℕ) (o : Option (List ℕ)) → last_write h t k ≡ o → is_some o ≡ true → (value : List ℕ) × Wrote h t k value
value_of h t k None e on = absurd (cc)
value_of h t k (Some value) e on = (value, e)

up_to_key : (h : List Item) (s k d : ℕ) (y : Item) → Committed h s d → CrossesUpTo h s k d y → CrossesKey h s k y
up_to_key h s k d (Placed t c) committed upto = record { other = upto.0; wrote = value_of h t k (last_write h t k) refl (sym (any_writes h t k) ∙ upto.3); above = upto.1; below = (d, committed, upto.2) }
up_to_key h s k d _ committed upto = absurd upto

key_up_to : (h : List Item) (s k d : ℕ) (y : Item) → ((c : ℕ) → Committed h s c → c ≤ d) → CrossesKey h s k y → CrossesUpTo h s k d y
key_up_to h s k d (Placed t c) most crossed = let low = crossed.below.2 in let high = most crossed.below.0 crossed.below.1 in
    (crossed.other, crossed.above, omega (arith, low, high), any_writes h t k ∙ ap is_some crossed.wrote.1)
key_up_to h s k d _ most crossed = absurd crossed

crossed_at : (h : List Item) (s k d q : ℕ) → Committed h s d → CrossesAt h s k d q → IsSomeAnd (slice_get h q) (λ y. CrossesKey h s k y)
crossed_at h s k d q committed at = let found = some_and (slice_get h q) (λ y. CrossesUpTo h s k d y) at in
    and_some (slice_get h q) (λ y. CrossesKey h s k y) found.0 found.1 (up_to_key h s k d found.0 committed found.2)

at_crossed : (h : List Item) (s k d q : ℕ) → ((c : ℕ) → Committed h s c → c ≤ d) → IsSomeAnd (slice_get h q) (λ y. CrossesKey h s k y) → CrossesAt h s k d q
at_crossed h s k d q most at = let found = some_and (slice_get h q) (λ y. CrossesKey h s k y) at in
    and_some (slice_get h q) (λ y. CrossesUpTo h s k d y) found.0 found.1 (key_up_to h s k d found.0 most found.2)

pub between_second : (h before : List Item) (s k d : ℕ) (second : Option ℕ) → last_write before s k ≡ None → IsLastOf h s (Some d) → MatchOption second ((q : ℕ) → CrossesAt h s k d q → ⊥) (λ j. CrossesAt h s k d j × ((q : ℕ) → q < j → CrossesAt h s k d q → ⊥)) → IsSecondOf h before s k second
between_second h before s k d None none last is = λ _ e committed t c value placed other wrote above below.
    let found = place_of (Placed t c) h placed in
    is found.0 (at_crossed h s k d found.0 last.1 (and_some (slice_get h found.0) (λ y. CrossesKey h s k y) (Placed t c) found.1 (record { other = other; wrote = (value, wrote); above = above; below = (e, committed, below) })))
between_second h before s k d (Some j) none last is = ((none, crossed_at h s k d j last.0 is.0), λ q less crossed. is.1 q less (at_crossed h s k d q last.1 crossed.1))

pub wrote_second : (h before : List Item) (s k : ℕ) → list_any (λ x. writes s k x) before ≡ true → IsSecondOf h before s k None
wrote_second h before s k wrote = λ none. let on = sym (any_writes before s k) ∙ wrote in let off : is_some (last_write before s k) ≡ false = ap is_some none in absurd (cc)

pub not_wrote : (before : List Item) (s k : ℕ) → list_any (λ x. writes s k x) before ≡ false → last_write before s k ≡ None
not_wrote before s k off = by (last_write before s k) refl
  where
    by : (o : Option (List ℕ)) → last_write before s k ≡ o → last_write before s k ≡ None
    by None e = e
    by (Some value) e = let on = any_writes before s k ∙ ap is_some e in absurd (cc)

-- ---- the law
pub stands_uncrossed : (h : List Item) (p q : ℕ) → Stands h p → Crosses h p q → ⊥
stands_uncrossed h p q stands crossed =
    let found = some_and (slice_get h p) (λ x. CrossesRead h (take p h) x q) crossed in
    by found.0 (stands_here h p found.0 found.1 stands) found.2
  where
    at_placed : (s k : ℕ) (y : Item) → slice_get h q ≡ Some y → StoodFor h s k → CrossesKey h s k y → ⊥
    at_placed s k (Placed t c) there stood crossed = stood crossed.below.0 crossed.below.1 t c crossed.wrote.0 (in_at h q (Placed t c) there) crossed.other crossed.wrote.1 crossed.above crossed.below.2
    at_placed s k _ there stood crossed = crossed

    by : (x : Item) → StoodAtCommit h (take p h) x → CrossesRead h (take p h) x q → ⊥
    by (Read session s k answer) stood crossed =
        let other = some_and (slice_get h q) (λ y. CrossesKey h s k y) crossed.1 in
        at_placed s k other.0 other.1 (stood crossed.0) other.2
    by _ stood crossed = crossed

pub all_serial : (h : List Item) → ((i : ℕ) → i < length h → Stands h i) → Serial h
all_serial h stands = record { at = λ p x e. stands_here h p x e (stands p (slice_get_within h p x e)) }

serial_stands : (h : List Item) → Serial h → (i : ℕ) → Stands h i
serial_stands h serial i = by (slice_get h i) refl
  where
    by : (o : Option Item) → slice_get h i ≡ o → IfSome o (λ x. StoodAtCommit h (take i h) x)
    by None e = tt
    by (Some x) e = serial.at i x e

pub judged_serial : (h : List Item) (v : SerialVerdict) → IsJudged h v → Serial h → v ≡ verdict.Serial
judged_serial h verdict.Serial judged serial = refl
judged_serial h (verdict.Crossed read placed) judged serial = absurd (stands_uncrossed h _ _ (serial_stands h serial _) judged.2.crossed)

pub least_counted : (h : List Item) (i j : ℕ) → IsLeastCrossing h i j → IsLeastCrossing h (i + 1 - 1) (j + 1 - 1)
least_counted h i j least =
    let first : i + 1 - 1 ≡ i = omega arith in
    let second : j + 1 - 1 ≡ j = omega arith in
    subst (λ (n : ℕ). IsLeastCrossing h n (j + 1 - 1)) (sym first) (subst (λ (n : ℕ). IsLeastCrossing h i n) (sym second) least)
