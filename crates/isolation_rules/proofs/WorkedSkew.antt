-- The small histories whose reads cross, gone through place by place.
use Rattle.std.proofs.Common.{◌≡◌, ◌≢◌, ◌==◌, ℕ, ◌<◌, ◌⊎◌, Bool, true, false, List, [], ◌∷◌, Some, None, inl, inr, refl, arith}
use Rattle.std.proofs.lemmas.Bool.{cases_eq, eqb-true}
use Rattle.history_book.specs.Members.{◌∈◌, AtEach}
use Rattle.history_book.specs.Isolation.{last_write, before_ask, has_ask, Committed, Wrote, Visible, RightRead, NewStamps, StartsAbove, Apart, Stamped, Isolated}
use Rattle.history_book.specs.Serial.{StoodAtCommit, Serial}
use Rattle.history_book.specs.declared.item.Item.{Item}
use Rattle.history_book.specs.declared.item.Item.TheVariants.{Begin, Write, Read, Placed}
use Rattle.history_book.proofs.MemberLemmas.{AtEach-push}
use Rattle.isolation_rules.specs.WorkedHistories.{p, q, both_of_skew, one_of_skew, write_then_read, read_then_write, from_second}

-- what holds at each of five places, and of seven
at_five : (P : List Item → Item → Type 0) (a b c d e : Item) → P [] a → P (a ∷ []) b → P (a ∷ b ∷ []) c → P (a ∷ b ∷ c ∷ []) d → P (a ∷ b ∷ c ∷ d ∷ []) e → AtEach P (a ∷ b ∷ c ∷ d ∷ e ∷ [])
at_five P a b c d e ha hb hc hd he =
    let none : AtEach P [] = record { at = λ n x is. absurd (cc) } in
    let one : AtEach P (a ∷ []) = AtEach-push P [] a none ha in
    let two : AtEach P (a ∷ b ∷ []) = AtEach-push P (a ∷ []) b one hb in
    let three : AtEach P (a ∷ b ∷ c ∷ []) = AtEach-push P (a ∷ b ∷ []) c two hc in
    let four : AtEach P (a ∷ b ∷ c ∷ d ∷ []) = AtEach-push P (a ∷ b ∷ c ∷ []) d three hd in
    AtEach-push P (a ∷ b ∷ c ∷ d ∷ []) e four he

at_seven : (P : List Item → Item → Type 0) (a b c d e f g : Item) → AtEach P (a ∷ b ∷ c ∷ d ∷ e ∷ []) → P (a ∷ b ∷ c ∷ d ∷ e ∷ []) f → P (a ∷ b ∷ c ∷ d ∷ e ∷ f ∷ []) g → AtEach P (a ∷ b ∷ c ∷ d ∷ e ∷ f ∷ g ∷ [])
at_seven P a b c d e f g five hf hg =
    let six : AtEach P (a ∷ b ∷ c ∷ d ∷ e ∷ f ∷ []) = AtEach-push P (a ∷ b ∷ c ∷ d ∷ e ∷ []) f five hf in
    AtEach-push P (a ∷ b ∷ c ∷ d ∷ e ∷ f ∷ []) g six hg

-- ---- both commit
-- the commits are of 1 at 3 and of 2 at 4
skew_commits : (t c : ℕ) → Committed both_of_skew t c → ((t ≡ 1) × (c ≡ 3)) ⊎ ((t ≡ 2) × (c ≡ 4))
unfolding ◌∈◌
skew_commits t c (inl e) = absurd (cc)
skew_commits t c (inr (inl e)) = absurd (cc)
skew_commits t c (inr (inr (inl e))) = absurd (cc)
skew_commits t c (inr (inr (inr (inl e)))) = absurd (cc)
skew_commits t c (inr (inr (inr (inr (inl e))))) = absurd (cc)
skew_commits t c (inr (inr (inr (inr (inr (inl e)))))) = absurd (cc)
skew_commits t c (inr (inr (inr (inr (inr (inr (inl e))))))) = let start : t ≡ 1 = cc in let commit : c ≡ 3 = cc in inl (start, commit)
skew_commits t c (inr (inr (inr (inr (inr (inr (inr (inl e)))))))) = let start : t ≡ 2 = cc in let commit : c ≡ 4 = cc in inr (start, commit)
skew_commits t c (inr (inr (inr (inr (inr (inr (inr (inr none)))))))) = absurd none

skew_begins : (session t : ℕ) → Begin session t ∈ both_of_skew → t < 3
unfolding ◌∈◌
skew_begins session t (inl e) = let start : t ≡ 1 = cc in omega arith
skew_begins session t (inr (inl e)) = let start : t ≡ 2 = cc in omega arith
skew_begins session t (inr (inr (inl e))) = absurd (cc)
skew_begins session t (inr (inr (inr (inl e)))) = absurd (cc)
skew_begins session t (inr (inr (inr (inr (inl e))))) = absurd (cc)
skew_begins session t (inr (inr (inr (inr (inr (inl e)))))) = absurd (cc)
skew_begins session t (inr (inr (inr (inr (inr (inr (inl e))))))) = absurd (cc)
skew_begins session t (inr (inr (inr (inr (inr (inr (inr (inl e)))))))) = absurd (cc)
skew_begins session t (inr (inr (inr (inr (inr (inr (inr (inr none)))))))) = absurd none

-- no commit is below 3
skew_above : (t c : ℕ) → Committed both_of_skew t c → 2 < c
skew_above t c m = elim (skew_commits t c m) [ inl first ↦ let at = first.1 in omega (arith, at) | inr second ↦ let at = second.1 in omega (arith, at) ]

differ : (a b : ℕ) → a ≢ b → (a == b) ≡ false
differ a b other = by (a == b) refl
  where
    by : (r : Bool) → (a == b) ≡ r → r ≡ false
    by true e = absurd (other (eqb-true a b e))
    by false e = refl

-- the first wrote the key 1 alone, and the second the key 0
first_wrote : (k : ℕ) (v : List ℕ) → Wrote both_of_skew 1 k v → k ≡ 1
unfolding last_write
first_wrote k v wrote = elim (cases_eq k 1) [
  | inl same ↦ same
  | inr other ↦ let off : (1 == k) ≡ false = differ 1 k (λ e. other (cc)) in let bad : None ≡ Some v = rw off at wrote in absurd (cc)
]

second_wrote : (k : ℕ) (v : List ℕ) → Wrote both_of_skew 2 k v → k ≡ 0
unfolding last_write
second_wrote k v wrote = elim (cases_eq k 0) [
  | inl same ↦ same
  | inr other ↦ let off : (0 == k) ≡ false = differ 0 k (λ e. other (cc)) in let bad : None ≡ Some v = rw off at wrote in absurd (cc)
]

apart_keys : (t u k : ℕ) (v w : List ℕ) → t ≡ 1 → u ≡ 2 → Wrote both_of_skew t k v → Wrote both_of_skew u k w → ⊥
apart_keys t u k v w is_first is_second one two =
    let first : Wrote both_of_skew 1 k v = rw is_first at one in
    let second : Wrote both_of_skew 2 k w = rw is_second at two in
    let at = first_wrote k v first in let also = second_wrote k w second in omega (arith, at, also)

skew_apart : Apart both_of_skew
skew_apart = record {
  apart = λ t c u d k v w ct cu other wt wu. absurd (elim (skew_commits t c ct) [
    | inl one ↦ elim (skew_commits u d cu) [
      | inl also ↦ let a = one.0 in let b = also.0 in other (cc)
      | inr two ↦ apart_keys t u k v w one.0 two.0 wt wu
    ]
    | inr two ↦ elim (skew_commits u d cu) [
      | inl one ↦ apart_keys u t k w v one.0 two.0 wu wt
      | inr also ↦ let a = two.0 in let b = also.0 in other (cc)
    ]
  ]);
}

seven_commits : (t c : ℕ) → Committed one_of_skew t c → (t ≡ 1) × (c ≡ 3)
unfolding ◌∈◌
seven_commits t c (inl e) = absurd (cc)
seven_commits t c (inr (inl e)) = absurd (cc)
seven_commits t c (inr (inr (inl e))) = absurd (cc)
seven_commits t c (inr (inr (inr (inl e)))) = absurd (cc)
seven_commits t c (inr (inr (inr (inr (inl e))))) = absurd (cc)
seven_commits t c (inr (inr (inr (inr (inr (inl e)))))) = absurd (cc)
seven_commits t c (inr (inr (inr (inr (inr (inr (inl e))))))) = let start : t ≡ 1 = cc in let commit : c ≡ 3 = cc in (start, commit)
seven_commits t c (inr (inr (inr (inr (inr (inr (inr none))))))) = absurd none

no_commit_in_six : (t c : ℕ) → Committed (Begin 0 1 ∷ Begin 1 2 ∷ Read 0 1 0 None ∷ Write 0 1 1 p ∷ Read 1 2 1 None ∷ Write 1 2 0 q ∷ []) t c → ⊥
unfolding ◌∈◌
no_commit_in_six t c (inl e) = absurd (cc)
no_commit_in_six t c (inr (inl e)) = absurd (cc)
no_commit_in_six t c (inr (inr (inl e))) = absurd (cc)
no_commit_in_six t c (inr (inr (inr (inl e)))) = absurd (cc)
no_commit_in_six t c (inr (inr (inr (inr (inl e))))) = absurd (cc)
no_commit_in_six t c (inr (inr (inr (inr (inr (inl e)))))) = absurd (cc)
no_commit_in_six t c (inr (inr (inr (inr (inr (inr none)))))) = none

new_begin : (other : ℕ) → Begin other 2 ∈ (Begin 0 1 ∷ []) → ⊥
unfolding ◌∈◌
new_begin other (inl e) = absurd (cc)
new_begin other (inr none) = none

nothing_yet : (x : Item) → x ∈ [] → ⊥
unfolding ◌∈◌
nothing_yet x none = none

new_commit : (t c : ℕ) → Committed one_of_skew t c → (t ≢ 2) × (c ≢ 4)
new_commit t c m = let first = seven_commits t c m in let start = first.0 in let commit = first.1 in (λ e. absurd (omega (arith, start, e)), λ e. absurd (omega (arith, commit, e)))

new_stamps : AtEach NewStamps both_of_skew
new_stamps =
    let five = at_five NewStamps (Begin 0 1) (Begin 1 2) (Read 0 1 0 None) (Write 0 1 1 p) (Read 1 2 1 None) (λ other m. nothing_yet (Begin other 1) m) new_begin tt tt tt in
    let seven = at_seven NewStamps (Begin 0 1) (Begin 1 2) (Read 0 1 0 None) (Write 0 1 1 p) (Read 1 2 1 None) (Write 1 2 0 q) (Placed 1 3) five tt (λ t c m. absurd (no_commit_in_six t c m)) in
    AtEach-push NewStamps one_of_skew (Placed 2 4) seven new_commit

skew_stamped : Stamped both_of_skew
skew_stamped = record {
  distinct = new_stamps;
  no_start_commits = λ session t u begun placed. let low = skew_begins session t begun in let high = skew_above u t placed in absurd (omega (arith, low, high));
  start_below_commit = λ t c m. elim (skew_commits t c m) [
    | inl first ↦ let start = first.0 in let commit = first.1 in omega (arith, start, commit)
    | inr second ↦ let start = second.0 in let commit = second.1 in omega (arith, start, commit)
  ];
}

none_before_first : (t c : ℕ) → Committed (before_ask 0 []) t c → c < 1
unfolding before_ask has_ask ◌∈◌
none_before_first t c none = absurd none

none_before_second : (t c : ℕ) → Committed (before_ask 1 (Begin 0 1 ∷ [])) t c → c < 2
unfolding before_ask has_ask ◌∈◌
none_before_second t c (inl e) = absurd (cc)
none_before_second t c (inr none) = absurd none

skew_fresh : AtEach StartsAbove both_of_skew
skew_fresh =
    let five = at_five StartsAbove (Begin 0 1) (Begin 1 2) (Read 0 1 0 None) (Write 0 1 1 p) (Read 1 2 1 None) none_before_first none_before_second tt tt tt in
    let seven = at_seven StartsAbove (Begin 0 1) (Begin 1 2) (Read 0 1 0 None) (Write 0 1 1 p) (Read 1 2 1 None) (Write 1 2 0 q) (Placed 1 3) five tt tt in
    AtEach-push StartsAbove one_of_skew (Placed 2 4) seven tt

sees_nothing : (s k : ℕ) → s < 3 → Visible both_of_skew s k None
sees_nothing s k low t c candidate = let high = skew_above t c candidate.committed in let less = candidate.below in absurd (omega (arith, low, high, less))

skew_reads : AtEach (RightRead both_of_skew) both_of_skew
unfolding last_write
skew_reads =
    let R = RightRead both_of_skew in
    let five = at_five R (Begin 0 1) (Begin 1 2) (Read 0 1 0 None) (Write 0 1 1 p) (Read 1 2 1 None) tt tt (sees_nothing 1 0 (omega arith)) tt (sees_nothing 2 1 (omega arith)) in
    let seven = at_seven R (Begin 0 1) (Begin 1 2) (Read 0 1 0 None) (Write 0 1 1 p) (Read 1 2 1 None) (Write 1 2 0 q) (Placed 1 3) five tt tt in
    AtEach-push R one_of_skew (Placed 2 4) seven tt

pub skew_isolated : Isolated both_of_skew
skew_isolated = record { apart = skew_apart; stamped = skew_stamped; fresh = skew_fresh; reads = skew_reads }

-- the second read the key 1, which the first wrote with its commit between the second's stamps
pub skew_not_serial : Serial both_of_skew → ⊥
unfolding ◌∈◌ last_write
skew_not_serial serial =
    serial.at 4 (Read 1 2 1 None) refl refl 4 (inr (inr (inr (inr (inr (inr (inr (inl refl)))))))) 1 3 p (inr (inr (inr (inr (inr (inr (inl refl))))))) (λ e. absurd (omega (arith, e))) refl (omega arith) (omega arith)

-- ---- the second does not commit
pub one_serial : Serial one_of_skew
one_serial =
    let S = StoodAtCommit one_of_skew in
    let first : S (Begin 0 1 ∷ Begin 1 2 ∷ []) (Read 0 1 0 None) = λ none d committed t c value placed other wrote above below. let is = (seven_commits t c placed).0 in other is in
    let second : S (Begin 0 1 ∷ Begin 1 2 ∷ Read 0 1 0 None ∷ Write 0 1 1 p ∷ []) (Read 1 2 1 None) = λ none d committed t c value placed other wrote above below. let is = (seven_commits 2 d committed).0 in absurd (omega (arith, is)) in
    let five = at_five S (Begin 0 1) (Begin 1 2) (Read 0 1 0 None) (Write 0 1 1 p) (Read 1 2 1 None) tt tt first tt second in
    at_seven S (Begin 0 1) (Begin 1 2) (Read 0 1 0 None) (Write 0 1 1 p) (Read 1 2 1 None) (Write 1 2 0 q) (Placed 1 3) five tt tt

-- ---- a key that the reader writes
pub own_read_stands : Serial write_then_read
unfolding last_write
own_read_stands =
    at_five (StoodAtCommit write_then_read) (Write 0 1 0 p) (Write 1 2 0 q) (Read 1 2 0 (Some from_second)) (Placed 1 3) (Placed 2 4) tt tt (λ none. absurd (cc)) tt tt

pub earlier_read_falls : Serial read_then_write → ⊥
unfolding ◌∈◌ last_write
earlier_read_falls serial =
    serial.at 1 (Read 1 2 0 None) refl refl 4 (inr (inr (inr (inr (inl refl))))) 1 3 p (inr (inr (inr (inl refl)))) (λ e. absurd (omega (arith, e))) refl (omega arith) (omega arith)
