-- The maps of an indexed walk, after one more item, and what they are asked.
use Rattle.si_judge.proofs.Names.{◌≡◌, ◌≤◌, ◌<◌, ◌==◌, ◌&&◌, ℕ, Bool, true, false, cond, List, [], ◌∷◌, ◌++◌, Option}
use Rattle.si_judge.proofs.Names.{Some, None, IsSome, is_some, length, ◌⊎◌, inl, inr, refl, sym, ap, subst, ◌∙◌, arith}
use Rattle.si_judge.proofs.Names.{nat_eq, is_lt, Excluded, Unbounded, IsInRange, BTreeMap, get, is_at, eqb-true}
use Rattle.si_judge.proofs.Names.{nat_tests, same_Some, last_write, written_by, Committed, Visible, Newest, Item, Write}
use Rattle.si_judge.proofs.Names.{Version, IsOwn, IsWritten, last_write_at, pair_cmp, pair_eq, HasVersions, LastWrites}
use Rattle.si_judge.proofs.Names.{HasLastWrites, Commit, Commits, commit_of, commit_at, HasCommits}
use Rattle.std.specs.HashMap as hash
use Rattle.std.specs.declared.cmp.Ordering.TheVariants.{Less}
use Rattle.std.specs.BTreeMap.{Updates, IsEmpty}
use Rattle.si_judge.proofs.CommitLemmas.{has_committed, committed_is_held}
use Rattle.si_judge.proofs.PushLemmas.{write_here, write_stays, last_write_stays, written_is, wrote_or_none}

at_pair : (a b p q : ℕ) → is_at (pair_cmp (a, b)) (p, q) ≡ ((p == a) && (q == b))
at_pair a b p q = grind (arith, nat_tests)

both_true : (a b : Bool) → (a && b) ≡ true → (a ≡ true) × (b ≡ true)
both_true true b e = (refl, e)
both_true false b e = absurd (cc)

-- what a map has at a pair after an entry
pair_updated : {X : Type 0} (m n : BTreeMap (ℕ × ℕ) X) (a b : ℕ) (w : X) → Updates pair_cmp m n (a, b) (Some w) → (p q : ℕ) → ((p ≡ a) × (q ≡ b) × (get pair_cmp n (p, q) ≡ Some w)) ⊎ ((p ≡ a → q ≡ b → ⊥) × (get pair_cmp n (p, q) ≡ get pair_cmp m (p, q)))
pair_updated {X} m n a b w put p q = by (is_at (pair_cmp (a, b)) (p, q)) refl
  where
    by : (r : Bool) → is_at (pair_cmp (a, b)) (p, q) ≡ r → ((p ≡ a) × (q ≡ b) × (get pair_cmp n (p, q) ≡ Some w)) ⊎ ((p ≡ a → q ≡ b → ⊥) × (get pair_cmp n (p, q) ≡ get pair_cmp m (p, q)))
    by true e =
        let tests = both_true (p == a) (q == b) (sym (at_pair a b p q) ∙ e) in
        inl (eqb-true p a tests.0, eqb-true q b tests.1, put.0 (p, q) ∙ ap (λ r. cond r (Some w) (get pair_cmp m (p, q))) e)
    by false e = inr (λ one two. grind (arith, nat_tests, e, one, two), put.0 (p, q) ∙ ap (λ r. cond r (Some w) (get pair_cmp m (p, q))) e)

-- the same of a map by hash
pair_put : (m n : LastWrites) (a b : ℕ) (w : Version) → hash.Updates pair_eq m n (a, b) (Some w) → (p q : ℕ) → ((p ≡ a) × (q ≡ b) × (hash.get pair_eq n (p, q) ≡ Some w)) ⊎ ((p ≡ a → q ≡ b → ⊥) × (hash.get pair_eq n (p, q) ≡ hash.get pair_eq m (p, q)))
pair_put m n a b w put p q = by (pair_eq (a, b) (p, q)) refl
  where
    by : (r : Bool) → pair_eq (a, b) (p, q) ≡ r → ((p ≡ a) × (q ≡ b) × (hash.get pair_eq n (p, q) ≡ Some w)) ⊎ ((p ≡ a → q ≡ b → ⊥) × (hash.get pair_eq n (p, q) ≡ hash.get pair_eq m (p, q)))
    by true e =
        let tests = both_true (nat_eq a p) (nat_eq b q) e in
        inl (sym (eqb-true a p tests.0), sym (eqb-true b q tests.1), put.0 (p, q) ∙ ap (λ r. cond r (Some w) (hash.get pair_eq m (p, q))) e)
    by false e = inr (λ one two. grind (arith, nat_tests, e, one, two), put.0 (p, q) ∙ ap (λ r. cond r (Some w) (hash.get pair_eq m (p, q))) e)

-- an item that writes nothing for a committed transaction changes no version
pub versions_skip : (h part : List Item) (x : Item) (m : BTreeMap (ℕ × ℕ) Version) → ((t c k : ℕ) (v : List ℕ) → Committed h t c → written_by t k x ≡ Some v → ⊥) → HasVersions h part m → HasVersions h (part ++ x ∷ []) m
versions_skip h part x m none old = record {
  held = λ k c version e. let was = old.held k c version e in
      let not_here : written_by version.found.from k x ≡ None = wrote_or_none version.found.from k x _ (λ n. n) (λ v some. absurd (none version.found.from c k v was.0 some)) in
      (was.0, write_stays part x version.found.from k version.found.value version.place not_here was.1);
  whole = λ t c k v committed wrote.
      let not_here : written_by t k x ≡ None = wrote_or_none t k x _ (λ n. n) (λ w some. absurd (none t c k w committed some)) in
      old.whole t c k v committed (sym (last_write_stays part x t k not_here) ∙ wrote);
}

pub no_write_skips : (x : Item) → ((session t k : ℕ) (v : List ℕ) → x ≡ Write session t k v → ⊥) → (t k : ℕ) (v : List ℕ) → written_by t k x ≡ Some v → ⊥
no_write_skips x other t k v some = let is = written_is t k x v some in other is.0 t k v is.1

writer : Item → ℕ
writer (Write session t k v) = t
writer _ = 0

written_key : Item → ℕ
written_key (Write session t k v) = k
written_key _ = 0

one_writer : (s t k : ℕ) (v : List ℕ) (r u l : ℕ) (w : List ℕ) → Write s t k v ≡ Write r u l w → (t ≡ u) × (k ≡ l)
unfolding writer written_key
one_writer s t k v r u l w e = (ap writer e, ap written_key e)

-- a write of a transaction that is not committed is no version
pub open_write_skips : (h : List Item) (commits : Commits) (session u l : ℕ) (w : List ℕ) → HasCommits h (length h) commits → commit_of commits u ≡ None → (t c k : ℕ) (v : List ℕ) → Committed h t c → written_by t k (Write session u l w) ≡ Some v → ⊥
open_write_skips h commits session u l w has none t c k v committed some =
    let is = written_is t k (Write session u l w) v some in
    let same = (one_writer session u l w is.0 t k v is.1).0 in
    let held = committed_is_held h commits has t c committed in
    let clash : None ≡ Some (commit_at c held.0) = sym none ∙ ap (λ n. commit_of commits n) same ∙ held.1 in
    absurd (cc)

-- the commit of a committed transaction is one
one_of_commits : (h : List Item) (commits : Commits) (t d : ℕ) (commit : Commit) → HasCommits h (length h) commits → commit_of commits t ≡ Some commit → Committed h t d → d ≡ commit.stamp
one_of_commits h commits t d commit has there committed =
    let held = committed_is_held h commits has t d committed in
    ap (λ (c : Commit). c.stamp) (same_Some _ _ (sym held.1 ∙ there))

some_is : {X : Type 0} (o : Option X) (x : X) → o ≡ Some x → IsSome o
some_is o x e = ap is_some e

made : ℕ → ℕ → List ℕ → Version
made p t v = record { place = p; found = record { from = t; value = v } }

entered_written : (part : List Item) (session t k p : ℕ) (v : List ℕ) → length part ≡ p → written_by t k (Write session t k v) ≡ Some v → IsWritten (part ++ Write session t k v ∷ []) k (made p t v)
unfolding made
entered_written part session t k p v at wrote = subst (λ (n : ℕ). IsWritten (part ++ Write session t k v ∷ []) k (record { place = n; found = record { from = t; value = v } })) at (write_here part (Write session t k v) t k v wrote)

writes_itself : (session t k : ℕ) (v : List ℕ) → written_by t k (Write session t k v) ≡ Some v
writes_itself session t k v = grind (arith, nat_tests)

-- a write of a committed transaction takes the place of its earlier write of the key
pub versions_entered : (h part : List Item) (commits : Commits) (commit : Commit) (session t k p : ℕ) (v : List ℕ) (m n : BTreeMap (ℕ × ℕ) Version) → HasCommits h (length h) commits → commit_of commits t ≡ Some commit → length part ≡ p → Updates pair_cmp m n (k, commit.stamp) (Some (record { place = p; found = record { from = t; value = v } })) → HasVersions h part m → HasVersions h (part ++ Write session t k v ∷ []) n
unfolding made
versions_entered h part commits commit session t k p v m n has there at put old = record {
  held = λ l d version e. elim (pair_updated m n k commit.stamp (made p t v) put l d) [
    | inl here ↦
        let same : made p t v ≡ version = same_Some _ _ (sym here.2 ∙ e) in
        subst (λ (w : Version). Committed h w.found.from d × IsWritten (part ++ Write session t k v ∷ []) l w) same (
          subst (λ (a : ℕ). Committed h t a) (sym here.1) (has_committed h (length h) commits has t commit there),
          subst (λ (a : ℕ). IsWritten (part ++ Write session t k v ∷ []) a (made p t v)) (sym here.0) (entered_written part session t k p v at (writes_itself session t k v)),
        )
    | inr other ↦
        let was = old.held l d version (sym other.1 ∙ e) in
        let not_here : written_by version.found.from l (Write session t k v) ≡ None = wrote_or_none version.found.from l (Write session t k v) _ (λ none. none) (λ w some.
        let is = written_is version.found.from l (Write session t k v) w some in
        let same = one_writer session t k v is.0 version.found.from l w is.1 in
        absurd (other.0 (sym same.1) (one_of_commits h commits t d commit has there (subst (λ (a : ℕ). Committed h a d) (sym same.0) was.0)))) in
        (was.0, write_stays part (Write session t k v) version.found.from l version.found.value version.place not_here was.1)
  ];
  whole = λ u d l w committed wrote. elim (pair_updated m n k commit.stamp (made p t v) put l d) [
    | inl here ↦ some_is _ _ here.2
    | inr other ↦
        let not_here : written_by u l (Write session t k v) ≡ None = wrote_or_none u l (Write session t k v) _ (λ none. none) (λ z some.
        let is = written_is u l (Write session t k v) z some in
        let same = one_writer session t k v is.0 u l z is.1 in
        absurd (other.0 (sym same.1) (one_of_commits h commits t d commit has there (subst (λ (a : ℕ). Committed h a d) (sym same.0) committed)))) in
        subst (λ (o : Option Version). IsSome o) (sym other.1) (old.whole u d l w committed (sym (last_write_stays part (Write session t k v) u l not_here) ∙ wrote))
  ];
}

pub versions_empty : (h : List Item) (m : BTreeMap (ℕ × ℕ) Version) → IsEmpty m → HasVersions h [] m
unfolding last_write
versions_empty h m empty = record {
  held = λ k c version e. let none : get pair_cmp m (k, c) ≡ None = rw empty refl in let clash : None ≡ Some version = sym none ∙ e in absurd (cc);
  whole = λ t c k v committed wrote. absurd (cc);
}

none_some : {X : Type 0} (o : Option X) → o ≡ None → IsSome o → ⊥
none_some o none some = cc

pair_below : (k c s : ℕ) → c < s → pair_cmp (k, c) (k, s) ≡ Less
pair_below k c s less = grind (arith, nat_tests)

-- with no version below the place nothing is visible
pub none_below : (h : List Item) (s k : ℕ) (m : BTreeMap (ℕ × ℕ) Version) → HasVersions h h m → ((q : ℕ × ℕ) → IsInRange pair_cmp Unbounded (Excluded (k, s)) q → get pair_cmp m q ≡ None) → Visible h s k None
none_below h s k m has none = λ t c candidate. none_some _ (none (k, c) (tt, pair_below k c s candidate.below)) (has.whole t c k candidate.wrote.0 candidate.committed candidate.wrote.1)

-- the greatest entry below the place, by key and commit
pub record IsLastBelow (m : BTreeMap (ℕ × ℕ) Version) (s k l c : ℕ) (version : Version) : Type 0 where
  pub there : get pair_cmp m (l, c) ≡ Some version
  pub below : pair_cmp (l, c) (k, s) ≡ Less
  pub last : (q : ℕ × ℕ) → pair_cmp q (k, s) ≡ Less → IsSome (get pair_cmp m q) → is_lt (pair_cmp (l, c) q) ≡ false

commit_below : (k c s : ℕ) → pair_cmp (k, c) (k, s) ≡ Less → c < s
commit_below k c s e = grind (arith, nat_tests, e)

not_above : (k c d : ℕ) → is_lt (pair_cmp (k, c) (k, d)) ≡ false → d ≤ c
not_above k c d e = grind (arith, nat_tests, e)

-- where it is of the key, it is the newest
pub last_newest : (h : List Item) (s k l c : ℕ) (version : Version) (m : BTreeMap (ℕ × ℕ) Version) → HasVersions h h m → IsLastBelow m s k l c version → l ≡ k → Newest h s k version.found × IsWritten h k version
last_newest h s k l c version m has is same =
    let at : IsLastBelow m s k k c version = subst (λ (a : ℕ). IsLastBelow m s k a c version) same is in
    let was = has.held k c version at.there in
    let value = last_write_at h version.found.from k version.found.value version.place was.1 in (
      record {
        commit = c;
        candidate = record { committed = was.0; below = commit_below k c s at.below; wrote = (version.found.value, value) };
        value = value;
        greatest = λ t d candidate. not_above k c d (at.last (k, d) (pair_below k d s candidate.below) (has.whole t d k candidate.wrote.0 candidate.committed candidate.wrote.1));
      },
      was.1,
    )

lesser_key : (l c k s d : ℕ) → (l ≡ k → ⊥) → pair_cmp (l, c) (k, s) ≡ Less → is_lt (pair_cmp (l, c) (k, d)) ≡ false → ⊥
lesser_key l c k s d other less e = grind (arith, nat_tests, less, e)

-- where it is of another key, nothing is visible
pub last_other : (h : List Item) (s k l c : ℕ) (version : Version) (m : BTreeMap (ℕ × ℕ) Version) → HasVersions h h m → IsLastBelow m s k l c version → (l ≡ k → ⊥) → Visible h s k None
last_other h s k l c version m has is other = λ t d candidate.
    lesser_key l c k s d other is.below (is.last (k, d) (pair_below k d s candidate.below) (has.whole t d k candidate.wrote.0 candidate.committed candidate.wrote.1))

-- with no items there is no last write
pub writes_empty : (m : LastWrites) → hash.IsEmpty m → HasLastWrites [] m
unfolding last_write
writes_empty m empty = λ t k. rw empty refl

own_stays : (part : List Item) (x : Item) (t k : ℕ) (own : Option Version) → written_by t k x ≡ None → IsOwn part t k own → IsOwn (part ++ x ∷ []) t k own
own_stays part x t k None none old = last_write_stays part x t k none ∙ old
own_stays part x t k (Some version) none old =
    (old.0, write_stays part x version.found.from k version.found.value version.place (ap (λ n. written_by n k x) old.0 ∙ none) old.1)

-- an item that writes nothing leaves the last writes
pub writes_skip : (part : List Item) (x : Item) (m : LastWrites) → ((t k : ℕ) (v : List ℕ) → written_by t k x ≡ Some v → ⊥) → HasLastWrites part m → HasLastWrites (part ++ x ∷ []) m
writes_skip part x m none old = λ t k. own_stays part x t k _ (wrote_or_none t k x _ (λ n. n) (λ v some. absurd (none t k v some))) (old t k)

-- a write is its transaction's last at its key
pub writes_entered : (part : List Item) (session t k p : ℕ) (v : List ℕ) (m n : LastWrites) → length part ≡ p → hash.Updates pair_eq m n (t, k) (Some (record { place = p; found = record { from = t; value = v } })) → HasLastWrites part m → HasLastWrites (part ++ Write session t k v ∷ []) n
unfolding made
writes_entered part session t k p v m n at put old = λ u l. elim (pair_put m n t k (made p t v) put u l) [
  | inl here ↦ subst (λ (o : Option Version). IsOwn (part ++ Write session t k v ∷ []) u l o) (sym here.2)
      (sym here.0, subst (λ (a : ℕ). IsWritten (part ++ Write session t k v ∷ []) a (made p t v)) (sym here.1) (entered_written part session t k p v at (writes_itself session t k v)))
  | inr other ↦ subst (λ (o : Option Version). IsOwn (part ++ Write session t k v ∷ []) u l o) (sym other.1)
      (own_stays part (Write session t k v) u l _ (wrote_or_none u l (Write session t k v) _ (λ none. none) (λ z some.
      let is = written_is u l (Write session t k v) z some in
      let same = one_writer session t k v is.0 u l z is.1 in
      absurd (other.0 (sym same.0) (sym same.1)))) (old u l))
]
