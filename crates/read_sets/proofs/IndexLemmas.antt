-- What an index holds after one more item, and what it tells of a read.
use Rattle.std.proofs.Common.{◌≡◌, ◌≢◌, ◌<◌, ◌≤◌, ◌+◌, ◌||◌, ◌==◌, ◌⊎◌, ℕ, Bool, true, false, List, [], ◌∷◌, ◌++◌, is_some, inl, inr, refl, sym, ap, subst, ◌∙◌, arith}
use Rattle.std.specs.Prelude.{Result, Ok, Err, OnOk}
use Rattle.std.specs.BTreeSet.{contains, keys_between, Updates, IsEmpty}
use Rattle.std.specs.declared.ops.Bound.TheVariants.{Included, Excluded}
use Rattle.std.specs.List.{list_any}
use Rattle.std.proofs.lemmas.Bool.{or_cases, eqb-true}
use Rattle.std.proofs.lemmas.List.Folds.{list_any-append}
use Rattle.history_book.specs.Members.{◌∈◌}
use Rattle.history_book.specs.declared.item.Item.{Item}
use Rattle.history_book.specs.declared.item.Item.TheVariants.{Write, Placed}
use Rattle.history_book.proofs.MemberLemmas.{in_push}
use Rattle.isolation_rules.specs.ApartPairs.{writes}
use Rattle.isolation_rules.proofs.KeyLemmas.{any_writes, and_parts}
use Rattle.read_sets.specs.declared.index.Index.{Index}
use Rattle.read_sets.specs.Crossings.{StoodFor}
use Rattle.read_sets.specs.Index.{Pairs, Triples, HasPair, HasTriple, HasPlaced, AreEntered, IsIndexBut, IsIndexOf, EntersKey, KeepsTriples, pair_cmp, triple_cmp}
use Rattle.read_sets.proofs.CrossingLemmas.{placed_same}
use Rattle.read_sets.proofs.SetLemmas.{exact_pair, exact_triple, in_between, own_within, crossing_within, set_kept, pair_gained, come_or_gone, none_left}

-- ---- commits
pub placed_none : (placed : Pairs) → HasPlaced [] placed
unfolding ◌∈◌
placed_none placed = λ t c m. absurd m

pub placed_noted : (part : List Item) (x : Item) (t c : ℕ) (m n : Pairs) → x ≡ Placed t c → Updates pair_cmp m n (t, c) true → HasPlaced part m → HasPlaced (part ++ x ∷ []) n
placed_noted part x t c m n is put old = λ u d committed. elim (in_push (Placed u d) x part committed) [
  | inl before ↦ set_kept pair_cmp m n (t, c) (u, d) put (old u d before)
  | inr here ↦
      let same = placed_same u d t c (here ∙ is) in
      let there : HasPair n t c = put.1 in
      subst (λ (v : ℕ). HasPair n v d) (sym same.0) (subst (λ (e : ℕ). HasPair n t e) (sym same.1) there)
]

pub placed_skip : (part : List Item) (x : Item) (m : Pairs) → ((t c : ℕ) → x ≡ Placed t c → ⊥) → HasPlaced part m → HasPlaced (part ++ x ∷ []) m
placed_skip part x m other old = λ t c committed. elim (in_push (Placed t c) x part committed) [
  | inl before ↦ old t c before
  | inr here ↦ absurd (other t c (sym here))
]

-- ---- the commits of a written key
-- the commits of a transaction, as the set of all commits has them
abbrev pub own_commits : Pairs → ℕ → List (ℕ × ℕ)
own_commits placed t = keys_between pair_cmp (Included (t, 0)) (Excluded (t + 1, 0)) placed

-- each commit of the part is still to come, or entered at the key
pub record IsEnteredBut (part left : List (ℕ × ℕ)) (k t : ℕ) (commits : Triples) : Type 0 where
  pub at : (q : ℕ × ℕ) → q ∈ part → (q ∈ left) ⊎ HasTriple commits k q.1 t

pub one_entered : (part left rest : List (ℕ × ℕ)) (x : ℕ × ℕ) (k t : ℕ) (old new : Triples) → IsEnteredBut part left k t old → left ≡ x ∷ rest → Updates triple_cmp old new (k, x.1, t) true → IsEnteredBut part rest k t new
one_entered part left rest x k t old new but first put = record {
  at = λ q m. elim (but.at q m) [
    | inl here ↦ elim (come_or_gone q x rest (subst (λ (qs : List (ℕ × ℕ)). q ∈ qs) first here)) [
      | inl same ↦ let there : HasTriple new k x.1 t = put.1 in inr (subst (λ (y : ℕ × ℕ). HasTriple new k y.1 t) (sym same) there)
      | inr later ↦ inl later
    ]
    | inr was ↦ inr (set_kept triple_cmp old new (k, x.1, t) (k, q.1, t) put was)
  ];
}

pub all_entered : (placed : Pairs) (left : List (ℕ × ℕ)) (k t : ℕ) (commits : Triples) → left ≡ [] → IsEnteredBut (own_commits placed t) left k t commits → (c : ℕ) → HasPair placed t c → HasTriple commits k c t
all_entered placed left k t commits end but = λ c has.
    elim (but.at (t, c) (in_between pair_cmp exact_pair (Included (t, 0)) (Excluded (t + 1, 0)) placed (t, c) has (own_within t c))) [
      | inl m ↦ absurd (none_left (t, c) (subst (λ (qs : List (ℕ × ℕ)). (t, c) ∈ qs) end m))
      | inr there ↦ there
    ]

pub keeps_none : (commits : Triples) → KeepsTriples commits commits
keeps_none commits = λ a b c has. has

pub keeps_both : (x y z : Triples) → KeepsTriples x y → KeepsTriples y z → KeepsTriples x z
keeps_both x y z first second = λ a b c has. second a b c (first a b c has)

-- ---- a key is written
pub on_ok : {A E P Q : Type 0} (r : Result A E) → (P → Q) → OnOk r P → OnOk r Q
on_ok (Ok v) f p = f p
on_ok (Err e) f p = tt

pub index_begun : (h : List Item) (placed written : Pairs) (commits : Triples) (index : Index) → index ≡ record { placed = placed; written = written; commits = commits } → HasPlaced h placed → IsEmpty written → IsIndexBut h [] index
index_begun h placed written commits index is has empty = subst (λ (i : Index). IsIndexBut h [] i) (sym is) (record {
  placed = has;
  written = λ t k some. absurd (cc);
  entered = λ t k c there placed_at. let none : contains pair_cmp written (t, k) ≡ false = rw empty refl in absurd (cc);
})

at_pair : (t k u l c : ℕ) (commits : Triples) → u ≡ t → l ≡ k → HasTriple commits k c t → HasTriple commits l c u
at_pair t k u l c commits writer key has = subst (λ (n : ℕ). HasTriple commits n c u) (sym key) (subst (λ (n : ℕ). HasTriple commits k c n) (sym writer) has)

-- for the first time
pub entered_new : (placed w v : Pairs) (old new : Triples) (t k : ℕ) → Updates pair_cmp w v (t, k) true → ((c : ℕ) → HasPair placed t c → HasTriple new k c t) → KeepsTriples old new → AreEntered w placed old → AreEntered v placed new
entered_new placed w v old new t k put commits keeps was = λ u l c written placed_at. elim (pair_gained w v t k put u l written) [
  | inl before ↦ keeps l c u (was u l c before placed_at)
  | inr same ↦ at_pair t k u l c new same.0 same.1 (commits c (subst (λ (n : ℕ). HasPair placed n c) same.0 placed_at))
]

-- once more
pub entered_again : (placed w v : Pairs) (commits : Triples) (t k : ℕ) → Updates pair_cmp w v (t, k) true → HasPair w t k → AreEntered w placed commits → AreEntered v placed commits
entered_again placed w v commits t k put there was = λ u l c written placed_at. elim (pair_gained w v t k put u l written) [
  | inl before ↦ was u l c before placed_at
  | inr same ↦ at_pair t k u l c commits same.0 same.1 (was t k c there (subst (λ (n : ℕ). HasPair placed n c) same.0 placed_at))
]

or_false : (a : Bool) → (a || false) ≡ a
or_false true = refl
or_false false = refl

any_push : (part : List Item) (x : Item) (t k : ℕ) → list_any (λ y. writes t k y) (part ++ x ∷ []) ≡ (list_any (λ y. writes t k y) part || writes t k x)
any_push part x t k = list_any-append (λ y. writes t k y) part (x ∷ []) ∙ ap (λ b. list_any (λ y. writes t k y) part || b) (or_false (writes t k x))

writes_pair : (session t k : ℕ) (v : List ℕ) (u l : ℕ) → writes u l (Write session t k v) ≡ true → (u ≡ t) × (l ≡ k)
writes_pair session t k v u l e = let parts = and_parts (t == u) (k == l) e in (sym (eqb-true t u parts.0), sym (eqb-true k l parts.1))

pub write_passed : (h part : List Item) (x : Item) (session t k : ℕ) (v : List ℕ) (old new : Index) → x ≡ Write session t k v → EntersKey old new t k → IsIndexBut h part old → IsIndexBut h (part ++ x ∷ []) new
write_passed h part x session t k v old new is enters was = record {
  placed = subst (λ (p : Pairs). HasPlaced h p) (sym enters.placed) was.placed;
  written = λ u l some. elim (or_cases _ (writes u l x) (sym (any_push part x u l) ∙ some)) [
    | inl before ↦ enters.kept u l (was.written u l before)
    | inr here ↦
        let same = writes_pair session t k v u l (sym (ap (λ y. writes u l y) is) ∙ here) in
        subst (λ (n : ℕ). HasPair new.written n l) (sym same.0) (subst (λ (n : ℕ). HasPair new.written t n) (sym same.1) enters.there)
  ];
  entered = enters.entered was.entered;
}

no_write : (x : Item) → ((session t k : ℕ) (v : List ℕ) → x ≡ Write session t k v → ⊥) → (u l : ℕ) → writes u l x ≡ true → ⊥
no_write (Write session t k v) other u l e = other session t k v refl
no_write _ other u l e = absurd (cc)

pub other_passed : (h part : List Item) (x : Item) (index : Index) → ((session t k : ℕ) (v : List ℕ) → x ≡ Write session t k v → ⊥) → IsIndexBut h part index → IsIndexBut h (part ++ x ∷ []) index
other_passed h part x index other was = record {
  placed = was.placed;
  written = λ u l some. elim (or_cases _ (writes u l x) (sym (any_push part x u l) ∙ some)) [
    | inl before ↦ was.written u l before
    | inr here ↦ absurd (no_write x other u l here)
  ];
  entered = was.entered;
}

-- ---- what the index tells
pub not_written : (h : List Item) (index : Index) (t k : ℕ) → IsIndexOf h index → contains pair_cmp index.written (t, k) ≡ false → list_any (λ x. writes t k x) h ≡ false
not_written h index t k is off = by (list_any (λ x. writes t k x) h) refl
  where
    by : (r : Bool) → list_any (λ x. writes t k x) h ≡ r → r ≡ false
    by true e = let has = is.written t k e in absurd (cc)
    by false e = refl

pub no_commit_stands : (h : List Item) (index : Index) (s k : ℕ) → IsIndexOf h index → ((c : ℕ) → HasPair index.placed s c → ⊥) → StoodFor h s k
no_commit_stands h index s k is none = λ d committed. absurd (none d (is.placed s d committed))

pub uncrossed_stands : (h : List Item) (index : Index) (s k last : ℕ) → IsIndexOf h index → ((c : ℕ) → HasPair index.placed s c → c ≤ last) → ((t c : ℕ) → t ≢ s → s < c → c < last → HasTriple index.commits k c t → ⊥) → StoodFor h s k
uncrossed_stands h index s k last is greatest none = λ d committed t c value placed other wrote above below.
    let most = greatest d (is.placed s d committed) in
    none t c other above (omega (arith, below, most)) (is.entered t k c (is.written t k (any_writes h t k ∙ ap is_some wrote)) (is.placed t c placed))

-- ---- a walk over the commits of a key
abbrev pub between_stamps : Triples → ℕ → ℕ → ℕ → ℕ → List (ℕ × ℕ × ℕ)
between_stamps commits k s d most = keys_between triple_cmp (Excluded (k, s, most)) (Excluded (k, d, 0)) commits

-- each commit of the part is still to come, or the reader's own
pub record IsOwnBut (part left : List (ℕ × ℕ × ℕ)) (s : ℕ) : Type 0 where
  pub at : (q : ℕ × ℕ × ℕ) → q ∈ part → (q ∈ left) ⊎ (q.2 ≡ s)

pub none_own : (part left : List (ℕ × ℕ × ℕ)) (s : ℕ) → left ≡ part → IsOwnBut part left s
none_own part left s same = record { at = λ q m. inl (subst (λ (qs : List (ℕ × ℕ × ℕ)). q ∈ qs) (sym same) m) }

pub one_own : (part left rest : List (ℕ × ℕ × ℕ)) (x : ℕ × ℕ × ℕ) (s : ℕ) → IsOwnBut part left s → left ≡ x ∷ rest → x.2 ≡ s → IsOwnBut part rest s
one_own part left rest x s but first own = record {
  at = λ q m. elim (but.at q m) [
    | inl here ↦ elim (come_or_gone q x rest (subst (λ (qs : List (ℕ × ℕ × ℕ)). q ∈ qs) first here)) [
      | inl same ↦ inr (ap (λ (y : ℕ × ℕ × ℕ). y.2) same ∙ own)
      | inr later ↦ inl later
    ]
    | inr was ↦ inr was
  ];
}

pub all_own : (commits : Triples) (left : List (ℕ × ℕ × ℕ)) (k s d most : ℕ) → left ≡ [] → IsOwnBut (between_stamps commits k s d most) left s → (t c : ℕ) → t ≢ s → s < c → c < d → HasTriple commits k c t → ⊥
all_own commits left k s d most end but = λ t c other above below has.
    elim (but.at (k, c, t) (in_between triple_cmp exact_triple (Excluded (k, s, most)) (Excluded (k, d, 0)) commits (k, c, t) has (crossing_within k s d most c t above below))) [
      | inl m ↦ none_left (k, c, t) (subst (λ (qs : List (ℕ × ℕ × ℕ)). (k, c, t) ∈ qs) end m)
      | inr own ↦ other own
    ]

-- ---- the same by the numbers of stamps and keys
pub enters_at : (old new : Index) (t k a b : ℕ) → a ≡ t → b ≡ k → EntersKey old new a b → EntersKey old new t k
enters_at old new t k a b writer key enters = subst (λ (n : ℕ). EntersKey old new n k) writer (subst (λ (n : ℕ). EntersKey old new a n) key enters)

pub stood_at : (h : List Item) (s k a b : ℕ) → a ≡ s → b ≡ k → StoodFor h a b → StoodFor h s k
stood_at h s k a b reader key stood = subst (λ (n : ℕ). StoodFor h n k) reader (subst (λ (n : ℕ). StoodFor h a n) key stood)

pub updates_at : (m n : Pairs) (t k a b : ℕ) → a ≡ t → b ≡ k → Updates pair_cmp m n (a, b) true → Updates pair_cmp m n (t, k) true
updates_at m n t k a b first second put = subst (λ (i : ℕ). Updates pair_cmp m n (i, k) true) first (subst (λ (i : ℕ). Updates pair_cmp m n (a, i) true) second put)
