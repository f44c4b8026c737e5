-- For cause_laws too.
-- The pairs that the commits drawn in a term record: each key that was written is among them, and commits rise.
use Rattle.isolation_laws.proofs.Names.{◌≡◌, ◌≢◌, ℕ, zero, suc, ◌≤◌, ◌==◌, true, List, [], ◌∷◌, ◌++◌, take, Option}
use Rattle.isolation_laws.proofs.Names.{Some, None, inl, inr, refl, sym, ◌∙◌, ap, subst, arith, All, Contains}
use Rattle.isolation_laws.proofs.Names.{option_or, cases_Bool, cases_eq, eqb-true, eq-eqb, All-nil, All-append, All-map}
use Rattle.isolation_laws.proofs.Names.{Contains-append_left, Contains-append_right, Contains-push, none-some, ◌∈◌}
use Rattle.isolation_laws.proofs.Names.{AtEach, Wrote, last_write, written_by, Item, Draw, Write, has_key, key_added}
use Rattle.isolation_laws.proofs.Names.{pair_of, pairs_of, CommitsRise, NotAfter, rise_tail, rise_head, DrewCommit}
use Rattle.isolation_laws.proofs.Names.{keys_with, keys_from, written_keys, recorded_by, recorded_in, recorded}
use Rattle.isolation_laws.proofs.Names.{IsNewDraw, AreNewDraws}
use Rattle.std.proofs.lemmas.List.Kept.{AllPairs-cons}
use Rattle.system_parts.specs.declared.buckets.Recorded.{Recorded}
use Rattle.isolation_laws.proofs.OnceEach.{place_of}

-- ---- written keys
further : {X : Type 0} (first : X) (xs : List X) (x : X) → Contains xs x → Contains (first ∷ xs) x
further first xs x (k, within, e) = (suc k, omega (arith, within), e)

has_there : (keys : List ℕ) (key : ℕ) → has_key keys key ≡ true → Contains keys key
has_there [] key has = absurd (cc)
has_there (first ∷ keys) key has = elim (cases_Bool (first == key)) [
  | inl is ↦ (zero, omega arith, eqb-true first key is)
  | inr not_it ↦ let more : has_key keys key ≡ true = rw not_it at has in further first keys key (has_there keys key more)
]

pub added_there : (keys : List ℕ) (key : ℕ) → Contains (key_added keys key) key
added_there keys key = elim (cases_Bool (has_key keys key)) [
  | inl there ↦ rw there (has_there keys key there)
  | inr new ↦ rw new (Contains-push keys key)
]

pub added_keeps : (keys : List ℕ) (key other : ℕ) → Contains keys other → Contains (key_added keys key) other
added_keeps keys key other has = elim (cases_Bool (has_key keys key)) [
  | inl there ↦ rw there has
  | inr new ↦ rw new (Contains-append_left keys (key ∷ []) other has)
]

with_keeps : (keys : List ℕ) (t : ℕ) (x : Item) (key : ℕ) → Contains keys key → Contains (keys_with keys t x) key
with_keeps keys t (Write s u k value) key has = elim (cases_Bool (u == t)) [
  | inl own ↦ rw own (added_keeps keys k key has)
  | inr other ↦ rw other has
]
with_keeps keys t _ key has = has

from_keeps : (keys : List ℕ) (t : ℕ) (xs : List Item) (key : ℕ) → Contains keys key → Contains (keys_from keys t xs) key
unfolding keys_from
from_keeps keys t [] key has = has
from_keeps keys t (x ∷ xs) key has = from_keeps (keys_with keys t x) t xs key (with_keeps keys t x key has)

-- what the item writes is among the keys behind it
with_written : (keys : List ℕ) (t key : ℕ) (x : Item) (value : List ℕ) → written_by t key x ≡ Some value → Contains (keys_with keys t x) key
with_written keys t key (Write s u k v) value is = elim (cases_Bool (u == t)) [
  | inl own ↦ elim (cases_Bool (k == key)) [
    | inl same ↦ rw own (subst (λ y. Contains (key_added keys k) y) (eqb-true k key same) (added_there keys k))
    | inr other ↦ absurd (none-some value (rw (own, other) at is))
  ]
  | inr other ↦ absurd (none-some value (rw other at is))
]
with_written keys t key _ value is = absurd (none-some value is)

written_rest : (keys : List ℕ) (t key : ℕ) (x : Item) (xs : List Item) (rest : Option (List ℕ)) → ((value : List ℕ) → rest ≡ Some value → Contains (keys_from (keys_with keys t x) t xs) key) → (value : List ℕ) → option_or rest (written_by t key x) ≡ Some value → Contains (keys_from (keys_with keys t x) t xs) key
written_rest keys t key x xs None later value now = from_keeps (keys_with keys t x) t xs key (with_written keys t key x value now)
written_rest keys t key x xs (Some last) later value now = later last refl

from_written : (keys : List ℕ) (t key : ℕ) (xs : List Item) (value : List ℕ) → last_write xs t key ≡ Some value → Contains (keys_from keys t xs) key
unfolding keys_from last_write
from_written keys t key [] value wrote = absurd (none-some value wrote)
from_written keys t key (x ∷ xs) value wrote = written_rest keys t key x xs (last_write xs t key) (from_written (keys_with keys t x) t key xs) value wrote

pub wrote_key : (h : List Item) (t key : ℕ) (value : List ℕ) → Wrote h t key value → Contains (written_keys h t) key
wrote_key h t key value wrote = from_written [] t key h value wrote

-- ---- the commit of a draw is recorded for each of its keys
paired : (keys : List ℕ) (commit key : ℕ) → Contains keys key → Contains (pairs_of keys commit) (pair_of commit key)
paired [] commit key (k, within, e) = absurd (omega (arith, within))
paired (first ∷ keys) commit key (zero, within, e) = (zero, omega arith, ap (pair_of commit) e)
paired (first ∷ keys) commit key (suc k, within, e) = further (pair_of commit first) (pairs_of keys commit) (pair_of commit key) (paired keys commit key (k, omega (arith, within), e))

pub recorded_by_own : (h : List Item) (s n term t c : ℕ) → recorded_by h term (Draw s n term t (Some c)) ≡ pairs_of (written_keys h t) c
recorded_by_own h s n term t c = rw (eq-eqb term term refl) refl

pub recorded_by_other : (h : List Item) (s n drawn term t c : ℕ) → drawn ≢ term → recorded_by h term (Draw s n drawn t (Some c)) ≡ []
recorded_by_other h s n drawn term t c other = elim (cases_Bool (drawn == term)) [
  | inl same ↦ absurd (other (eqb-true drawn term same))
  | inr different ↦ rw different refl
]

recorded_has : (h : List Item) (s n term t c key : ℕ) (xs : List Item) → Draw s n term t (Some c) ∈ xs → Contains (written_keys h t) key → Contains (recorded_in h term xs) (pair_of c key)
unfolding ◌∈◌ recorded_in
recorded_has h s n term t c key [] drew has = absurd drew
recorded_has h s n term t c key (x ∷ xs) drew has = elim drew [
  | inl here ↦ Contains-append_left (recorded_by h term x) (recorded_in h term xs) (pair_of c key)
      (subst (λ ps. Contains ps (pair_of c key)) (sym (recorded_by_own h s n term t c) ∙ ap (recorded_by h term) here) (paired (written_keys h t) c key has))
  | inr later ↦ Contains-append_right (recorded_by h term x) (recorded_in h term xs) (pair_of c key) (recorded_has h s n term t c key xs later has)
]

pub recorded_contains : (h : List Item) (s n term t c key : ℕ) (value : List ℕ) → DrewCommit h s n term t c → Wrote h t key value → Contains (recorded h term) (pair_of c key)
recorded_contains h s n term t c key value drew wrote = recorded_has h s n term t c key h drew (wrote_key h t key value wrote)

-- ---- commits rise
rise_append : (a b : List Recorded) → CommitsRise a → CommitsRise b → All (λ x. All (NotAfter x) b) a → CommitsRise (a ++ b)
rise_append [] b first second between = second
rise_append (x ∷ a) b first second between =
    AllPairs-cons NotAfter x (a ++ b) (All-append (NotAfter x) a b (rise_head x a first) (between 0 x (omega arith)))
    (rise_append a b (rise_tail x a first) second (λ k d lt. between (suc k) d (omega (arith, lt))))

rise_one : (keys : List ℕ) (commit : ℕ) → CommitsRise (pairs_of keys commit)
rise_one [] commit = λ i j d lt within. absurd (omega (arith, within))
rise_one (key ∷ keys) commit = AllPairs-cons NotAfter (pair_of commit key) (pairs_of keys commit) (All-map (NotAfter (pair_of commit key)) (pair_of commit) keys (λ k d lt. omega arith)) (rise_one keys commit)

-- of draws in a term, the one is not above the other
abbrev InOrder : ℕ → Item → Item → Type 0
InOrder term x y = (s n t c r m u d : ℕ) → x ≡ Draw s n term t (Some c) → y ≡ Draw r m term u (Some d) → c ≤ d

-- every pair that the item records is of its commit
by_is : (h : List Item) (term : ℕ) (x : Item) (P : Recorded → Type 0) → ((s n t c key : ℕ) → x ≡ Draw s n term t (Some c) → P (pair_of c key)) → All P (recorded_by h term x)
by_is h term (Draw s n drawn t (Some c)) P each = elim (cases_eq drawn term) [
  | inl same ↦ subst (λ ps. All P ps) (sym (ap (λ d. recorded_by h term (Draw s n d t (Some c))) same ∙ recorded_by_own h s n term t c)) (All-map P (pair_of c) (written_keys h t) (λ k d lt. each s n t c _ (ap (λ q. Draw s n q t (Some c)) same)))
  | inr other ↦ subst (λ ps. All P ps) (sym (recorded_by_other h s n drawn term t c other)) (All-nil P)
]
by_is h term _ P each = All-nil P

in_is : (h : List Item) (term : ℕ) (xs : List Item) (P : Recorded → Type 0) → ((x : Item) → x ∈ xs → (s n t c key : ℕ) → x ≡ Draw s n term t (Some c) → P (pair_of c key)) → All P (recorded_in h term xs)
unfolding ◌∈◌ recorded_in
in_is h term [] P each = All-nil P
in_is h term (x ∷ xs) P each = All-append P (recorded_by h term x) (recorded_in h term xs) (by_is h term x P (each x (inl refl))) (in_is h term xs P (λ y m. each y (inr m)))

by_rises : (h : List Item) (term : ℕ) (x : Item) → CommitsRise (recorded_by h term x)
by_rises h term (Draw s n drawn t (Some c)) = elim (cases_eq drawn term) [
  | inl same ↦ subst (λ ps. CommitsRise ps) (sym (ap (λ d. recorded_by h term (Draw s n d t (Some c))) same ∙ recorded_by_own h s n term t c)) (rise_one (written_keys h t) c)
  | inr other ↦ subst (λ ps. CommitsRise ps) (sym (recorded_by_other h s n drawn term t c other)) (λ i j d lt within. absurd (omega (arith, within)))
]
by_rises h term _ = λ i j d lt within. absurd (omega (arith, within))

-- each place of the rest, as it stands behind a first one
each_behind : {X : Type 0} (P : List X → X → Type 0) (y : X) (ys : List X) → AtEach P (y ∷ ys) → AtEach (λ before x. P (y ∷ before) x) ys
each_behind P y ys each = record { at = λ place x found. each.at (suc place) x found }

rises_by : (h : List Item) (term : ℕ) (P : List Item → Item → Type 0) (xs : List Item) → AtEach P xs → ((before : List Item) (y x : Item) → P before y → x ∈ before → InOrder term x y) → CommitsRise (recorded_in h term xs)
unfolding ◌∈◌ recorded_in
rises_by h term P [] each orders = λ i j d lt within. absurd (omega (arith, within))
rises_by h term P (x ∷ xs) each orders =
    let rest = each_behind P x xs each in
    rise_append (recorded_by h term x) (recorded_in h term xs) (by_rises h term x)
    (rises_by h term (λ before y. P (x ∷ before) y) xs rest (λ before y z now m. orders (x ∷ before) y z now (inr m)))
    (by_is h term x (λ p. All (NotAfter p) (recorded_in h term xs)) (λ s n t c key is. in_is h term xs (NotAfter (pair_of c key)) (λ y m r o u d other drawn.
    let at = place_of y xs m in
    orders (x ∷ take at.0 xs) y x (rest.at at.0 y at.1) (inl refl) s n t c r o u d is drawn)))

new_in_order : (term : ℕ) (before : List Item) (y x : Item) → IsNewDraw before y → x ∈ before → InOrder term x y
new_in_order term before y x new m s n t c r o u d is drawn =
    let now : IsNewDraw before (Draw r o term u (Some d)) = subst (IsNewDraw before) drawn new in
    omega (arith, now.1 s n t (Some c) (subst (λ z. z ∈ before) is m))

pub recorded_rise : (h : List Item) (term : ℕ) → AreNewDraws h → CommitsRise (recorded h term)
recorded_rise h term new = rises_by h term IsNewDraw h new.each (new_in_order term)

-- nothing is recorded in a term in which no commit was drawn
abbrev IsNothing : Recorded → Type 0
IsNothing pair = ⊥

all_none : (ps : List Recorded) → All IsNothing ps → ps ≡ []
all_none [] none = refl
all_none (p ∷ ps) none = absurd (none 0 p (omega arith))

pub recorded_none : (h : List Item) (term : ℕ) → ((s n t c : ℕ) → DrewCommit h s n term t c → ⊥) → recorded h term ≡ []
recorded_none h term none = all_none (recorded h term) (in_is h term h IsNothing (λ x m s n t c key is. none s n t c (subst (λ y. y ∈ h) is m)))
