-- What is recorded in a term was drawn in it, for a transaction that wrote the key.
use Rattle.cause_laws.proofs.Names.{◌≡◌, ℕ, zero, suc, List, [], ◌∷◌, Some, ◌⊎◌, inl, inr, refl, sym, ◌∙◌, ap, subst}
use Rattle.cause_laws.proofs.Names.{arith, Contains, cases_eq, Contains-append_cases, ◌∈◌, Item, Draw, pair_of}
use Rattle.cause_laws.proofs.Names.{pairs_of, place_of, last_commit, IsRecordedAt, CommitDrawn, written_keys}
use Rattle.cause_laws.proofs.Names.{recorded_by, recorded_in, recorded, recorded_by_own, recorded_by_other}
use Rattle.system_parts.specs.declared.buckets.Recorded.{Recorded}
use Rattle.system_parts.proofs.LastCommits.{contains_later, last_commit_recorded}

-- a pair of a commit has the commit, and one of its keys
unpaired : (keys : List ℕ) (commit : ℕ) (pair : Recorded) → Contains (pairs_of keys commit) pair → (pair.commit ≡ commit) × Contains keys pair.key
unpaired [] commit pair (k, within, e) = absurd (omega (arith, within))
unpaired (key ∷ keys) commit pair (zero, within, e) = (sym (ap (λ (p : Recorded). p.commit) e), (zero, omega arith, ap (λ (p : Recorded). p.key) e))
unpaired (key ∷ keys) commit pair (suc k, within, e) =
    let rest = unpaired keys commit pair (k, omega (arith, within), e) in
    (rest.0, contains_later key keys pair.key rest.1)

-- a draw in the term that recorded the pair
pub record DrawnPair (h : List Item) (term : ℕ) (pair : Recorded) (xs : List Item) : Type 0 where
  pub session : ℕ
  pub node : ℕ
  pub writer : ℕ
  pub drawn : Draw session node term writer (Some pair.commit) ∈ xs
  pub wrote : Contains (written_keys h writer) pair.key

nothing_in : {X : Type 0} (x : X) → Contains [] x → ⊥
nothing_in x (k, within, e) = omega (arith, within)

by_item : (h : List Item) (term : ℕ) (x : Item) (pair : Recorded) → Contains (recorded_by h term x) pair → DrawnPair h term pair (x ∷ [])
unfolding ◌∈◌
by_item h term (Draw s n drawn t (Some c)) pair has = elim (cases_eq drawn term) [
  | inl same ↦
      let own : Contains (pairs_of (written_keys h t) c) pair = subst (λ ps. Contains ps pair) (ap (λ d. recorded_by h term (Draw s n d t (Some c))) same ∙ recorded_by_own h s n term t c) has in
      let is = unpaired (written_keys h t) c pair own in
      record {
        session = s;
        node = n;
        writer = t;
        drawn = inl (ap (λ d. Draw s n term t (Some d)) is.0 ∙ ap (λ d. Draw s n d t (Some c)) (sym same));
        wrote = is.1;
      }
  | inr other ↦ absurd (nothing_in pair (subst (λ ps. Contains ps pair) (recorded_by_other h s n drawn term t c other) has))
]
by_item h term _ pair has = absurd (nothing_in pair has)

longer : (h : List Item) (term : ℕ) (pair : Recorded) (x : Item) (xs : List Item) → DrawnPair h term pair (x ∷ []) ⊎ DrawnPair h term pair xs → DrawnPair h term pair (x ∷ xs)
unfolding ◌∈◌
longer h term pair x xs (inl now) = record {
  session = now.session;
  node = now.node;
  writer = now.writer;
  drawn = elim now.drawn [ inl is ↦ inl is | inr none ↦ absurd none ];
  wrote = now.wrote;
}
longer h term pair x xs (inr later) = record { session = later.session; node = later.node; writer = later.writer; drawn = inr later.drawn; wrote = later.wrote }

in_items : (h : List Item) (term : ℕ) (xs : List Item) (pair : Recorded) → Contains (recorded_in h term xs) pair → DrawnPair h term pair xs
unfolding recorded_in
in_items h term [] pair has = absurd (nothing_in pair has)
in_items h term (x ∷ xs) pair has = elim (Contains-append_cases (recorded_by h term x) (recorded_in h term xs) pair has) [
  | inl now ↦ longer h term pair x xs (inl (by_item h term x pair now))
  | inr later ↦ longer h term pair x xs (inr (in_items h term xs pair later))
]

pub drawn_pair : (h : List Item) (term : ℕ) (pair : Recorded) → Contains (recorded h term) pair → DrawnPair h term pair h
drawn_pair h term pair has = in_items h term h pair has

-- the last commit of a key was drawn for a transaction that wrote it
pub last_drawn : (h : List Item) (term key commit : ℕ) → last_commit (recorded h term) key ≡ Some commit → DrawnPair h term (pair_of commit key) h
last_drawn h term key commit last = drawn_pair h term (pair_of commit key) (last_commit_recorded (recorded h term) key commit last)

-- a commit that is recorded at a place is that of a pair there
recorded_pair : (count place : ℕ) (pairs : List Recorded) (commit : ℕ) → IsRecordedAt count place pairs commit → (pair : Recorded) × Contains pairs pair × (place_of count pair.key ≡ place) × (pair.commit ≡ commit)
unfolding IsRecordedAt
recorded_pair count place [] commit is = absurd is
recorded_pair count place (pair ∷ later) commit (inl here) = (pair, (zero, omega arith, refl), here.0, here.1)
recorded_pair count place (pair ∷ later) commit (inr there) =
    let rest = recorded_pair count place later commit there in
    (rest.0, contains_later pair later rest.0 rest.1, rest.2, rest.3)

-- so it was drawn for a transaction that wrote a key of the bucket
pub record DrawnAt (h : List Item) (term count place commit : ℕ) : Type 0 where
  pub writer : ℕ
  pub drawn : CommitDrawn h term writer commit
  pub other : ℕ
  pub wrote : Contains (written_keys h writer) other
  pub there : place_of count other ≡ place

pub drawn_at : (h : List Item) (term count place commit : ℕ) → IsRecordedAt count place (recorded h term) commit → DrawnAt h term count place commit
drawn_at h term count place commit is =
    let at = recorded_pair count place (recorded h term) commit is in
    let from = drawn_pair h term at.0 at.1 in
    record {
      writer = from.writer;
      drawn = (from.session, from.node, subst (λ c. Draw from.session from.node term from.writer (Some c) ∈ h) at.3 from.drawn);
      other = at.0.key;
      wrote = from.wrote;
      there = at.2;
    }
