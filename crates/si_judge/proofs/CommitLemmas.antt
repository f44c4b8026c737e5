-- What a map of commits holds after one more item, and what is committed by it.
use Rattle.si_judge.proofs.Names.{◌≡◌, ◌≢◌, ◌<◌, ◌+◌, ℕ, false, List, None, Some, length, slice_get, inl, inr, refl}
use Rattle.si_judge.proofs.Names.{sym, ap, subst, ◌∙◌, arith, nat_eq, IsEmpty, cases_eq, cases_lt, nat_tests, same_Some}
use Rattle.si_judge.proofs.Names.{slice_get_within, Committed, Stamped, Item, Placed, in_at, in_take, place_of, Commit}
use Rattle.si_judge.proofs.Names.{Commits, commit_of, commit_at, NotesCommit, HasCommits}
use Rattle.std.specs.HashMap.{Updates}

off_at : (t u : ℕ) → u ≢ t → nat_eq t u ≡ false
off_at t u other = grind (arith, nat_tests)

pub commit_noted : (old new : Commits) (x : Item) (t c place : ℕ) → x ≡ Placed t c → Updates nat_eq old new t (Some (commit_at c place)) → NotesCommit old new x place
commit_noted old new x t c place is updates = subst (λ (y : Item). NotesCommit old new y place) (sym is) (updates.1, λ u other. updates.2 u (off_at t u other))

pub commits_empty : (h : List Item) (commits : Commits) → IsEmpty commits → HasCommits h 0 commits
commits_empty h commits empty = record {
  at = λ place t c less there. absurd (omega (arith, less));
  held = λ t commit there. let none : commit_of commits t ≡ None = rw empty refl in let clash : None ≡ Some commit = sym none ∙ there in absurd (cc);
}

commit_stays : (h : List Item) → Stamped h → (place : ℕ) (x : Item) (old new : Commits) → slice_get h place ≡ Some x → NotesCommit old new x place → (i t c : ℕ) → i < place → slice_get h i ≡ Some (Placed t c) → commit_of old t ≡ Some (commit_at c i) → commit_of new t ≡ Some (commit_at c i)
commit_stays h stamped place (Placed u d) old new here notes i t c before there was =
    let fresh = stamped.distinct.at place (Placed u d) here t c (in_take (Placed t c) place h i there before) in
    notes.1 t fresh.0 ∙ was
commit_stays h stamped place _ old new here notes i t c before there was = notes t ∙ was

commit_held : (h : List Item) (n place : ℕ) (x : Item) (old new : Commits) → slice_get h place ≡ Some x → HasCommits h n old → NotesCommit old new x place → (u : ℕ) (commit : Commit) → commit_of new u ≡ Some commit → slice_get h commit.place ≡ Some (Placed u commit.stamp)
commit_held h n place (Placed t c) old new here has notes u commit there = elim (cases_eq u t) [
  | inl same ↦
      let entered : commit_of new u ≡ Some (commit_at c place) = ap (λ v. commit_of new v) same ∙ notes.0 in
      let is : commit_at c place ≡ commit = same_Some _ _ (sym entered ∙ there) in
      subst (λ (d : Commit). slice_get h d.place ≡ Some (Placed u d.stamp)) is (here ∙ ap (λ v. Some (Placed v c)) (sym same))
  | inr other ↦ has.held u commit (sym (notes.1 u other) ∙ there)
]
commit_held h n place _ old new here has notes u commit there = has.held u commit (sym (notes u) ∙ there)

pub commits_more : (h : List Item) → Stamped h → (place : ℕ) (x : Item) (old new : Commits) → slice_get h place ≡ Some x → HasCommits h place old → NotesCommit old new x place → HasCommits h (place + 1) new
commits_more h stamped place x old new here has notes = record {
  at = λ i t c less there. elim (cases_lt i place) [
    | inl before ↦ commit_stays h stamped place x old new here notes i t c before there (has.at i t c before there)
    | inr more ↦
        let same : place ≡ i = omega (arith, less, more) in
        let item : x ≡ Placed t c = same_Some _ _ (sym here ∙ ap (λ n. slice_get h n) same ∙ there) in
        let noted = subst (λ (y : Item). NotesCommit old new y place) item notes in
        subst (λ (n : ℕ). commit_of new t ≡ Some (commit_at c n)) same noted.0
  ];
  held = commit_held h place place x old new here has notes;
}

-- what the map has is committed
pub has_committed : (h : List Item) (n : ℕ) (commits : Commits) → HasCommits h n commits → (t : ℕ) (commit : Commit) → commit_of commits t ≡ Some commit → Committed h t commit.stamp
has_committed h n commits has t commit there = in_at h commit.place (Placed t commit.stamp) (has.held t commit there)

-- a committed transaction has its commit in the map of the whole history
pub committed_is_held : (h : List Item) (commits : Commits) → HasCommits h (length h) commits → (t c : ℕ) → Committed h t c → (place : ℕ) × (commit_of commits t ≡ Some (commit_at c place))
committed_is_held h commits has t c committed =
    let found = place_of (Placed t c) h committed in
    (found.0, has.at found.0 t c (slice_get_within h found.0 (Placed t c) found.1) found.1)
