-- What an index of the writes of committed transactions holds.
pub use Rattle.si_judge.specs.Marks.{IsMarked, KeepsMarks}
use Rattle.std.specs.Prelude.{◌≡◌, ℕ, ◌<◌, ◌≤◌, List, Some, slice_get, IfSome}
use Rattle.std.specs.BTreeMap.{BTreeMap, get}
use Rattle.history_book.specs.declared.item.Item.{Item}
use Rattle.history_book.specs.declared.item.Item.TheVariants.{Write}
use Rattle.si_judge.specs.Indexed.{pair_cmp}
use Rattle.si_judge.specs.declared.commits.Commit.{Commit}
use Rattle.si_judge.specs.Commits.{Commits, commit_of}
use Rattle.si_judge.specs.declared.marks.Marks.{Marks}
use Rattle.si_judge.specs.declared.reach.Reach.{Reach}

-- commits, by the keys that they wrote and by their transactions
abbrev pub Written : Type 0
Written = BTreeMap (ℕ × ℕ) Commit

-- where the item is a write of a committed transaction, the map has its commit
abbrev pub HasWrite : Commits → Written → Item → Type 0
HasWrite commits written (Write session t k value) = IfSome (commit_of commits t) (λ commit. get pair_cmp written (k, t) ≡ Some commit)
HasWrite commits written _ = Unit {0}

pub record HasWrites (h : List Item) (n : ℕ) (commits : Commits) (written : Written) : Type 0 where
  pub at : (place : ℕ) (x : Item) → place < n → slice_get h place ≡ Some x → HasWrite commits written x

-- the commits that the old map has the new one has
pub record KeepsWrites (commits : Commits) (old new : Written) : Type 0 where
  pub at : (k t : ℕ) (commit : Commit) → commit_of commits t ≡ Some commit → get pair_cmp old (k, t) ≡ Some commit → get pair_cmp new (k, t) ≡ Some commit

-- the key's writes that the reach has are marked
abbrev pub HasReached : Written → Reach → Marks → Type 0
HasReached written reach marks = (u : ℕ) (other : Commit) → reach.from < u → u ≤ reach.upto → get pair_cmp written (reach.key, u) ≡ Some other → IsMarked marks other.place

-- where another transaction that wrote the key k started after t and up to its commit, that commit is marked
abbrev pub MarksOwn : Written → ℕ → ℕ → Commit → Marks → Type 0
MarksOwn written k t commit marks = (u : ℕ) (other : Commit) → t < u → u ≤ commit.stamp → get pair_cmp written (k, u) ≡ Some other → IsMarked marks commit.place

-- where another transaction that wrote the key k started after t and up to its commit, both are marked
abbrev pub MarksOverlaps : Written → ℕ → ℕ → Commit → Marks → Type 0
MarksOverlaps written k t commit marks = (u : ℕ) (other : Commit) → t < u → u ≤ commit.stamp → get pair_cmp written (k, u) ≡ Some other → IsMarked marks commit.place × IsMarked marks other.place

-- the same for each commit in the map
pub record MarksAll (written : Written) (marks : Marks) : Type 0 where
  pub at : (k t : ℕ) (commit : Commit) → get pair_cmp written (k, t) ≡ Some commit → MarksOverlaps written k t commit marks
