-- What a map of commits holds.
use Rattle.std.specs.Prelude.{◌≡◌, ◌≢◌, ℕ, ◌<◌, List, Option, Some, slice_get, nat_eq}
use Rattle.std.specs.declared.hash.FoldHasher.{FoldHasher}
use Rattle.std.specs.declared.hash.BuildHasherDefault.{BuildHasherDefault}
use Rattle.std.specs.HashMap.{HashMap, get}
use Rattle.history_book.specs.declared.item.Item.{Item}
use Rattle.history_book.specs.declared.item.Item.TheVariants.{Placed}
use Rattle.si_judge.specs.declared.commits.Commit.{Commit}

-- commits, by their transactions
abbrev pub Commits : Type 0
Commits = HashMap ℕ Commit (BuildHasherDefault FoldHasher)

-- the commit of a transaction, where the map has one
abbrev pub commit_of : Commits → ℕ → Option Commit
commit_of commits t = get nat_eq commits t

-- a commit at c, by the item at the place
abbrev pub commit_at : ℕ → ℕ → Commit
commit_at c place = record { stamp = c; place = place }

-- a commit that is placed there is put in, and all others stay
abbrev pub NotesCommit : Commits → Commits → Item → ℕ → Type 0
NotesCommit old new (Placed t c) place = (commit_of new t ≡ Some (commit_at c place)) × ((u : ℕ) → u ≢ t → commit_of new u ≡ commit_of old u)
NotesCommit old new _ place = (u : ℕ) → commit_of new u ≡ commit_of old u

-- the map has the commits that are placed below n, and no others
pub record HasCommits (h : List Item) (n : ℕ) (commits : Commits) : Type 0 where
  pub at : (place t c : ℕ) → place < n → slice_get h place ≡ Some (Placed t c) → commit_of commits t ≡ Some (commit_at c place)
  pub held : (t : ℕ) (commit : Commit) → commit_of commits t ≡ Some commit → slice_get h commit.place ≡ Some (Placed t commit.stamp)
