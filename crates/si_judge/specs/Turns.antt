-- Transactions that write a key in turn.
use Rattle.std.specs.Prelude.{◌≡◌, ℕ, ◌<◌, ◌⊎◌, true, List, Option, None, Some, MatchOption, length, set, slice_get, slice_index_or, vec_len}
use Rattle.history_book.specs.declared.item.Item.{Item}
use Rattle.history_book.specs.declared.item.Item.TheVariants.{Write}
use Rattle.isolation_rules.specs.ApartPairs.{writes}
use Rattle.si_judge.specs.declared.commits.Commit.{Commit}
use Rattle.si_judge.specs.declared.turns.Writer.{Writer}
use Rattle.si_judge.specs.declared.turns.Turns.{Turns}
use Rattle.si_judge.specs.Commits.{Commits, commit_of}
use Rattle.si_judge.specs.Follows.{MayFollow, IsUpTo}

-- an item below the place n writes the key k for the transaction t, which has this commit
pub record IsWriter (h : List Item) (n : ℕ) (commits : Commits) (k t : ℕ) (commit : Commit) : Type 0 where
  pub place : ℕ
  pub item : Item
  pub within : place < n
  pub there : slice_get h place ≡ Some item
  pub wrote : writes t k item ≡ true
  pub committed : commit_of commits t ≡ Some commit

-- any two committed writers of a key below n are one, or one committed before the other's start
pub record AreApart (h : List Item) (n : ℕ) (commits : Commits) : Type 0 where
  pub at : (k t u : ℕ) (c d : Commit) → IsWriter h n commits k t c → IsWriter h n commits k u d → (t ≡ u) ⊎ ((c.stamp < u) ⊎ (d.stamp < t))

-- they are apart, and of each key the last is kept
pub record TakeTurns (h : List Item) (n : ℕ) (commits : Commits) (last : List (Option Writer)) : Type 0 where
  pub upto : (k t : ℕ) (commit : Commit) → IsWriter h n commits k t commit → IsUpTo t commit.stamp (slice_index_or last k None)
  pub apart : AreApart h n commits

-- where the flag is set the writers below n take turns
pub record IsTold (h : List Item) (n : ℕ) (commits : Commits) (turns : Turns) : Type 0 where
  pub each : vec_len turns.last ≡ 4096
  pub kept : turns.apart ≡ true → TakeTurns h n commits turns.last.items

-- the writer is the last of the key k now, and where the flag is set it follows the one before
pub record IsNext (old new : Turns) (k : ℕ) (w : Writer) : Type 0 where
  pub within : k < length old.last.items
  pub last : new.last.items ≡ set old.last.items k (Some w)
  pub follows : new.apart ≡ true → (old.apart ≡ true) × MayFollow (slice_index_or old.last.items k None) w

abbrev pub writer_at : ℕ → ℕ → Writer
writer_at t c = record { start = t; commit = c }

-- what an item that writes for a committed transaction does, and that any other changes nothing
abbrev pub IsTurn : Commits → Turns → Turns → Item → Type 0
IsTurn commits old new (Write session t k value) = MatchOption (commit_of commits t) (new ≡ old) (λ commit. IsNext old new k (writer_at t commit.stamp))
IsTurn commits old new _ = new ≡ old
