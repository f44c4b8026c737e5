-- Edges and numbers that keep the order of versions that is told.
use Rattle.std.specs.Prelude.{◌≡◌, ℕ, ◌+◌, ◌<◌, ◌≤◌, true, List, [], ◌∷◌, ◌++◌, Some, slice_get, slice_index}
use Rattle.trace_rules.specs.declared.trace.Transaction.{Transaction}
use Rattle.trace_rules.specs.Trace.{committed_in}
use Rattle.rising_numbers.specs.declared.Edge.{Edge}
use Rattle.asked_orders.specs.declared.edges.Nodes.{Nodes}
use Rattle.version_ranks.specs.declared.rank.Rank.{Rank}
use Rattle.rank_orders.specs.declared.rise.Height.{Height}

-- from the commit of a lower version's writer to the start of a higher one's
pub record IsRanked (transactions : List Transaction) (ranks : List Rank) (starts : ℕ) (edge : Edge) : Type 0 where
  pub i : ℕ
  pub j : ℕ
  pub a : Rank
  pub b : Rank
  pub at_a : slice_get ranks i ≡ Some a
  pub at_b : slice_get ranks j ≡ Some b
  pub key : a.key ≡ b.key
  pub lower : a.version < b.version
  pub done : committed_in (slice_get transactions b.txn) ≡ true
  pub from : edge.from ≡ starts + a.txn
  pub to : edge.to ≡ b.txn

-- the commit of a lower version's writer has a lower number than the start of a higher one's; all are of so many transactions
pub record RanksRise (count starts : ℕ) (numbers : List ℕ) (ranks : List Rank) : Type 0 where
  pub within : (i : ℕ) (a : Rank) → slice_get ranks i ≡ Some a → a.txn < count
  pub rises : (i j : ℕ) (a b : Rank) → slice_get ranks i ≡ Some a → slice_get ranks j ≡ Some b → a.key ≡ b.key → a.version < b.version → slice_index numbers (starts + a.txn) < slice_index numbers b.txn

-- no rank stands above; commits of the key have numbers below the one limit, and those of lower versions below the other
pub record IsUnder (starts : ℕ) (numbers : List ℕ) (top : Height) (a : Rank) : Type 0 where
  pub key : a.key ≤ top.key
  pub version : a.key ≡ top.key → a.version ≤ top.version
  pub upto : a.key ≡ top.key → slice_index numbers (starts + a.txn) < top.upto
  pub under : a.key ≡ top.key → a.version < top.version → slice_index numbers (starts + a.txn) < top.under

pub record AreUnder (starts : ℕ) (numbers : List ℕ) (top : Height) (ranks : List Rank) : Type 0 where
  pub each : (i : ℕ) (a : Rank) → slice_get ranks i ≡ Some a → IsUnder starts numbers top a

-- the top for ranks at this one's key and version
pub record IsRaised (old : Height) (rank : Rank) (new : Height) : Type 0 where
  pub key : new.key ≡ rank.key
  pub version : new.version ≡ rank.version
  pub still : (starts : ℕ) (numbers : List ℕ) (a : Rank) → IsUnder starts numbers old a → IsUnder starts numbers new a

-- a limit above the number too
pub record IsTopped (old : Height) (number : ℕ) (new : Height) : Type 0 where
  pub key : new.key ≡ old.key
  pub version : new.version ≡ old.version
  pub under : new.under ≡ old.under
  pub least : old.upto ≤ new.upto
  pub above : number < new.upto

-- ranks that rise do so with this one behind them
abbrev pub TakesRank : ℕ → ℕ → List ℕ → Height → Rank → Height → Type 0
TakesRank count starts numbers old rank new = (before : List Rank) → RanksRise count starts numbers before → AreUnder starts numbers old before →
    RanksRise count starts numbers (before ++ rank ∷ []) × AreUnder starts numbers new (before ++ rank ∷ [])
