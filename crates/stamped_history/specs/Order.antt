-- Nodes in the order of their stamps: a start by its transaction's place, and behind all starts the commits.
use Rattle.std.specs.Prelude.{◌≡◌, ℕ, suc, ◌+◌, ◌-◌, ◌<◌, nat_lt, if◌then◌else◌, true, List, Some, length, map, slice_get, slice_index}
use Rattle.trace_rules.specs.declared.trace.Transaction.{Transaction}
use Rattle.trace_rules.specs.declared.wanted.Level.{Level}
use Rattle.trace_rules.specs.Serial.{owner}
use Rattle.trace_rules.specs.Trace.{committed_in}
use Rattle.trace_rules.specs.Stamping.{Stamping, Point, Start, Commit, stamp_of}
use Rattle.asked_orders.specs.Keeps.{stamping_of}

-- of so many transactions
abbrev pub point_of : ℕ → ℕ → Point
point_of n node = if nat_lt node n then Start node else Commit (node - n)

abbrev pub points_of : ℕ → List ℕ → List Point
points_of n nodes = map (point_of n) nodes

-- a number for each start and, behind these, for each commit
abbrev pub stamps_by : ℕ → List ℕ → Stamping
stamps_by n ranks = record { start = λ t. slice_index ranks t; commit = λ t. slice_index ranks (n + t) }

-- the node is a committed transaction's, its rank counts those up to it, and its stamp is above that of the one before it
pub record IsPlaced (level : Level) (transactions : List Transaction) (numbers nodes ranks : List ℕ) (place : ℕ) : Type 0 where
  pub committed : (node : ℕ) → slice_get nodes place ≡ Some node → committed_in (slice_get transactions (owner (point_of (length transactions) node))) ≡ true
  pub rank : (node : ℕ) → slice_get nodes place ≡ Some node → slice_index ranks node ≡ suc place
  pub above : (i before node : ℕ) → i + 1 ≡ place → slice_get nodes i ≡ Some before → slice_get nodes place ≡ Some node →
      stamp_of (stamping_of level (length transactions) numbers) (point_of (length transactions) before) < stamp_of (stamping_of level (length transactions) numbers) (point_of (length transactions) node)

abbrev pub ArePlaced : Level → List Transaction → List ℕ → List ℕ → List ℕ → ℕ → Type 0
ArePlaced level transactions numbers nodes ranks count = (place : ℕ) → place < count → IsPlaced level transactions numbers nodes ranks place

abbrev pub Has : List ℕ → ℕ → Type 0
Has nodes node = (place : ℕ) × (slice_get nodes place ≡ Some node)

-- of the transactions below the count, both nodes of each committed one are there
abbrev pub HaveNodes : List Transaction → List ℕ → ℕ → Type 0
HaveNodes transactions nodes count = (t : ℕ) → t < count → committed_in (slice_get transactions t) ≡ true → Has nodes t × Has nodes (length transactions + t)
