-- What the edges are that are laid for an order that is asked for.
use Rattle.std.specs.Prelude.{◌≡◌, ℕ, ◌+◌, ◌<◌, ◌≤◌, List, Option, Some, length, slice_get}
use Rattle.trace_rules.specs.declared.trace.Operation.{Operation}
use Rattle.trace_rules.specs.declared.trace.Transaction.{Transaction}
use Rattle.trace_rules.specs.declared.wanted.Level.{Level}
use Rattle.trace_rules.specs.Trace.{Trace}
use Rattle.trace_rules.specs.Stamping.{Asked}
use Rattle.trace_rules.specs.Wants.{Moments}
use Rattle.rising_numbers.specs.declared.Edge.{Edge}
use Rattle.outer_reads.specs.Sources.{trace_of}
use Rattle.trace_edges.specs.Edges.{starts_of}
use Rattle.asked_orders.specs.Joins.{AreJoined}

-- where the edges that there were join places in all stamps that keep what is asked for, those that there are do
abbrev pub StillJoined : Level → (Trace → Asked) → Moments → List Transaction → ℕ → ℕ → List ℕ → List Edge → List Edge → Type 0
StillJoined level asked moments transactions starts points chain old new = (operations : List Operation) → starts ≡ starts_of level (length transactions) →
    AreJoined level (asked (trace_of transactions operations)) moments (trace_of transactions operations) starts points chain old →
    AreJoined level (asked (trace_of transactions operations)) moments (trace_of transactions operations) starts points chain new

-- from the node of a point to a moment that is not below the one by which the point came
pub record IsUntil (chain : List ℕ) (points node : ℕ) (until : Option ℕ) (edge : Edge) : Type 0 where
  pub moment : ℕ
  pub place : ℕ
  pub last : ℕ
  pub known : until ≡ Some moment
  pub stands : slice_get chain place ≡ Some last
  pub most : moment ≤ last
  pub point : node < points
  pub from : edge.from ≡ node
  pub to : edge.to ≡ points + place

-- from a moment to the node of a point that came behind a later one
pub record IsFrom (chain : List ℕ) (points node : ℕ) (from_when : Option ℕ) (edge : Edge) : Type 0 where
  pub moment : ℕ
  pub place : ℕ
  pub last : ℕ
  pub known : from_when ≡ Some moment
  pub stands : slice_get chain place ≡ Some last
  pub less : last < moment
  pub point : node < points
  pub from : edge.from ≡ points + place
  pub to : edge.to ≡ node

-- from a moment to a later one
pub record IsNext (chain : List ℕ) (points : ℕ) (edge : Edge) : Type 0 where
  pub place : ℕ
  pub first : ℕ
  pub next : ℕ
  pub second : ℕ
  pub stands : slice_get chain place ≡ Some first
  pub follows : slice_get chain next ≡ Some second
  pub less : first < second
  pub from : edge.from ≡ points + place
  pub to : edge.to ≡ points + next
