-- A walk under way, from node to node against the edges.
use Rattle.std.specs.Prelude.{◌≡◌, ℕ, ◌+◌, ◌-◌, ◌^◌, ◌<◌, ◌≤◌, List, [], ◌∷◌, ◌++◌, Some, length, slice_get, slice_index, slice_set, take}
use Rattle.std.specs.List.{sum}
use Rattle.rising_numbers.specs.declared.Edge.{Edge}
use Rattle.rising_numbers.specs.declared.chains.Chains.{Chains}
use Rattle.rising_numbers.specs.declared.walk.Walk.{Walk}
use Rattle.rising_numbers.specs.Rises.{AreWithin}

-- The first edges lie in chains, one for each node that they lead to. A head is the place of a node's last edge, a next that of
-- the edge before, and each is one more, so that 0 is the end.
pub record Chained (edges : List Edge) (heads nexts : List ℕ) (count : ℕ) : Type 0 where
  pub head : (place : ℕ) (edge : Edge) → slice_get edges place ≡ Some edge → place < count → place < slice_index heads edge.to
  pub between : (p q : ℕ) (a b : Edge) → slice_get edges p ≡ Some a → slice_get edges q ≡ Some b → a.to ≡ b.to → p < q → q < count → p < slice_index nexts q
  pub head_leads : (node place : ℕ) (edge : Edge) → slice_index heads node ≡ place + 1 → slice_get edges place ≡ Some edge → edge.to ≡ node
  pub next_leads : (p q : ℕ) (a b : Edge) → slice_get edges p ≡ Some a → slice_get edges q ≡ Some b → slice_index nexts q ≡ p + 1 → a.to ≡ b.to
  pub head_low : (node : ℕ) → slice_index heads node ≤ count
  pub next_low : (q : ℕ) → slice_index nexts q ≤ q

-- What is ahead of a node is 0 once it has its number; on the path one more than the edges of its chain that are left, the next of
-- which is the edge at two less; and before the walk comes to it two more than its head.
pub record Numbered (edges : List Edge) (heads ahead numbers : List ℕ) (count : ℕ) : Type 0 where
  pub below : (v : ℕ) → slice_index numbers v ≤ count
  -- the edges that were passed come from nodes with numbers
  pub passed : (place : ℕ) (edge : Edge) → slice_get edges place ≡ Some edge → slice_index ahead edge.to ≤ place + 1 → slice_index ahead edge.from ≡ 0
  pub rises : (place : ℕ) (edge : Edge) → slice_get edges place ≡ Some edge → slice_index ahead edge.to ≡ 0 → slice_index numbers edge.from < slice_index numbers edge.to
  pub leads : (v place : ℕ) (edge : Edge) → slice_index ahead v ≡ place + 2 → place < slice_index heads v → slice_get edges place ≡ Some edge → edge.to ≡ v

-- The nodes that are begun and have no number yet lie on the path, and each waits for the next one: its next edge comes from there.
pub record OnPath (edges : List Edge) (heads ahead path : List ℕ) : Type 0 where
  pub begun : (i : ℕ) → i < length path → 0 < slice_index ahead (slice_index path i)
  pub open_to : (i : ℕ) → i < length path → slice_index ahead (slice_index path i) ≤ slice_index heads (slice_index path i) + 1
  pub once : (i j : ℕ) → i < length path → j < length path → slice_index path i ≡ slice_index path j → i ≡ j
  pub waits : (i : ℕ) → i + 1 < length path → 2 ≤ slice_index ahead (slice_index path i)
  pub steps : (i place : ℕ) (edge : Edge) → i + 1 < length path → slice_get edges place ≡ Some edge → slice_index ahead (slice_index path i) ≡ place + 2 → edge.from ≡ slice_index path (i + 1)
  pub found : (v : ℕ) → 0 < slice_index ahead v → slice_index ahead v ≤ slice_index heads v + 1 → (i : ℕ) × (i < length path) × (slice_index path i ≡ v)

pub record Walked (edges : List Edge) (heads : List ℕ) (walk : Walk) : Type 0 where
  pub numbered : Numbered edges heads walk.ahead.items walk.numbers.items (length walk.sequence.items)
  pub on_path : OnPath edges heads walk.ahead.items walk.path.items
  pub numbers : length walk.numbers.items ≡ length walk.ahead.items

-- ---- what the steps of a walk ask for, and what they leave
pub record AreAsMany (edges : List Edge) (chains : Chains) (walk : Walk) : Type 0 where
  pub heads : length chains.heads.items ≡ length walk.ahead.items
  pub nexts : length chains.nexts.items ≡ length edges
  pub within : AreWithin (length walk.ahead.items) edges
  pub few : length edges < 2 ^ 63

pub record IsLast (walk : Walk) (node : ℕ) : Type 0 where
  pub some : 0 < length walk.path.items
  pub last : node ≡ slice_index walk.path.items (length walk.path.items - 1)

-- the next edge of the path's last node comes from this one
pub record IsNext (edges : List Edge) (walk : Walk) (node : ℕ) : Type 0 where
  pub waits : (i : ℕ) → i + 1 ≡ length walk.path.items → 2 ≤ slice_index walk.ahead.items (slice_index walk.path.items i)
  pub from_node : (i place : ℕ) (edge : Edge) → i + 1 ≡ length walk.path.items → slice_get edges place ≡ Some edge → slice_index walk.ahead.items (slice_index walk.path.items i) ≡ place + 2 → edge.from ≡ node

-- and this one is on the path
pub record Meets (edges : List Edge) (heads : List ℕ) (walk : Walk) (met : ℕ) : Type 0 where
  pub walked : Walked edges heads walk
  pub next : IsNext edges walk met
  pub begun : 0 < slice_index walk.ahead.items met
  pub open_to : slice_index walk.ahead.items met ≤ slice_index heads met + 1

pub record HasCome (heads : List ℕ) (before after : Walk) (node : ℕ) : Type 0 where
  pub ahead : after.ahead.items ≡ slice_set before.ahead.items node (slice_index heads node + 1)
  pub numbers : after.numbers.items ≡ before.numbers.items
  pub path : after.path.items ≡ before.path.items ++ node ∷ []
  pub sequence : after.sequence.items ≡ before.sequence.items

pub record HasPassed (nexts : List ℕ) (before after : Walk) (node place : ℕ) : Type 0 where
  pub ahead : after.ahead.items ≡ slice_set before.ahead.items node (slice_index nexts place + 1)
  pub numbers : after.numbers.items ≡ before.numbers.items
  pub path : after.path.items ≡ before.path.items
  pub sequence : after.sequence.items ≡ before.sequence.items

pub record HasNumbered (before after : Walk) (node : ℕ) : Type 0 where
  pub ahead : after.ahead.items ≡ slice_set before.ahead.items node 0
  pub numbers : after.numbers.items ≡ slice_set before.numbers.items node (length before.sequence.items + 1)
  pub path : after.path.items ≡ take (length before.path.items - 1) before.path.items
  pub sequence : length after.sequence.items ≡ length before.sequence.items + 1

-- one number is less, and none is more
pub record HasLess (before after : List ℕ) : Type 0 where
  pub less : sum after < sum before
  pub each : (v : ℕ) → slice_index after v ≤ slice_index before v
  pub many : length after ≡ length before

-- no node is left on the path
pub record Waited (edges : List Edge) (heads : List ℕ) (before after : Walk) : Type 0 where
  pub walked : Walked edges heads after
  pub path : after.path.items ≡ []
  pub each : (v : ℕ) → slice_index after.ahead.items v ≤ slice_index before.ahead.items v
  pub many : length after.ahead.items ≡ length before.ahead.items
