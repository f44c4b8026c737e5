-- A publisher and a pass as their contracts see them.
use Rattle.std.specs.Prelude.{List}
pub use Rattle.atomic_table.specs.Seated.{TableId}
use Rattle.master_beacon.specs.declared.rule.Announced.{Announced}

-- of which beacon the publisher is, and what was published there
pub record Published : Type 0 where
  pub beacon : TableId
  pub list : List Announced

abbrev pub published : TableId → List Announced → Published
published beacon list = record { beacon = beacon; list = list }

-- of which beacon the pass is, and which front of the published list it has seen
pub record Sight : Type 0 where
  pub beacon : TableId
  pub seen : List Announced

abbrev pub sight : TableId → List Announced → Sight
sight beacon seen = record { beacon = beacon; seen = seen }
