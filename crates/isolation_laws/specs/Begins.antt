-- Begins in flight and open transactions, against what was placed and what can still be drawn.
use Rattle.std.specs.Prelude.{◌≡◌, ℕ, ◌<◌, ◌≤◌, ◌⊎◌, true, false, List, Option}
use Rattle.stamp_base.specs.SetupNumbers.{SetupNumbers}
use Rattle.history_book.specs.Isolation.{Committed, before_ask, has_ask}
use Rattle.history_book.specs.declared.item.Item.{Item}
use Rattle.system_parts.specs.declared.instance.Progress.{Progress}
use Rattle.system_parts.specs.declared.instance.Progress.TheVariants as progress
use Rattle.system_parts.specs.declared.instance.Request.TheVariants.{Begin, Commit}
use Rattle.system_parts.specs.Instance.{InstanceEntry}
use Rattle.machine.specs.State.{Client}
use Rattle.isolation_laws.specs.Words.{InstanceAt, HeldBy, OpenAt}

-- what was placed before the ask of a begin is below the start that it got, or will get
pub record AreFreshBegins (nodes : List (Option InstanceEntry)) (h : List Item) : Type 0 where
  pub asked : (n s : ℕ) (i : InstanceEntry) (p : Progress) → InstanceAt nodes n i → HeldBy i s (Begin s) p → has_ask s h ≡ true
  pub accepted : (n s t c : ℕ) (i : InstanceEntry) → InstanceAt nodes n i → HeldBy i s (Begin s) progress.Accepted → Committed (before_ask s h) t c → c ≤ i.last
  pub drawn : (n s b t c : ℕ) (i : InstanceEntry) → InstanceAt nodes n i → HeldBy i s (Begin s) (progress.Drawn b) → Committed (before_ask s h) t c → c < b

-- an instance has drawn past the start, and has no unsettled commit below it
pub record IsPast (i : InstanceEntry) (b : ℕ) : Type 0 where
  pub last : b ≤ i.last
  pub settled : (s t c : ℕ) (keys : List ℕ) → HeldBy i s (Commit s t keys) (progress.Drawn c) → b ≤ c

-- of an open transaction with the start b and the epoch e, each instance draws at most up to the epoch, or is past the start
pub record AreSettledBelow (clients : List Client) (nodes : List (Option InstanceEntry)) : Type 0 where
  pub below : (s b e n : ℕ) (i : InstanceEntry) → OpenAt clients s b e → InstanceAt nodes n i → (i.ceiling ≤ e) ⊎ IsPast i b

pub record BeginFacts (setup : SetupNumbers) (clients : List Client) (nodes : List (Option InstanceEntry)) (h : List Item) : Type 0 where
  pub fresh : AreFreshBegins nodes h
  pub below : setup.direct ≡ false → AreSettledBelow clients nodes
