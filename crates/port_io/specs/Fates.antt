-- What becomes of a store call.
use Rattle.std.specs.Prelude.{◌≡◌, ℕ, Bool, true, false}
pub use Rattle.port_io.specs.Faults.{Risen}
pub use Rattle.stamp_base.specs.declared.stores.Store.{Store}
pub use Rattle.stamp_base.specs.declared.stores.Store.TheVariants.{Cells, Table, Master}
pub use Rattle.port_io.specs.declared.weather.Fate.{Fate}
pub use Rattle.port_io.specs.declared.weather.Fate.TheVariants.{Works, FailsUnchanged, FailsApplied}

-- the call is answered
abbrev pub works : Fate → Bool
works Works = true
works FailsUnchanged = false
works FailsApplied = false

-- the call takes effect
abbrev pub applies : Fate → Bool
applies Works = true
applies FailsUnchanged = false
applies FailsApplied = true

-- what stands after a change, under a fate
abbrev pub fated : {S : Type 0} → Fate → S → S → S
fated Works old changed = changed
fated FailsUnchanged old changed = old
fated FailsApplied old changed = changed

-- the count of faults rises exactly where the fate is a failure
abbrev pub Counts : Fate → ℕ → ℕ → Type 0
Counts Works before now = now ≡ before
Counts FailsUnchanged before now = Risen before now
Counts FailsApplied before now = Risen before now
