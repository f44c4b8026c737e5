-- A sweep's stage as the definitions see it.
use Rattle.std.specs.Prelude.{ℕ, ◌+◌, ◌≤◌, drop}
use Rattle.std.specs.Vec.{vec_len}
use Rattle.invalidator.specs.declared.sweep.Stage.{Stage}
use Rattle.invalidator.specs.declared.sweep.Stage.TheVariants.{Table as AtTable, Marking as AtMarking, Listing as AtListing, Listed as AtListed, Undecided as AtUndecided}
use Rattle.system_parts.specs.Sweep.{SweepPoint, Table, Marking, Listing, Left, Undecided, sweep_asks}

abbrev pub point_of : ℕ → Stage → SweepPoint
point_of txn AtTable = Table
point_of txn AtMarking = Marking
point_of txn (AtListing found) = Listing found
point_of txn (AtListed found keys done) = Left (drop done (sweep_asks txn found keys.items))
point_of txn AtUndecided = Undecided

-- no more steps were done than there are
abbrev pub IsStage : Stage → Type 0
IsStage (AtListed found keys done) = done ≤ vec_len keys + 1
IsStage _ = Unit {0}
