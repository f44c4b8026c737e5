use Rattle.std.proofs.Common.{[], drop}
use Rattle.split_driver.specs.Waits.{WaitedFrom}
use Rattle.split_driver.proofs.waits.all_waited.Given as goal

abbrev pub invariant-loop-item : goal.invariant-loop-item
invariant-loop-item l = WaitedFrom l.names.names (drop l.item-index l.items) → WaitedFrom [] l.items
