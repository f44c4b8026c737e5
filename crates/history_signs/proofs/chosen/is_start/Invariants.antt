use Rattle.std.proofs.Common.{◌≡◌, drop}
use Rattle.history_signs.specs.Chosen.{is_among}
use Rattle.history_signs.proofs.chosen.is_start.Given as goal

abbrev pub invariant-loop-other : goal.invariant-loop-other
invariant-loop-other l = is_among l.start (drop l.other-index l.starts) ≡ is_among l.start l.starts
