use Rattle.std.proofs.Common.{◌≡◌, ◌++◌, take, drop}
use Rattle.persist_batches.specs.declared.numbered.Numbered.{Numbered}
use Rattle.persist_batches.specs.Waiting.{placed}
use Rattle.persist_batches.proofs.waiting.place_among.Given as goal

abbrev pub invariant-loop-i : goal.invariant-loop-i
invariant-loop-i l = (batch : Numbered) → batch.number ≡ l.number → take l.i l.waiting ++ placed (drop l.i l.waiting) batch ≡ placed l.waiting batch
