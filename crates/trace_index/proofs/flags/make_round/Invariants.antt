use Rattle.std.proofs.Common.{◌≡◌, drop, fold}
use Rattle.std.specs.Prelude.{IsFalse}
use Rattle.trace_index.specs.Open.{settles}
use Rattle.trace_index.proofs.flags.make_round.Given as goal

abbrev pub invariant-loop-operation : goal.invariant-loop-operation
invariant-loop-operation l = record {
  made : fold (settles l.attempts) l.flags (drop l.operation-index l.operations) ≡ fold (settles l.attempts) l.fn.flags l.operations;
  same : IsFalse l.changed → l.flags ≡ l.fn.flags;
}
