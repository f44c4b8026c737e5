use Rattle.std.proofs.Common.{◌≡◌, drop}
use Rattle.trace_index.specs.Numbers.{numbers_from}
use Rattle.trace_index.proofs.numbers.add_numbers.Given as goal

abbrev pub invariant-loop-one : goal.invariant-loop-one
invariant-loop-one l = numbers_from l.writers l.flags l.numbered (drop l.one-index l.said) ≡ numbers_from l.writers l.flags l.fn.numbered l.said
