use Rattle.reader_resolve.proofs.RunLemmas.{comes_to}
use Rattle.reader_resolve.proofs.run.ReadRun.decided.Goals as goal

pub returns-in-Resolves-clause-next : goal.returns-in-Resolves-clause-next
returns-in-Resolves-clause-next c =
    let comes = comes_to c.self.inside.reader c.as_slice-cells.result.now c.self.inside.passed c.in-Resolves.passed c.index-cells-passed.result c.in-Resolves.settle.point c.self.inside.settle.point c.args.outcome c.in-Resolves.ensures.placed.0 c.index-cells-passed.is c.in-Resolves.ensures.turn in
    rw (← c.self.view_is, ← c.as_slice-cells.ensures.value, ← c.index-cells-passed.is) comes
