use Rattle.std.proofs.lemmas.Result.{on_ok_weaker}
use Rattle.trace_edges.proofs.EdgeLemmas.{sure_laid}
use Rattle.trace_edges.proofs.lay_apart.Goals as goal

pub returns-in-Some : goal.returns-in-Some
returns-in-Some c = on_ok_weaker c.lay.result (λ may transactions laid. sure_laid transactions c.args.readings.now c.args.order.now c.args.starts c.args.nodes c.args.edges.now.items c.lay.new.edges.items c.in-Some.edge may laid c.in-Some.ensures) c.lay.ensures
