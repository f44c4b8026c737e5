use Rattle.std.proofs.lemmas.Result.{on_ok_weaker}
use Rattle.trace_edges.proofs.EdgeLemmas.{within_laid}
use Rattle.trace_edges.proofs.lay_within.Goals as goal

pub returns : goal.returns
returns c = on_ok_weaker c.lay.result (λ may within. within_laid c.args.nodes c.args.edge c.args.edges.now.items c.lay.new.edges.items may within) c.lay.ensures
