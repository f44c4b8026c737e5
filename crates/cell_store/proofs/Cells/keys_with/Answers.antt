use Rattle.std.proofs.Common.{◌∙◌}
use Rattle.cell_store.proofs.IndexKeys.{keys_of_version-between}
use Rattle.cell_store.proofs.Cells.keys_with.Goals as goal

pub returns-clause-value : goal.returns-clause-value
returns-clause-value c =
    let keys = rw c.places_of-first.ensures.places at c.in_ok-keys_from_to.ensures in
    rw (← c.self.view_is) (keys ∙ keys_of_version-between c.args.version c.self.inside.index.keys c.self.inside.rows c.self.invariant.ordered c.are_ordered.ensures (λ q. c.self.invariant.indexed q c.args.version) (λ q h. c.self.invariant.ranged q c.args.version h))
