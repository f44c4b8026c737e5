use Rattle.std.proofs.Common.{Option, sym, subst}
use Rattle.isolation_rules.specs.declared.version.Version.{Version}
use Rattle.isolation_rules.specs.Best.{Sees}
use Rattle.isolation_rules.proofs.BestLemmas.{best_seen}
use Rattle.isolation_rules.proofs.visible.visible.Goals as goal

pub returns : goal.returns
returns c = subst (λ (v : Option Version). Sees c.args.items.now c.args.start c.args.key v) (sym c.version_of.ensures) (best_seen c.args.items.now c.args.start c.args.key c.newest.result c.newest.ensures)
