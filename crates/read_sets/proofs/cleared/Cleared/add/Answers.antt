use Rattle.read_sets.proofs.SetLemmas.{may_gain, gains_at}
use Rattle.read_sets.proofs.cleared.Cleared.add.Goals as goal

pub returns : goal.returns
returns c =
    let old = c.args.self.now.pairs in
    let new = c.insert.new.self in
    gains_at old new c.args.start c.args.key c.value.result c.value-2.result c.value.ensures.value c.value-2.ensures.value (may_gain c.insert.result old new c.value.result c.value-2.result c.insert.ensures.updates c.insert.ensures.err)
