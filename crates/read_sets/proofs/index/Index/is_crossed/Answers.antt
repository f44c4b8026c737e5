use Rattle.read_sets.proofs.IndexLemmas.{no_commit_stands, uncrossed_stands, stood_at}
use Rattle.read_sets.proofs.index.Index.is_crossed.Goals as goal

pub returns-in-None : goal.returns-in-None
returns-in-None c = λ h is off.
    stood_at h c.args.start c.args.key c.value-txn.result c.value-number.result c.value-txn.ensures.value c.value-number.ensures.value (no_commit_stands h c.args.self.now c.value-txn.result c.value-number.result is c.in-None.ensures)

pub returns-in-Some : goal.returns-in-Some
returns-in-Some c = λ h is off.
    stood_at h c.args.start c.args.key c.value-txn.result c.value-number.result c.value-txn.ensures.value c.value-number.ensures.value (uncrossed_stands h c.args.self.now c.value-txn.result c.value-number.result c.in-Some.last is c.in-Some.ensures (c.is_between.ensures off))
