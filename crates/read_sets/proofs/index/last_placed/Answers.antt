use Rattle.std.proofs.Common.{◌≡◌, false}
use Rattle.std.specs.BTreeSet.{contains}
use Rattle.read_sets.specs.Index.{pair_cmp}
use Rattle.read_sets.proofs.SetLemmas.{own_in_range, last_above}
use Rattle.read_sets.proofs.index.last_placed.Goals as goal

pub returns-in-None : goal.returns-in-None
returns-in-None c = λ d has.
    let none : contains pair_cmp c.args.placed.now (c.args.txn, d) ≡ false = (c.range.ensures.in_range tt).5 c.in-None.ensures.steps.0 (c.args.txn, d) (own_in_range c.args.txn d) in
    absurd (cc)

pub returns-in-Some : goal.returns-in-Some
returns-in-Some c = λ d has.
    let range = c.range.ensures.in_range tt in
    let there = range.3 _ _ c.in-Some.ensures.steps in
    last_above c.args.txn d c.in-Some.pair.now there.0 (range.4 _ _ c.in-Some.ensures.steps (c.args.txn, d) (own_in_range c.args.txn d) has)
