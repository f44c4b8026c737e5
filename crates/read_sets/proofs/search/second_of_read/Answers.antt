use Rattle.read_sets.proofs.search.second_of_read.Goals as goal

pub returns-then-has-clause-second : goal.returns-then-has-clause-second
returns-then-has-clause-second c = λ none. c.requires.cleared c.args.start c.args.key (c.has.ensures c.if-has.true) none

pub returns-else-may_cross-clause-second : goal.returns-else-may_cross-clause-second
returns-else-may_cross-clause-second c = λ none. c.may_cross.ensures c.args.items.now c.requires.index c.if-may_cross.false
