use Rattle.std.proofs.Common.{sym, ◌∙◌}
use Rattle.read_sets.proofs.CrossingLemmas.{wrote_second, not_wrote, between_second}
use Rattle.read_sets.proofs.plain.crossing_of.Goals as goal

pub returns-then-wrote-clause-second : goal.returns-then-wrote-clause-second
returns-then-wrote-clause-second c = wrote_second c.args.items.now c.args.before.now c.args.start c.args.key (sym c.wrote.ensures ∙ c.if-wrote.true)

pub returns-in-None-clause-second : goal.returns-in-None-clause-second
returns-in-None-clause-second c = λ none d committed. absurd (c.in-None.ensures d committed)

pub returns-in-Some-clause-second : goal.returns-in-Some-clause-second
returns-in-Some-clause-second c =
    let none = not_wrote c.args.before.now c.args.start c.args.key (sym c.wrote.ensures ∙ c.if-wrote.false) in
    between_second c.args.items.now c.args.before.now c.args.start c.args.key c.in-Some.last c.first_between.result none c.in-Some.ensures c.first_between.ensures.first
