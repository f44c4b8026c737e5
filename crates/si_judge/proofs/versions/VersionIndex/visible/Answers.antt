use Rattle.si_judge.proofs.Names.{sym, ◌∙◌, eqb-true, eq-eqb}
use Rattle.si_judge.proofs.IndexLemmas.{none_below, last_newest, last_other}
use Rattle.si_judge.proofs.versions.VersionIndex.visible.Goals as goal

pub returns-in-None : goal.returns-in-None
returns-in-None c = λ h has. none_below h c.args.start c.args.key c.args.self.now.versions has (λ q within. (c.range.ensures.in_range tt).5 c.in-None.ensures.steps.0 q within)

pub returns-then-eq : goal.returns-then-eq
returns-then-eq c = λ h has.
    let range = c.range.ensures.in_range tt in
    let entry = range.3 _ _ c.in-Some.ensures.steps in
    last_newest h c.args.start c.args.key c.in-Some.place.now.0 c.in-Some.place.now.1 c.in-Some.version.now c.args.self.now.versions has
    (record { there = entry.1; below = entry.0.1; last = λ q less some. range.4 _ _ c.in-Some.ensures.steps q (tt, less) some }) (eqb-true _ _ (sym c.eq.ensures ∙ c.if-eq.true))

pub returns-else-eq : goal.returns-else-eq
returns-else-eq c = λ h has.
    let range = c.range.ensures.in_range tt in
    let entry = range.3 _ _ c.in-Some.ensures.steps in
    last_other h c.args.start c.args.key c.in-Some.place.now.0 c.in-Some.place.now.1 c.in-Some.version.now c.args.self.now.versions has
    (record { there = entry.1; below = entry.0.1; last = λ q less some. range.4 _ _ c.in-Some.ensures.steps q (tt, less) some })
    (λ same. let equal = eq-eqb c.in-Some.place.now.0 c.args.key same in let unequal = c.if-eq.false in let is = c.eq.ensures in absurd (cc))
