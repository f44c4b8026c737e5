use Rattle.std.proofs.Common.{◌≡◌, ap, sym, ◌∙◌}
use Rattle.std.proofs.lemmas.Bool.{eqb-true, eq-eqb}
use Rattle.history_book.specs.declared.item.Item.TheVariants.{Placed}
use Rattle.read_sets.proofs.CrossingLemmas.{last_more, last_stays, placed_same}
use Rattle.read_sets.proofs.plain.later.Goals as goal

pub returns-then-eq : goal.returns-then-eq
returns-then-eq c = λ part was.
    let same : c.in-Placed.txn ≡ c.args.start = eqb-true _ _ (sym c.eq.ensures ∙ c.if-eq.true) in
    last_more part c.args.item.now c.args.start c.in-Placed.commit c.args.last c.greater.result (c.in-Placed.is ∙ ap (λ n. Placed n c.in-Placed.commit) same) c.greater.ensures was

pub returns-else-eq : goal.returns-else-eq
returns-else-eq c = λ part was.
    last_stays part c.args.item.now c.args.start c.args.last (λ d e.
    let same = (placed_same c.in-Placed.txn c.in-Placed.commit c.args.start d (sym c.in-Placed.is ∙ e)).0 in
    let equal = eq-eqb c.in-Placed.txn c.args.start same in
    let unequal = c.if-eq.false in
    let is = c.eq.ensures in
    absurd (cc)) was

pub returns-in_default : goal.returns-in_default
returns-in_default c = λ part was. last_stays part c.args.item.now c.args.start c.args.last (λ d e. c.in_default.not-Placed c.args.start d e) was
