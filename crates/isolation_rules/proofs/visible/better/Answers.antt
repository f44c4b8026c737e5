use Rattle.std.proofs.Common.{[], ◌∷◌, ◌++◌, sym, subst}
use Rattle.history_book.specs.declared.item.Item.{Item}
use Rattle.isolation_rules.specs.Best.{BestOf}
use Rattle.isolation_rules.proofs.BestLemmas.{best_skip, best_low, best_replaced}
use Rattle.isolation_rules.proofs.visible.better.Goals as goal

pub returns-then-is_later : goal.returns-then-is_later
returns-then-is_later c = λ part old.
    subst (λ (x : Item). BestOf c.args.items.now c.args.start c.args.key (part ++ x ∷ []) c.replaced.result) (sym c.in-Placed.is)
    (best_replaced c.args.items.now c.args.start c.args.key part c.in-Placed.txn c.in-Placed.commit c.args.best.now c.replaced.result (c.is_later.ensures.0 c.if-is_later.true) c.replaced.ensures old)

pub returns-else-is_later : goal.returns-else-is_later
returns-else-is_later c = λ part old.
    subst (λ (x : Item). BestOf c.args.items.now c.args.start c.args.key (part ++ x ∷ []) c.args.best.now) (sym c.in-Placed.is)
    (best_low c.args.items.now c.args.start c.args.key part c.in-Placed.txn c.in-Placed.commit c.args.best.now (λ later. let yes_later = c.is_later.ensures.1 later in let not_later = c.if-is_later.false in absurd (cc)) old)

pub returns-in_default : goal.returns-in_default
returns-in_default c = λ part old.
    best_skip c.args.items.now c.args.start c.args.key part c.args.item.now c.args.best.now (λ t d e. c.in_default.not-Placed t d (sym e)) old
