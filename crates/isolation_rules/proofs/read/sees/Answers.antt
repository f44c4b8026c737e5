use Rattle.std.proofs.Common.{Option, sym, subst}
use Rattle.history_book.specs.Isolation.{Visible}
use Rattle.history_book.specs.declared.item.Found.{Found}
use Rattle.isolation_rules.proofs.ReadLemmas.{visible_once, sees_visible}
use Rattle.isolation_rules.proofs.read.sees.Goals as goal

pub returns : goal.returns
returns g c = λ h i stamped tells.
    let seen = sees_visible h c.args.start c.args.key c.seen.result (c.seen.ensures h i tells) in (
      λ e. subst (λ (a : Option Found). Visible h c.args.start c.args.key a) (sym (c.is_seen.ensures.0 e)) seen,
      λ right. c.is_seen.ensures.1 (visible_once h stamped c.args.start c.args.key _ _ right seen),
    )
