use Rattle.std.proofs.Common.{◌≡◌, true, false}
use Rattle.omid_view.proofs.WordLemmas.{none_in_range}
use Rattle.omid_view.proofs.command.picture_of.Goals as goal

pub returns-else-is_in_range : goal.returns-else-is_in_range
returns-else-is_in_range c =
    none_in_range c.in_ok-first.first c.in_ok-last.last c.args.from.now c.args.to.now c.in_ok-first.ensures c.in_ok-last.ensures
    (λ within. let e : false ≡ true = c.if-is_in_range.ensures.1 within in cc)
