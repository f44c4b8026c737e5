use Rattle.std.proofs.Common.{◌≡◌, Bool, Decides, sym, subst}
use Rattle.split_stores.proofs.DecidingItems.{Decides-item}
use Rattle.split_stores.proofs.settling.is_same.Goals as goal

pub returns : goal.returns
returns c = subst (λ (same : Bool). Decides same (c.args.mine.now ≡ c.args.theirs.now)) (sym c.eq.ensures) (Decides-item c.args.mine.now c.args.theirs.now)
