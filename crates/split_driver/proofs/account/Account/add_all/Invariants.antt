use Rattle.std.proofs.Common.{◌≡◌, drop}
use Rattle.log_refinement.specs.Owed.{with_items}
use Rattle.split_driver.proofs.account.Account.add_all.Given as goal

abbrev pub invariant-loop-item : goal.invariant-loop-item
invariant-loop-item l = with_items l.actor l.steps l.self (drop l.item-index l.items) ≡ with_items l.actor l.steps l.fn.self l.items
