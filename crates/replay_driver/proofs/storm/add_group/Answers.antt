use Rattle.std.proofs.Common.{refl, arith}
use Rattle.replay_driver.proofs.Storming.{adds_group}
use Rattle.replay_driver.proofs.storm.add_group.Goals as goal

pub returns-clause-lines : goal.returns-clause-lines
returns-clause-lines c =
    adds_group _ _ _ _ _ _ _ _ _ _ c.serving-node.ensures.value refl (omega (arith, c.min-end.ensures, c.requires.group))
    c.in_ok-add_works.ensures.lines c.in_ok-add_commits.ensures.lines c.in_ok-add_renewal.ensures.lines c.in_ok-add_takeover_behind.ensures.lines
