use Rattle.std.proofs.Common.{◌≡◌, ◌+◌, ◌%◌, ◌==◌, false}
use Rattle.std.proofs.lemmas.Bool.{ne_eqb}
use Rattle.replay_driver.proofs.Storming.{adds_nothing}
use Rattle.replay_driver.proofs.storm.add_takeover_behind.Goals as goal

pub returns-else-group-eq0-clause-lines : goal.returns-else-group-eq0-clause-lines
returns-else-group-eq0-clause-lines c =
    let none : ((c.args.group + 1) % 50 == 0) ≡ false = ne_eqb _ _ c.if-group-eq0.false in
    rw none (adds_nothing c.args.draft.now.lines.items)
