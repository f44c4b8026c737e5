use Rattle.std.proofs.Common.{List, subst}
use Rattle.std.specs.List.{AllZip}
use Rattle.split_driver.specs.Actors.{GivesBack, Task}
use Rattle.split_driver.proofs.ActorLemmas.{given_back}
use Rattle.split_driver.proofs.jobs.fn.run_all.scope.Goals as goal

pub returns-then-started : goal.returns-then-started
returns-then-started g c =
    given_back c.captures.script.now.lines.items c.captures.jobs.items c.join_all-played.result.items (subst (λ (given : List Task). AllZip GivesBack given c.join_all-played.result.items) (c.start_all-started.ensures.all c.if-started.true) c.join_all-played.ensures)
