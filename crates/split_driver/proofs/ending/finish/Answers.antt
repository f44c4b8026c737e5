use Rattle.std.proofs.Common.{List, subst}
use Rattle.session_script.specs.Script.{data_of}
use Rattle.split_driver.specs.declared.ending.End.TheVariants.{Spent}
use Rattle.split_driver.specs.declared.jobs.Job.{Job}
use Rattle.split_driver.specs.Actors.{IsSpentBy}
use Rattle.split_driver.proofs.ActorLemmas.{seats_spent}
use Rattle.split_driver.proofs.ending.finish.Goals as goal

pub returns-in-Spent : goal.returns-in-Spent
returns-in-Spent g c = seats_spent c.args.split.id (data_of c.args.script.now) c.args.played.items c.in-Spent.drawn c.requires.played (subst (λ (p : List Job). IsSpentBy p (Spent c.in-Spent.drawn)) c.deref.ensures.value (c.in-Spent.ensures.spent))
