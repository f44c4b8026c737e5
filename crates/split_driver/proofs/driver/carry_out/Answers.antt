use Rattle.std.proofs.Common.{List, length, ap, subst, arith}
use Rattle.std.specs.List.{AllZip}
use Rattle.history_book.specs.declared.item.Actor.{Actor}
use Rattle.session_script.specs.Script.{data_of}
use Rattle.thread_scripts.specs.Actors.{actors_of}
use Rattle.split_driver.specs.Actors.{IsPlayedOf}
use Rattle.split_driver.proofs.ActorLemmas.{all_new, all_played}
use Rattle.split_driver.proofs.driver.carry_out.Goals as goal

pub jobs_of-requires-clause-paired : goal.jobs_of-requires-clause-paired
jobs_of-requires-clause-paired g c = omega (arith, c.in_ok-split.ensures.all.0, c.in_ok-split.seats.ok.0, c.len.ensures)

pub jobs_of-requires-clause-seats : goal.jobs_of-requires-clause-seats
jobs_of-requires-clause-seats g c = c.in_ok-split.ensures.seats

pub play_all-requires-clause-jobs : goal.play_all-requires-clause-jobs
play_all-requires-clause-jobs g c κs within = all_new c.in_ok-split.split.id c.in_ok-actors.actors.items c.in_ok-jobs.jobs.items c.in_ok-jobs.ensures

pub play_all-requires-clause-ticks : goal.play_all-requires-clause-ticks
play_all-requires-clause-ticks g c κs within = c.requires.may_split.ticks

pub finish-requires-clause-plan : goal.finish-requires-clause-plan
finish-requires-clause-plan g c = c.in_ok-split.ensures.plan

pub finish-requires-clause-all : goal.finish-requires-clause-all
finish-requires-clause-all g c =
    let actors = c.in_ok-actors.actors in
    omega (arith, c.in_ok-split.ensures.all.1, c.len.ensures, actors.ok.0, ap length c.in_ok-actors.ensures.actors)

pub finish-requires-clause-played : goal.finish-requires-clause-played
finish-requires-clause-played g c =
    let script = data_of c.args.script.now in
    let word = c.in_ok-split.split.id in
    let actors = c.in_ok-actors.actors.items in
    let jobs = c.in_ok-jobs.jobs.items in
    let played = c.in_ok-played.played.items in
    subst (λ (who : List Actor). AllZip (IsPlayedOf word script.lines) who played) c.in_ok-actors.ensures.actors (all_played word script.lines actors jobs played c.in_ok-jobs.ensures c.in_ok-played.ensures)
