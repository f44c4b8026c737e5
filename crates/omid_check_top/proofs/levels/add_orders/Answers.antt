use Rattle.std.proofs.lemmas.Result.{on_ok_weaker}
use Rattle.omid_check_top.specs.Subject.{subject_of}
use Rattle.omid_check_top.proofs.LevelLemmas.{orders_said}
use Rattle.omid_check_top.proofs.levels.add_orders.Goals as goal

pub returns : goal.returns
returns c = on_ok_weaker c.add_level-3.result
    (λ last grades said. orders_said (subject_of c.args.recording.now c.args.indexed.now.attempts.items c.args.indexed.now.trace c.args.indexed.now.times.items c.args.indexed.now.ranks.items c.args.indexed.now.lists.items) c.args.level grades _ _ (last _ (c.in_ok-add_level-2.ensures _ (c.in_ok-add_level.ensures grades said)))) c.add_level-3.ensures
