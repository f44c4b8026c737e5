use Rattle.std.proofs.Common.{refl}
use Rattle.omid_check_top.specs.Subject.{subject_of}
use Rattle.omid_check_top.proofs.LevelLemmas.{level_holds}
use Rattle.omid_check_top.proofs.levels.level_status.Goals as goal

pub returns-in-Holds : goal.returns-in-Holds
returns-in-Holds c =
    let s = subject_of c.args.recording.now c.args.indexed.now.attempts.items c.args.indexed.now.trace c.args.indexed.now.times.items c.args.indexed.now.ranks.items c.args.indexed.now.lists.items in
    let has = rw c.in-Holds.is at c.in_ok-find.ensures in
    level_holds c.args.level c.args.wanted s 0 c.in-Holds.field-0.items has refl
