use Rattle.omid_check_top.specs.Subject.{subject_of}
use Rattle.omid_check_top.proofs.FindingLemmas.{wrong_found}
use Rattle.omid_check_top.proofs.finding.find.Goals as goal

pub returns-in-Wrong : goal.returns-in-Wrong
returns-in-Wrong c =
    let s = subject_of c.args.recording.now c.args.indexed.now.attempts.items c.args.indexed.now.trace c.args.indexed.now.times.items c.args.indexed.now.ranks.items c.args.indexed.now.lists.items in
    let told = rw c.in-Wrong.is at c.requires in
    wrong_found c.args.level c.args.wanted s c.in-Wrong.wrong told
