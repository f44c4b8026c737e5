use Rattle.std.proofs.Common.{refl}
use Rattle.omid_check_top.specs.Subject.{subject_of}
use Rattle.omid_check_top.proofs.FindingLemmas.{both_ok}
use Rattle.omid_check_top.proofs.StampLemmas.{has_stamps, is_unfit}
use Rattle.omid_check_top.proofs.stamps.shown.Goals as goal

pub returns-in-Ok-clause-found : goal.returns-in-Ok-clause-found
returns-in-Ok-clause-found c =
    has_stamps c.args.level c.args.wanted (subject_of c.args.recording.now c.args.indexed.now.attempts.items c.args.indexed.now.trace c.args.indexed.now.times.items c.args.indexed.now.ranks.items c.args.indexed.now.lists.items) c.args.numbers.now 0 c.in-Ok.text.items c.requires.done c.requires.stamps c.in-Ok.ensures refl

pub returns-in-Err-Past-clause-found : goal.returns-in-Err-Past-clause-found
returns-in-Err-Past-clause-found c =
    let s = subject_of c.args.recording.now c.args.indexed.now.attempts.items c.args.indexed.now.trace c.args.indexed.now.times.items c.args.indexed.now.ranks.items c.args.indexed.now.lists.items in
    both_ok _ _ _ c.unfit.result (λ made code told. is_unfit c.args.level c.args.wanted s c.args.numbers.now c.in-Err-Past.limit made.code made.text.items c.requires.stamps code told) c.unfit.ensures.code c.unfit.ensures.told
