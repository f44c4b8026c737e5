use Rattle.std.proofs.Common.{◌≡◌, rules}
use Rattle.omid_check_top.specs.Subject.{subject_of}
use Rattle.omid_check_top.proofs.FindingLemmas.{both_ok, dirty_judged}
use Rattle.omid_check_top.proofs.MadeLemmas.{is_list_dirty}
use Rattle.omid_check_top.proofs.committed.members.Goals as goal

pub returns-in-Some-clause-found : goal.returns-in-Some-clause-found
returns-in-Some-clause-found c =
    let s = subject_of c.args.recording.now c.args.indexed.now.attempts.items c.args.indexed.now.trace c.args.indexed.now.times.items c.args.indexed.now.ranks.items c.args.indexed.now.lists.items in
    let found = rw c.in-Some.is at c.in_ok-dirty_list.ensures in
    let one : c.listed.result.now ≡ s.listed = search rules in
    let two : c.deref.result.now ≡ s.lists = search rules in
    let dirty = dirty_judged s.trace c.listed.result.now s.listed c.deref.result.now s.lists c.in-Some.list one two found in
    both_ok _ _ _ c.dirty.result (λ made code told. is_list_dirty s c.in-Some.list made.code made.text.items dirty code told) c.dirty.ensures.code c.dirty.ensures.told
