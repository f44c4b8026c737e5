use Rattle.std.proofs.Common.{◌≡◌, rules}
use Rattle.omid_check_top.specs.Subject.{subject_of}
use Rattle.omid_check_top.proofs.FindingLemmas.{none_judged}
use Rattle.omid_check_top.proofs.finding.find_by.Goals as goal

pub returns-in-WrongRead : goal.returns-in-WrongRead
returns-in-WrongRead c =
    let s = subject_of c.args.recording.now c.args.indexed.now.attempts.items c.args.indexed.now.trace c.args.indexed.now.times.items c.args.indexed.now.ranks.items c.args.indexed.now.lists.items in
    let said = rw c.in-WrongRead.is at c.in_ok-numbers.ensures in
    let one : c.deref.result.now ≡ s.trace.transactions = search rules in
    let two : c.deref-2.result.now ≡ s.times = search rules in
    let three : c.deref-3.result.now ≡ s.trace.operations = search rules in
    none_judged c.args.level c.args.wanted s c.args.ranks.now c.deref.result.now c.deref-2.result.now c.deref-3.result.now c.requires one two three said.1

pub returns-in-Refused : goal.returns-in-Refused
returns-in-Refused c =
    let s = subject_of c.args.recording.now c.args.indexed.now.attempts.items c.args.indexed.now.trace c.args.indexed.now.times.items c.args.indexed.now.ranks.items c.args.indexed.now.lists.items in
    let said = rw c.in-Refused.is at c.in_ok-numbers.ensures in
    let one : c.deref.result.now ≡ s.trace.transactions = search rules in
    let two : c.deref-2.result.now ≡ s.times = search rules in
    let three : c.deref-3.result.now ≡ s.trace.operations = search rules in
    none_judged c.args.level c.args.wanted s c.args.ranks.now c.deref.result.now c.deref-2.result.now c.deref-3.result.now c.requires one two three said
