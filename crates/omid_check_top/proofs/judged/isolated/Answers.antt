use Rattle.std.proofs.Common.{◌≡◌, ℕ, ◌∙◌, ap, length, rules}
use Rattle.trace_report.specs.Verdict.{holds_text}
use Rattle.omid_check_top.specs.Subject.{subject_of}
use Rattle.omid_check_top.proofs.FindingLemmas.{both_ok}
use Rattle.omid_check_top.proofs.MadeLemmas.{is_holding}
use Rattle.omid_check_top.proofs.judged.isolated.Goals as goal

pub returns-in-Holds-clause-found : goal.returns-in-Holds-clause-found
returns-in-Holds-clause-found c =
    let s = subject_of c.args.recording.now c.args.indexed.now.attempts.items c.args.indexed.now.trace c.args.indexed.now.times.items c.args.indexed.now.ranks.items c.args.indexed.now.lists.items in
    let has = rw c.in-Holds.is at c.in_ok-find.ensures in
    let all : c.len.result ≡ length c.args.indexed.now.trace.transactions = search rules in
    both_ok _ _ _ c.holds.result
    (λ made code told. is_holding c.args.level c.args.wanted s c.in-Holds.field-0.items made.code made.text.items has code (told ∙ ap (λ (n : ℕ). holds_text c.args.level c.args.wanted n) all))
    c.holds.ensures.code c.holds.ensures.told
