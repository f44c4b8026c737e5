use Rattle.std.proofs.lemmas.Result.{IfOk-weaker}
use Rattle.std.proofs.Common.{[]}
use Rattle.trace_rules.specs.Wants.{asked_of}
use Rattle.version_ranks.specs.Ranks.{asked_with}
use Rattle.outer_reads.specs.Sources.{trace_of}
use Rattle.trace_judge.specs.declared.Verdict.{Verdict}
use Rattle.trace_judge.specs.Verdicts.{IsVerdict}
use Rattle.trace_judge.proofs.JudgeLemmas.{verdict_plain}
use Rattle.trace_judge.proofs.judge_wanted.Goals as goal

pub returns : goal.returns
returns c = IfOk-weaker c.judge_told.result
    (λ (verdict : Verdict). IsVerdict c.args.level (asked_with c.args.wanted c.args.level c.args.times.now [] (trace_of c.args.transactions.now c.args.operations.now)) (trace_of c.args.transactions.now c.args.operations.now) verdict)
    (λ (verdict : Verdict). IsVerdict c.args.level (asked_of c.args.wanted c.args.level c.args.times.now (trace_of c.args.transactions.now c.args.operations.now)) (trace_of c.args.transactions.now c.args.operations.now) verdict)
    (λ verdict said. verdict_plain c.args.wanted c.args.level c.args.times.now (trace_of c.args.transactions.now c.args.operations.now) verdict said) c.judge_told.ensures
