use Rattle.si_judge.proofs.Names.{◌≡◌, ◌<◌, ℕ, List, length, take, inl, inr, subst, arith, length-take, cases_lt, Item}
use Rattle.si_judge.proofs.Names.{Passes, HasLastWrites, HasListed}
use Rattle.isolation_rules.specs.declared.verdict.Rule.TheVariants as rule
use Rattle.si_judge.proofs.PushLemmas.{one_more}
use Rattle.si_judge.proofs.reads.first_wrong_read.Goals as goal

pub loop-first-preserved : goal.loop-first-preserved
loop-first-preserved c =
    let items = c.args.items.now in
    let first = c.loop-first.first in
    let less : first < length items = omega (arith, c.loop-first-test.true) in
    let front : length (take first items) ≡ first = omega (arith, length-take first items, less) in
    record {
      passed = λ i below. elim (cases_lt i first) [
        | inl before ↦ c.loop-first.invariant.passed i before
        | inr more ↦
            let at : first ≡ i = omega (arith, below, more) in
            subst (λ (n : ℕ). Passes rule.Read items n) at c.in_default.ensures.second
      ];
      writes = subst (λ (part : List Item). HasLastWrites part c.pass.new.self.versions)
          (one_more items first c.index-items-first.result less c.index-items-first.is)
          (c.in_ok-pass.ensures (take first items) front c.loop-first.invariant.writes);
      listed = subst (λ (part : List Item). HasListed part c.pass-in-loop-first.new.self.txns)
          (one_more items first c.index-items-first-in-loop-first.result less c.index-items-first-in-loop-first.is)
          (c.in_ok-pass-2.ensures (take first items) c.loop-first.invariant.listed);
    }
