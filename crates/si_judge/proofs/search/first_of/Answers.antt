use Rattle.si_judge.proofs.Names.{◌≡◌, ℕ, Option, Some, None, inl, inr, subst, arith, cases_lt, IsSecond, Passes}
use Rattle.si_judge.proofs.Names.{passes_no}
use Rattle.si_judge.proofs.search.first_of.Goals as goal

pub returns-in-Some-clause-pair : goal.returns-in-Some-clause-pair
returns-in-Some-clause-pair c =
    let found : IsSecond c.args.rule c.args.items.now c.loop-first.first (Some c.in-Some.second) = subst (λ (place : Option ℕ). IsSecond c.args.rule c.args.items.now c.loop-first.first place) c.in-Some.is c.in_ok-second.ensures.second in
    record {
      broken = found.0;
      first = λ p q less broken. passes_no c.args.rule c.args.items.now p q (c.loop-first.invariant p less) broken;
      second = found.1;
    }

pub loop-first-preserved : goal.loop-first-preserved
loop-first-preserved c =
    let passed : IsSecond c.args.rule c.args.items.now c.loop-first.first None = subst (λ (place : Option ℕ). IsSecond c.args.rule c.args.items.now c.loop-first.first place) c.in_default.is c.in_ok-second.ensures.second in
    λ i less. elim (cases_lt i c.loop-first.first) [
      | inl before ↦ c.loop-first.invariant i before
      | inr more ↦
          let at : c.loop-first.first ≡ i = omega (arith, less, more) in
          subst (λ (n : ℕ). Passes c.args.rule c.args.items.now n) at passed
    ]
