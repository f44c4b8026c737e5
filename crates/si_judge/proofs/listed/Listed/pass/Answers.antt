use Rattle.si_judge.proofs.Names.{ℕ, true, subst, nat_eq, Updates}
use Rattle.si_judge.proofs.ListedLemmas.{listed_entered}
use Rattle.si_judge.proofs.listed.Listed.pass.Goals as goal

pub returns-in_ok-insert : goal.returns-in_ok-insert
returns-in_ok-insert c = λ part old. listed_entered part c.args.item.now c.in-Some.txn c.args.self.now.txns c.insert.new.self c.in-Some.ensures (subst (λ (n : ℕ). Updates nat_eq c.args.self.now.txns c.insert.new.self n true) c.value.ensures.value c.in_ok-insert.ensures.updates) old
