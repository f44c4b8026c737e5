use Rattle.si_judge.proofs.Names.{ℕ, true, subst, nat_eq, Updates}
use Rattle.si_judge.proofs.SharerLemmas.{sharer_entered}
use Rattle.si_judge.proofs.sharers.enter.Goals as goal

pub returns-in_ok-insert : goal.returns-in_ok-insert
returns-in_ok-insert c = λ h part start keys held. sharer_entered h part c.args.item.now start c.in-Some.writer c.args.starts.now c.insert.new.self (c.in-Some.ensures h start keys) (subst (λ (n : ℕ). Updates nat_eq c.args.starts.now c.insert.new.self n true) c.value.ensures.value c.in_ok-insert.ensures.updates) held
