use Rattle.si_judge.proofs.Names.{sym, ap, ◌∙◌, nat_eq, contains, any_listed, listed_any}
use Rattle.si_judge.proofs.listed.Listed.has.Goals as goal

pub returns : goal.returns
returns c = λ part has.
    let is = c.contains.ensures ∙ ap (λ n. contains nat_eq c.args.self.now.txns n) c.value.ensures.value ∙ has c.args.txn in
    (λ e. any_listed part c.args.txn (sym is ∙ e), λ listed. is ∙ listed_any part c.args.txn listed)
