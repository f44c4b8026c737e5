use Rattle.si_judge.proofs.Names.{sym, ap, ◌∙◌, nat_eq, contains}
use Rattle.si_judge.proofs.SharerLemmas.{sharer_shares, shares_entered}
use Rattle.si_judge.proofs.sharers.Sharers.has.Goals as goal

pub returns : goal.returns
returns c = λ h start held.
    let is = c.contains.ensures ∙ ap (λ n. contains nat_eq c.args.self.now.starts n) c.value.ensures.value in
    (λ e. sharer_shares h start c.args.other c.args.self.now.starts held (sym is ∙ e), λ shared. is ∙ shares_entered h start c.args.other c.args.self.now.starts held shared)
