use Rattle.si_judge.proofs.Names.{ℕ, Some, subst, nat_eq, commit_at}
use Rattle.std.specs.HashMap.{Updates}
use Rattle.si_judge.proofs.CommitLemmas.{commit_noted}
use Rattle.si_judge.proofs.commits.note_commit.Goals as goal

pub returns-in_ok-insert-in-Placed : goal.returns-in_ok-insert-in-Placed
returns-in_ok-insert-in-Placed c =
    let put = subst (λ (n : ℕ). Updates nat_eq c.args.commits.now c.insert.new.self n (Some (commit_at c.in-Placed.commit c.args.place))) c.value.ensures.value c.in_ok-insert-in-Placed.ensures.updates in
    commit_noted c.args.commits.now c.insert.new.self c.args.item.now c.in-Placed.start c.in-Placed.commit c.args.place c.in-Placed.is put
