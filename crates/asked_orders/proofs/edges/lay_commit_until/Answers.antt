use Rattle.std.proofs.Common.{ℕ, Option, sym, subst, ◌∙◌}
use Rattle.std.proofs.lemmas.Result.{on_ok_weaker}
use Rattle.asked_orders.specs.Laid.{IsUntil}
use Rattle.asked_orders.proofs.JoinLemmas.{commit_until_still}
use Rattle.asked_orders.proofs.edges.lay_commit_until.Goals as goal

pub returns-in-Some-clause-joined : goal.returns-in-Some-clause-joined
returns-in-Some-clause-joined c = on_ok_weaker c.lay.result (λ may.
    commit_until_still c.args.level c.args.times.now c.args.transactions.now c.args.nodes.starts c.args.nodes.points c.args.nodes.all c.args.moments.now c.args.edges.now.items c.lay.new.edges.items c.in-Some.edge may
    c.args.txn c.args.commit c.requires (sym c.is_committed.ensures ∙ c.if-not-is_committed.false)
    (subst (λ (o : Option ℕ). IsUntil c.args.moments.now c.args.nodes.points c.args.commit o c.in-Some.edge) c.until_commit.ensures c.in-Some.ensures)) c.lay.ensures
