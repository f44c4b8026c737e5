use Rattle.std.proofs.Common.{◌≡◌, ◌+◌, ◌<◌, Option, true, slice_get, refl, ap, ◌∙◌, rules, arith}
use Rattle.std.proofs.lemmas.Grind.{common_steps}
use Rattle.std.proofs.lemmas.Option.{slice_get-get_or}
use Rattle.std.proofs.lemmas.Result.{on_ok_weaker}
use Rattle.trace_rules.specs.declared.trace.Transaction.{Transaction}
use Rattle.trace_rules.specs.Trace.{committed_in}
use Rattle.trace_edges.proofs.EdgeLemmas.{own_laid}
use Rattle.trace_edges.proofs.lay_own.Goals as goal

pub returns-in-Some : goal.returns-in-Some
returns-in-Some c =
    let to : c.in-Some.commit ≡ c.args.starts + c.args.txn = first_of (search rules, grind (arith, common_steps)) in
    let some : 0 < c.args.starts = omega (arith, c.if-starts-eq0.false) in
    let done : committed_in (slice_get c.args.transactions.now c.args.txn) ≡ true = ap (λ (o : Option Transaction). committed_in o) (slice_get-get_or c.args.transactions.now c.args.txn _ c.requires) ∙ c.if-not-transactions-txn.false in
    on_ok_weaker c.lay.result (λ may readings order laid. own_laid c.args.transactions.now readings order c.args.starts c.args.nodes c.args.edges.now.items c.lay.new.edges.items (record { from = c.args.txn; to = c.in-Some.commit }) may laid c.args.txn refl to some done) c.lay.ensures
