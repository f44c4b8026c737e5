use Rattle.std.proofs.Common.{◌≡◌, ◌+◌, ◌<◌, true, slice_get, refl, sym, ◌∙◌, rules, arith}
use Rattle.std.proofs.lemmas.Grind.{common_steps}
use Rattle.std.proofs.lemmas.Result.{on_ok_weaker}
use Rattle.trace_rules.specs.Wants.{of_one_process}
use Rattle.asked_orders.proofs.JoinLemmas.{turn_still}
use Rattle.asked_orders.proofs.edges.lay_turn.Goals as goal

pub returns-else-after-nodes-clause-joined : goal.returns-else-after-nodes-clause-joined
returns-else-after-nodes-clause-joined c =
    let less : c.args.before < c.args.after = first_of (search rules, grind (arith, common_steps)) in
    let one : of_one_process (slice_get c.args.transactions.now c.args.before) (slice_get c.args.transactions.now c.args.after) ≡ true = first_of (search rules, grind (arith, common_steps)) in
    let from : c.in-Some.commit ≡ c.args.nodes.starts + c.args.before = first_of (search rules, grind (arith, common_steps)) in
    let low : c.in-Some.commit < c.args.nodes.points = first_of (search rules, grind (arith, common_steps)) in
    let high : c.args.after < c.args.nodes.points = first_of (search rules, grind (arith, common_steps)) in
    on_ok_weaker c.lay.result (λ may.
    turn_still c.args.level c.args.transactions.now c.args.nodes.starts c.args.nodes.points c.args.nodes.all c.args.plan.now.moments.items c.args.edges.now.items c.lay.new.edges.items (record { from = c.in-Some.commit; to = c.args.after }) may
    c.args.before c.args.after less one from refl low high) c.lay.ensures
