use Rattle.std.proofs.Common.{◌≡◌, ℕ, ◌+◌, List, [], ◌∷◌, ◌++◌, get_or, take, refl, sym, subst, rules}
use Rattle.std.proofs.lemmas.List.{take_more}
use Rattle.rising_numbers.specs.Rises.{Leads}
use Rattle.version_orders.specs.Orders.{IsStep}
use Rattle.version_orders.proofs.OrderLemmas.{leads_none, leads_push}
use Rattle.version_orders.proofs.paths.is_path.Goals as goal

pub loop-i-init : goal.loop-i-init
loop-i-init c = leads_none c.args.edges.now c.args.from c.args.from refl

pub loop-i-preserved : goal.loop-i-preserved
loop-i-preserved c =
    let step : IsStep c.args.edges.now (get_or c.args.path.now c.loop-i.i 0) c.loop-i.node c.end_of-next.result = c.is_step.ensures (search rules) in
    let leads = leads_push c.args.edges.now c.args.from (take c.loop-i.i c.args.path.now) c.loop-i.node (get_or c.args.path.now c.loop-i.i 0) step.edge c.loop-i.invariant step.stands step.from in
    subst (λ (ps : List ℕ). Leads c.args.edges.now c.args.from ps c.end_of-next.result) (sym (take_more c.args.path.now c.loop-i.i 0 c.loop-i-test.true))
    (subst (λ (y : ℕ). Leads c.args.edges.now c.args.from (take c.loop-i.i c.args.path.now ++ get_or c.args.path.now c.loop-i.i 0 ∷ []) y) step.to leads)
