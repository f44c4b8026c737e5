use Rattle.std.proofs.Common.{◌≡◌, ◌+◌, ◌++◌, All, sym, ◌∙◌, subst, arith}
use Rattle.stage_queues.specs.Plan.{Plan}
use Rattle.stage_queues.specs.Opening.{opened_passes, IsNew}
use Rattle.stage_queues.proofs.NewLemmas.{opened_are_new}
use Rattle.stage_queues.proofs.opening.Opening.finish.Goals as goal

pub returns-clause-new : goal.returns-clause-new
returns-clause-new c =
    let h = c.requires.opening in
    let sizes = c.args.sizes.now in
    let plan : Plan = record { nodes = c.args.self.queues.items; buffers = sizes.workers + 2; direct = sizes.direct } in
    let items : c.append.new.self.items ≡ opened_passes sizes.nodes sizes.workers sizes.senders plan.nodes = c.in_ok-append.ensures.items ∙ (λ i. h.passes i ++ h.sessions i) in
    subst (All (IsNew plan)) (sym items) (opened_are_new plan sizes.nodes sizes.workers sizes.senders (omega (arith, c.requires.whole, c.args.self.queues.ok)) h.numbered)
