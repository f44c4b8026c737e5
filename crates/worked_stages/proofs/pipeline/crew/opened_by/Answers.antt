use Rattle.std.proofs.Common.{◌≡◌, ℕ, ◌+◌, ◌-◌, ◌*◌, List, length, get_or, take, ap, sym, ◌∙◌, subst, arith}
use Rattle.std.specs.Prelude.{Some, vec_len}
use Rattle.std.specs.Result.{result_ok}
use Rattle.std.proofs.lemmas.Option.{same_Some}
use Rattle.std.proofs.lemmas.List.Elements.{All-get_or}
use Rattle.stage_queues.specs.Plan.{Plan}
use Rattle.stage_queues.specs.Passes.{StageAccount}
use Rattle.stage_queues.specs.Opening.{opened_passes, IsNew}
use Rattle.reply_pipeline.proofs.SeatLemmas.{length-opened_passes, stages_ready, sender_at}
use Rattle.worked_stages.proofs.pipeline.crew.opened_by.Goals as goal

module _ (plan : Plan) (nodes workers : ℕ) (passes : List StageAccount) (listed : passes ≡ opened_passes nodes workers 1 plan.nodes) (fit : length plan.nodes ≡ nodes) (two : workers ≡ 2) where
  of_two : passes ≡ opened_passes (length plan.nodes) 2 1 plan.nodes
  of_two = listed ∙ ap (λ n. opened_passes n workers 1 plan.nodes) (sym fit) ∙ ap (λ w. opened_passes (length plan.nodes) w 1 plan.nodes) two

  count : length passes ≡ length plan.nodes * (2 + 2) + 1
  count = ap length of_two ∙ length-opened_passes (length plan.nodes) 2 1 plan.nodes

pub returns-clause-stages : goal.returns-clause-stages
returns-clause-stages c =
    let plan : Plan = c.in_ok-queues.queues in
    let passes : List StageAccount = c.in_ok-queues.stages.items in
    let e = c.in_ok-queues.ensures in
    let two : c.args.setup.now.workers ≡ 2 = c.requires.workers in
    let all = count plan c.args.setup.now.nodes c.args.setup.now.workers passes e.passes e.nodes two in
    let rest : vec_len c.in_ok-queues.stages - 1 ≡ length plan.nodes * (2 + 2) = omega arith in
    stages_ready plan 2 1 passes (of_two plan c.args.setup.now.nodes c.args.setup.now.workers passes e.passes e.nodes two) c.pop.new.self.items e.numbered e.new
    (c.pop.ensures.rest ∙ ap (λ n. take n passes) rest)

pub returns-clause-session : goal.returns-clause-session
returns-clause-session c =
    let plan : Plan = c.in_ok-queues.queues in
    let passes : List StageAccount = c.in_ok-queues.stages.items in
    let p : StageAccount = c.in_ok-session.session in
    let e = c.in_ok-queues.ensures in
    let two : c.args.setup.now.workers ≡ 2 = c.requires.workers in
    let all = count plan c.args.setup.now.nodes c.args.setup.now.workers passes e.passes e.nodes two in
    let last : vec_len c.in_ok-queues.stages - 1 ≡ length plan.nodes * (2 + 2) + 0 = omega arith in
    let read = c.pop.ensures.value p (omega arith) in
    let told : c.pop.result ≡ Some p = c.ok_or.ensures.ok_part ∙ ap (λ r. result_ok r) c.in_ok-session.was in
    let at : p ≡ get_or passes (vec_len c.in_ok-queues.stages - 1) p = same_Some p (get_or passes (vec_len c.in_ok-queues.stages - 1) p) (sym told ∙ read) in (
      sender_at plan 2 1 passes (of_two plan c.args.setup.now.nodes c.args.setup.now.workers passes e.passes e.nodes two) 0 p (omega arith) (at ∙ ap (λ n. get_or passes n p) last),
      (subst (IsNew plan) (sym at) (All-get_or (IsNew plan) passes (vec_len c.in_ok-queues.stages - 1) p (omega arith) e.new)).holds,
    )
