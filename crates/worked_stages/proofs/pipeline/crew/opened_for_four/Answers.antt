use Rattle.std.proofs.Common.{◌≡◌, ℕ, ◌+◌, ◌-◌, ◌*◌, List, length, get_or, ap, sym, ◌∙◌, arith}
use Rattle.std.specs.Prelude.{Some, vec_len}
use Rattle.std.specs.Result.{result_ok}
use Rattle.std.proofs.lemmas.Option.{same_Some}
use Rattle.stage_queues.specs.Plan.{Plan}
use Rattle.stage_queues.specs.Passes.{StageAccount}
use Rattle.stage_queues.specs.Opening.{opened_passes}
use Rattle.reply_pipeline.proofs.SeatLemmas.{length-opened_passes, sender_at}
use Rattle.worked_stages.proofs.pipeline.crew.opened_for_four.Goals as goal

pub returns-clause-session : goal.returns-clause-session
returns-clause-session c =
    let plan : Plan = c.in_ok-queues.queues in
    let passes : List StageAccount = c.in_ok-queues.passes.items in
    let p : StageAccount = c.in_ok-session.session in
    let e = c.in_ok-queues.ensures in
    let two : c.args.setup.now.workers ≡ 2 = c.requires.workers in
    let listed : passes ≡ opened_passes (length plan.nodes) 2 4 plan.nodes = e.passes ∙ ap (λ n. opened_passes n c.args.setup.now.workers 4 plan.nodes) (sym e.nodes) ∙ ap (λ w. opened_passes (length plan.nodes) w 4 plan.nodes) two in
    let all : length passes ≡ length plan.nodes * (2 + 2) + 4 = ap length listed ∙ length-opened_passes (length plan.nodes) 2 4 plan.nodes in
    let last : vec_len c.in_ok-queues.passes - 1 ≡ length plan.nodes * (2 + 2) + 3 = omega arith in
    let read = c.pop.ensures.value p (omega arith) in
    let told : c.pop.result ≡ Some p = c.ok_or.ensures.ok_part ∙ ap (λ r. result_ok r) c.in_ok-session.was in
    let at : p ≡ get_or passes (vec_len c.in_ok-queues.passes - 1) p = same_Some p (get_or passes (vec_len c.in_ok-queues.passes - 1) p) (sym told ∙ read) in
    sender_at plan 2 4 passes listed 3 p (omega arith) (at ∙ ap (λ n. get_or passes n p) last)
