-- The passes of a crew, cut off those that were opened.
use Rattle.std.proofs.Common.{◌≡◌, ℕ, ◌+◌, ◌-◌, ◌*◌, ◌≤◌, List, [], length, get_or, take, drop, sym, ap, ◌∙◌, arith, length-drop}
use Rattle.std.specs.Prelude.{All}
use Rattle.std.proofs.lemmas.List.{get_or-drop, get_or_default}
use Rattle.std.proofs.lemmas.List.Elements.{All-from_get_or}
use Rattle.stage_queues.specs.Plan.{Plan, AreNumbered}
use Rattle.stage_queues.specs.Passes.{StageAccount}
use Rattle.stage_queues.specs.Opening.{opened_passes, IsNew}
use Rattle.reply_pipeline.specs.Seats.{IsSenderPass, AreReady}
use Rattle.reply_pipeline.proofs.SeatLemmas.{length-opened_passes, stages_ready, sender_at}

module _ (plan : Plan) (nodes workers senders : ℕ) (passes : List StageAccount) (all_nodes : length plan.nodes ≡ nodes) (opened : passes ≡ opened_passes nodes workers senders plan.nodes) where
  listed : passes ≡ opened_passes (length plan.nodes) workers senders plan.nodes
  listed = opened ∙ ap (λ n. opened_passes n workers senders plan.nodes) (sym all_nodes)

  -- those of the stages, and then those of the senders
  counted : length passes ≡ length plan.nodes * (workers + 2) + senders
  counted = ap length listed ∙ length-opened_passes (length plan.nodes) workers senders plan.nodes

  pub enough : senders ≤ length passes
  enough = omega (arith, counted)

  module _ (cut : ℕ) (is_cut : cut ≡ length passes - senders) where
    behind_stages : cut ≡ length plan.nodes * (workers + 2)
    behind_stages = omega (arith, counted, is_cut)

    pub crew_stages : (stages : List StageAccount) → AreNumbered plan.nodes → All (IsNew plan) passes → stages ≡ take cut passes → AreReady plan workers stages
    crew_stages stages numbered new is = stages_ready plan workers senders passes listed stages numbered new (is ∙ ap (λ n. take n passes) behind_stages)

    pub crew_count : (rest : List StageAccount) → rest ≡ drop cut passes → length rest ≡ senders
    crew_count rest is = ap length is ∙ length-drop cut passes ∙ omega (arith, counted, is_cut)

    pub crew_senders : (rest : List StageAccount) → rest ≡ drop cut passes → All (IsSenderPass plan) rest
    crew_senders rest is =
        let none : StageAccount = record { worker = 0; held = 0; nodes = [] } in
        let fit : length rest ≡ senders = crew_count rest is in
        All-from_get_or (IsSenderPass plan) rest none (λ i lt.
        let p : StageAccount = get_or rest i none in
        let same : p ≡ get_or rest i p = get_or_default rest i none p lt in
        sender_at plan workers senders passes listed i p (omega (arith, fit, lt))
        (same ∙ ap (λ l. get_or l i p) (is ∙ ap (λ n. drop n passes) behind_stages) ∙ get_or-drop (length plan.nodes * (workers + 2)) passes i p))
