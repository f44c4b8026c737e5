-- For actor_threads and worked_stages too.
-- For those who hand out passes: each pass as the opening gives it is one with which its stage may begin.
use Rattle.std.proofs.Common.{◌≡◌, ℕ, ◌+◌, ◌-◌, ◌*◌, ◌/◌, ◌%◌, ◌<◌, ◌≤◌, ◌==◌, ⊎_elim, List, [], ◌∷◌, length, get_or, inl, inr, refl, sym, ap, ◌∙◌, subst, mod-lt, div-lt_iff_lt-mul, length-append, suc-mul, arith}
use Rattle.std.specs.Prelude.{Some, All, slice_get, take, flat_map, if◌then◌else◌}
use Rattle.std.proofs.lemmas.Bool.{cases_Bool, eqb-true, eqb-false}
use Rattle.std.proofs.lemmas.Nat.{div-add-mod'}
use Rattle.std.proofs.lemmas.List.Elements.{All-get_or}
use Rattle.std.proofs.lemmas.Option.{slice_get_cases, slice_get_within, slice_get_read, get_or_from_slice_get}
use Rattle.std.proofs.lemmas.List.{length-take-le, get_or-take}
use Rattle.std.proofs.lemmas.List.Concat.{flat_map-cons}
use Rattle.std.proofs.lemmas.List.FromFn.{length-map-range_with_len}
use Rattle.stamp_base.specs.declared.stage.Stage.{Stage}
use Rattle.stamp_base.specs.declared.stage.Stage.TheVariants.{Request, Persist, Reply}
use Rattle.stage_queues.specs.Plan.{Plan, NodeRings, AreNumbered}
use Rattle.stage_queues.specs.Passes.{StageAccount}
use Rattle.stage_queues.specs.Opening.{request_stage_part, stage_pass, session_pass, session_passes, node_passes, opened_passes, IsNew}
use Rattle.stage_queues.proofs.PlaceLemmas.{length-node_passes, node_place, worker_place, reply_place, session_place}
use Rattle.reply_pipeline.specs.Seats.{IsReadyFor, IsSenderPass, AreReady, stage_at}
use Rattle.reply_pipeline.proofs.OpeningLemmas.{request_pass, persist_pass, reply_pass}
use Rattle.reply_pipeline.proofs.TicketLemmas.{new_sender}

-- what holds of the first, of each worker's and of the last holds of each place
by_stage : (workers k : ℕ) (P : Stage → Type 0) → k < workers + 2 → (k ≡ 0 → P Request) → ((w : ℕ) → w < workers → k ≡ 1 + w → P Persist) → (k ≡ 1 + workers → P Reply) → P (stage_at workers k)
by_stage workers k P lt request persist reply = elim (cases_Bool (k == 0)) [
  | inl e ↦ subst (λ b. P (if b then Request else if k == workers + 1 then Reply else Persist)) (sym e) (request (eqb-true k 0 e))
  | inr e ↦ subst (λ b. P (if b then Request else if k == workers + 1 then Reply else Persist)) (sym e) (elim (cases_Bool (k == workers + 1)) [
    | inl last ↦ subst (λ b. P (if b then Reply else Persist)) (sym last) (reply (let i = eqb-true k (workers + 1) last in omega arith))
    | inr other ↦
        let not_first = eqb-false k 0 e in
        let not_last = eqb-false k (workers + 1) other in
        subst (λ b. P (if b then Reply else Persist)) (sym other) (persist (k - 1) (omega (arith, not_first, not_last)) (omega (arith, not_first, not_last)))
  ])
]

module _ (plan : Plan) (workers senders : ℕ) (rings : NodeRings) (p : StageAccount) (new : IsNew plan p) (within : rings.node < length plan.nodes) where
  -- the k-th pass of a node
  ready_there : (k : ℕ) → k < workers + 2 → p ≡ get_or (node_passes (length plan.nodes) workers senders rings) k p → IsReadyFor plan rings.node (stage_at workers k) p
  ready_there k lt is = by_stage workers k (λ stage. IsReadyFor plan rings.node stage p) lt
      (λ first.
      let e : p ≡ stage_pass (length plan.nodes) rings.node 0 (request_stage_part workers senders rings) = is ∙ ap (λ i. get_or (node_passes (length plan.nodes) workers senders rings) i p) first in
      let ready = request_pass plan rings p new within workers senders e in
      (ready.0, ready.1, new.holds))
      (λ w few turn. (
        persist_pass plan rings p new within w (is ∙ ap (λ i. get_or (node_passes (length plan.nodes) workers senders rings) i p) turn ∙ worker_place (length plan.nodes) workers senders w rings p few),
        new.holds,
      ))
      (λ last. (
        reply_pass plan rings p new within workers (is ∙ ap (λ i. get_or (node_passes (length plan.nodes) workers senders rings) i p) last ∙ reply_place (length plan.nodes) workers senders rings p),
        new.holds,
      ))

-- the pass at a place of all
pub ready_at : (plan : Plan) (workers senders : ℕ) (passes : List StageAccount) (place : ℕ) (p : StageAccount) → AreNumbered plan.nodes → passes ≡ opened_passes (length plan.nodes) workers senders plan.nodes
    → All (IsNew plan) passes → place < length plan.nodes * (workers + 2) → slice_get passes place ≡ Some p → IsReadyFor plan (place / (workers + 2)) (stage_at workers (place % (workers + 2))) p
ready_at plan workers senders passes place p numbered listed new within at =
    let some : 0 < workers + 2 = omega arith in
    let node : ℕ = place / (workers + 2) in
    let k : ℕ = place % (workers + 2) in
    let there : node < length plan.nodes = (div-lt_iff_lt-mul some).1 within in
    let turn : k < workers + 2 = mod-lt place some in
    let read : get_or passes place p ≡ p = get_or_from_slice_get passes place p p at in
    let fresh : IsNew plan p = subst (IsNew plan) read (All-get_or (IsNew plan) passes place p (slice_get_within passes place p at) new) in
    ⊎_elim
    (λ (x : (r : NodeRings) × (node < length plan.nodes) × (slice_get plan.nodes node ≡ Some r) × (get_or plan.nodes node r ≡ r)).
    let is_node : x.0.node ≡ node = numbered node x.0 x.2 in
    let e : p ≡ get_or (node_passes (length plan.nodes) workers senders x.0) k p =
    sym read ∙ ap (λ l. get_or l place p) listed ∙ ap (λ i. get_or (opened_passes (length plan.nodes) workers senders plan.nodes) i p) (sym (div-add-mod' place (workers + 2)))
    ∙ node_place (length plan.nodes) workers senders plan.nodes node k x.0 p x.2 turn in
    subst (λ n. IsReadyFor plan n (stage_at workers k) p) is_node (ready_there plan workers senders x.0 p fresh (let i = is_node in omega arith) k turn e))
    (λ (x : (length plan.nodes ≤ node) × _). absurd (let l = there in let m = x.0 in omega arith))
    (slice_get_cases plan.nodes node).1

length-stages : (nodes workers senders : ℕ) (rings : List NodeRings) → length (flat_map (node_passes nodes workers senders) rings) ≡ length rings * (workers + 2)
length-stages nodes workers senders [] = omega arith
length-stages nodes workers senders (r ∷ rings) =
    let m = suc-mul (length rings) (workers + 2) in
    let l = length-node_passes nodes workers senders r in
    let rest = length-stages nodes workers senders rings in
    ap length (flat_map-cons (node_passes nodes workers senders) r rings) ∙ length-append (node_passes nodes workers senders r) (flat_map (node_passes nodes workers senders) rings) ∙ omega (arith, m, l, rest)

pub length-opened_passes : (nodes workers senders : ℕ) (rings : List NodeRings) → length (opened_passes nodes workers senders rings) ≡ length rings * (workers + 2) + senders
length-opened_passes nodes workers senders rings =
    let s = length-stages nodes workers senders rings in
    let t = length-map-range_with_len (session_pass rings) 0 senders in
    length-append (flat_map (node_passes nodes workers senders) rings) (session_passes senders rings) ∙ omega (arith, s, t)

module _ (plan : Plan) (workers senders : ℕ) (passes : List StageAccount) (listed : passes ≡ opened_passes (length plan.nodes) workers senders plan.nodes) where
  -- in front stand those of the stages
  pub stages_ready : (stages : List StageAccount) → AreNumbered plan.nodes → All (IsNew plan) passes → stages ≡ take (length plan.nodes * (workers + 2)) passes → AreReady plan workers stages
  stages_ready stages numbered new is = λ place p at.
      let count : ℕ = length plan.nodes * (workers + 2) in
      let all : length passes ≡ count + senders = ap length listed ∙ length-opened_passes (length plan.nodes) workers senders plan.nodes in
      let fit : length stages ≡ count = ap length is ∙ length-take-le count passes (omega arith) in
      let within : place < count = (let w = slice_get_within stages place p at in omega arith) in
      let read : get_or passes place p ≡ p = sym (get_or-take count passes place p within) ∙ ap (λ l. get_or l place p) (sym is) ∙ get_or_from_slice_get stages place p p at in
      ready_at plan workers senders passes place p numbered listed new within (slice_get_read passes (length passes) place p refl (omega arith) (sym read))

  -- behind them stand those of the sessions' threads
  pub sender_at : (sender : ℕ) (p : StageAccount) → sender < senders → p ≡ get_or passes (length plan.nodes * (workers + 2) + sender) p → IsSenderPass plan p
  sender_at sender p lt is = new_sender plan sender p (is ∙ ap (λ l. get_or l (length plan.nodes * (workers + 2) + sender) p) listed ∙ session_place (length plan.nodes) workers senders plan.nodes sender p lt)
