-- The passes that the opening gives are of the queues, and hold nothing.
use Rattle.std.proofs.Common.{◌≡◌, ℕ, suc, ◌==◌, List, [], ◌∷◌, length, map, replicate, set, get_or, inl, inr, refl, sym, ap, ◌∙◌, subst, get_or-set_same, get_or-set_other, arith}
use Rattle.std.specs.Prelude.{Some, All, slice_get, flat_map}
use Rattle.std.specs.List.{range_with_len}
use Rattle.std.proofs.lemmas.Bool.{cases_Bool, eqb-true, eqb-false}
use Rattle.std.proofs.lemmas.Option.{same_Some, slice_get-get_or, slice_get_within}
use Rattle.std.proofs.lemmas.List.{length-set, length-map, length-replicate, get_or-replicate, get_or-map}
use Rattle.std.proofs.lemmas.List.Concat.{flat_map-cons}
use Rattle.std.proofs.lemmas.List.Elements.{All-nil, All-cons, All-append, All-map}
use Rattle.stage_queues.specs.declared.node_pass.NodePass.{NodePass}
use Rattle.stage_queues.specs.Plan.{NodeRings, Plan, AreNumbered}
use Rattle.stage_queues.specs.NodePasses.{nothing, IsNodePassOf}
use Rattle.stage_queues.specs.Passes.{pass_at}
use Rattle.stage_queues.specs.Opening.{request_stage_part, worker_part, reply_stage_part, sender_part, stage_pass, worker_pass, session_pass, session_passes, node_passes, opened_passes, IsNew}

nothing_of : (rings : NodeRings) → IsNodePassOf rings nothing
nothing_of rings = record { requests = tt; batches = tt; settled = tt }

-- a pass that has something at one node alone
stage_of : (plan : Plan) (node worker : ℕ) (r : NodeRings) (part : NodePass) → slice_get plan.nodes node ≡ Some r → r.node ≡ node → IsNodePassOf r part → IsNew plan (stage_pass (length plan.nodes) r.node worker part)
stage_of plan node worker r part at is of = record {
  holds = refl;
  queues = record {
    fit = length-set (replicate (length plan.nodes) nothing) r.node part ∙ length-replicate (length plan.nodes) nothing;
    each = λ n rings there.
        let count = length plan.nodes in
        let within = slice_get_within plan.nodes n rings there in
        elim (cases_Bool (n == r.node)) [
          | inl q ↦ let e = eqb-true n r.node q in
              let same : r ≡ rings = same_Some r rings (sym at ∙ ap (slice_get plan.nodes) (sym is ∙ sym e) ∙ there) in
              let here : pass_at (set (replicate count nothing) r.node part) n ≡ part = ap (pass_at (set (replicate count nothing) r.node part)) e ∙ get_or-set_same (replicate count nothing) r.node part nothing (omega (arith, e, within, length-replicate count nothing)) in
              subst (λ p. IsNodePassOf rings p) (sym here) (subst (λ s. IsNodePassOf s part) same of)
          | inr q ↦ let ne = eqb-false n r.node q in
              let away : pass_at (set (replicate count nothing) r.node part) n ≡ nothing = get_or-set_other (replicate count nothing) r.node n part nothing ne ∙ get_or-replicate count n nothing nothing within in
              subst (IsNodePassOf rings) (sym away) (nothing_of rings)
        ];
  };
}

session_of : (plan : Plan) (sender : ℕ) → IsNew plan (session_pass plan.nodes sender)
session_of plan sender = record {
  holds = refl;
  queues = record {
    fit = length-map plan.nodes (sender_part sender);
    each = λ n rings there.
        let within = slice_get_within plan.nodes n rings there in
        let read : get_or plan.nodes n rings ≡ rings = same_Some _ _ (sym (slice_get-get_or plan.nodes n rings within) ∙ there) in
        let here : pass_at (map (sender_part sender) plan.nodes) n ≡ sender_part sender rings = get_or-map (sender_part sender) plan.nodes n rings nothing within ∙ ap (sender_part sender) read in
        subst (IsNodePassOf rings) (sym here) (record { requests = refl; batches = tt; settled = tt });
  };
}

all_of_each : {A B : Type 0} (P : B → Type 0) (f : A → List B) (xs : List A) → ((n : ℕ) (x : A) → slice_get xs n ≡ Some x → All P (f x)) → All P (flat_map f xs)
all_of_each P f [] h = All-nil P
all_of_each P f (x ∷ xs) h = subst (All P) (sym (flat_map-cons f x xs)) (All-append P (f x) (flat_map f xs) (h 0 x refl) (all_of_each P f xs (λ n y at. h (suc n) y at)))

pub opened_are_new : (plan : Plan) (nodes workers senders : ℕ) → nodes ≡ length plan.nodes → AreNumbered plan.nodes → All (IsNew plan) (opened_passes nodes workers senders plan.nodes)
opened_are_new plan nodes workers senders count numbered =
    let New = IsNew plan in
    let each : (n : ℕ) (r : NodeRings) → slice_get plan.nodes n ≡ Some r → All New (node_passes nodes workers senders r) = λ n r at.
    let is = numbered n r at in
    let stage : (worker : ℕ) (part : NodePass) → IsNodePassOf r part → New (stage_pass nodes r.node worker part) = λ worker part of. subst (λ k. New (stage_pass k r.node worker part)) (sym count) (stage_of plan n worker r part at is of) in
    let first = stage 0 (request_stage_part workers senders r) (record { requests = refl; batches = refl; settled = tt }) in
    let middle = All-map New (worker_pass nodes r) (range_with_len 0 workers) (λ k d lt. stage _ (worker_part r) (record { requests = tt; batches = refl; settled = refl })) in
    let last = stage 0 (reply_stage_part workers r) (record { requests = tt; batches = tt; settled = refl }) in
    All-cons New _ _ first (All-append New (map (worker_pass nodes r) (range_with_len 0 workers)) _ middle (All-cons New _ [] last (All-nil New))) in
    All-append New (flat_map (node_passes nodes workers senders) plan.nodes) (session_passes senders plan.nodes) (all_of_each New (node_passes nodes workers senders) plan.nodes each)
    (All-map New (session_pass plan.nodes) (range_with_len 0 senders) (λ k d lt. session_of plan _))
