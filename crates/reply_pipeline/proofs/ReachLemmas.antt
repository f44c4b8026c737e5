-- A stage's pass at its node, before a call and after it.
use Rattle.std.proofs.Common.{◌≡◌, ◌≢◌, ℕ, ◌<◌, ◌≤◌, ◌==◌, length, get_or, inl, inr, sym, ap, ◌∙◌, subst, ⊎_elim, get_or-set_same, get_or-set_other, arith}
use Rattle.std.specs.Prelude.{Option, None, Some, IfSome, IsSomeAnd, slice_get, slice_set}
use Rattle.std.proofs.lemmas.Option.{slice_get_cases}
use Rattle.std.proofs.lemmas.Bool.{cases_Bool, eqb-true, eqb-false}
use Rattle.std.proofs.lemmas.List.{length-set}
use Rattle.queue_passes.specs.Holds.{Ring, Holds}
use Rattle.stage_queues.specs.declared.node_pass.NodePass.{NodePass}
use Rattle.stage_queues.specs.Plan.{Plan, NodeRing, NodeRings, node_ring}
use Rattle.stage_queues.specs.NodePasses.{nothing, changed, IsOfRing, IsNodePassOf}
use Rattle.stage_queues.specs.Passes.{StageAccount, pass_at, at_node}
use Rattle.reply_pipeline.specs.Reach.{ReachesNode}

-- what is said of the rings of the node holds of some rings, of which the pass is
pub rings_here : (queues : Plan) (node : ℕ) (p : StageAccount) (Q : NodeRings → Type 0) (G : Type 0) → ReachesNode queues node p → IfSome (slice_get queues.nodes node) Q
    → ((rings : NodeRings) → IsNodePassOf rings (at_node p node) → Q rings → G) → G
rings_here queues node p Q G h q f =
    ⊎_elim
    (λ (x : (r : NodeRings) × (node < length queues.nodes) × (slice_get queues.nodes node ≡ Some r) × (get_or queues.nodes node r ≡ r)). f x.0 (h.of.each node x.0 x.2) (subst (λ o. IfSome o Q) x.2 q))
    (λ (x : (length queues.nodes ≤ node) × _). absurd (let l = h.there in let m = x.0 in omega arith))
    (slice_get_cases queues.nodes node).1

-- a queue that the node lends is the node's
pub ring_node : (queues : Plan) (node : ℕ) (p : StageAccount) (ring : NodeRing) (of : NodeRings → Ring) → ReachesNode queues node p → IfSome (slice_get queues.nodes node) (λ rings. ring ≡ node_ring node (of rings)) → ring.node ≡ node
ring_node queues node p ring of h is = rings_here queues node p (λ rings. ring ≡ node_ring node (of rings)) (ring.node ≡ node) h is (λ rings at e. ap (λ r. r.node) e)

pub changed_of : {A : Type 0} (change : A → A) (ring : Ring) (o : Option (Holds A)) → IfSome o (IsOfRing ring) → IfSome (changed change o) (IsOfRing ring)
changed_of change ring None h = h
changed_of change ring (Some p) h = h

pub both_said : {A : Type 0} (P Q : A → Type 0) (o : Option A) → IfSome o P → IsSomeAnd o Q → IsSomeAnd o (λ x. P x × Q x)
both_said P Q None p q = absurd q
both_said P Q (Some x) p q = (p, q)

module _ (queues : Plan) (node : ℕ) (p q : StageAccount) (new : NodePass) (h : ReachesNode queues node p) (is : q.nodes ≡ slice_set p.nodes node new) where
  pub now_here : at_node q node ≡ new
  now_here = ap (λ nodes. pass_at nodes node) is ∙ get_or-set_same p.nodes node new nothing (let l = h.there in let f = h.of.fit in omega arith)

  pub away : (other : ℕ) → other ≢ node → at_node q other ≡ at_node p other
  away other ne = ap (λ nodes. pass_at nodes other) is ∙ get_or-set_other p.nodes node other new nothing ne

  pub still_reaches : ((rings : NodeRings) → IsNodePassOf rings (at_node p node) → IsNodePassOf rings new) → ReachesNode queues node q
  still_reaches of_rings = record {
    there = h.there;
    of = record {
      fit = ap length is ∙ length-set p.nodes node new ∙ h.of.fit;
      each = λ n rings at. elim (cases_Bool (n == node)) [
        | inl e ↦ let same = eqb-true n node e in
            subst (λ m. IsNodePassOf rings (at_node q m)) (sym same) (subst (IsNodePassOf rings) (sym now_here) (of_rings rings (h.of.each node rings (subst (λ m. slice_get queues.nodes m ≡ Some rings) same at))))
        | inr e ↦ subst (IsNodePassOf rings) (sym (away n (eqb-false n node e))) (h.of.each n rings at)
      ];
    };
    alone = λ other ne. away other ne ∙ h.alone other ne;
  }
