-- What a worker's pass may do where a batch is sent by hand.
use Rattle.std.proofs.Common.{◌≡◌, ℕ, ◌<◌, ◌≤◌, ⊎_elim, length, get_or, sym, subst, arith}
use Rattle.std.specs.Prelude.{Option, None, Some, IfSome, IsSomeAnd, slice_get}
use Rattle.std.proofs.lemmas.Option.{slice_get_cases}
use Rattle.queue_passes.specs.Holds.{Holds}
use Rattle.batch_rule.specs.declared.account.BatchAccount.{BatchAccount}
use Rattle.settled_rule.specs.declared.account.SettledAccount.{SettledAccount}
use Rattle.stage_queues.specs.Plan.{Plan, NodeRing, NodeRings, node_ring}
use Rattle.stage_queues.specs.NodePasses.{IsOfRing}
use Rattle.stage_queues.specs.Passes.{StageAccount, pass_at, at_node, UsesSettled}
use Rattle.stage_queues.specs.Laws.{PutsWhatItTook}
use Rattle.reply_pipeline.specs.Persisting.{SaidOf, IsPersistPass}

settled_there : (P : Holds SettledAccount → Type 0) (b : Option (Holds BatchAccount)) (s : Option (Holds SettledAccount)) → SaidOf PutsWhatItTook b s → IfSome s P → IsSomeAnd s P
settled_there P None s h p = absurd h
settled_there P (Some b) None h p = absurd h
settled_there P (Some b) (Some s) h p = p

module _ (queues : Plan) (node : ℕ) (p q : StageAccount) (ring : NodeRing) (h : IsPersistPass queues node p) (same : q.nodes ≡ p.nodes) where
  uses_here : (rings : NodeRings) → slice_get queues.nodes node ≡ Some rings → ring ≡ node_ring node rings.settled → UsesSettled ring q
  uses_here rings at e = subst (λ r. UsesSettled r q) (sym e) (record {
    there = subst (λ nodes. node < length nodes) (sym same) (let l = h.reaches.there in let f = h.reaches.of.fit in omega arith);
    uses = subst (λ nodes. IsSomeAnd (pass_at nodes node).settled (IsOfRing rings.settled)) (sym same) (settled_there (IsOfRing rings.settled) (at_node p node).batches (at_node p node).settled h.puts (h.reaches.of.each node rings at).settled);
  })

  pub settles_by_hand : IfSome (slice_get queues.nodes node) (λ rings. ring ≡ node_ring node rings.settled) → UsesSettled ring q
  settles_by_hand is =
      ⊎_elim
      (λ (x : (r : NodeRings) × (node < length queues.nodes) × (slice_get queues.nodes node ≡ Some r) × (get_or queues.nodes node r ≡ r)). uses_here x.0 x.2 (subst (λ o. IfSome o (λ rings. ring ≡ node_ring node rings.settled)) x.2 is))
      (λ (x : (length queues.nodes ≤ node) × _). absurd (let l = h.reaches.there in let m = x.0 in omega arith))
      (slice_get_cases queues.nodes node).1
