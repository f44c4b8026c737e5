-- A reply stage's pass after each of its calls.
use Rattle.std.proofs.Common.{◌≡◌, ℕ, ◌+◌, nat_lt, cond, true, false, List, [], ◌∷◌, length, refl, sym, ap, ◌∙◌, subst, arith}
use Rattle.std.specs.Prelude.{Option, None, Some, IfSome, IsSomeAnd, MatchOption, slice_get}
use Rattle.persist_batches.specs.declared.numbered.Numbered.{Numbered}
use Rattle.persist_batches.specs.Waiting.{placed}
use Rattle.persist_batches.specs.Order.{Order, IsWelcome}
use Rattle.queue_passes.specs.Holds.{Ring, Holds}
use Rattle.settled_rule.specs.declared.account.SettledAccount.{SettledAccount}
use Rattle.settled_rule.specs.Accounts as settled
use Rattle.stage_queues.specs.Plan.{Plan, NodeRing, node_ring}
use Rattle.stage_queues.specs.NodePasses.{changed, settled_taken, IsOfRing}
use Rattle.stage_queues.specs.Passes.{StageAccount, at_node, got, UsesSettled}
use Rattle.reply_pipeline.specs.Replying.{IsReplyPass, IsReplying}
use Rattle.reply_pipeline.proofs.ReachLemmas.{rings_here, ring_node, changed_of, now_here, still_reaches}

there_of : (ring : Ring) (o : Option (Holds SettledAccount)) → IfSome o (IsOfRing ring) → IsSomeAnd o (λ q. q.account.put ≡ []) → IsSomeAnd o (IsOfRing ring)
there_of ring None of put = absurd put
there_of ring (Some q) of put = of

puts_nothing : (item : Numbered) (o : Option (Holds SettledAccount)) → IsSomeAnd o (λ q. q.account.put ≡ []) → IsSomeAnd (changed (λ a. settled.with_taken a item) o) (λ q. q.account.put ≡ [])
puts_nothing item None put = absurd put
puts_nothing item (Some q) put = put

pub length-placed : (waiting : List Numbered) (item : Numbered) → length (placed waiting item) ≡ length waiting + 1
unfolding placed
length-placed [] item = refl
length-placed (other ∷ waiting) item = elim (nat_lt item.number other.number) as (λ b. length (cond b (item ∷ other ∷ waiting) (other ∷ placed waiting item)) ≡ length (other ∷ waiting) + 1) [
  | true ↦ omega arith
  | false ↦ let rest = length-placed waiting item in omega arith
]

module _ (queues : Plan) (node : ℕ) (p q : StageAccount) where
  pub may_receive : (ring : NodeRing) → IsReplyPass queues node p → IfSome (slice_get queues.nodes node) (λ rings. ring ≡ node_ring node rings.settled) → UsesSettled ring p
  may_receive ring h is = rings_here queues node p _ _ h.reaches is (λ rings of e. subst (λ r. UsesSettled r p) (sym e) (record {
    there = (let l = h.reaches.there in let f = h.reaches.of.fit in omega arith);
    uses = there_of rings.settled (at_node p node).settled of.settled h.takes;
  }))

  pub received : (item : Numbered) → IsReplyPass queues node p → q ≡ got p node (settled_taken item (at_node p node)) → IsReplyPass queues node q
  received item h is =
      let new = settled_taken item (at_node p node) in
      let nodes = ap (λ x. x.nodes) is in
      let here = now_here queues node p q new h.reaches nodes in record {
        reaches = still_reaches queues node p q new h.reaches nodes (λ rings of. record { requests = of.requests; batches = of.batches; settled = changed_of _ rings.settled (at_node p node).settled of.settled });
        no_tickets = ap (λ n. n.requests) here ∙ h.no_tickets;
        no_batches = ap (λ n. n.batches) here ∙ h.no_batches;
        takes = subst (λ n. IsSomeAnd n.settled (λ r. r.account.put ≡ [])) (sym here) (puts_nothing item (at_node p node).settled h.takes);
      }

module _ (queues : Plan) (node : ℕ) (p q : StageAccount) (ring : NodeRing) where
  pub has_received : (result : Option Numbered) → IsReplyPass queues node p → IfSome (slice_get queues.nodes node) (λ rings. ring ≡ node_ring node rings.settled)
      → MatchOption result (q ≡ p) (λ item. q ≡ got p ring.node (settled_taken item (at_node p ring.node))) → IsReplyPass queues node q
  has_received None h is e = subst (IsReplyPass queues node) (sym e) h
  has_received (Some item) h is e = received queues node p q item h (subst (λ n. q ≡ got p n (settled_taken item (at_node p n))) (ring_node queues node p ring (λ rings. rings.settled) h.reaches is) e)

-- a batch more waits for its turn
pub placed_one : (queues : Plan) (node : ℕ) (p : StageAccount) (old new : Order) (item : Numbered) → IsReplying queues node 1 old p → IsWelcome old item.number → new ≡ record old { waiting = placed old.waiting item } → IsReplying queues node 0 new p
placed_one queues node p old new item h welcome is = subst (λ order. IsReplying queues node 0 order p) (sym is) (record {
  pass = h.pass;
  holds = (let e = h.holds in omega (arith, length-placed old.waiting item));
  room = (let l = welcome.0 in omega (arith, length-placed old.waiting item));
  small = h.small;
})
