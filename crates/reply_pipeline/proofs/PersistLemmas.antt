-- A persist worker's pass after each of its calls.
use Rattle.std.proofs.Common.{◌≡◌, ℕ, ◌+◌, List, [], ◌∷◌, ◌++◌, sym, ap, ◌∙◌, subst, arith}
use Rattle.std.specs.Prelude.{Option, None, Some, Result, Ok, Err, IfSome, IsSomeAnd, MatchOption, MatchResult, OnOk, sum_by, flat_map, slice_get}
use Rattle.std.proofs.lemmas.List.Sums.{sum_by-append, sum_by_push}
use Rattle.persist_batches.specs.declared.numbered.Numbered.{Numbered}
use Rattle.queue_passes.specs.Holds.{Holds}
use Rattle.batch_rule.specs.declared.account.BatchAccount.{BatchAccount}
use Rattle.batch_rule.specs.Accounts as batch
use Rattle.settled_rule.specs.declared.account.SettledAccount.{SettledAccount}
use Rattle.settled_rule.specs.Accounts as settled
use Rattle.stage_queues.specs.Plan.{Plan, NodeRing, node_ring}
use Rattle.stage_queues.specs.NodePasses.{changed, batch_taken, settled_put, IsOfRing}
use Rattle.stage_queues.specs.Passes.{StageAccount, pass_at, at_node, let_go, got, ReceivesBatches, UsesSettled}
use Rattle.reply_pipeline.specs.Persisting.{SaidOf, PutsWithout, IsPersisting, settled_by, taken_by, settled_at, taken_at, Carries, PutsAllButOne}
use Rattle.reply_pipeline.proofs.ReachLemmas.{rings_here, ring_node, changed_of, now_here, still_reaches}

batches_there : (said : BatchAccount → SettledAccount → Type 0) (P : Holds BatchAccount → Type 0) (b : Option (Holds BatchAccount)) (s : Option (Holds SettledAccount)) → SaidOf said b s → IfSome b P → IsSomeAnd b P
batches_there said P None s h p = absurd h
batches_there said P (Some b) s h p = p

pub settled_there : (said : BatchAccount → SettledAccount → Type 0) (P : Holds SettledAccount → Type 0) (b : Option (Holds BatchAccount)) (s : Option (Holds SettledAccount)) → SaidOf said b s → IfSome s P → IsSomeAnd s P
settled_there said P None s h p = absurd h
settled_there said P (Some b) None h p = absurd h
settled_there said P (Some b) (Some s) h p = p

takes_more : (weight : Numbered → ℕ) (a : BatchAccount) (item : Numbered) → sum_by weight (batch.all_taken (batch.with_taken a item)) ≡ sum_by weight (batch.all_taken a) + weight item
takes_more weight a item =
    let rows = flat_map (λ row. row) a.others in
    let after = sum_by-append weight (a.taken ++ item ∷ []) rows in
    let before = sum_by-append weight a.taken rows in
    let own = sum_by_push weight a.taken item in
    omega arith

in_hand : (item : Numbered) (b : Option (Holds BatchAccount)) (s : Option (Holds SettledAccount)) → SaidOf (PutsWithout []) b s → SaidOf (PutsWithout (item ∷ [])) (changed (λ a. batch.with_taken a item) b) s
in_hand item None s h = absurd h
in_hand item (Some b) None h = absurd h
in_hand item (Some b) (Some s) h = λ weight. let before = h weight in let more = takes_more weight b.account item in omega arith

sent_on : (item : Numbered) (b : Option (Holds BatchAccount)) (s : Option (Holds SettledAccount)) → SaidOf (PutsWithout (item ∷ [])) b s → SaidOf (PutsWithout []) b (changed (λ a. settled.with_put a item) s)
sent_on item None s h = absurd h
sent_on item (Some b) None h = absurd h
sent_on item (Some b) (Some s) h = λ weight. let before = h weight in let more = sum_by_push weight s.account.put item in omega arith

module _ (queues : Plan) (node : ℕ) (p : StageAccount) where
  pub may_receive : (hand : List Numbered) (ring : NodeRing) → IsPersisting queues node hand p → IfSome (slice_get queues.nodes node) (λ rings. ring ≡ node_ring node rings.batches) → ReceivesBatches ring p
  may_receive hand ring h is = rings_here queues node p _ _ h.reaches is (λ rings of e. subst (λ r. ReceivesBatches r p) (sym e) (record {
    there = (let l = h.reaches.there in let f = h.reaches.of.fit in omega arith);
    receives = batches_there (PutsWithout hand) (IsOfRing rings.batches) (at_node p node).batches (at_node p node).settled h.puts of.batches;
  }))

  pub may_settle : (hand : List Numbered) (ring : NodeRing) → IsPersisting queues node hand p → IfSome (slice_get queues.nodes node) (λ rings. ring ≡ node_ring node rings.settled) → UsesSettled ring p
  may_settle hand ring h is = rings_here queues node p _ _ h.reaches is (λ rings of e. subst (λ r. UsesSettled r p) (sym e) (record {
    there = (let l = h.reaches.there in let f = h.reaches.of.fit in omega arith);
    uses = settled_there (PutsWithout hand) (IsOfRing rings.settled) (at_node p node).batches (at_node p node).settled h.puts of.settled;
  }))

  pub received : (q : StageAccount) (item : Numbered) → IsPersisting queues node [] p → q ≡ got p node (batch_taken item (at_node p node)) → IsPersisting queues node (item ∷ []) q
  received q item h is = record {
    reaches = still_reaches queues node p q (batch_taken item (at_node p node)) h.reaches (ap (λ x. x.nodes) is) (λ rings of. record { requests = of.requests; batches = changed_of _ rings.batches (at_node p node).batches of.batches; settled = of.settled });
    holds = ap (λ x. x.held) is ∙ (let e = h.holds in omega arith);
    puts = subst (λ n. SaidOf (PutsWithout (item ∷ [])) n.batches n.settled) (sym (now_here queues node p q (batch_taken item (at_node p node)) h.reaches (ap (λ x. x.nodes) is))) (in_hand item (at_node p node).batches (at_node p node).settled h.puts);
  }

  pub sent : (q : StageAccount) (item : Numbered) → IsPersisting queues node (item ∷ []) p → q ≡ let_go p node (settled_put item (at_node p node)) → IsPersisting queues node [] q
  sent q item h is = record {
    reaches = still_reaches queues node p q (settled_put item (at_node p node)) h.reaches (ap (λ x. x.nodes) is) (λ rings of. record { requests = of.requests; batches = of.batches; settled = changed_of _ rings.settled (at_node p node).settled of.settled });
    holds = ap (λ x. x.held) is ∙ (let e = h.holds in omega arith);
    puts = subst (λ n. SaidOf (PutsWithout []) n.batches n.settled) (sym (now_here queues node p q (settled_put item (at_node p node)) h.reaches (ap (λ x. x.nodes) is))) (sent_on item (at_node p node).batches (at_node p node).settled h.puts);
  }

module _ (queues : Plan) (node : ℕ) (p q : StageAccount) (ring : NodeRing) where
  pub has_received : (result : Option Numbered) → IsPersisting queues node [] p → IfSome (slice_get queues.nodes node) (λ rings. ring ≡ node_ring node rings.batches)
      → MatchOption result (q ≡ p) (λ item. q ≡ got p ring.node (batch_taken item (at_node p ring.node))) → MatchOption result (q ≡ p) (λ item. IsPersisting queues node (item ∷ []) q)
  has_received None h is e = e
  has_received (Some item) h is e = received queues node p q item h (subst (λ n. q ≡ got p n (batch_taken item (at_node p n))) (ring_node queues node p ring (λ rings. rings.batches) h.reaches is) e)

  pub has_sent : (result : Result (Unit {0}) Numbered) (item : Numbered) → IsPersisting queues node (item ∷ []) p → IfSome (slice_get queues.nodes node) (λ rings. ring ≡ node_ring node rings.settled)
      → MatchResult result (λ _. q ≡ let_go p ring.node (settled_put item (at_node p ring.node))) (λ back. (back ≡ item) × (q ≡ p))
      → MatchResult result (λ _. IsPersisting queues node [] q) (λ back. (back ≡ item) × (q ≡ p))
  has_sent (Ok x) item h is e = sent queues node p q item h (subst (λ n. q ≡ let_go p n (settled_put item (at_node p n))) (ring_node queues node p ring (λ rings. rings.settled) h.reaches is) e)
  has_sent (Err back) item h is e = e

-- ---- what was taken and put from one moment to another
taken_by_more : (weight : Numbered → ℕ) (item : Numbered) (b : Option (Holds BatchAccount)) → IsSomeAnd b (λ _. Unit {0}) → sum_by weight (taken_by (changed (λ a. batch.with_taken a item) b)) ≡ sum_by weight (taken_by b) + weight item
taken_by_more weight item None some = absurd some
taken_by_more weight item (Some b) some = takes_more weight b.account item

settled_by_more : (weight : Numbered → ℕ) (item : Numbered) (s : Option (Holds SettledAccount)) → IsSomeAnd s (λ _. Unit {0}) → sum_by weight (settled_by (changed (λ a. settled.with_put a item) s)) ≡ sum_by weight (settled_by s) + weight item
settled_by_more weight item None some = absurd some
settled_by_more weight item (Some s) some = sum_by_push weight s.account.put item

batches_some : (said : BatchAccount → SettledAccount → Type 0) (b : Option (Holds BatchAccount)) (s : Option (Holds SettledAccount)) → SaidOf said b s → IsSomeAnd b (λ _. Unit {0})
batches_some said None s h = absurd h
batches_some said (Some b) s h = tt

settled_some : (said : BatchAccount → SettledAccount → Type 0) (b : Option (Holds BatchAccount)) (s : Option (Holds SettledAccount)) → SaidOf said b s → IsSomeAnd s (λ _. Unit {0})
settled_some said None s h = absurd h
settled_some said (Some b) None h = absurd h
settled_some said (Some b) (Some s) h = tt

module _ (queues : Plan) (node : ℕ) (p q : StageAccount) (ring : NodeRing) where
  pub carries_taken : (result : Option Numbered) → IsPersisting queues node [] p → IfSome (slice_get queues.nodes node) (λ rings. ring ≡ node_ring node rings.batches)
      → MatchOption result (q ≡ p) (λ item. q ≡ got p ring.node (batch_taken item (at_node p ring.node))) → IfSome result (λ item. Carries node [] (item ∷ []) p q)
  carries_taken None h is e = tt
  carries_taken (Some item) h is e = λ weight.
      let is_here : q ≡ got p node (batch_taken item (at_node p node)) = subst (λ n. q ≡ got p n (batch_taken item (at_node p n))) (ring_node queues node p ring (λ rings. rings.batches) h.reaches is) e in
      let here = now_here queues node p q (batch_taken item (at_node p node)) h.reaches (ap (λ x. x.nodes) is_here) in
      let more = taken_by_more weight item (at_node p node).batches (batches_some (PutsWithout []) (at_node p node).batches (at_node p node).settled h.puts) in
      let took : sum_by weight (taken_at q node) ≡ sum_by weight (taken_at p node) + weight item = ap (λ n. sum_by weight (taken_by n.batches)) here ∙ more in
      let put : sum_by weight (settled_at q node) ≡ sum_by weight (settled_at p node) = ap (λ n. sum_by weight (settled_by n.settled)) here in
      omega (arith, took, put)

  pub carries_put : (result : Result (Unit {0}) Numbered) (item : Numbered) → IsPersisting queues node (item ∷ []) p → IfSome (slice_get queues.nodes node) (λ rings. ring ≡ node_ring node rings.settled)
      → MatchResult result (λ _. q ≡ let_go p ring.node (settled_put item (at_node p ring.node))) (λ back. (back ≡ item) × (q ≡ p)) → OnOk result (Carries node (item ∷ []) [] p q)
  carries_put (Err back) item h is e = tt
  carries_put (Ok x) item h is e = λ weight.
      let is_here : q ≡ let_go p node (settled_put item (at_node p node)) = subst (λ n. q ≡ let_go p n (settled_put item (at_node p n))) (ring_node queues node p ring (λ rings. rings.settled) h.reaches is) e in
      let here = now_here queues node p q (settled_put item (at_node p node)) h.reaches (ap (λ x. x.nodes) is_here) in
      let more = settled_by_more weight item (at_node p node).settled (settled_some (PutsWithout (item ∷ [])) (at_node p node).batches (at_node p node).settled h.puts) in
      let put : sum_by weight (settled_at q node) ≡ sum_by weight (settled_at p node) + weight item = ap (λ n. sum_by weight (settled_by n.settled)) here ∙ more in
      let took : sum_by weight (taken_at q node) ≡ sum_by weight (taken_at p node) = ap (λ n. sum_by weight (taken_by n.batches)) here in
      omega (arith, took, put)

-- one moment after another
pub carries_on : (node : ℕ) (one two three : List Numbered) (p q r : StageAccount) → Carries node one two p q → Carries node two three q r → Carries node one three p r
carries_on node one two three p q r first then = λ weight. let a = first weight in let b = then weight in omega arith

pub carries_same : (node : ℕ) (hand : List Numbered) (p q : StageAccount) → q.nodes ≡ p.nodes → Carries node hand hand p q
carries_same node hand p q same = λ weight.
    let put : sum_by weight (settled_at q node) ≡ sum_by weight (settled_at p node) = ap (λ nodes. sum_by weight (settled_by (pass_at nodes node).settled)) same in
    let took : sum_by weight (taken_at q node) ≡ sum_by weight (taken_at p node) = ap (λ nodes. sum_by weight (taken_by (pass_at nodes node).batches)) same in
    omega (arith, put, took)

-- the batch in hand was put, or it was given back where the stage ended
pub took_one : {E : Type 0} (node : ℕ) (p q r : StageAccount) (item : Numbered) (result : Result (Unit {0}) E) → Carries node [] (item ∷ []) p q
    → MatchResult result (λ _. Carries node (item ∷ []) [] q r) (λ _. r.nodes ≡ q.nodes) → MatchResult result (λ _. Carries node [] [] p r) (λ _. PutsAllButOne node p r)
took_one node p q r item (Ok x) taken put = carries_on node [] (item ∷ []) [] p q r taken put
took_one node p q r item (Err end) taken same = record { given = item ∷ []; one = omega arith; puts = carries_on node [] (item ∷ []) (item ∷ []) p q r taken (carries_same node (item ∷ []) q r same) }
