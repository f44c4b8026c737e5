-- A request stage's pass after each of its calls.
use Rattle.std.proofs.Common.{◌≡◌, ℕ, ◌+◌, ◌-◌, ◌≤◌, true, false, List, [], ◌∷◌, ◌++◌, length, length-append, inl, inr, refl, sym, ap, ◌∙◌, subst, append-nil, append_assoc, arith}
use Rattle.std.specs.Prelude.{Option, None, Some, Result, Ok, Err, IfOk, IfSome, IsSomeAnd, IsErr, MatchOption, MatchResult, slice_get}
use Rattle.std.proofs.lemmas.Option.{slice_get_within}
use Rattle.std.proofs.lemmas.List.{map-append}
use Rattle.std.proofs.lemmas.List.Concat.{flat_map-append, flat_map-cons}
use Rattle.batch_pool.specs.declared.batch.Entry.{Entry}
use Rattle.persist_batches.specs.declared.numbered.Numbered.{Numbered}
use Rattle.queue_passes.specs.Holds.{Ring, Holds}
use Rattle.request_rule.specs.declared.account.Ticket.{Ticket}
use Rattle.request_rule.specs.declared.account.RequestAccount.{RequestAccount}
use Rattle.batch_rule.specs.declared.account.BatchAccount.{BatchAccount}
use Rattle.batch_rule.specs.Accounts as batch
use Rattle.batch_rule.specs.Numbers.{next_after}
use Rattle.batch_rule.proofs.NumberLemmas.{next_after-push}
use Rattle.stage_queues.specs.Plan.{Plan, NodeRing, node_ring}
use Rattle.stage_queues.specs.NodePasses.{changed, batch_put, TakesOneOf, TakesTicket, IsOfRing}
use Rattle.stage_queues.specs.Passes.{StageAccount, at_node, with_node, let_go, ReceivesTickets, SendsBatches}
use Rattle.stage_queues.proofs.OpeningLemmas.{get_push}
use Rattle.reply_pipeline.specs.Picks.{IsPickOf}
use Rattle.reply_pipeline.specs.Requesting.{taken_tickets, put_batches, tickets_at, batches_at, ticket_of, tickets_of, entered, AreNumbered, IsRequestPass, IsUnused, IsRequesting, HasRequested, Enters, EntersLeft, MayEnter, KeepsLeft}
use Rattle.reply_pipeline.proofs.ReachLemmas.{rings_here, ring_node, changed_of, both_said, now_here, still_reaches}
use Rattle.reply_pipeline.proofs.PickLemmas.{pick_one, pick_not, pick_front}

-- the ticket is the last that was taken, and the pass still receives
one_more : (ticket : Ticket) (old new : Option (Holds RequestAccount)) → TakesOneOf ticket old new → taken_tickets new ≡ taken_tickets old ++ ticket ∷ []
one_more ticket None new h = absurd h
one_more ticket (Some old) None h = absurd h
one_more ticket (Some old) (Some new) h = h.1.last

receives_still : (ticket : Ticket) (old new : Option (Holds RequestAccount)) → TakesOneOf ticket old new → IsSomeAnd old (λ q. q.account.receives ≡ true) → IsSomeAnd new (λ q. q.account.receives ≡ true)
receives_still ticket None new h r = absurd h
receives_still ticket (Some old) None h r = absurd h
receives_still ticket (Some old) (Some new) h r = ap (λ a. a.receives) h.1.rest ∙ r

of_ring_still : (ring : Ring) (ticket : Ticket) (old new : Option (Holds RequestAccount)) → TakesOneOf ticket old new → IfSome old (IsOfRing ring) → IfSome new (IsOfRing ring)
of_ring_still ring ticket None new h r = absurd h
of_ring_still ring ticket (Some old) None h r = absurd h
of_ring_still ring ticket (Some old) (Some new) h r = h.0 ∙ r

sends_of : (ring : Ring) (number : ℕ) (o : Option (Holds BatchAccount)) → IfSome o (IsOfRing ring) → IsSomeAnd o (λ q. q.account.sends ≡ true) → next_after 0 (put_batches o) ≤ number
    → IsSomeAnd o (λ q. IsOfRing ring q × (q.account.sends ≡ true) × (next_after 0 q.account.put ≤ number))
sends_of ring number None of sends below = absurd sends
sends_of ring number (Some q) of sends below = (of, sends, below)

put_more : (item : Numbered) (o : Option (Holds BatchAccount)) → IsSomeAnd o (λ q. q.account.sends ≡ true) → put_batches (changed (λ a. batch.with_put a item) o) ≡ put_batches o ++ item ∷ []
put_more item None sends = absurd sends
put_more item (Some q) sends = refl

sends_still : (item : Numbered) (o : Option (Holds BatchAccount)) → IsSomeAnd o (λ q. q.account.sends ≡ true) → IsSomeAnd (changed (λ a. batch.with_put a item) o) (λ q. q.account.sends ≡ true)
sends_still item None sends = absurd sends
sends_still item (Some q) sends = sends

entered-push : (batches : List Numbered) (item : Numbered) → entered (batches ++ item ∷ []) ≡ entered batches ++ tickets_of item.batch.entries
entered-push batches item =
    flat_map-append (λ b. tickets_of b.batch.entries) batches (item ∷ [])
    ∙ ap (λ l. entered batches ++ l) (flat_map-cons (λ b. tickets_of b.batch.entries) item [] ∙ append-nil (tickets_of item.batch.entries))

-- the next number is that of a batch more
numbered_push : (batches : List Numbered) (item : Numbered) → AreNumbered batches → item.number ≡ length batches → AreNumbered (batches ++ item ∷ [])
numbered_push batches item h is n batch at = elim (get_push batches item batch n at) [ inl e ↦ h n batch e | inr e ↦ ap (λ (b : Numbered). b.number) (sym e.1) ∙ is ∙ sym e.0 ]

module _ (queues : Plan) (node : ℕ) (p : StageAccount) where
  -- before the first ticket
  pub starts : IsRequestPass queues node p → IsUnused node p → p.held ≡ 0 → IsRequesting queues node 0 0 [] p
  starts h unused holds = record {
    pass = h;
    holds = holds;
    numbered = subst AreNumbered (sym unused.1) (λ n batch at. absurd (let l = slice_get_within [] n batch at in omega arith));
    next = sym (ap length unused.1);
    below = (let e = ap (next_after 0) unused.1 in omega arith);
    enters = subst (λ b. IsPickOf (entered b ++ tickets_of []) (tickets_at p node)) (sym unused.1) (subst (IsPickOf (entered [] ++ tickets_of [])) (sym unused.0) (record { marks = []; fit = refl; is = refl }));
  }

  pub ends_requesting : (number : ℕ) (entries : List Entry) → IsRequesting queues node number 0 entries p → HasRequested queues node p
  ends_requesting number entries h = record { pass = h.pass; holds = h.holds; numbered = h.numbered; enters = pick_front (entered (batches_at p node)) (tickets_of entries) (tickets_at p node) h.enters }

  pub may_receive : (ring : NodeRing) → IsRequestPass queues node p → IfSome (slice_get queues.nodes node) (λ rings. ring ≡ node_ring node rings.requests) → ReceivesTickets ring p
  may_receive ring h is = rings_here queues node p _ _ h.reaches is (λ rings of e. subst (λ r. ReceivesTickets r p) (sym e) (record {
    there = (let l = h.reaches.there in let f = h.reaches.of.fit in omega arith);
    receives = both_said (IsOfRing rings.requests) (λ q. q.account.receives ≡ true) (at_node p node).requests of.requests h.takes;
  }))

  pub may_send : (ring : NodeRing) (number hand : ℕ) (entries : List Entry) → IsRequesting queues node number hand entries p → IfSome (slice_get queues.nodes node) (λ rings. ring ≡ node_ring node rings.batches) → SendsBatches ring number p
  may_send ring number hand entries h is = rings_here queues node p _ _ h.pass.reaches is (λ rings of e. subst (λ r. SendsBatches r number p) (sym e) (record {
    there = (let l = h.pass.reaches.there in let f = h.pass.reaches.of.fit in omega arith);
    sends = sends_of rings.batches number (at_node p node).batches of.batches h.pass.sends h.below;
  }))

  pub holds_other : (q : StageAccount) (number hand held : ℕ) (entries : List Entry) → IsRequesting queues node number hand entries p → q ≡ record p { held = held } → IsRequesting queues node number held entries q
  holds_other q number hand held entries h is = subst (IsRequesting queues node number held entries) (sym is) (record {
    pass = record { reaches = record { there = h.pass.reaches.there; of = h.pass.reaches.of; alone = h.pass.reaches.alone }; takes = h.pass.takes; sends = h.pass.sends };
    holds = refl;
    numbered = h.numbered;
    next = h.next;
    below = h.below;
    enters = h.enters;
  })

  module _ (q : StageAccount) (ticket : Ticket) (takes : TakesTicket ticket (at_node p node) (at_node q node)) (is : q ≡ with_node p node (at_node q node)) where
    same_batches : (at_node q node).batches ≡ (at_node p node).batches
    same_batches = ap (λ n. n.batches) takes.1

    pub still_requests : IsRequestPass queues node p → IsRequestPass queues node q
    still_requests h = record {
      reaches = still_reaches queues node p q (at_node q node) h.reaches (ap (λ x. x.nodes) is) (λ rings of. record {
        requests = of_ring_still rings.requests ticket (at_node p node).requests (at_node q node).requests takes.0 of.requests;
        batches = subst (λ o. IfSome o (IsOfRing rings.batches)) (sym same_batches) of.batches;
        settled = subst (λ o. IfSome o (IsOfRing rings.settled)) (sym (ap (λ n. n.settled) takes.1)) of.settled;
      });
      takes = receives_still ticket (at_node p node).requests (at_node q node).requests takes.0 h.takes;
      sends = subst (λ o. IsSomeAnd o (λ r. r.account.sends ≡ true)) (sym same_batches) h.sends;
    }

    more_tickets : tickets_at q node ≡ tickets_at p node ++ ticket ∷ []
    more_tickets = one_more ticket (at_node p node).requests (at_node q node).requests takes.0

    taken_with : (number hand : ℕ) (before after : List Entry) → IsRequesting queues node number hand before p
        → (IsPickOf (entered (batches_at p node) ++ tickets_of before) (tickets_at p node) → IsPickOf (entered (batches_at p node) ++ tickets_of after) (tickets_at p node ++ ticket ∷ [])) → IsRequesting queues node number hand after q
    taken_with number hand before after h picks = record {
      pass = still_requests h.pass;
      holds = ap (λ x. x.held) is ∙ h.holds;
      numbered = subst (λ o. AreNumbered (put_batches o)) (sym same_batches) h.numbered;
      next = h.next ∙ ap (λ o. length (put_batches o)) (sym same_batches);
      below = subst (λ o. next_after 0 (put_batches o) ≤ number) (sym same_batches) h.below;
      enters = subst (λ o. IsPickOf (entered (put_batches o) ++ tickets_of after) (tickets_at q node)) (sym same_batches) (subst (IsPickOf (entered (batches_at p node) ++ tickets_of after)) (sym more_tickets) (picks h.enters));
    }

    pub passed_over : Enters queues node None p q
    passed_over = λ number hand entries h. taken_with number hand entries entries h (pick_not (entered (batches_at p node) ++ tickets_of entries) (tickets_at p node) ticket)

    pub entered_one : (entry : Entry) → ticket_of entry ≡ ticket → Enters queues node (Some entry) p q
    entered_one entry of = λ number hand entries h.
        let front = entered (batches_at p node) in
        let more : front ++ tickets_of (entries ++ entry ∷ []) ≡ (front ++ tickets_of entries) ++ ticket ∷ [] =
        ap (λ l. front ++ l) (map-append ticket_of entries (entry ∷ [])) ∙ sym (append_assoc front (tickets_of entries) (ticket_of entry ∷ [])) ∙ ap (λ t. (front ++ tickets_of entries) ++ t ∷ []) of in
        taken_with number hand entries (entries ++ entry ∷ []) h (λ picks. subst (λ l. IsPickOf l (tickets_at p node ++ ticket ∷ [])) (sym more) (pick_one (front ++ tickets_of entries) (tickets_at p node) ticket picks))

  -- with entries that are entered behind those of the batch
  pub sent_more : (q : StageAccount) (item : Numbered) (more : List Entry) → IsRequesting queues node item.number 1 (item.batch.entries ++ more) p → q ≡ let_go p node (batch_put item (at_node p node)) → IsRequesting queues node (item.number + 1) 0 more q
  sent_more q item more h is =
      let new = batch_put item (at_node p node) in
      let nodes = ap (λ x. x.nodes) is in
      let here : at_node q node ≡ new = now_here queues node p q new h.pass.reaches nodes in
      let before = batches_at p node in
      let put : batches_at q node ≡ before ++ item ∷ [] = ap (λ n. put_batches n.batches) here ∙ put_more item (at_node p node).batches h.pass.sends in
      let last = next_after-push 0 before item in
      let whole : entered (batches_at q node) ++ tickets_of more ≡ entered before ++ tickets_of (item.batch.entries ++ more) =
      ap (λ l. l ++ tickets_of more) (ap entered put ∙ entered-push before item) ∙ append_assoc (entered before) (tickets_of item.batch.entries) (tickets_of more)
      ∙ ap (λ l. entered before ++ l) (sym (map-append ticket_of item.batch.entries more)) in record {
        pass = record {
          reaches = still_reaches queues node p q new h.pass.reaches nodes (λ rings of. record { requests = of.requests; batches = changed_of _ rings.batches (at_node p node).batches of.batches; settled = of.settled });
          takes = subst (λ n. IsSomeAnd n.requests (λ r. r.account.receives ≡ true)) (sym here) h.pass.takes;
          sends = subst (λ n. IsSomeAnd n.batches (λ r. r.account.sends ≡ true)) (sym here) (sends_still item (at_node p node).batches h.pass.sends);
        };
        holds = ap (λ x. x.held) is ∙ (let e = h.holds in omega arith);
        numbered = subst AreNumbered (sym put) (numbered_push before item h.numbered h.next);
        next = (let e = ap length put in let k = h.next in omega (arith, e, k, length-append before (item ∷ [])));
        below = subst (λ l. next_after 0 l ≤ item.number + 1) (sym put) (omega arith);
        enters = subst (λ l. IsPickOf l (tickets_at q node)) (sym whole) (subst (λ n. IsPickOf (entered before ++ tickets_of (item.batch.entries ++ more)) (taken_tickets n.requests)) (sym here) h.enters);
      }

  pub sent : (q : StageAccount) (item : Numbered) → IsRequesting queues node item.number 1 item.batch.entries p → q ≡ let_go p node (batch_put item (at_node p node)) → IsRequesting queues node (item.number + 1) 0 [] q
  sent q item h is = sent_more q item [] (subst (λ entries. IsRequesting queues node item.number 1 entries p) (sym (append-nil item.batch.entries)) h) is

  pub keeps_left : (q : StageAccount) (item : Numbered) → q ≡ let_go p node (batch_put item (at_node p node)) → KeepsLeft queues node item p q
  keeps_left q item is = λ ticket may entry of. sent_more q item (entry ∷ []) (may entry of) is

module _ (queues : Plan) (node : ℕ) (p q : StageAccount) where
  pub gave_back : (number : ℕ) (entries : List Entry) → IsRequesting queues node number 1 entries p → q ≡ record p { held = p.held - 1 } → HasRequested queues node q
  gave_back number entries h is =
      let none : p.held - 1 ≡ 0 = (let e = h.holds in omega arith) in
      ends_requesting queues node q number entries (subst (λ n. IsRequesting queues node number n entries q) none (holds_other queues node p q number 1 (p.held - 1) entries h is))

  pub has_sent : (ring : NodeRing) (result : Result (Unit {0}) Numbered) (item : Numbered) → IsRequesting queues node item.number 1 item.batch.entries p
      → IfSome (slice_get queues.nodes node) (λ rings. ring ≡ node_ring node rings.batches)
      → MatchResult result (λ _. q ≡ let_go p ring.node (batch_put item (at_node p ring.node))) (λ back. (back ≡ item) × (q ≡ p))
      → MatchResult result (λ _. IsRequesting queues node (item.number + 1) 0 [] q) (λ back. (back ≡ item) × (q ≡ p))
  has_sent ring (Ok x) item h is e = sent queues node p q item h (subst (λ n. q ≡ let_go p n (batch_put item (at_node p n))) (ring_node queues node p ring (λ rings. rings.batches) h.pass.reaches is) e)
  has_sent ring (Err back) item h is e = e

  pub has_kept : (ring : NodeRing) (result : Result (Unit {0}) Numbered) (item : Numbered) → IsRequesting queues node item.number 1 item.batch.entries p
      → IfSome (slice_get queues.nodes node) (λ rings. ring ≡ node_ring node rings.batches)
      → MatchResult result (λ _. q ≡ let_go p ring.node (batch_put item (at_node p ring.node))) (λ back. (back ≡ item) × (q ≡ p))
      → IfOk result (λ _. KeepsLeft queues node item p q)
  has_kept ring (Ok x) item h is e = keeps_left queues node p q item (subst (λ n. q ≡ let_go p n (batch_put item (at_node p n))) (ring_node queues node p ring (λ rings. rings.batches) h.pass.reaches is) e)
  has_kept ring (Err back) item h is e = tt

  -- what a receive says of the pass
  abbrev pub Rest : ℕ → Option Ticket → Type 0
  Rest n result = MatchOption result (q ≡ p) (λ _. q ≡ with_node p n (at_node q n))

  abbrev pub Taken : ℕ → Option Ticket → Type 0
  Taken n result = MatchOption result (q ≡ p) (λ ticket. TakesTicket ticket (at_node p n) (at_node q n))

  module _ (ring : NodeRing) (h : IsRequestPass queues node p) (is : IfSome (slice_get queues.nodes node) (λ rings. ring ≡ node_ring node rings.requests)) where
    same_node : ring.node ≡ node
    same_node = ring_node queues node p ring (λ rings. rings.requests) h.reaches is

    pub has_received : (result : Option Ticket) → Rest ring.node result → Taken ring.node result → IsRequestPass queues node q
    has_received None rest taken = subst (IsRequestPass queues node) (sym rest) h
    has_received (Some ticket) rest taken =
        still_requests queues node p q ticket (subst (λ n. TakesTicket ticket (at_node p n) (at_node q n)) same_node taken) (subst (λ n. q ≡ with_node p n (at_node q n)) same_node rest) h

    pub has_passed : (result : Option Ticket) → Rest ring.node result → Taken ring.node result → Enters queues node None p q
    has_passed None rest taken = λ number hand entries r. subst (IsRequesting queues node number hand entries) (sym rest) r
    has_passed (Some ticket) rest taken =
        passed_over queues node p q ticket (subst (λ n. TakesTicket ticket (at_node p n) (at_node q n)) same_node taken) (subst (λ n. q ≡ with_node p n (at_node q n)) same_node rest)

    pub has_ticket : (result : Option Ticket) → Rest ring.node result → Taken ring.node result → IfSome result (λ ticket. MayEnter queues node ticket p q)
    has_ticket None rest taken = tt
    has_ticket (Some ticket) rest taken = λ entry of.
        entered_one queues node p q ticket (subst (λ n. TakesTicket ticket (at_node p n) (at_node q n)) same_node taken) (subst (λ n. q ≡ with_node p n (at_node q n)) same_node rest) entry of

-- what an Err was passed on with
pub on_err : {T E : Type 0} (result : Result T E) (P : T → Type 0) (Q : Type 0) → IsErr result → Q → MatchResult result P (λ _. Q)
on_err (Ok x) P Q is q = absurd (let e : false ≡ true = is in cc)
on_err (Err e) P Q is q = q

module _ (queues : Plan) (node : ℕ) (p q r : StageAccount) where
  -- tickets that were passed over, and then others
  pub enters_after : (found : Option Entry) → Enters queues node None p q → Enters queues node found q r → Enters queues node found p r
  enters_after found first then = λ number hand entries h. then number hand entries (first number hand entries h)

  pub enters_as : (found other : Option Entry) → found ≡ other → Enters queues node found q r → Enters queues node other q r
  enters_as found other same enters = subst (λ o. Enters queues node o q r) same enters

  pub took_batch : (number : ℕ) (entries : List Entry) → IsRequesting queues node number 0 entries p → q ≡ record p { held = p.held + 1 } → IsRequesting queues node number 1 entries q
  took_batch number entries h is =
      let one : p.held + 1 ≡ 1 = (let e = h.holds in omega arith) in
      subst (λ n. IsRequesting queues node number n entries q) one (holds_other queues node p q number 0 (p.held + 1) entries h is)

module _ (queues : Plan) (node : ℕ) (p q : StageAccount) where
  -- with a ticket left that gave no entry, or none left
  pub enters_first : {E : Type 0} (left : Option Ticket) (result : Result Entry E) → MatchResult result (λ entry. Enters queues node (Some entry) p q) (λ _. Enters queues node None p q)
      → MatchResult result (λ entry. EntersLeft queues node left (Some entry) p q) (λ _. EntersLeft queues node left None p q)
  enters_first left (Ok entry) first = λ number goes. first number 0 [] goes.0
  enters_first left (Err end) first = λ number goes. first number 0 [] goes.0
