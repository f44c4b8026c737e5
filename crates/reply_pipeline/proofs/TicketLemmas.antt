-- For this crate's own proofs.
-- A pass through which tickets are sent, before a call and after it.
use Rattle.std.proofs.Common.{◌≡◌, ℕ, ◌<◌, ◌≤◌, ◌==◌, ⊎_elim, List, [], ◌∷◌, length, get_or, inl, inr, refl, sym, ap, ◌∙◌, subst, get_or-set_same, get_or-set_other, arith}
use Rattle.std.specs.Prelude.{Option, None, Some, Result, Ok, Err, IfSome, IsSomeAnd, slice_get}
use Rattle.std.proofs.lemmas.Bool.{cases_Bool, eqb-true, eqb-false}
use Rattle.std.proofs.lemmas.Option.{slice_get_cases, slice_get_within, same_Some, slice_get-get_or}
use Rattle.std.proofs.lemmas.List.{length-set, length-map, get_or-map}
use Rattle.queue_passes.specs.Holds.{Ring, Holds}
use Rattle.request_rule.specs.declared.account.Ticket.{Ticket}
use Rattle.request_rule.specs.declared.account.SenderRow.{SenderRow}
use Rattle.request_rule.specs.declared.account.RequestAccount.{RequestAccount}
use Rattle.request_rule.specs.Accounts.{put_in, with_put}
use Rattle.stage_queues.specs.Plan.{Plan, NodeRing, NodeRings, node_ring}
use Rattle.stage_queues.specs.NodePasses.{nothing, changed, ticket_put, IsOfRing, MaySendTicket}
use Rattle.stage_queues.specs.Passes.{StageAccount, pass_at, at_node, with_node, SendsTickets}
use Rattle.stage_queues.specs.Opening.{sender_part, session_pass}
use Rattle.reply_pipeline.specs.Seats.{IsSenderPass, SendsOrGivesBack}

row_still : (ticket : Ticket) (rows : List SenderRow) → 0 < length rows → 0 < length (put_in ticket rows)
row_still ticket [] some = absurd (omega arith)
row_still ticket (row ∷ rows) some = omega arith

sends_still : (ring : Ring) (ticket : Ticket) (o : Option (Holds RequestAccount)) → IsSomeAnd o (λ p. IsOfRing ring p × (0 < length p.account.rows)) → IsSomeAnd (changed (λ a. with_put a ticket) o) (λ p. IsOfRing ring p × (0 < length p.account.rows))
sends_still ring ticket None h = absurd h
sends_still ring ticket (Some p) h = (h.0, row_still ticket p.account.rows h.1)

module _ (plan : Plan) (node : ℕ) (p : StageAccount) (h : IsSenderPass plan p) (within : node < length plan.nodes) (ring : NodeRing) (is : IfSome (slice_get plan.nodes node) (λ rings. ring ≡ node_ring node rings.requests)) where
  at_rings : (G : Type 0) → ((rings : NodeRings) → slice_get plan.nodes node ≡ Some rings → ring ≡ node_ring node rings.requests → G) → G
  at_rings G f =
      ⊎_elim
      (λ (x : (r : NodeRings) × (node < length plan.nodes) × (slice_get plan.nodes node ≡ Some r) × (get_or plan.nodes node r ≡ r)). f x.0 x.2 (subst (λ o. IfSome o (λ rings. ring ≡ node_ring node rings.requests)) x.2 is))
      (λ (x : (length plan.nodes ≤ node) × _). absurd (let m = x.0 in omega arith))
      (slice_get_cases plan.nodes node).1

  pub may_send : SendsTickets ring p
  may_send = at_rings (SendsTickets ring p) (λ rings at e. subst (λ r. SendsTickets r p) (sym e) (record { there = (let f = h.fit in omega arith); sends = h.sends node rings at }))

  its_node : ring.node ≡ node
  its_node = at_rings (ring.node ≡ node) (λ rings at e. ap (λ r. r.node) e)

  still_sends : (ticket : Ticket) (q : StageAccount) → q ≡ with_node p node (ticket_put ticket (at_node p node)) → IsSenderPass plan q
  still_sends ticket q after = record {
    fit = ap (λ x. length x.nodes) after ∙ length-set p.nodes node (ticket_put ticket (at_node p node)) ∙ h.fit;
    sends = λ n rings at. elim (cases_Bool (n == node)) [
      | inl e ↦
          let same = eqb-true n node e in
          let new : at_node q node ≡ ticket_put ticket (at_node p node) = ap (λ x. at_node x node) after ∙ get_or-set_same p.nodes node (ticket_put ticket (at_node p node)) nothing (let f = h.fit in omega arith) in
          subst (λ m. MaySendTicket rings.requests (at_node q m)) (sym same) (subst (MaySendTicket rings.requests) (sym new) (sends_still rings.requests ticket (at_node p node).requests (h.sends node rings (subst (λ m. slice_get plan.nodes m ≡ Some rings) same at))))
      | inr e ↦
          let old : at_node q n ≡ at_node p n = ap (λ x. at_node x n) after ∙ get_or-set_other p.nodes node n (ticket_put ticket (at_node p node)) nothing (eqb-false n node e) in
          subst (MaySendTicket rings.requests) (sym old) (h.sends n rings at)
    ];
  }

  pub sent_to : (ticket : Ticket) (q : StageAccount) (result : Result (Unit {0}) Ticket) → SendsOrGivesBack ring.node ticket p q result → SendsOrGivesBack node ticket p q result
  sent_to ticket q result = subst (λ n. SendsOrGivesBack n ticket p q result) its_node

  pub has_sent : (ticket : Ticket) (q : StageAccount) (result : Result (Unit {0}) Ticket) → SendsOrGivesBack ring.node ticket p q result → IsSenderPass plan q × (q.held ≡ p.held)
  has_sent ticket q (Ok x) e = (still_sends ticket q (subst (λ n. q ≡ with_node p n (ticket_put ticket (at_node p n))) its_node e), ap (λ y. y.held) e)
  has_sent ticket q (Err back) e = (subst (IsSenderPass plan) (sym e.1) h, ap (λ y. y.held) e.1)

-- a pass of a session's thread as the opening gives it
pub new_sender : (plan : Plan) (sender : ℕ) (p : StageAccount) → p ≡ session_pass plan.nodes sender → IsSenderPass plan p
new_sender plan sender p is = subst (IsSenderPass plan) (sym is) (record {
  fit = length-map plan.nodes (sender_part sender);
  sends = λ node rings at.
      let within = slice_get_within plan.nodes node rings at in
      let read : get_or plan.nodes node rings ≡ rings = same_Some _ _ (sym (slice_get-get_or plan.nodes node rings within) ∙ at) in
      let part : pass_at (session_pass plan.nodes sender).nodes node ≡ sender_part sender rings = get_or-map (sender_part sender) plan.nodes node rings nothing within ∙ ap (sender_part sender) read in
      rw part (refl, omega arith);
})
