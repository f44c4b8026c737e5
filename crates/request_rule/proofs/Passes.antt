-- Making a sender's pass and joining two passes keep the rule of a request ring.
use Rattle.std.proofs.Common.{◌≡◌, ◌≢◌, ℕ, ◌+◌, true, true≢false, List, [], ◌++◌, set, inl, inr, refl, sym, ap, ◌∙◌, arith}
use Rattle.std.proofs.lemmas.Bool.{cases_Bool}
use Rattle.std.proofs.lemmas.List.Sums.{sum_by-append}
use Rattle.std.proofs.lemmas.List.Elements.{All-nil, All-cons, All-append}
use mathlib.Core.Option.{some}
use lib.ListN.{get_elem?}
use Rattle.crossbeam_queue.specs.Fifo.{Forks, Merges}
use Rattle.queue_passes.proofs.TotalLemmas.{each_split, each_join, other_stands, total_split, total_join}
use Rattle.request_rule.specs.declared.account.Ticket.{Ticket}
use Rattle.request_rule.specs.declared.account.TakenTicket.{TakenTicket}
use Rattle.request_rule.specs.declared.account.SenderRow.{SenderRow}
use Rattle.request_rule.specs.declared.account.RequestAccount.{RequestAccount}
use Rattle.request_rule.specs.Tickets.{of_sender}
use Rattle.request_rule.specs.Accounts.{sender_row, sender_account, with_sender, spent_account, joined}
use Rattle.request_rule.specs.Rule.{FitsReceiver, AreInTurn}
use Rattle.request_rule.proofs.RowLemmas.{is_of, is_one, one_more}
use Rattle.request_rule.proofs.Steps.{Fits, count}

abbrev Has : List TakenTicket → SenderRow → Type 0
Has log row = row.put ≡ of_sender row.sender log

pub splits : (pass : ℕ) (a : RequestAccount) → a.receives ≡ true → Forks AreInTurn pass a (with_sender a) (sender_account a.senders)
splits pass a may items accounts h at =
    let new = sender_account a.senders in
    let mine = h.each pass a at in
    let reads = mine.0 may in
    let log = h.gone ++ h.waiting in record {
      receiver = h.receiver;
      senders = h.senders + 1;
      gone = h.gone;
      waiting = h.waiting;
      queued = h.queued;
      rows = λ q.
          let t = total_split (count q) accounts pass a (with_sender a) new at in
          let b = h.rows q in
          let own : count q new ≡ is_one q h.senders = (let e : is_one q a.senders ≡ is_one q h.senders = ap (is_one q) reads.2 in omega arith) in
          omega (arith, own, one_more q h.senders);
      made = λ q le. h.made q (omega arith);
      each = each_split (Fits h.receiver (h.senders + 1) h.gone h.waiting) accounts pass (with_sender a) new ((λ _. (reads.0, reads.1, ap (λ n. n + 1) reads.2)), mine.1)
          (λ j. ((λ p. absurd (true≢false (sym p))), All-cons (Has log) (sender_row a.senders []) [] (sym (h.made a.senders (let e = reads.2 in omega arith))) (All-nil (Has log))))
          (λ j u away e. ((λ p. absurd (away (((h.each j u e).0 p).0 ∙ sym reads.0))), (h.each j u e).1));
    }

-- the receiver's seat goes to the number named
seated : (pass : ℕ) (a : RequestAccount) (other : ℕ) (b : RequestAccount)
    → (items : List Ticket) (accounts : List RequestAccount) (h : AreInTurn items accounts) → get_elem? accounts pass ≡ some a → other ≢ pass → get_elem? accounts other ≡ some b
    → (receiver : ℕ) → FitsReceiver receiver h.senders h.gone pass (joined a b) → ((j : ℕ) (u : RequestAccount) → j ≢ pass → j ≢ other → get_elem? accounts j ≡ some u → u.receives ≡ true → j ≡ receiver)
    → AreInTurn items (set (set accounts pass (joined a b)) other spent_account)
seated pass a other b items accounts h at apart there receiver fits rest =
    let both = joined a b in
    let log = h.gone ++ h.waiting in record {
      receiver = receiver;
      senders = h.senders;
      gone = h.gone;
      waiting = h.waiting;
      queued = h.queued;
      rows = λ q. (let t = total_join (count q) accounts pass other a b both spent_account at apart there in let m = h.rows q in omega (arith, sum_by-append (is_of q) a.rows b.rows));
      made = h.made;
      each = each_join (Fits receiver h.senders h.gone h.waiting) accounts pass other both spent_account
          (fits, All-append (Has log) a.rows b.rows (h.each pass a at).1 (h.each other b there).1)
          ((λ p. absurd (true≢false (sym p))), All-nil (Has log))
          (λ j u away away' e. ((λ p. (rest j u away away' e p, ((h.each j u e).0 p).1, ((h.each j u e).0 p).2)), (h.each j u e).1));
    }

pub joins : (pass : ℕ) (a : RequestAccount) (other : ℕ) (b : RequestAccount) → Merges AreInTurn pass a other b (joined a b) spent_account
joins pass a other b items accounts h at apart there_after =
    let there = other_stands accounts pass other (joined a b) b apart there_after in
    let sits = seated pass a other b items accounts h at apart there in
    elim (cases_Bool a.receives) [
      | inl q ↦ let mine = (h.each pass a at).0 q in
          sits pass (λ _. (refl, rw q mine.1, rw q mine.2)) (λ j u away away' e p. absurd (away (((h.each j u e).0 p).0 ∙ sym mine.0)))
      | inr q ↦ elim (cases_Bool b.receives) [
        | inl r ↦ let theirs = (h.each other b there).0 r in
            sits pass (λ _. (refl, rw q theirs.1, rw q theirs.2)) (λ j u away away' e p. absurd (away' (((h.each j u e).0 p).0 ∙ sym theirs.0)))
        | inr r ↦ sits h.receiver (λ p. absurd (true≢false (sym p ∙ rw q r))) (λ j u away away' e p. ((h.each j u e).0 p).0)
      ]
    ]
