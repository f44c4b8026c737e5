-- A step that puts or takes keeps the rule of a request ring, and what the rule tells.
use Rattle.std.proofs.Common.{◌≡◌, ℕ, ◌<◌, ◌≤◌, true, List, [], ◌∷◌, ◌++◌, length, inl, inr, refl, sym, ap, ◌∙◌, subst, append_assoc, take_at, length-append, eq-eqb, arith, append-nil}
use Rattle.std.specs.Prelude.{slice_set, All, nat_lt}
use Rattle.std.proofs.lemmas.Bool.{cases_Bool, ltb-true, ltb-false}
use Rattle.std.proofs.lemmas.List.{map-append, nil_from_length, length-map}
use Rattle.std.proofs.lemmas.List.Sums.{sum_by-cons}
use mathlib.Core.List.{cons-ne-nil, head-eq_of_cons-eq, tail-eq_of_cons-eq}
use mathlib.Core.Option.{some}
use lib.ListN.{get_elem?}
use Rattle.crossbeam_queue.specs.Fifo.{Pushes, Pops, Learns}
use Rattle.queue_passes.proofs.TotalLemmas.{each_alone, each_set, total_set, part_of_total, parts_of_total}
use Rattle.request_rule.specs.declared.account.Ticket.{Ticket}
use Rattle.request_rule.specs.declared.account.TakenTicket.{TakenTicket}
use Rattle.request_rule.specs.declared.account.SenderRow.{SenderRow}
use Rattle.request_rule.specs.declared.account.RequestAccount.{RequestAccount}
use Rattle.request_rule.specs.Tickets.{taken_ticket, tickets, of_sender}
use Rattle.request_rule.specs.Accounts.{request_account, first_account, put_in, with_put, TakesOne}
use Rattle.request_rule.specs.Rule.{rows_of, FitsReceiver, HaveAll, IsFrontOf, AreInTurn, Tells, TookAll, HasLeft}
use Rattle.request_rule.proofs.RowLemmas.{of_sender-append, of_sender-other, is_of, others_keep, first_puts, fronts_are, some_below, at_most_one, all_rows}

abbrev pub Fits : ℕ → ℕ → List TakenTicket → List TakenTicket → ℕ → RequestAccount → Type 0
Fits receiver senders gone waiting pass a = FitsReceiver receiver senders gone pass a × HaveAll (gone ++ waiting) a.rows

abbrev pub count : ℕ → RequestAccount → ℕ
count sender a = rows_of sender a.rows

pub begins : AreInTurn [] (first_account ∷ [])
begins = record {
  receiver = 0;
  senders = 0;
  gone = [];
  waiting = [];
  queued = refl;
  rows = λ p. omega arith;
  made = λ p le. refl;
  each = each_alone (Fits 0 0 [] []) first_account ((λ _. (refl, refl, refl)), λ k d lt. absurd (omega arith));
}

same_count : (p : ℕ) (x : Ticket) (rows : List SenderRow) → rows_of p (put_in x rows) ≡ rows_of p rows
same_count p x [] = refl
same_count p x (row ∷ rows) = refl

-- the ticket goes into the first row of the pass
puts_first : (pass : ℕ) (a : RequestAccount) (x : Ticket) (row : SenderRow) (rows : List SenderRow) → a.rows ≡ row ∷ rows
    → (items : List Ticket) (accounts : List RequestAccount) → AreInTurn items accounts → get_elem? accounts pass ≡ some a → AreInTurn (items ++ x ∷ []) (slice_set accounts pass (with_put a x))
puts_first pass a x row rows is items accounts h at =
    let new = with_put a x in
    let p = row.sender in
    let mine = h.each pass a at in
    let own : count p a ≡ rows_of p (row ∷ rows) = ap (rows_of p) is in
    let c = sum_by-cons (is_of p) row rows in
    let first : is_of p row ≡ 1 = rw (eq-eqb p p refl) refl in
    let most = at_most_one p h.senders in
    let bound = h.rows p in
    let part = part_of_total (count p) accounts pass a at in
    let once : rows_of p (row ∷ rows) ≤ 1 = omega (arith, own) in
    let log = h.gone ++ h.waiting in
    let last = taken_ticket p x ∷ [] in
    let longer : h.gone ++ (h.waiting ++ last) ≡ log ++ last = sym (append_assoc h.gone h.waiting last) in
    let put : HaveAll (log ++ last) (put_in x a.rows) = rw is (first_puts log x row rows once (subst (HaveAll log) is mine.1)) in record {
      receiver = h.receiver;
      senders = h.senders;
      gone = h.gone;
      waiting = h.waiting ++ last;
      queued = ap (λ l. l ++ x ∷ []) h.queued ∙ sym (map-append (λ t. t.ticket) h.waiting last);
      rows = λ q. (let t = total_set (count q) accounts pass a new at in let b = h.rows q in omega (arith, same_count q x a.rows));
      made = λ q le.
          let below : p < h.senders = some_below p h.senders (omega (arith, own, c, first)) in
          ap (of_sender q) longer ∙ of_sender-other q p log x (λ e. omega arith) ∙ h.made q le;
      each = each_set (Fits h.receiver h.senders h.gone (h.waiting ++ last)) accounts pass new (mine.0, subst (λ l. HaveAll l (put_in x a.rows)) (sym longer) put)
          (λ j u away e.
          let none : count p u ≡ 0 = (let two = parts_of_total (count p) accounts j pass u a away e at in omega (arith, own, c, first)) in
          ((h.each j u e).0, subst (λ l. HaveAll l u.rows) (sym longer) (others_keep p log x u.rows none (h.each j u e).1)));
    }

has_first : (rows : List SenderRow) → 0 < length rows → (row : SenderRow) × (rest : List SenderRow) × (rows ≡ row ∷ rest)
has_first [] some_row = absurd (omega arith)
has_first (row ∷ rows) some_row = (row, rows, refl)

pub puts : (n pass : ℕ) (a : RequestAccount) (x : Ticket) → 0 < length a.rows → Pushes AreInTurn n pass a x (λ new. new ≡ with_put a x)
puts n pass a x some_row items accounts _ h at =
    let f = has_first a.rows some_row in
    (with_put a x, puts_first pass a x f.0 f.1 f.2 items accounts h at, refl)

-- what the ring holds first is of some sender
front : (x : Ticket) (items : List Ticket) (waiting : List TakenTicket) → x ∷ items ≡ tickets waiting → (sender : ℕ) × (more : List TakenTicket) × (waiting ≡ taken_ticket sender x ∷ more) × (items ≡ tickets more)
front x items [] e = absurd (cons-ne-nil _ _ e)
front x items (t ∷ more) e = (t.sender, more, (λ i. taken_ticket t.sender (sym (head-eq_of_cons-eq e) i) ∷ more), tail-eq_of_cons-eq e)

takes_one : (a : RequestAccount) (sender : ℕ) (x : Ticket) → TakesOne a x (request_account a.receives a.senders (a.taken ++ taken_ticket sender x ∷ []) a.rows)
takes_one a sender x = record {
  before = take_at a.taken (taken_ticket sender x ∷ []) (length a.taken) refl;
  last = map-append (λ t. t.ticket) a.taken (taken_ticket sender x ∷ []);
  rest = refl;
}

pub takes : (pass : ℕ) (a : RequestAccount) → a.receives ≡ true → Pops AreInTurn pass a (TakesOne a)
takes pass a may x items accounts h at =
    let mine = h.each pass a at in
    let f = front x items h.waiting h.queued in
    let last = taken_ticket f.0 x ∷ [] in
    let new = request_account a.receives a.senders (a.taken ++ last) a.rows in
    let gone = h.gone ++ last in
    let same : gone ++ f.1 ≡ h.gone ++ h.waiting = append_assoc h.gone last f.1 ∙ ap (λ l. h.gone ++ l) (sym f.2) in
    let reads = mine.0 may in (
      new,
      record {
        receiver = h.receiver;
        senders = h.senders;
        gone = gone;
        waiting = f.1;
        queued = f.3;
        rows = λ q. (let t = total_set (count q) accounts pass a new at in let b = h.rows q in omega arith);
        made = λ q le. ap (of_sender q) same ∙ h.made q le;
        each = each_set (Fits h.receiver h.senders gone f.1) accounts pass new ((λ _. (reads.0, ap (λ l. l ++ last) reads.1, reads.2)), subst (λ l. HaveAll l a.rows) (sym same) mine.1)
            (λ j u away e. ((λ p. absurd (away (((h.each j u e).0 p).0 ∙ sym reads.0))), subst (λ l. HaveAll l u.rows) (sym same) (h.each j u e).1));
      },
      takes_one a f.0 x,
    )

front_empty : {A : Type 0} (xs ys : List A) → xs ++ ys ≡ [] → xs ≡ []
front_empty xs ys e = nil_from_length xs (let l = ap length e in omega (arith, length-append xs ys))

pub tells : (pass : ℕ) (a : RequestAccount) → Learns AreInTurn pass a (λ items. Tells a)
tells pass a items accounts h at =
    let mine = h.each pass a at in record {
      fronts = λ p. subst (λ l. All (λ row. IsFrontOf (of_sender row.sender l) row.put) a.rows) (sym ((mine.0 p).1)) (fronts_are h.gone h.waiting a.rows mine.1);
      no_other = λ p q le.
          let none = sym (of_sender-append q h.gone h.waiting) ∙ h.made q (let e = (mine.0 p).2 in omega arith) in
          ap (of_sender q) (mine.0 p).1 ∙ front_empty (of_sender q h.gone) (of_sender q h.waiting) none;
    }

none_waits : (waiting : List TakenTicket) → [] ≡ tickets waiting → waiting ≡ []
none_waits [] e = refl
none_waits (t ∷ waiting) e = absurd (cons-ne-nil _ _ (sym e))

pub tells_empty : (pass : ℕ) (a : RequestAccount) → Learns AreInTurn pass a (λ items. length items ≡ 0 → TookAll a)
tells_empty pass a items accounts h at = λ empty p.
    let mine = h.each pass a at in
    let waits = none_waits h.waiting (sym (nil_from_length items empty) ∙ h.queued) in
    let log : h.gone ++ h.waiting ≡ a.taken = ap (λ l. h.gone ++ l) waits ∙ append-nil h.gone ∙ sym (mine.0 p).1 in
    subst (λ l. HaveAll l a.rows) log mine.1

pub tells_left : (pass : ℕ) (a : RequestAccount) → Learns AreInTurn pass a (λ items. HasLeft (length items) a)
tells_left pass a items accounts h at = λ p every.
    let mine = h.each pass a at in
    let reads = mine.0 p in
    let log = h.gone ++ h.waiting in
    let here : (sender : ℕ) → (of_sender sender log ≡ [] → ⊥) → rows_of sender a.rows ≡ 1 = λ sender some. elim (cases_Bool (nat_lt sender a.senders)) [
      | inl q ↦ every sender (ltb-true sender a.senders q)
      | inr q ↦ absurd (some (h.made sender (let le = ltb-false sender a.senders q in let e = reads.2 in omega arith)))
    ] in
    let all = all_rows log a.rows here mine.1 in
    let queued : length items ≡ length h.waiting = ap length h.queued ∙ length-map h.waiting (λ t. t.ticket) in
    let gone : length a.taken ≡ length h.gone = ap length reads.1 in
    omega (arith, all, queued, gone, length-append h.gone h.waiting)
