-- Rows of senders, and a ticket more.
use Rattle.std.proofs.Common.{◌≡◌, ℕ, suc, ◌+◌, ◌<◌, ◌≤◌, ◌==◌, false, if◌then◌else◌, List, [], ◌∷◌, ◌++◌, All, filter, length, take, inl, inr, refl, sym, ap, ◌∙◌, take_at, append-nil, ne_eqb, eq-eqb, lt-ltb, le-ltb, arith}
use Rattle.std.specs.Prelude.{nat_lt, sum_by}
use Rattle.std.proofs.lemmas.Bool.{cases_Bool, ltb-true, eqb-true, eqb-false}
use Rattle.std.proofs.lemmas.List.{map-append}
use Rattle.std.proofs.lemmas.List.Sums.{sum_by-cons}
use Rattle.std.proofs.lemmas.List.Elements.{All-nil, All-cons, All-head, All-tail, All-weaker, filter-append}
use mathlib.Core.List.{cons-ne-nil}
use Rattle.request_rule.specs.declared.account.Ticket.{Ticket}
use Rattle.request_rule.specs.declared.account.TakenTicket.{TakenTicket}
use Rattle.request_rule.specs.declared.account.SenderRow.{SenderRow}
use Rattle.request_rule.specs.Tickets.{taken_ticket, tickets, of_sender}
use Rattle.request_rule.specs.Accounts.{put_in}
use Rattle.request_rule.specs.Rule.{rows_of, one_below, HaveAll, IsFrontOf}

pub of_sender-append : (p : ℕ) (xs ys : List TakenTicket) → of_sender p (xs ++ ys) ≡ of_sender p xs ++ of_sender p ys
of_sender-append p xs ys = ap tickets (filter-append (λ t. t.sender == p) xs ys) ∙ map-append (λ t. t.ticket) (filter (λ t. t.sender == p) xs) (filter (λ t. t.sender == p) ys)

of_sender-own : (p : ℕ) (log : List TakenTicket) (x : Ticket) → of_sender p (log ++ taken_ticket p x ∷ []) ≡ of_sender p log ++ x ∷ []
of_sender-own p log x = of_sender-append p log (taken_ticket p x ∷ []) ∙ ap (λ l. of_sender p log ++ l) (rw (eq-eqb p p refl) refl)

pub of_sender-other : (p q : ℕ) (log : List TakenTicket) (x : Ticket) → (q ≡ p → ⊥) → of_sender p (log ++ taken_ticket q x ∷ []) ≡ of_sender p log
of_sender-other p q log x ne = of_sender-append p log (taken_ticket q x ∷ []) ∙ ap (λ l. of_sender p log ++ l) (rw (ne_eqb q p ne) refl) ∙ append-nil (of_sender p log)

-- one for a row of the sender
abbrev pub is_of : ℕ → SenderRow → ℕ
is_of p row = if row.sender == p then 1 else 0

abbrev Has : List TakenTicket → SenderRow → Type 0
Has log row = row.put ≡ of_sender row.sender log

-- a ticket of a sender that has no row here
pub others_keep : (p : ℕ) (log : List TakenTicket) (x : Ticket) (rows : List SenderRow) → rows_of p rows ≡ 0 → HaveAll log rows → HaveAll (log ++ taken_ticket p x ∷ []) rows
others_keep p log x [] none h = All-nil (Has (log ++ taken_ticket p x ∷ []))
others_keep p log x (row ∷ rows) none h =
    let c = sum_by-cons (is_of p) row rows in
    let ne : p ≡ row.sender → ⊥ = λ e. (let one : is_of p row ≡ 1 = rw (eq-eqb row.sender p (sym e)) refl in omega (arith, c, one, none)) in
    All-cons (Has (log ++ taken_ticket p x ∷ [])) row rows (All-head (Has log) row rows h ∙ sym (of_sender-other row.sender p log x ne)) (others_keep p log x rows (omega (arith, c, none)) (All-tail (Has log) row rows h))

-- a ticket that was put through the pass of the first row
pub first_puts : (log : List TakenTicket) (x : Ticket) (row : SenderRow) (rows : List SenderRow) → rows_of row.sender (row ∷ rows) ≤ 1 → HaveAll log (row ∷ rows) → HaveAll (log ++ taken_ticket row.sender x ∷ []) (put_in x (row ∷ rows))
first_puts log x row rows once h =
    let c = sum_by-cons (is_of row.sender) row rows in
    let one : is_of row.sender row ≡ 1 = rw (eq-eqb row.sender row.sender refl) refl in
    All-cons (Has (log ++ taken_ticket row.sender x ∷ [])) _ rows (ap (λ l. l ++ x ∷ []) (All-head (Has log) row rows h) ∙ sym (of_sender-own row.sender log x)) (others_keep row.sender log x rows (omega (arith, c, one, once)) (All-tail (Has log) row rows h))

pub fronts_are : (gone waiting : List TakenTicket) (rows : List SenderRow) → HaveAll (gone ++ waiting) rows → All (λ row. IsFrontOf (of_sender row.sender gone) row.put) rows
fronts_are gone waiting rows h = All-weaker (Has (gone ++ waiting)) (λ row. IsFrontOf (of_sender row.sender gone) row.put)
    (λ row has.
    let mine = of_sender row.sender gone in
    sym (ap (take (length mine)) (has ∙ of_sender-append row.sender gone waiting) ∙ take_at mine (of_sender row.sender waiting) (length mine) refl))
    rows h

pub none_of : (p n : ℕ) → nat_lt p n ≡ false → one_below n p ≡ 0
none_of p n q = rw q refl

pub one_of : (p n : ℕ) → p < n → one_below n p ≡ 1
one_of p n lt = rw (lt-ltb p n lt) refl

pub some_below : (p n : ℕ) → 0 < one_below n p → p < n
some_below p n h = elim (cases_Bool (nat_lt p n)) [ inl q ↦ ltb-true p n q | inr q ↦ absurd (omega (arith, none_of p n q)) ]

pub at_most_one : (p n : ℕ) → one_below n p ≤ 1
at_most_one p n = elim (cases_Bool (nat_lt p n)) [ inl q ↦ rw q (omega arith) | inr q ↦ rw q (omega arith) ]

-- one for the number itself
abbrev pub is_one : ℕ → ℕ → ℕ
is_one p n = if n == p then 1 else 0

pub one_more : (p n : ℕ) → one_below n p + is_one p n ≤ one_below (n + 1) p
one_more p n = elim (cases_Bool (n == p)) [
  | inl q ↦ let e = eqb-true n p q in
      let is : is_one p n ≡ 1 = rw q refl in
      let none : one_below n p ≡ 0 = none_of p n (le-ltb p n (omega arith)) in
      omega (arith, one_of p (n + 1) (omega arith), is, none)
  | inr q ↦ let is : is_one p n ≡ 0 = rw q refl in
      elim (cases_Bool (nat_lt p n)) [
        | inl r ↦ omega (arith, one_of p n (ltb-true p n r), one_of p (n + 1) (let lt = ltb-true p n r in omega arith), is)
        | inr r ↦ omega (arith, none_of p n r, is)
      ]
]

-- a ticket in front is one more of its sender's
of_sender-length : (t : TakenTicket) (log : List TakenTicket) (row : SenderRow) → length (of_sender row.sender (t ∷ log)) ≡ is_of t.sender row + length (of_sender row.sender log)
of_sender-length t log row = elim (cases_Bool (t.sender == row.sender)) [
  | inl q ↦ let is : is_of t.sender row ≡ 1 = rw (eq-eqb row.sender t.sender (sym (eqb-true t.sender row.sender q))) refl in
      let longer : length (of_sender row.sender (t ∷ log)) ≡ suc (length (of_sender row.sender log)) = rw q refl in
      omega arith
  | inr q ↦ let is : is_of t.sender row ≡ 0 = rw (ne_eqb row.sender t.sender (λ e. eqb-false t.sender row.sender q (sym e))) refl in
      let same : length (of_sender row.sender (t ∷ log)) ≡ length (of_sender row.sender log) = rw q refl in
      omega arith
]

-- how many tickets of the log are of the rows' senders
abbrev logged : List TakenTicket → SenderRow → ℕ
logged log row = length (of_sender row.sender log)

none_logged : (rows : List SenderRow) → sum_by (logged []) rows ≡ 0
none_logged [] = refl
none_logged (row ∷ rows) = omega (arith, sum_by-cons (logged []) row rows, none_logged rows)

one_more_logged : (t : TakenTicket) (log : List TakenTicket) (rows : List SenderRow) → sum_by (logged (t ∷ log)) rows ≡ rows_of t.sender rows + sum_by (logged log) rows
one_more_logged t log [] = refl
one_more_logged t log (row ∷ rows) = omega (
  arith,
  sum_by-cons (logged (t ∷ log)) row rows,
  sum_by-cons (is_of t.sender) row rows,
  sum_by-cons (logged log) row rows,
  of_sender-length t log row,
  one_more_logged t log rows,
)

-- where each sender of the log has one row, the rows' senders have the whole log
all_logged : (log : List TakenTicket) (rows : List SenderRow) → ((sender : ℕ) → (of_sender sender log ≡ [] → ⊥) → rows_of sender rows ≡ 1) → sum_by (logged log) rows ≡ length log
all_logged [] rows once = none_logged rows
all_logged (t ∷ log) rows once =
    let first : rows_of t.sender rows ≡ 1 = once t.sender (rw (eq-eqb t.sender t.sender refl) (λ e. cons-ne-nil _ _ e)) in
    let rest = all_logged log rows (λ sender some. once sender (λ e. elim (cases_Bool (t.sender == sender)) [
      | inl q ↦ cons-ne-nil t.ticket (of_sender sender log) (sym (rw q refl) ∙ e)
      | inr q ↦ some (sym (rw q refl) ∙ e)
    ])) in
    omega (arith, one_more_logged t log rows, first, rest)

put_are_logged : (log : List TakenTicket) (rows : List SenderRow) → HaveAll log rows → sum_by (λ row. length row.put) rows ≡ sum_by (logged log) rows
put_are_logged log [] h = refl
put_are_logged log (row ∷ rows) h =
    let first : length row.put ≡ logged log row = ap length (All-head (Has log) row rows h) in
    omega (arith, sum_by-cons (λ row. length row.put) row rows, sum_by-cons (logged log) row rows, first, put_are_logged log rows (All-tail (Has log) row rows h))

pub all_rows : (log : List TakenTicket) (rows : List SenderRow) → ((sender : ℕ) → (of_sender sender log ≡ [] → ⊥) → rows_of sender rows ≡ 1) → HaveAll log rows → sum_by (λ row. length row.put) rows ≡ length log
all_rows log rows once h = put_are_logged log rows h ∙ all_logged log rows once
