-- What a transaction read and had not written, in a longer history: no more than a new read brings.
use Rattle.isolation_laws.proofs.Names.{◌≡◌, ℕ, ◌≤◌, List, [], ◌∷◌, ◌++◌, append_assoc, length, take, Option, None, ◌⊎◌}
use Rattle.isolation_laws.proofs.Names.{inl, inr, sym, ◌∙◌, ap, subst, arith, append-nil, take-append-le}
use Rattle.isolation_laws.proofs.Names.{slice_get_within, ◌∈◌, Wrote, last_write, Found, Item, Read, Write, in_front}
use Rattle.isolation_laws.proofs.Names.{slice_get-push, in_at, ReadTurn, Asks, Answers, found_of, read_items, Quiet}
use Rattle.isolation_laws.proofs.Names.{ReadFirst, one_quiet}
use Rattle.std.proofs.Math.Seq.{take-append_seam}
use Rattle.isolation_laws.proofs.Pushed.{last_write-quiet}
use Rattle.isolation_laws.proofs.Requests.WrittenKeys.{write_of, wrote_some}
use Rattle.isolation_laws.proofs.Reading.ReadsStay.{NoReads, quiet_no_reads}

-- the item is a read of k by t, which had not written k
pub record ReadsNow (h : List Item) (x : Item) (t k : ℕ) : Type 0 where
  pub session : ℕ
  pub answer : Option Found
  pub item_is : x ≡ Read session t k answer
  pub unwritten : last_write h t k ≡ None

pub first_push : (h : List Item) (x : Item) (t k : ℕ) → ReadFirst (h ++ x ∷ []) t k → ReadFirst h t k ⊎ ReadsNow h x t k
first_push h x t k first = elim (slice_get-push h x first.place (Read first.session t k first.answer) first.read) [
  | inl old ↦
      let within : first.place ≤ length h = omega (arith, slice_get_within h first.place (Read first.session t k first.answer) old) in
      inl (record {
        place = first.place;
        session = first.session;
        answer = first.answer;
        read = old;
        unwritten = ap (λ before. last_write before t k) (sym (take-append-le first.place h (x ∷ []) within)) ∙ first.unwritten;
      })
  | inr now ↦
      let front : take first.place (h ++ x ∷ []) ≡ h = ap (λ n. take n (h ++ x ∷ [])) now.1 ∙ take-append_seam h (x ∷ []) in
      inr (record {
        session = first.session;
        answer = first.answer;
        item_is = sym now.0;
        unwritten = ap (λ before. last_write before t k) (sym front) ∙ first.unwritten;
      })
]

-- items that answer no read bring none
pub first_no_reads : (h items : List Item) (t k : ℕ) → NoReads items → ReadFirst (h ++ items) t k → ReadFirst h t k
unfolding ◌∈◌
first_no_reads h [] t k none first = subst (λ xs. ReadFirst xs t k) (append-nil h) first
first_no_reads h (x ∷ items) t k none first =
    let longer : ReadFirst ((h ++ x ∷ []) ++ items) t k = subst (λ xs. ReadFirst xs t k) (sym (append_assoc h (x ∷ []) items)) first in
    let one : ReadFirst (h ++ x ∷ []) t k = first_no_reads (h ++ x ∷ []) items t k (λ s b j answer m. none s b j answer (inr m)) longer in
    elim (first_push h x t k one) [
      | inl old ↦ old
      | inr now ↦ absurd (none now.session t k now.answer (inl (sym now.item_is)))
    ]

-- ---- the items of a turn of a read
-- it is the one that the turn answers
pub record IsAnswered (h : List Item) (b j t k : ℕ) : Type 0 where
  pub start_is : t ≡ b
  pub key_is : k ≡ j
  pub unwritten : last_write h t k ≡ None

read_parts : (s b j r t k : ℕ) (answer other : Option Found) → Read s b j answer ≡ Read r t k other → (t ≡ b) × (k ≡ j)
read_parts s b j r t k answer other same = (cc, cc)

pub first_turn : (h : List Item) (x : Item) (s b j : ℕ) (turn : ReadTurn) (t k : ℕ) → Quiet x → ReadFirst (h ++ x ∷ read_items s b j turn) t k → ReadFirst h t k ⊎ IsAnswered h b j t k
first_turn h x s b j (Asks r) t k quiet first = inl (first_no_reads h (x ∷ []) t k (quiet_no_reads (x ∷ []) (one_quiet x quiet)) first)
first_turn h x s b j (Answers a) t k quiet first =
    let longer : ReadFirst ((h ++ x ∷ []) ++ Read s b j (found_of a.found) ∷ []) t k = subst (λ xs. ReadFirst xs t k) (sym (append_assoc h (x ∷ []) (Read s b j (found_of a.found) ∷ []))) first in
    elim (first_push (h ++ x ∷ []) (Read s b j (found_of a.found)) t k longer) [
      | inl old ↦ inl (first_no_reads h (x ∷ []) t k (quiet_no_reads (x ∷ []) (one_quiet x quiet)) old)
      | inr now ↦
          let same = read_parts s b j now.session t k (found_of a.found) now.answer now.item_is in
          inr (record { start_is = same.0; key_is = same.1; unwritten = sym (last_write-quiet h (x ∷ []) t k (one_quiet x quiet)) ∙ now.unwritten })
    ]

-- ---- what was read stands in the history, and what was written goes on to be
pub read_of : (h : List Item) (t k : ℕ) → ReadFirst h t k → (s : ℕ) × (answer : Option Found) × (Read s t k answer ∈ h)
read_of h t k first = (first.session, first.answer, in_at h first.place (Read first.session t k first.answer) first.read)

pub wrote_on : (h items : List Item) (t k : ℕ) (value : List ℕ) → Wrote h t k value → (last : List ℕ) × Wrote (h ++ items) t k last
wrote_on h items t k value wrote =
    let who = write_of h t k value wrote in
    wrote_some (h ++ items) who.0 t k value (in_front (Write who.0 t k value) h items who.1)
