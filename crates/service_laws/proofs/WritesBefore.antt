-- What an open transaction wrote, where its cell is gone after an outcome, it wrote before it; and of the items only a write writes.
use Rattle.std.proofs.Common.{arith}
use Rattle.std.proofs.lemmas.Grind.{common_steps}
use Rattle.service_laws.proofs.Names.{◌≡◌, ℕ, false, List, ◌++◌, None, inl, inr, refl, sym, ◌∙◌, none-some}
use Rattle.service_laws.proofs.Names.{Wrote, Item, looked, State, AnsweredBegin, answered_begin_items}
use Rattle.service_laws.proofs.Names.{WroteOne, wrote_state, wrote_items, Outcome}
use Rattle.service_laws.proofs.Names.{OfAnsweredBegin, OfWrote}
use Rattle.service_laws.proofs.Names.{left_by, told_by_outcome, OpenAt}
use Rattle.service_laws.proofs.Names.{IsolationInvariant, alone, start_unbegun, put_cases}
use Rattle.isolation_laws.proofs.Holding.Alone.{changes}
use Rattle.isolation_laws.proofs.Requests.OpenAfter.{open_answered_begin}
use Rattle.isolation_laws.proofs.Requests.WrittenKeys.{last_write-none}
use Rattle.service_laws.proofs.OpenRows.{bare_row}
use Rattle.service_laws.proofs.Unwritten.{Unwritten, quiet_unwritten, all_unwritten, one_unwritten, then_unwritten, draw_unwritten, turn_unwritten, write_unwritten, last_write-past}

-- ---- all but a write write nothing
pub nothing_written : (w : State) (h : List Item) (o : Outcome w) (t k : ℕ) → IsolationInvariant w h → (changes o).writes ≡ false → Unwritten t k (told_by_outcome w o)
nothing_written w h o t k holds is =
    grind (arith, common_steps, one_unwritten, draw_unwritten, then_unwritten, all_unwritten, quiet_unwritten, turn_unwritten)

-- ---- what was written before
pub record WasWritten (w : State) (h items : List Item) (s t e k : ℕ) (own : List ℕ) : Type 0 where
  pub open_at : OpenAt w.clients s t e
  pub wrote : Wrote h t k own
  pub unwritten : Unwritten t k items

written_by_items : (w : State) (h items : List Item) (s t e k : ℕ) (own : List ℕ) → OpenAt w.clients s t e → Unwritten t k items → Wrote (h ++ items) t k own → WasWritten w h items s t e k own
written_by_items w h items s t e k own o none wrote = record { open_at = o; wrote = sym (last_write-past h items t k none) ∙ wrote; unwritten = none }

-- a transaction that begins has written nothing
begun_wrote_none : (w : State) (h : List Item) (it : AnsweredBegin w) (t k : ℕ) (own : List ℕ) → IsolationInvariant w h → t ≡ it.start → Wrote h t k own → ⊥
begun_wrote_none w h it t k own holds same wrote = grind (arith, last_write-none, start_unbegun, none-some)

-- a write leaves its cell
wrote_leaves : (w : State) (h : List Item) (it : WroteOne w) (s t e k : ℕ) (own : List ℕ) → IsolationInvariant w h → OpenAt w.clients s t e → Wrote (h ++ wrote_items w it) t k own → looked (wrote_state w it).rows k t ≡ None → WasWritten w h (wrote_items w it) s t e k own
wrote_leaves w h it s t e k own holds o wrote gone = elim (put_cases w.rows it.key it.start it.value k t (bare_row w h it.it it.start it.key holds it.start_is)) [
  | inl here ↦ absurd (none-some _ (sym gone ∙ here.2))
  | inr other ↦ written_by_items w h (wrote_items w it) s t e k own o (one_unwritten t k _ (write_unwritten t k it.it.session it.start it.key it.value other.0)) wrote
]

pub was_written : (w : State) (h : List Item) (o : Outcome w) (s t e k : ℕ) (own : List ℕ) → IsolationInvariant w h → OpenAt (left_by w o).clients s t e → Wrote (h ++ told_by_outcome w o) t k own → looked (left_by w o).rows k t ≡ None → WasWritten w h (told_by_outcome w o) s t e k own
was_written w h (OfAnsweredBegin it) s t e k own holds now wrote gone =
    let none : Unwritten t k (answered_begin_items w it) = one_unwritten t k _ refl in
    elim (open_answered_begin w it s t e now) [
      | inl old ↦ written_by_items w h (answered_begin_items w it) s t e k own old none wrote
      | inr new ↦ absurd (begun_wrote_none w h it t k own holds new.1 (sym (last_write-past h (answered_begin_items w it) t k none) ∙ wrote))
    ]
was_written w h (OfWrote it) s t e k own holds now wrote gone = wrote_leaves w h it s t e k own holds ((alone w h (OfWrote it) holds).clients.opened refl s t e now) wrote gone
was_written w h o s t e k own holds now wrote gone =
    written_by_items w h (told_by_outcome w o) s t e k own ((alone w h o holds).clients.opened refl s t e now) (nothing_written w h o t k holds refl) wrote
