-- A step on the stores leaves no more cells without a shadow, and a write one more at most; where a completion makes a step, what it
-- has come to is not bare any longer.
use Rattle.isolation_laws.proofs.Names.{[], ◌≡◌, ℕ, Bool, true, false, if◌then◌else◌, List, ◌∷◌, Option, Some, None}
use Rattle.isolation_laws.proofs.Names.{inl, inr, refl, sym, ◌∙◌, ap, subst, same_Some, none-some, ◌∈◌, last_write}
use Rattle.isolation_laws.proofs.Names.{Item, Cell, Row, looked, shadowed, without_bare, IsBare, AreOrdered}
use Rattle.isolation_laws.proofs.Names.{looked-without, without_bare_gone, Ask, SessionState, finish_asks, undo_asks}
use Rattle.isolation_laws.proofs.Names.{Completes, Client, State, rows_after, after_asks, ClientAt, IsFinish, MayHave}
use Rattle.isolation_laws.proofs.Names.{BareAt, IsolationInvariant}
use Rattle.system_parts.specs.declared.asks.Ask.TheVariants as ask
use Rattle.system_parts.specs.declared.session.State.TheVariants as phase
use Rattle.isolation_laws.proofs.Stores.CellsStay.{shadow_cases}
use Rattle.isolation_laws.proofs.Stores.CellsMove.{bare_not_shadowed}
use Rattle.isolation_laws.proofs.Stores.StoreMoves.{AskFits}
use Rattle.isolation_laws.proofs.Stores.CompletionSteps.{in_rest, finish_first, undo_first, finish_fits, no_asks}
use Rattle.isolation_laws.proofs.UnderWay.ClientWorks.{asks_same}
use Rattle.isolation_laws.proofs.UnderWay.SessionMoves.{work_of}
use Rattle.isolation_laws.proofs.Bare.BareClients.{Has, has_in}

-- ---- a step on the stores
shadowed_not_bare : (c : ℕ) (found : Option Cell) (cell : Cell) → shadowed c found ≡ Some cell → cell.shadow ≡ None → ⊥
shadowed_not_bare c None cell is bare = none-some cell is
shadowed_not_bare c (Some old) cell is bare = none-some c (sym bare ∙ ap (λ (x : Cell). x.shadow) (sym (same_Some _ _ is)))

pub bare_before : (rows : List Row) (asked : Ask) (k t : ℕ) → AreOrdered rows → BareAt (rows_after asked rows) k t → BareAt rows k t
bare_before rows (ask.Shadow j u c) k t ordered b = elim (shadow_cases rows j u c k t) [
  | inl here ↦ absurd (shadowed_not_bare c (looked rows k t) b.cell (sym here.2 ∙ b.there) b.bare)
  | inr same ↦ record { cell = b.cell; there = sym same ∙ b.there; bare = b.bare }
]
bare_before rows (ask.Erase j u) k t ordered b = record { cell = b.cell; there = looked-without rows j u k t b.cell ordered b.there; bare = b.bare }
bare_before rows (ask.Get u) k t ordered b = b
bare_before rows (ask.Mark u) k t ordered b = b
bare_before rows (ask.Look j u) k t ordered b = b
bare_before rows (ask.Remove u) k t ordered b = b
bare_before rows (ask.Keys u) k t ordered b = b

pub bare_if : (rows : List Row) (asked : Ask) (applied : Bool) (k t : ℕ) → AreOrdered rows → BareAt (if applied then rows_after asked rows else rows) k t → BareAt rows k t
bare_if rows asked true k t ordered b = bare_before rows asked k t ordered b
bare_if rows asked false k t ordered b = b

-- ---- a cell that was erased
erased_none : (rows : List Row) (k t : ℕ) → AreOrdered rows → BareAt (without_bare rows k t) k t → ⊥
erased_none rows k t ordered b =
    let was : BareAt rows k t = bare_before rows (ask.Erase k t) k t ordered b in
    let gone : looked (without_bare rows k t) k t ≡ None = without_bare_gone rows k t ordered (is_bare_row rows k t was.cell (looked rows k t) refl was.there was.bare) in
    none-some b.cell (sym gone ∙ b.there)
  where
    is_bare_row : (rows : List Row) (k t : ℕ) (cell : Cell) (found : Option Cell) → looked rows k t ≡ found → looked rows k t ≡ Some cell → cell.shadow ≡ None → IsBare rows k t
    is_bare_row rows k t cell found is there bare = rw there bare

-- what is left to be erased
none_left : (t j : ℕ) (ks : List ℕ) → [] ≡ undo_asks t ks → j ∈ ks → ⊥
unfolding ◌∈◌
none_left t j [] is m = m
none_left t j (k ∷ ks) is m = no_asks (ask.Erase k t) (undo_asks t ks) (sym is)

undone_on : (c : Client) (asks : List Ask) (j t : ℕ) (ks : List ℕ) → c.entry.state ≡ phase.Completing true → c.entry.start ≡ Some t → asks ≡ undo_asks t ks → j ∈ ks → Has (after_asks c asks) j t
undone_on c [] j t ks is start shape m = absurd (none_left t j ks shape m)
undone_on c (a ∷ more) j t ks is start shape m = (start, subst (λ (s : SessionState). MayHave s c.entry.keys (Completes (a ∷ more)) t j) (sym is) (ks, ap Completes shape, m))

-- a cell that an undo leaves is still to be erased
pub undo_has : (rows : List Row) (c : Client) (asked : Ask) (asks : List Ask) (k t : ℕ) → AreOrdered rows → c.entry.state ≡ phase.Completing true → c.under_way ≡ Completes (asked ∷ asks) → BareAt (rows_after asked rows) k t → Has c k t → Has (after_asks c asks) k t
undo_has rows c asked asks k t ordered is busy b of =
    let its = has_in c k t (phase.Completing true) is of in
    let one = undo_first t its.0 asked asks (asks_same (asked ∷ asks) (undo_asks t its.0) (sym busy ∙ its.1)) in
    elim (in_rest k one.0 its.0 one.1 one.2 its.2) [
      | inl here ↦ absurd (erased_none rows k t ordered (subst (λ (q : ℕ). BareAt (without_bare rows q t) k t) (sym here) (subst (λ (a : Ask). BareAt (rows_after a rows) k t) one.3 b)))
      | inr rest ↦ undone_on c asks k t one.1 is of.0 one.4 rest
    ]

-- ---- a transaction that has all its shadows
finish_ends : (t c : ℕ) (ks : List ℕ) → [] ≡ finish_asks t c ks → ⊥
finish_ends t c [] is = no_asks (ask.Remove t) [] (sym is)
finish_ends t c (k ∷ ks) is = no_asks (ask.Shadow k t c) (finish_asks t c ks) (sym is)

finished_none : (w : State) (h : List Item) (t c k : ℕ) (asked : Ask) → IsolationInvariant w h → IsFinish w.rows h t c (asked ∷ []) → BareAt w.rows k t → ⊥
finished_none w h t c k asked holds finish b = elim (finish_first t c finish.left asked [] finish.shape) [
  | inl last ↦
      let fits : AskFits w h (ask.Remove t) = subst (λ (a : Ask). AskFits w h a) last.1 (finish_fits w h t c asked [] holds finish) in
      bare_not_shadowed t c (last_write h t k) b.cell b.bare (sym b.there ∙ fits c finish.placed k)
  | inr more ↦ finish_ends t c more.1 more.4
]

finished_on : (w : State) (h : List Item) (s : ℕ) (c : Client) (asked : Ask) (asks : List Ask) (k t : ℕ) → IsolationInvariant w h → ClientAt w.clients s c → c.entry.state ≡ phase.Completing false → c.under_way ≡ Completes (asked ∷ asks) → BareAt w.rows k t → Has c k t → Has (after_asks c asks) k t
finished_on w h s c asked [] k t holds at is busy b of =
    let f = (work_of w h s c holds at).finish (asked ∷ []) is busy in
    absurd (finished_none w h f.0 f.1 k asked holds f.4 (subst (λ (q : ℕ). BareAt w.rows k q) (same_Some t f.0 (sym of.0 ∙ f.2)) b))
finished_on w h s c asked (a ∷ more) k t holds at is busy b of = (of.0, subst (λ (state : SessionState). MayHave state c.entry.keys (Completes (a ∷ more)) t k) (sym is) tt)

-- ---- a step of a completion
pub completion_has : (w : State) (h : List Item) (s : ℕ) (c : Client) (undo : Bool) (asked : Ask) (asks : List Ask) (k t : ℕ) → IsolationInvariant w h → ClientAt w.clients s c → c.entry.state ≡ phase.Completing undo → c.under_way ≡ Completes (asked ∷ asks) → BareAt (rows_after asked w.rows) k t → Has c k t → Has (after_asks c asks) k t
completion_has w h s c true asked asks k t holds at is busy b of = undo_has w.rows c asked asks k t holds.cells.rows_are.ordered is busy b of
completion_has w h s c false asked asks k t holds at is busy b of = finished_on w h s c asked asks k t holds at is busy (bare_before w.rows asked k t holds.cells.rows_are.ordered b) of
