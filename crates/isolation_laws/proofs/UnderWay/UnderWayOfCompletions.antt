-- What is under way where a completion makes a step.
use Rattle.isolation_laws.proofs.Names.{◌≡◌, ℕ, if◌then◌else◌, Bool, true, false, List, [], ◌∷◌, ◌++◌, inl, inr, refl}
use Rattle.isolation_laws.proofs.Names.{sym, ◌∙◌, ap, subst, Item, Row, Ask, undo_asks, Settling, Settles, Completes}
use Rattle.isolation_laws.proofs.Names.{Client, State, rows_after, pairs_after, after_asks, Marked, IsUndo}
use Rattle.isolation_laws.proofs.Names.{UnderWayFacts, IsolationInvariant, CompletedOne, completed_state}
use Rattle.system_parts.specs.declared.session.State.TheVariants as phase
use Rattle.isolation_laws.proofs.Stores.Calm.{calm_same, calm_quiet}
use Rattle.isolation_laws.proofs.UnderWay.Works.{Works, Finishes, KeepsPlaced}
use Rattle.isolation_laws.proofs.UnderWay.ClientWorks.{works_freed, asks_same}
use Rattle.isolation_laws.proofs.Stores.StoreMoves.{AskFits, keeps_same, keeps_stepped, marks_stepped}
use Rattle.isolation_laws.proofs.Stores.CompletionSteps.{finish_fits, finish_next, undo_first, no_asks}
use Rattle.isolation_laws.proofs.UnderWay.SessionMoves.{work_of, start_of, completing_not_live, under_way_moved}

-- ---- what the ask needs
fits_by_kind : (w : State) (h : List Item) (k : CompletedOne w) (undo : Bool) → IsolationInvariant w h → k.c.entry.state ≡ phase.Completing undo → AskFits w h k.asked
fits_by_kind w h k false holds is =
    let f = (work_of w h k.session k.c holds k.client_at).finish (k.asked ∷ k.asks) is k.under_way in
    finish_fits w h f.0 f.1 k.asked k.asks holds f.4
fits_by_kind w h k true holds is =
    let work : Works w.rows h k.c = work_of w h k.session k.c holds k.client_at in
    let start = start_of w h k.session k.c (phase.Completing true) holds k.client_at is refl in
    let undo : IsUndo start.0 (k.asked ∷ k.asks) = work.undo start.0 (k.asked ∷ k.asks) is start.1 k.under_way in
    let one = undo_first start.0 undo.left k.asked k.asks undo.shape in
    subst (λ (a : Ask). AskFits w h a) (sym one.3) (λ c placed. absurd (work.unplaced start.0 c is start.1 placed), λ live. absurd (completing_not_live w h k.session start.0 k.c true holds k.client_at is start.2 live))

pub completed_fits : (w : State) (h : List Item) (k : CompletedOne w) → IsolationInvariant w h → AskFits w h k.asked
completed_fits w h k holds = fits_by_kind w h k k.undo holds k.completing

-- ---- the asks that are left
completes_settles : (asks : List Ask) (x : Settling) → Completes asks ≡ Settles x → ⊥
completes_settles asks x same = cc

not_outcome : (undo : Bool) → phase.Completing undo ≡ phase.OpenOutcome → ⊥
not_outcome undo same = cc

undo_next : (t : ℕ) (asked a : Ask) (more : List Ask) → IsUndo t (asked ∷ a ∷ more) → IsUndo t (a ∷ more)
undo_next t asked a more undo =
    let one = undo_first t undo.left asked (a ∷ more) undo.shape in
    record {
      left = one.1;
      shape = one.4;
      some = λ none. no_asks a more (one.4 ∙ ap (undo_asks t) none);
    }

finish_left : (w : State) (h : List Item) (c : Client) (asked a : Ask) (more : List Ask) → IsolationInvariant w h → Finishes w.rows h c (asked ∷ a ∷ more) → Finishes (rows_after asked w.rows) h c (a ∷ more)
finish_left w h c asked a more holds f = elim (finish_next w h f.0 f.1 asked (a ∷ more) holds f.4) [
  | inl none ↦ absurd (no_asks a more none)
  | inr next ↦ (f.0, f.1, f.2, f.3, next)
]

works_next : (w : State) (h : List Item) (c : Client) (asked a : Ask) (more : List Ask) (undo : Bool) → IsolationInvariant w h → c.entry.state ≡ phase.Completing undo → c.under_way ≡ Completes (asked ∷ a ∷ more) → Works w.rows h c → Works (rows_after asked w.rows) h (record c { under_way = Completes (a ∷ more) })
works_next w h c asked a more undo holds is busy work = record {
  finish = λ asks state now. subst (λ (xs : List Ask). Finishes (rows_after asked w.rows) h c xs) (asks_same (a ∷ more) asks now) (finish_left w h c asked a more holds (work.finish (asked ∷ a ∷ more) state busy));
  finish_busy = λ state. (a ∷ more, refl);
  undo = λ t asks state start now. subst (λ (xs : List Ask). IsUndo t xs) (asks_same (a ∷ more) asks now) (undo_next t asked a more (work.undo t (asked ∷ a ∷ more) state start busy));
  undo_busy = λ state. (a ∷ more, refl);
  unplaced = work.unplaced;
  resolve = λ state. absurd (not_outcome undo (sym is ∙ state));
  only = λ x now. absurd (completes_settles (a ∷ more) x now);
  handed = work.handed;
  heal = work.heal;
}

works_after_asks : (w : State) (h : List Item) (c : Client) (asked : Ask) (asks : List Ask) (undo : Bool) → IsolationInvariant w h → c.entry.state ≡ phase.Completing undo → c.under_way ≡ Completes (asked ∷ asks) → Works w.rows h c → Works (rows_after asked w.rows) h (after_asks c asks)
works_after_asks w h c asked [] undo holds is busy work = works_freed (rows_after asked w.rows) h c
works_after_asks w h c asked (a ∷ more) undo holds is busy work = works_next w h c asked a more undo holds is busy work

-- ---- the step, which may have failed with effect or without
abbrev rows_if : Bool → Ask → List Row → List Row
rows_if applied asked rows = if applied then rows_after asked rows else rows

left_works : (w : State) (h : List Item) (k : CompletedOne w) → IsolationInvariant w h → Works (rows_if k.applied k.asked w.rows) h k.left
left_works w h k holds = elim k.left_is [
  | inl goes ↦ subst (λ (b : Bool). Works (rows_if b k.asked w.rows) h k.left) (sym goes.1) (subst (λ (x : Client). Works (rows_after k.asked w.rows) h x) (sym goes.0) (works_after_asks w h k.c k.asked k.asks k.undo holds k.completing k.under_way (work_of w h k.session k.c holds k.client_at)))
  | inr freed ↦ subst (λ (x : Client). Works (rows_if k.applied k.asked w.rows) h x) (sym freed.0) (works_freed (rows_if k.applied k.asked w.rows) h k.c)
]

pub keeps_if : (w : State) (h : List Item) (asked : Ask) (applied : Bool) → IsolationInvariant w h → AskFits w h asked → KeepsPlaced w.rows (if applied then rows_after asked w.rows else w.rows) h h
keeps_if w h asked true holds fits = keeps_stepped w h asked holds fits
keeps_if w h asked false holds fits = keeps_same w.rows h h (calm_same h)

pub marks_if : (w : State) (asked : Ask) (applied : Bool) (t : ℕ) → Marked w.pairs t → Marked (if applied then pairs_after asked w.pairs else w.pairs) t
marks_if w asked true t marked = marks_stepped asked w.pairs t marked
marks_if w asked false t marked = marked

pub under_way_completed : (w : State) (h : List Item) (k : CompletedOne w) → IsolationInvariant w h → UnderWayFacts (completed_state w k).clients w.sweep (completed_state w k).rows (completed_state w k).pairs (h ++ k.items)
under_way_completed w h k holds = under_way_moved w h (h ++ k.items) k.session k.left (completed_state w k).rows (completed_state w k).pairs holds (keeps_if w h k.asked k.applied holds (completed_fits w h k holds)) (marks_if w k.asked k.applied) (calm_quiet h k.items k.quiet) (left_works w h k holds)
