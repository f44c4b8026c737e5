-- What it comes to that a session places its commit.
use Rattle.machine.proofs.Names.{◌≡◌, ℕ, [], ◌∷◌, Option, Some, None, ◌⊎◌, inl, inr, refl, sym, ap, State, Client}
use Rattle.machine.proofs.Names.{AreDue, Places, StepsFit, same_Some, Mark, CommittedMark, Table, Fate, Works}
use Rattle.machine.proofs.Names.{FailsUnchanged, FailsApplied, fated, Session, PutFound, mark_of, put_over}
use Rattle.machine.proofs.Names.{SessionState, handed_by, handed_commit, Settled, place_by, place_on, placed_among}
use Rattle.machine.proofs.Names.{ClientAt, AllQuiet, OfOwnPlaced, OfOwnNotPlaced}
use Rattle.machine.proofs.Dues.OwnPlacings.{placing_due}
use Rattle.history_book.specs.declared.cause.Cause.TheVariants as cause
use Rattle.history_book.specs.declared.item.Item.TheVariants as item
use Rattle.system_parts.specs.declared.session.State.TheVariants as phase
use Rattle.system_parts.specs.declared.instance.Settled.TheVariants as how
use Rattle.machine.proofs.Outcome.QuietItems.{one_quiet, two_quiet}
use Rattle.machine.specs.Outcome.OutcomesOfPlacings.{AtPlacing, own_clients, own_told}
use Rattle.machine.proofs.Inversions.InversionParts.{ComesTo, ComesBy}
use Rattle.machine.proofs.Inversions.InversionOfSteps.{for_stores}
use Rattle.machine.proofs.Inversions.InversionOfAnswers.{not_invalid}

-- ---- what a session has to place
pub record IsHanded (state : SessionState) (start commit : Option ℕ) (stamps : ℕ × ℕ) : Type 0 where
  pub placing : state ≡ phase.Placing
  pub start_is : start ≡ Some stamps.0
  pub commit_is : commit ≡ Some stamps.1

pub is_handed : (state : SessionState) (start commit : Option ℕ) (stamps : ℕ × ℕ) → handed_by state start commit ≡ Some stamps → IsHanded state start commit stamps
is_handed phase.Placing (Some start) (Some commit) stamps is = record {
  placing = refl;
  start_is = ap (λ (p : ℕ × ℕ). Some p.0) (same_Some (start, commit) stamps is);
  commit_is = ap (λ (p : ℕ × ℕ). Some p.1) (same_Some (start, commit) stamps is);
}
is_handed phase.Placing (Some start) None stamps is = absurd (cc)
is_handed phase.Placing None commit stamps is = absurd (cc)
is_handed phase.Free start commit stamps is = absurd (cc)
is_handed phase.Asking start commit stamps is = absurd (cc)
is_handed phase.Open start commit stamps is = absurd (cc)
is_handed phase.Committing start commit stamps is = absurd (cc)
is_handed phase.OpenOutcome start commit stamps is = absurd (cc)
is_handed (phase.Completing undo) start commit stamps is = absurd (cc)
is_handed phase.Gone start commit stamps is = absurd (cc)

-- ---- the placing
own_placed : (w : State) (it : AtPlacing w) (by : Settled) → (by ≡ how.Placed) ⊎ (by ≡ how.Faulted) → mark_of w.pairs it.start ≡ None → AllQuiet (own_told by it.session it.start it.commit) → AreDue w (item.Placed it.start it.commit ∷ own_told by it.session it.start it.commit) → ComesTo w (record w { clients = own_clients w it by; pairs = put_over w.pairs it.start (CommittedMark it.commit) None }) (item.Placed it.start it.commit ∷ own_told by it.session it.start it.commit)
own_placed w it by by_is free quiet due = (
  OfOwnPlaced (record { it = it; free = free; by = by; by_is = by_is; items = own_told by it.session it.start it.commit; tells = refl; quiet = quiet }),
  ap (λ (m : Option Mark). record w { clients = own_clients w it by; pairs = put_over w.pairs it.start (CommittedMark it.commit) m }) (sym free),
  refl,
  tt,
  due,
)

own_unplaced : (w : State) (it : AtPlacing w) (by : Settled) → (by ≡ how.Invalid) ⊎ (by ≡ how.Faulted) → (by ≡ how.Invalid → (mark : Mark) × (mark_of w.pairs it.start ≡ Some mark)) → AllQuiet (own_told by it.session it.start it.commit) → AreDue w (own_told by it.session it.start it.commit) → ComesTo w (record w { clients = own_clients w it by }) (own_told by it.session it.start it.commit)
own_unplaced w it by by_is found quiet due = (OfOwnNotPlaced (record { it = it; by = by; by_is = by_is; found = found; items = own_told by it.session it.start it.commit; tells = refl; quiet = quiet }), refl, refl, tt, due)

fault_quiet : (session start : ℕ) → AllQuiet (item.Fault (Session session) Table ∷ item.Refused (Session session) (cause.Open start) ∷ [])
fault_quiet session start = two_quiet (item.Fault (Session session) Table) (item.Refused (Session session) (cause.Open start)) refl refl

at_placing : (w : State) (it : AtPlacing w) → Places w it.session it.start it.commit
at_placing w it = record { client = it.c; at = it.client_at; placing = it.placing; start_is = it.start_is; commit_is = it.commit_is }

placing_fated : (w : State) (it : AtPlacing w) (fate : Fate) (mark : Option Mark) → StepsFit w → mark_of w.pairs it.start ≡ mark → ComesBy w (for_stores w it.session (placed_among w.rows (place_by it.session it.start it.commit fate mark it.c (fated fate w.pairs (put_over w.pairs it.start (CommittedMark it.commit) mark)))))
placing_fated w it Works None fits is = own_placed w it how.Placed (inl refl) is (one_quiet (item.Committed it.session it.start it.commit) refl) (placing_due w it.session it.start it.commit Works it.c w.pairs None fits (at_placing w it) is)
placing_fated w it Works (Some found) fits is = own_unplaced w it how.Invalid (inl refl) (λ by. (found, is)) (two_quiet (item.Step (Session it.session) (PutFound it.start)) (item.Refused (Session it.session) (cause.Invalid it.start)) refl refl) (placing_due w it.session it.start it.commit Works it.c w.pairs (Some found) fits (at_placing w it) is)
placing_fated w it FailsUnchanged mark fits is = own_unplaced w it how.Faulted (inr refl) (λ by. absurd (not_invalid by)) (fault_quiet it.session it.start) (placing_due w it.session it.start it.commit FailsUnchanged it.c w.pairs mark fits (at_placing w it) is)
placing_fated w it FailsApplied None fits is = own_placed w it how.Faulted (inr refl) is (fault_quiet it.session it.start) (placing_due w it.session it.start it.commit FailsApplied it.c w.pairs None fits (at_placing w it) is)
placing_fated w it FailsApplied (Some found) fits is = own_unplaced w it how.Faulted (inr refl) (λ by. absurd (not_invalid by)) (fault_quiet it.session it.start) (placing_due w it.session it.start it.commit FailsApplied it.c w.pairs (Some found) fits (at_placing w it) is)

pub placing_comes : (w : State) (session : ℕ) (fate : Fate) (c : Client) (stamps : ℕ × ℕ) → StepsFit w → ClientAt w.clients session c → handed_commit c.entry ≡ Some stamps → ComesBy w (for_stores w session (placed_among w.rows (place_on session stamps.0 stamps.1 fate c w.pairs)))
placing_comes w session fate c stamps fits at is =
    let handed : IsHanded c.entry.state c.entry.start c.entry.commit stamps = is_handed c.entry.state c.entry.start c.entry.commit stamps is in
    let it : AtPlacing w = record { session = session; start = stamps.0; commit = stamps.1; c = c; client_at = at; placing = handed.placing; start_is = handed.start_is; commit_is = handed.commit_is } in
    placing_fated w it fate (mark_of w.pairs stamps.0) fits refl
