-- What the next step of a session comes to, by what it has under way.
use Rattle.machine.proofs.Names.{◌≡◌, ℕ, Bool, true, false, if◌then◌else◌, [], ◌∷◌, Option, Some, None, refl, Fate}
use Rattle.machine.proofs.Names.{Cause, Idle, SessionState, step_refusal, handed_commit, UnderWay, Nothing, Reads}
use Rattle.machine.proofs.Names.{Settles, Completes, Client, State, is_reading, work_of, step_at, step_due, step_on}
use Rattle.machine.proofs.Names.{step_unless, ClientAt, Mild, IsWork, StepsFit}
use Rattle.system_parts.specs.declared.session.State.TheVariants as phase
use Rattle.machine.proofs.Outcome.PlainItems.{mild_is}
use Rattle.machine.proofs.Dues.OwnRefusals.{step_own}
use Rattle.machine.proofs.Inversions.InversionParts.{nothing_told, state_told, ComesBy, still_client}
use Rattle.machine.proofs.Inversions.InversionOfPlacings.{placing_comes}
use Rattle.machine.proofs.Inversions.InversionOfSteps.{for_stores, read_comes, settle_comes, complete_comes}

-- ---- the next step of what is under way
work_comes : (w : State) (session : ℕ) (fate : Fate) (c : Client) → ClientAt w.clients session c → (work : UnderWay) → IsWork c work → ComesBy w (for_stores w session (step_at session fate c w.rows w.pairs work))
work_comes w session fate c at Nothing is = still_client w session c [] at (nothing_told w)
work_comes w session fate c at (Reads r) is = read_comes w session fate c r at is
work_comes w session fate c at (Settles x) is = settle_comes w session fate c x at is.0 is.1
work_comes w session fate c at (Completes []) is = still_client w session c [] at (nothing_told w)
work_comes w session fate c at (Completes (asked ∷ asks)) is = complete_comes w session fate c asked asks at is

idle_mild : (reading : Bool) → Mild (if reading then None else Some Idle)
idle_mild true = tt
idle_mild false = refl

step_mild : (state : SessionState) (reading : Bool) → Mild (step_refusal state reading)
step_mild phase.Gone reading = refl
step_mild phase.Placing reading = tt
step_mild phase.OpenOutcome reading = tt
step_mild (phase.Completing undo) reading = tt
step_mild _ reading = idle_mild reading

due_comes : (w : State) (session : ℕ) (fate : Fate) (c : Client) → StepsFit w → ClientAt w.clients session c → step_refusal c.entry.state (is_reading c) ≡ None → (due : Option (ℕ × ℕ)) → handed_commit c.entry ≡ due → ComesBy w (for_stores w session (step_due session fate c w.rows w.pairs due))
due_comes w session fate c fits at go None is = work_comes w session fate c at (work_of c) (fits.work session c at is go)
due_comes w session fate c fits at go (Some stamps) is = placing_comes w session fate c stamps fits at is

step_comes : (w : State) (session : ℕ) (fate : Fate) (c : Client) → StepsFit w → ClientAt w.clients session c → (why : Option Cause) → step_refusal c.entry.state (is_reading c) ≡ why → ComesBy w (for_stores w session (step_unless session fate c w.rows w.pairs why))
step_comes w session fate c fits at (Some why) go = still_client w session c _ at (state_told w session c why at (mild_is (step_refusal c.entry.state (is_reading c)) why go (step_mild c.entry.state (is_reading c))) (step_own c.entry.state (is_reading c) why go))
step_comes w session fate c fits at None go = due_comes w session fate c fits at go (handed_commit c.entry) refl

pub step_at_client : (w : State) (session : ℕ) (fate : Fate) (c : Client) → StepsFit w → ClientAt w.clients session c → ComesBy w (for_stores w session (step_on session fate c w.rows w.pairs))
step_at_client w session fate c fits at = step_comes w session fate c fits at (step_refusal c.entry.state (is_reading c)) refl
