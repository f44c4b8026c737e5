-- For cause_laws, request_completion and others above too.
-- What ties state and history holds after every list of moves with steady readings; so each history is snapshot isolated, and
-- serial with strict reads.
use Rattle.isolation_laws.proofs.Names.{◌≡◌, ℕ, List, [], ◌∷◌, ◌++◌, append_assoc, refl, sym, ◌∙◌, subst, append-nil}
use Rattle.isolation_laws.proofs.Names.{SetupNumbers, AreInRange, Fate, Isolated, Item, SerialIfStrict, Event, State}
use Rattle.isolation_laws.proofs.Names.{opening, stepped, Move, state_after, items_after, history_after, reading_of}
use Rattle.isolation_laws.proofs.Names.{seen_after, IsSteadyAt, AreSteady, Steady, AreDue, IsolationInvariant}
use Rattle.isolation_laws.proofs.Names.{ReachedInvariant, Outcome, OfStill, left_by, told_by_outcome, IsTimely, ComesAt}
use Rattle.machine.specs.Machine.{Step}
use Rattle.machine.proofs.Outcome.Readings.{steadily}
use Rattle.isolation_laws.proofs.Numbers.NumbersOfAll.{numbers_kept}
use Rattle.isolation_laws.proofs.Requests.RequestsOfAll.{requests_kept}
use Rattle.isolation_laws.proofs.Memory.MemoryKept.{memory_kept}
use Rattle.isolation_laws.proofs.Stores.CellsKept.{cells_kept}
use Rattle.isolation_laws.proofs.UnderWay.UnderWayKept.{under_way_kept}
use Rattle.isolation_laws.proofs.Requests.BeginsKept.{begins_kept}
use Rattle.isolation_laws.proofs.Reading.ReadsKept.{reads_kept, right_reads_kept}
use Rattle.isolation_laws.proofs.Known.KnownKept.{known_kept}
use Rattle.isolation_laws.proofs.Bare.BareKept.{owned_kept}
use Rattle.machine.proofs.Inversions.EachOutcome.{each_outcome as each_of_event}
use Rattle.isolation_laws.proofs.Inversions.Inversion.{parts_fit, comes_to}
use Rattle.isolation_laws.proofs.Inversions.InversionSound.{sound_kept, opening_sound}
use Rattle.isolation_laws.proofs.Holding.IsolatedStamps.{stamped_kept, fresh_kept, apart_kept}
use Rattle.isolation_laws.proofs.Holding.SerialCommits.{serial_if_strict}
use Rattle.isolation_laws.proofs.Holding.Opening.{opening_holds}
use Rattle.machine.proofs.PartsKept.{leaves_parts, seen_up}

-- ---- one outcome
setup_kept : (w : State) (o : Outcome w) → (left_by w o).setup ≡ w.setup
setup_kept w (OfStill k) = refl
setup_kept w _ = refl

pub holds_kept : (w : State) (h : List Item) (o : Outcome w) → IsTimely w o → IsolationInvariant w h → IsolationInvariant (left_by w o) (h ++ told_by_outcome w o)
holds_kept w h o timely holds = record {
  in_range = subst (λ (setup : SetupNumbers). AreInRange setup) (sym (setup_kept w o)) holds.in_range;
  numbers = numbers_kept w h o holds;
  requests = requests_kept w h o timely holds;
  memory = memory_kept w h o holds;
  cells = cells_kept w h o holds;
  under_way = under_way_kept w h o holds;
  begins = begins_kept w h o timely holds;
  reads = reads_kept w h o timely holds;
  known = known_kept w h o holds;
  owned = owned_kept w h o holds;
  isolated = record {
    apart = apart_kept w h o holds;
    stamped = stamped_kept w h o holds;
    fresh = fresh_kept w h o holds;
    reads = right_reads_kept w h o timely holds;
  };
}

-- ---- one event
pub comes_by : (w : State) (h : List Item) (e : Event) (fate : Fate) → ReachedInvariant w h → ComesAt w (reading_of e) (stepped w e fate).state (stepped w e fate).items
comes_by w h e fate both = comes_to w h e fate both.holds both.sound

-- what each outcome of an event makes so, the event makes so
pub each_outcome : (P : State → List Item → Type 0) (w : State) (h : List Item) (e : Event) (fate : Fate) → ReachedInvariant w h → ((o : Outcome w) → P (left_by w o) (told_by_outcome w o)) → P (stepped w e fate).state (stepped w e fate).items
each_outcome P w h e fate both each = each_of_event P w e fate (parts_fit w h both.holds both.sound) each

-- each refusal that an event tells says what is the case
pub dues : (w : State) (h : List Item) (e : Event) (fate : Fate) → ReachedInvariant w h → AreDue w (stepped w e fate).items
dues w h e fate both =
    let (o, state, items, at, due) = comes_by w h e fate both in
    due

-- a steady reading keeps the facts
pub facts_stay : (w : State) (h : List Item) (e : Event) (fate : Fate) → ReachedInvariant w h → IsSteadyAt w.setup.skew w.seen (reading_of e) → ReachedInvariant (stepped w e fate).state (h ++ (stepped w e fate).items)
facts_stay w h e fate both steady =
    let step : Step = stepped w e fate in
    let (o, state, items, at, due) = comes_by w h e fate both in
    record {
      holds = subst (λ (v : State). IsolationInvariant v (h ++ step.items)) (sym state) (subst (λ (xs : List Item). IsolationInvariant (left_by w o) (h ++ xs)) (sym items) (holds_kept w h o (steadily w (reading_of e) o at steady) both.holds));
      sound = sound_kept w e fate o state both.sound;
    }

-- and leaves the rest of the readings steady
pub steady_stays : (w : State) (move : Move) (moves : List Move) → AreSteady w.setup.skew w.seen (move ∷ moves) → AreSteady (stepped w move.event move.fate).state.setup.skew (stepped w move.event move.fate).state.seen moves
unfolding AreSteady
steady_stays w move moves steady =
    let step : Step = stepped w move.event move.fate in
    subst (λ (seen : ℕ). AreSteady step.state.setup.skew seen moves) (sym (seen_up w move.event move.fate))
    (subst (λ (setup : SetupNumbers). AreSteady setup.skew (seen_after w.seen (reading_of move.event)) moves) (sym (leaves_parts w move.event move.fate).setup) steady.1)

pub steady_now : (w : State) (move : Move) (moves : List Move) → AreSteady w.setup.skew w.seen (move ∷ moves) → IsSteadyAt w.setup.skew w.seen (reading_of move.event)
unfolding AreSteady
steady_now w move moves steady = steady.0

-- ---- all moves
pub stands_after : (w : State) (h : List Item) (moves : List Move) → ReachedInvariant w h → AreSteady w.setup.skew w.seen moves → ReachedInvariant (state_after w moves) (h ++ items_after w moves)
unfolding state_after items_after
stands_after w h [] both steady = subst (λ (xs : List Item). ReachedInvariant w xs) (sym (append-nil h)) both
stands_after w h (move ∷ moves) both steady =
    let step : Step = stepped w move.event move.fate in
    let after : ReachedInvariant step.state (h ++ step.items) = facts_stay w h move.event move.fate both (steady_now w move moves steady) in
    subst (λ (xs : List Item). ReachedInvariant (state_after step.state moves) xs) (append_assoc h step.items (items_after step.state moves)) (stands_after step.state (h ++ step.items) moves after (steady_stays w move moves steady))

-- ---- from the opening on
pub stands_at_first : (setup : SetupNumbers) → AreInRange setup → ReachedInvariant (opening setup) []
stands_at_first setup in_range = record { holds = opening_holds setup in_range; sound = opening_sound setup }

pub always_stands : (setup : SetupNumbers) (moves : List Move) → AreInRange setup → Steady setup moves → ReachedInvariant (state_after (opening setup) moves) (history_after setup moves)
always_stands setup moves in_range steady = stands_after (opening setup) [] moves (stands_at_first setup in_range) steady

-- every history is snapshot isolated
pub histories_are_isolated : (setup : SetupNumbers) (moves : List Move) → AreInRange setup → Steady setup moves → Isolated (history_after setup moves)
histories_are_isolated setup moves in_range steady = (always_stands setup moves in_range steady).holds.isolated

-- and serial where the setup asks for strict reads
pub setup_after : (w : State) (moves : List Move) → (state_after w moves).setup ≡ w.setup
unfolding state_after
setup_after w [] = refl
setup_after w (move ∷ moves) = setup_after (stepped w move.event move.fate).state moves ∙ (leaves_parts w move.event move.fate).setup

pub stands_serially : (w : State) (h : List Item) → ReachedInvariant w h → SerialIfStrict w.setup h
stands_serially w h both = serial_if_strict w h both.holds

pub histories_are_serial : (setup : SetupNumbers) (moves : List Move) → AreInRange setup → Steady setup moves → SerialIfStrict setup (history_after setup moves)
histories_are_serial setup moves in_range steady =
    subst (λ (numbers : SetupNumbers). SerialIfStrict numbers (history_after setup moves)) (setup_after (opening setup) moves)
    (stands_serially (state_after (opening setup) moves) (history_after setup moves) (always_stands setup moves in_range steady))
