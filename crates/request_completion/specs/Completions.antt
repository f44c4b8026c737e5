-- Completions: what a step of one tells, and that nothing else moves the client.
use Rattle.std.specs.Prelude.{◌≡◌, ◌⊎◌, ℕ, Bool, List, [], ◌∷◌}
use Rattle.port_io.specs.declared.weather.Fate.{Fate}
use Rattle.history_book.specs.Members.{◌∈◌}
use Rattle.history_book.specs.declared.cause.Cause.TheVariants as cause
use Rattle.history_book.specs.declared.item.Actor.TheVariants.{Session}
use Rattle.history_book.specs.declared.item.Item.{Item}
use Rattle.history_book.specs.declared.item.Item.TheVariants as item
use Rattle.system_parts.specs.declared.asks.Ask.{Ask}
use Rattle.system_parts.specs.declared.asks.Told.{Told}
use Rattle.system_parts.specs.declared.session.State.TheVariants as phase
use Rattle.machine.specs.declared.event.Event.{Event}
use Rattle.machine.specs.declared.event.Event.TheVariants as event
use Rattle.machine.specs.State.{Completes, Client, State}
use Rattle.machine.specs.StoreSteps.{step_item, store_of}
use Rattle.machine.specs.Machine.{stepped}
use Rattle.machine.specs.Clients.{client_freed}
use Rattle.machine.specs.Events.Step.{after_asks}
use Rattle.isolation_laws.specs.Words.{ClientAt}
use Rattle.isolation_laws.specs.Sound.{ReachedInvariant}

-- a step that is refused as idle finds none
abbrev pub IdleStepsCompleteNothing : Type 0
IdleStepsCompleteNothing =
    (w : State) (h : List Item) (s : ℕ) (fate : Fate) (c : Client) (undo : Bool) → ReachedInvariant w h → ClientAt w.clients s c → item.Refused (Session s) cause.Idle ∈ (stepped w (event.Step s) fate).items → c.entry.state ≡ phase.Completing undo → ⊥

-- the first of what is left is told as done, or the call failed
abbrev pub TellsFirst : ℕ → List Ask → List Item → Type 0
TellsFirst s [] items = items ≡ []
TellsFirst s (asked ∷ asks) items = ((answer : Told) × (items ≡ step_item (Session s) asked answer ∷ [])) ⊎ (item.Fault (Session s) (store_of asked) ∈ items)

abbrev pub CompletionStepsTell : Type 0
CompletionStepsTell =
    (w : State) (h : List Item) (s : ℕ) (fate : Fate) (c : Client) (undo : Bool) → ReachedInvariant w h → ClientAt w.clients s c → c.entry.state ≡ phase.Completing undo →
    (asks : List Ask) × (c.under_way ≡ Completes asks) × TellsFirst s asks (stepped w (event.Step s) fate).items

-- a client whose completion is under way is moved by its own steps alone, or vanishes
abbrev pub OthersLeaveCompletions : Type 0
OthersLeaveCompletions =
    (w : State) (h : List Item) (e : Event) (fate : Fate) (s : ℕ) (c d : Client) (undo : Bool) → ReachedInvariant w h → ClientAt w.clients s c → c.entry.state ≡ phase.Completing undo →
    (e ≡ event.Step s → ⊥) → (e ≡ event.Vanish s → ⊥) → ClientAt (stepped w e fate).state.clients s d → d ≡ c

-- its own step goes on to what is left, or has failed and frees the session
abbrev pub GoesOn : ℕ → Client → Ask → List Ask → List Item → Client → Type 0
GoesOn s c asked asks items d =
    ((answer : Told) × (items ≡ step_item (Session s) asked answer ∷ []) × (d ≡ after_asks c asks)) ⊎ ((item.Fault (Session s) (store_of asked) ∈ items) × (d ≡ client_freed c))

abbrev pub StepsMoveCompletions : Type 0
StepsMoveCompletions =
    (w : State) (s : ℕ) (fate : Fate) (c d : Client) (undo : Bool) (asked : Ask) (asks : List Ask) → ClientAt w.clients s c → c.entry.state ≡ phase.Completing undo → c.under_way ≡ Completes (asked ∷ asks) →
    ClientAt (stepped w (event.Step s) fate).state.clients s d → GoesOn s c asked asks (stepped w (event.Step s) fate).items d
