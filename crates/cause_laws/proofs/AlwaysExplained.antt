-- For request_completion, cluster_core, command_semantics and others above too.
-- What the history shows of the state is kept by every event; so every refusal is shown in each history.
use Rattle.cause_laws.proofs.Names.{◌≡◌, List, [], ◌∷◌, ◌++◌, append_assoc, Option, sym, ◌∙◌, subst, append-nil}
use Rattle.cause_laws.proofs.Names.{SetupNumbers, AreInRange, Fate, Item, InstanceEntry, Event, State, opening, Step}
use Rattle.cause_laws.proofs.Names.{stepped, Move, state_after, items_after, history_after, reading_of, IsSteadyAt}
use Rattle.cause_laws.proofs.Names.{AreSteady, Steady, leaves_parts, clients_stay, Shown, Explained, ReachedInvariant}
use Rattle.cause_laws.proofs.Names.{dues, facts_stay, steady_stays, steady_now, stands_at_first, setup_after, AreAsked}
use Rattle.cause_laws.proofs.Names.{AreFaulted, ArePutByNodes, AreOpenAsks, AreTaken, AreVacant, AreShownStops}
use Rattle.cause_laws.proofs.Names.{AreLasts, ShownInvariant, ExplainedInvariant}
use Rattle.cause_laws.proofs.NodeTransitions.{NodeTransitionOf, nodes_by, items_by}
use Rattle.cause_laws.proofs.NodeTransitionsDone.{deed_of}
use Rattle.cause_laws.proofs.AsksKept.{asked_kept, faulted_kept, put_kept}
use Rattle.cause_laws.proofs.OpenAsksKept.{open_asks_kept}
use Rattle.cause_laws.proofs.TakenKept.{taken_kept}
use Rattle.cause_laws.proofs.VacantKept.{vacant_kept}
use Rattle.cause_laws.proofs.StopsShown.{stops_kept}
use Rattle.cause_laws.proofs.LastsKept.{lasts_kept}
use Rattle.cause_laws.proofs.RecordShown.{record_kept}
use Rattle.cause_laws.proofs.MarksShown.{marked_kept}
use Rattle.cause_laws.proofs.GoneShown.{gone_kept}
use Rattle.cause_laws.proofs.PlacingKept.{placing_kept}
use Rattle.cause_laws.proofs.ReadsFetched.{reads_kept}
use Rattle.cause_laws.proofs.DueIsShown.{due_is_shown}
use Rattle.cause_laws.proofs.ShownAtFirst.{shown_at_first}
use Rattle.cause_laws.proofs.LongerHistories.{each_longer}

-- ---- one event
-- what holds after each node transition holds of what the step leaves
after_deed : (w : State) (h : List Item) (P : List (Option InstanceEntry) → List Item → Type 0) (nodes : List (Option InstanceEntry)) (items : List Item) → (by : NodeTransitionOf w nodes items) → P (nodes_by w by.deed) (h ++ items_by w by.deed) → P nodes (h ++ items)
after_deed w h P nodes items by holds = subst (λ xs. P xs (h ++ items)) (sym by.leaves) (subst (λ xs. P (nodes_by w by.deed) (h ++ xs)) (sym by.tells) holds)

shows_stay : (w : State) (h : List Item) (e : Event) (fate : Fate) → ReachedInvariant w h → ShownInvariant w h → ShownInvariant (stepped w e fate).state (h ++ (stepped w e fate).items)
shows_stay w h e fate stands shows =
    let step : Step = stepped w e fate in
    let by : NodeTransitionOf w step.state.nodes step.items = deed_of w h e fate stands in
    let setup : step.state.setup ≡ w.setup = (leaves_parts w e fate).setup in
    record {
      sixteen = clients_stay w e fate ∙ shows.sixteen;
      asked = after_deed w h AreAsked step.state.nodes step.items by (asked_kept w h by.deed stands shows);
      faulted = after_deed w h AreFaulted step.state.nodes step.items by (faulted_kept w h by.deed stands shows);
      put = subst (λ s. ArePutByNodes s step.state.nodes) (sym setup) (after_deed w h (λ nodes items. ArePutByNodes w.setup nodes) step.state.nodes step.items by (put_kept w h by.deed stands shows));
      placing = placing_kept w h e fate stands shows;
      reads = reads_kept w h e fate stands shows;
      open_asks = subst (λ s. AreOpenAsks s step.state.nodes (h ++ step.items)) (sym setup) (after_deed w h (AreOpenAsks w.setup) step.state.nodes step.items by (open_asks_kept w h by.deed stands shows shows.sixteen));
      taken = after_deed w h AreTaken step.state.nodes step.items by (taken_kept w h by.deed stands shows);
      vacant = after_deed w h AreVacant step.state.nodes step.items by (vacant_kept w h by.deed stands shows);
      stops = subst (λ s. AreShownStops s step.state.nodes (h ++ step.items)) (sym setup) (after_deed w h (AreShownStops w.setup) step.state.nodes step.items by (stops_kept w h by.deed stands shows));
      lasts = after_deed w h AreLasts step.state.nodes step.items by (lasts_kept w h by.deed stands shows);
      master = record_kept w h e fate stands shows.master;
      marked = marked_kept w h e fate stands shows.marked;
      gone = gone_kept w h e fate stands shows.gone;
    }

-- each refusal that it appends is shown
explained_stays : (w : State) (h : List Item) (e : Event) (fate : Fate) → ReachedInvariant w h → ShownInvariant w h → Explained w.setup h → Explained w.setup (h ++ (stepped w e fate).items)
explained_stays w h e fate stands shows explained =
    each_longer (Shown w.setup) h (stepped w e fate).items explained (record {
      at = λ place x found. due_is_shown w h _ x stands shows ((dues w h e fate stands).at place x found);
    })

pub tells_stay : (w : State) (h : List Item) (e : Event) (fate : Fate) → ExplainedInvariant w h → IsSteadyAt w.setup.skew w.seen (reading_of e) → ExplainedInvariant (stepped w e fate).state (h ++ (stepped w e fate).items)
tells_stay w h e fate tells steady = record {
  stands = facts_stay w h e fate tells.stands steady;
  shows = shows_stay w h e fate tells.stands tells.shows;
  explained = subst (λ s. Explained s (h ++ (stepped w e fate).items)) (sym (leaves_parts w e fate).setup) (explained_stays w h e fate tells.stands tells.shows tells.explained);
}

-- ---- all moves
tells_after : (w : State) (h : List Item) (moves : List Move) → ExplainedInvariant w h → AreSteady w.setup.skew w.seen moves → ExplainedInvariant (state_after w moves) (h ++ items_after w moves)
unfolding state_after items_after
tells_after w h [] tells steady = subst (λ xs. ExplainedInvariant w xs) (sym (append-nil h)) tells
tells_after w h (move ∷ moves) tells steady =
    let step : Step = stepped w move.event move.fate in
    let after : ExplainedInvariant step.state (h ++ step.items) = tells_stay w h move.event move.fate tells (steady_now w move moves steady) in
    subst (λ xs. ExplainedInvariant (state_after step.state moves) xs) (append_assoc h step.items (items_after step.state moves)) (tells_after step.state (h ++ step.items) moves after (steady_stays w move moves steady))

pub tells_at_first : (setup : SetupNumbers) → AreInRange setup → ExplainedInvariant (opening setup) []
tells_at_first setup in_range = record {
  stands = stands_at_first setup in_range;
  shows = shown_at_first setup;
  explained = record { at = λ place x found. absurd (cc) };
}

-- every refusal of every history is shown
pub histories_are_explained : (setup : SetupNumbers) (moves : List Move) → AreInRange setup → Steady setup moves → Explained setup (history_after setup moves)
histories_are_explained setup moves in_range steady =
    subst (λ s. Explained s (history_after setup moves)) (setup_after (opening setup) moves) (tells_after (opening setup) [] moves (tells_at_first setup in_range) steady).explained
