-- For replay_driver, turn_rules and others above too.
-- Runs end, and lines lead from what is reached to what is reached. A property that every event keeps is kept by them too.
use Rattle.command_semantics.proofs.Names.{◌≡◌, ℕ, zero, suc, ◌+◌, ◌<◌, ◌≤◌, ◌^◌, List, [], ◌∷◌, ◌++◌, Option, Some}
use Rattle.command_semantics.proofs.Names.{None, refl, sym, ◌∙◌, subst, arith, slice_index_or, SetupNumbers, AreInRange}
use Rattle.command_semantics.proofs.Names.{Fate, Item, Event, State, opening, Step, stepped, reading_of, seen_after}
use Rattle.command_semantics.proofs.Names.{IsSteadyAt, seen_up, leaves_parts, Line, Verb, ScriptData, facts_stay}
use Rattle.command_semantics.proofs.Names.{stands_at_first, Interruption, Point, halt_of, follows, view_of}
use Rattle.command_semantics.proofs.Names.{Clocks, Played, fate_of, Run, clocks_of, next_in, run_after}
use Rattle.command_semantics.proofs.Names.{left_in, going_on, run_for, opened, line_run, lines_played, opening_played}
use Rattle.command_semantics.proofs.Names.{script_played, tick_of, ticks_of, EventsLowerWhatIsLeft, IsPlayable}
use Rattle.command_semantics.proofs.Names.{IsReached, RunsEnd, LinesKeepFacts, ScriptsAreReached}
use Rattle.command_semantics.proofs.AllLower.{followed_once}
use Rattle.command_semantics.proofs.Timing.{tick_ahead, event_timed, InTime, OnTime, in_time}

-- each event with a steady reading keeps a property of the state and its history
abbrev pub Keeps : (State → List Item → Type 0) → Type 0
Keeps P = (w : State) (h : List Item) (e : Event) (fate : Fate) → P w h → IsSteadyAt w.setup.skew w.seen (reading_of e) → P (stepped w e fate).state (h ++ (stepped w e fate).items)

-- a run is under way: what was played is reached and has the property, and by the clock there is room for the tick that is
-- still ahead
pub record Going (P : State → List Item → Type 0) (script : ScriptData) (line : Line) (most : ℕ) (r : Run) : Type 0 where
  pub reached : IsReached script r.played
  pub has : P r.played.state r.played.items
  pub leads : (node : ℕ) → slice_index_or script.leads node 0 ≤ script.setup.skew
  pub ahead : r.played.clock + tick_ahead r.point line.verb ≤ most
  pub room : most + script.setup.skew ≤ 2 ^ 61

-- ---- one event
-- no tick is ahead of a run that has opened
tick_gone : (line : Verb) (at : Point) (halt : Option Interruption) → tick_ahead (follows line at halt) line ≡ 0
tick_gone line at halt = grind (arith, followed_once)

on_time : (P : State → List Item → Type 0) (script : ScriptData) (line : Line) (most : ℕ) (r : Run) → Going P script line most r → OnTime (clocks_of script r.played) script.setup.skew r.played.state.seen
on_time P script line most r k = record { leads = k.leads; room = omega (arith, k.ahead, k.room); before = k.reached.seen }

comes_in_time : (P : State → List Item → Type 0) (script : ScriptData) (line : Line) (most : ℕ) (r : Run) (e : Event) → Going P script line most r → next_in script line r ≡ Some e → InTime (clocks_of script r.played) (tick_ahead r.point line.verb) script.setup.skew r.played.state.seen e
comes_in_time P script line most r e k is =
    let clocks : Clocks = clocks_of script r.played in
    in_time clocks (tick_ahead r.point line.verb) script.setup.skew r.played.state.seen e (event_timed clocks line.actor line.verb r.point (view_of r.played.state line.actor) e is) (on_time P script line most r k)

-- the reading that the next event hands in is steady
pub steady_next : (P : State → List Item → Type 0) (script : ScriptData) (line : Line) (most : ℕ) (r : Run) (e : Event) → Going P script line most r → next_in script line r ≡ Some e → IsSteadyAt r.played.state.setup.skew r.played.state.seen (reading_of e)
steady_next P script line most r e k is =
    subst (λ (setup : SetupNumbers). IsSteadyAt setup.skew r.played.state.seen (reading_of e)) (sym k.reached.setup) (comes_in_time P script line most r e k is).steady

pub goes_on : (P : State → List Item → Type 0) (script : ScriptData) (line : Line) (most : ℕ) (r : Run) (e : Event) → Keeps P → Going P script line most r → next_in script line r ≡ Some e → Going P script line most (run_after script line r e)
goes_on P script line most r e keeps k is =
    let p : Played = r.played in
    let skew : ℕ = script.setup.skew in
    let fate : Fate = fate_of script p e in
    let step : Step = stepped p.state e fate in
    let clocks : Clocks = clocks_of script p in
    let it : InTime clocks (tick_ahead r.point line.verb) skew p.state.seen e = comes_in_time P script line most r e k is in
    let steady : IsSteadyAt p.state.setup.skew p.state.seen (reading_of e) = steady_next P script line most r e k is in
    let seen : step.state.seen ≡ seen_after p.state.seen (reading_of e) = seen_up p.state e fate in
    let gone : tick_ahead (follows line.verb r.point (halt_of step.stop)) line.verb ≡ 0 = tick_gone line.verb r.point (halt_of step.stop) in
    record {
      reached = record {
        stands = facts_stay p.state p.items e fate k.reached.stands steady;
        setup = (leaves_parts p.state e fate).setup ∙ k.reached.setup;
        seen = omega (arith, seen, it.seen_most, it.at_least);
      };
      has = keeps p.state p.items e fate k.has steady;
      leads = k.leads;
      ahead = omega (arith, it.at_most, gone, k.ahead);
      room = k.room;
    }

-- ---- a run
-- it goes on to its end
pub record Ended (P : State → List Item → Type 0) (script : ScriptData) (line : Line) (most : ℕ) (r : Run) : Type 0 where
  pub going : Going P script line most r
  pub over : next_in script line r ≡ None

pub less_left : EventsLowerWhatIsLeft → (P : State → List Item → Type 0) (script : ScriptData) (line : Line) (most : ℕ) (r : Run) (e : Event) → Going P script line most r → next_in script line r ≡ Some e → left_in line (run_after script line r e) < left_in line r
less_left lowers P script line most r e k is = lowers r.played.state r.played.items (clocks_of script r.played) line.actor line.verb r.point e (fate_of script r.played e) k.reached.stands is

ended_now : EventsLowerWhatIsLeft → (P : State → List Item → Type 0) (script : ScriptData) (line : Line) (most : ℕ) (r : Run) → Going P script line most r → left_in line r ≤ 0 → (found : Option Event) → next_in script line r ≡ found → Ended P script line most r
ended_now lowers P script line most r k none None is = record { going = k; over = is }
ended_now lowers P script line most r k none (Some e) is = absurd (omega (arith, less_left lowers P script line most r e k is, none))

ended_later : EventsLowerWhatIsLeft → (P : State → List Item → Type 0) (script : ScriptData) (line : Line) (most n : ℕ) (r : Run) → Keeps P → Going P script line most r → left_in line r ≤ suc n → ((next : Run) → Going P script line most next → left_in line next ≤ n → Ended P script line most (run_for n script line next)) → (found : Option Event) → next_in script line r ≡ found → Ended P script line most (going_on r found (λ e. run_for n script line (run_after script line r e)))
ended_later lowers P script line most n r keeps k enough later None is = record { going = k; over = is }
ended_later lowers P script line most n r keeps k enough later (Some e) is = later (run_after script line r e) (goes_on P script line most r e keeps k is) (omega (arith, less_left lowers P script line most r e k is, enough))

ends : EventsLowerWhatIsLeft → (P : State → List Item → Type 0) (script : ScriptData) (line : Line) (most n : ℕ) (r : Run) → Keeps P → Going P script line most r → left_in line r ≤ n → Ended P script line most (run_for n script line r)
unfolding run_for
ends lowers P script line most zero r keeps k enough = ended_now lowers P script line most r k enough (next_in script line r) refl
ends lowers P script line most (suc n) r keeps k enough = ended_later lowers P script line most n r keeps k enough (λ next going fewer. ends lowers P script line most n next keeps going fewer) (next_in script line r) refl

-- the whole run of a line
pub line_ends : EventsLowerWhatIsLeft → (P : State → List Item → Type 0) (script : ScriptData) (line : Line) (p : Played) → Keeps P → IsReached script p → P p.state p.items → ((node : ℕ) → slice_index_or script.leads node 0 ≤ script.setup.skew) → p.clock + tick_of line.verb + script.setup.skew ≤ 2 ^ 61 → Ended P script line (p.clock + tick_of line.verb) (line_run script line p)
line_ends lowers P script line p keeps reached has leads room =
    let most : ℕ = p.clock + tick_of line.verb in
    let k : Going P script line most (opened p) = record { reached = reached; has = has; leads = leads; ahead = omega arith; room = room } in
    ends lowers P script line most (left_in line (opened p)) (opened p) keeps k (omega arith)

-- ---- lines in file order
pub lines_keep : EventsLowerWhatIsLeft → (P : State → List Item → Type 0) (script : ScriptData) (lines : List Line) (p : Played) → Keeps P → IsReached script p → P p.state p.items → IsPlayable script p.clock lines → IsReached script (lines_played script lines p) × P (lines_played script lines p).state (lines_played script lines p).items
unfolding lines_played ticks_of
lines_keep lowers P script [] p keeps reached has playable = (reached, has)
lines_keep lowers P script (line ∷ lines) p keeps reached has playable =
    let tick : ℕ = tick_of line.verb in
    let rest : ℕ = ticks_of lines in
    let most : ℕ = p.clock + tick in
    let room : p.clock + (tick + rest) + script.setup.skew ≤ 2 ^ 61 = playable.ticks in
    let run : Ended P script line most (line_run script line p) = line_ends lowers P script line p keeps reached has playable.leads (omega (arith, room)) in
    let next : Played = (line_run script line p).played in
    grind (arith, lines_keep lowers P script lines next keeps)

-- ---- whole scripts
pub opening_reached : (script : ScriptData) → AreInRange script.setup → IsReached script (opening_played script)
opening_reached script in_range = record { stands = stands_at_first script.setup in_range; setup = refl; seen = omega arith }

-- what every event keeps, and holds at first, holds of what a script comes to
pub script_keeps : EventsLowerWhatIsLeft → (P : State → List Item → Type 0) (script : ScriptData) → Keeps P → P (opening script.setup) [] → AreInRange script.setup → IsPlayable script 0 script.lines → IsReached script (script_played script) × P (script_played script).state (script_played script).items
script_keeps lowers P script keeps first in_range playable = lines_keep lowers P script script.lines (opening_played script) keeps (opening_reached script in_range) first playable

-- ---- the facts alone
abbrev pub Nothing : State → List Item → Type 0
Nothing w h = Unit {0}

pub runs_end : EventsLowerWhatIsLeft → RunsEnd
unfolding ticks_of
runs_end lowers script line p reached playable = (line_ends lowers Nothing script line p (λ w h e fate has steady. tt) reached tt playable.leads (omega (arith, playable.ticks))).over

pub lines_keep_facts : EventsLowerWhatIsLeft → LinesKeepFacts
lines_keep_facts lowers script lines p reached playable = (lines_keep lowers Nothing script lines p (λ w h e fate has steady. tt) reached tt playable).0

pub scripts_are_reached : EventsLowerWhatIsLeft → ScriptsAreReached
scripts_are_reached lowers script in_range playable = (script_keeps lowers Nothing script (λ w h e fate has steady. tt) tt in_range playable).0
