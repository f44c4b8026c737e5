-- Events in any order keep to the plan, where each reads the clocks as they stand when it is made.
use Rattle.std.proofs.lemmas.Grind.{common_steps}
use Rattle.command_semantics.proofs.Names.{◌≡◌, ℕ, ◌+◌, ◌≤◌, ◌^◌, List, [], ◌∷◌, ◌++◌, Option, sym, ◌∙◌}
use Rattle.command_semantics.proofs.Names.{subst, arith, slice_index_or, unwrap_or, sum, append-nil, sum_by-cons}
use Rattle.command_semantics.proofs.Names.{sum_by_push, SetupNumbers, Fate, Actor, Event, reading_of, seen_after}
use Rattle.command_semantics.proofs.Names.{IsSteadyAt, seen_up, leaves_parts, Line, Verb, ScriptData, facts_stay}
use Rattle.command_semantics.proofs.Names.{tells_stay, tells_at_first, Clocks, Played, fate_of, step_of, clocks_of}
use Rattle.command_semantics.proofs.Names.{played, opening_played, tick_of, ticks_of, tick_by, with_tick, ticks_in}
use Rattle.command_semantics.proofs.Names.{ReadsClocks, ticks_with, PlannedSoFar}
use Rattle.command_semantics.proofs.Ending.{opening_reached}
use Rattle.command_semantics.proofs.Timing.{Timed, InTime, in_time}
use Rattle.command_semantics.specs.Orders.{TimedEvent, all_played, AllRead, ticks_made, IsTold, EventsStayTold, OrdersArePlanned}
use Rattle.command_semantics.proofs.OneEvent.{planned_at_first, events_stay_planned, planned_in_the_end}
use Rattle.command_semantics.proofs.PlannedLines.{ticks_on}

-- ---- one event
reads_timed : (clocks : Clocks) (tick : Option ℕ) (e : Event) → ReadsClocks clocks tick e → Timed clocks (unwrap_or tick 0) e
reads_timed clocks tick e reads = grind arith

pub events_stay_told : EventsStayTold
events_stay_told script tick p e leads room told reads =
    let clocks : Clocks = clocks_of script p in
    let skew : ℕ = script.setup.skew in
    let fate : Fate = fate_of script p e in
    let it : InTime clocks (unwrap_or tick 0) skew p.state.seen e = in_time clocks (unwrap_or tick 0) skew p.state.seen e (reads_timed clocks tick e reads) (record { leads = leads; room = omega (arith, room); before = told.reached.seen }) in
    let steady : IsSteadyAt p.state.setup.skew p.state.seen (reading_of e) = subst (λ (setup : SetupNumbers). IsSteadyAt setup.skew p.state.seen (reading_of e)) (sym told.reached.setup) it.steady in
    let seen : (step_of script p e).state.seen ≡ seen_after p.state.seen (reading_of e) = seen_up p.state e fate in
    record {
      reached = record {
        stands = facts_stay p.state p.items e fate told.reached.stands steady;
        setup = (leaves_parts p.state e fate).setup ∙ told.reached.setup;
        seen = omega (arith, seen, it.seen_most, it.at_least);
      };
      tells = tells_stay p.state p.items e fate told.tells steady;
    }

-- ---- the ticks
ticks_first : (tick : Option ℕ) (ticks : List ℕ) → sum (with_tick tick ticks) ≡ unwrap_or tick 0 + sum ticks
ticks_first tick ticks = grind (arith, common_steps, sum_by-cons)

ticks_more : (ticks : List ℕ) (tick : Option ℕ) → sum (ticks_with ticks tick) ≡ sum ticks + unwrap_or tick 0
ticks_more ticks tick = grind (arith, sum_by_push)

clock_most : (actor : Actor) (line : Verb) → unwrap_or (tick_by actor line) 0 ≤ tick_of line
clock_most actor line = grind arith

-- the clock ticks by no more than all lines that name a tick
ticks_most : (lines : List Line) → sum (ticks_in lines) ≤ ticks_of lines
unfolding ticks_in ticks_of
ticks_most [] = omega arith
ticks_most (line ∷ lines) = omega (arith, ticks_first (tick_by line.actor line.verb) (ticks_in lines), clock_most line.actor line.verb, ticks_most lines)

-- ---- all events
all_planned : (script : ScriptData) (events : List TimedEvent) (ticks : List ℕ) (p : Played) → ((node : ℕ) → slice_index_or script.leads node 0 ≤ script.setup.skew) → p.clock + sum (ticks_made events) + script.setup.skew ≤ 2 ^ 61 → IsTold script p → AllRead script events p → PlannedSoFar script ticks p → PlannedSoFar script (ticks ++ ticks_made events) (all_played script events p)
unfolding all_played AllRead ticks_made
all_planned script [] ticks p leads room told reads so_far = subst (λ (t : List ℕ). PlannedSoFar script t p) (sym (append-nil ticks)) so_far
all_planned script (x ∷ events) ticks p leads room told reads so_far =
    let total : sum (with_tick x.tick (ticks_made events)) ≡ unwrap_or x.tick 0 + sum (ticks_made events) = ticks_first x.tick (ticks_made events) in
    let next : Played = played script p x.event in
    let next_told : IsTold script next = events_stay_told script x.tick p x.event leads (omega (arith, room, total)) told reads.0 in
    let after : PlannedSoFar script (ticks_with ticks x.tick) next = events_stay_planned script ticks x.tick p x.event told.tells reads.0 so_far in
    let clock : next.clock ≡ sum (ticks_with ticks x.tick) = after.clock in
    subst (λ (t : List ℕ). PlannedSoFar script t (all_played script events next)) (ticks_on ticks (ticks_made events) x.tick)
    (all_planned script events (ticks_with ticks x.tick) next leads (omega (arith, clock, so_far.clock, ticks_more ticks x.tick, room, total)) next_told reads.1 after)

pub orders_are_planned : OrdersArePlanned
orders_are_planned script events in_range playable reads same =
    let p : Played = opening_played script in
    let few : sum (ticks_made events) ≤ ticks_of script.lines = subst (λ (ticks : List ℕ). sum ticks ≤ ticks_of script.lines) (sym same) (ticks_most script.lines) in
    let told : IsTold script p = record { reached = opening_reached script in_range; tells = tells_at_first script.setup in_range } in
    let planned : PlannedSoFar script (ticks_made events) (all_played script events p) = all_planned script events [] p playable.leads (omega (arith, few, playable.ticks)) told reads (planned_at_first script) in
    planned_in_the_end script (all_played script events p) (subst (λ (ticks : List ℕ). PlannedSoFar script ticks (all_played script events p)) same planned)
