-- The history of a script that is carried out in file order is as planned: its events read the clocks, and the ticks are those
-- of the lines.
use Rattle.command_semantics.proofs.Names.{◌≡◌, ℕ, zero, suc, ◌+◌, ◌≤◌, ◌^◌, List, [], ◌∷◌, ◌++◌, append_assoc, Option}
use Rattle.command_semantics.proofs.Names.{Some, None, refl, sym, subst, arith, append-nil}
use Rattle.command_semantics.proofs.Names.{Event, Line, Verb, ScriptData, ExplainedInvariant, tells_stay}
use Rattle.command_semantics.proofs.Names.{tells_at_first, Interruption, Point}
use Rattle.command_semantics.proofs.Names.{Opens, View}
use Rattle.command_semantics.proofs.Names.{follows, view_of, Clocks, next, tick_by, with_tick, ticks_in}
use Rattle.command_semantics.proofs.Names.{Played, Run, clocks_of, next_in, run_after, left_in, going_on}
use Rattle.command_semantics.proofs.Names.{run_for, opened, line_run, lines_played, opening_played, script_played}
use Rattle.command_semantics.proofs.Names.{tick_of, ticks_of, EventsLowerWhatIsLeft, IsPlayable, IsReached, ReadsClocks}
use Rattle.command_semantics.proofs.Names.{ticks_with, tick_at, PlannedSoFar, ScriptsArePlanned}
use Rattle.command_semantics.proofs.Ending.{Keeps, Going, Ended, goes_on, line_ends, opening_reached}
use Rattle.command_semantics.proofs.Timing.{tick_ahead}
use Rattle.command_semantics.proofs.OneEvent.{planned_at_first, events_stay_planned, planned_in_the_end}
use Rattle.command_semantics.proofs.LineClocks.{lines_read_clocks}

tells_kept : Keeps ExplainedInvariant
tells_kept w h e fate tells steady = tells_stay w h e fate tells steady

-- ---- the ticks of a run
-- before its first event a run has not ticked, and after it as its line says
abbrev ticked_by : List ℕ → Point → Line → List ℕ
ticked_by ticks Opens line = ticks
ticked_by ticks _ line = ticks_with ticks (tick_by line.actor line.verb)

abbrev IsPast : Point → Type 0
IsPast Opens = ⊥
IsPast _ = Unit {0}

follows_past : (line : Verb) (at : Point) (halt : Option Interruption) → IsPast (follows line at halt)
follows_past line at halt = grind arith

past_ticked : (ticks : List ℕ) (point : Point) (line : Line) → IsPast point → ticked_by ticks point line ≡ ticks_with ticks (tick_by line.actor line.verb)
past_ticked ticks point line past = grind arith

-- one event more has ticked as the line says at this point
ticked_on : (ticks : List ℕ) (at : Point) (line : Line) → ticks_with (ticked_by ticks at line) (tick_at at line.actor line.verb) ≡ ticks_with ticks (tick_by line.actor line.verb)
ticked_on ticks at line = grind arith

-- ---- a run
abbrev RunPlanned : ScriptData → List ℕ → Line → Run → Type 0
RunPlanned script ticks line r = PlannedSoFar script (ticked_by ticks r.point line) r.played

run_planned_on : (script : ScriptData) (ticks : List ℕ) (line : Line) (most : ℕ) (r : Run) (e : Event) → Going ExplainedInvariant script line most r → RunPlanned script ticks line r → next_in script line r ≡ Some e → RunPlanned script ticks line (run_after script line r e)
run_planned_on script ticks line most r e going planned is =
    let reads : ReadsClocks (clocks_of script r.played) (tick_at r.point line.actor line.verb) e = lines_read_clocks (clocks_of script r.played) line.actor line.verb r.point (view_of r.played.state line.actor) e is in
    let after : PlannedSoFar script (ticks_with (ticked_by ticks r.point line) (tick_at r.point line.actor line.verb)) (run_after script line r e).played = events_stay_planned script (ticked_by ticks r.point line) (tick_at r.point line.actor line.verb) r.played e going.has reads planned in
    grind (arith, follows_past, ticked_on, past_ticked)

on_by : (script : ScriptData) (ticks : List ℕ) (line : Line) (r : Run) (on : Event → Run) → RunPlanned script ticks line r → ((e : Event) → next_in script line r ≡ Some e → RunPlanned script ticks line (on e)) → (found : Option Event) → next_in script line r ≡ found → RunPlanned script ticks line (going_on r found on)
on_by script ticks line r on now later found is = grind arith

run_planned : (script : ScriptData) (ticks : List ℕ) (line : Line) (most n : ℕ) (r : Run) → Going ExplainedInvariant script line most r → RunPlanned script ticks line r → RunPlanned script ticks line (run_for n script line r)
unfolding run_for
run_planned script ticks line most zero r going planned = planned
run_planned script ticks line most (suc n) r going planned =
    on_by script ticks line r (λ e. run_for n script line (run_after script line r e)) planned (λ e is. run_planned script ticks line most n (run_after script line r e) (goes_on ExplainedInvariant script line most r e tells_kept going is) (run_planned_on script ticks line most r e going planned is)) (next_in script line r) refl

-- a run that is over has ticked as its line says
over_ticked : (clocks : Clocks) (ticks : List ℕ) (line : Line) (view : View) (at : Point) → next clocks line.actor line.verb at view ≡ None → ticked_by ticks at line ≡ ticks_with ticks (tick_by line.actor line.verb)
over_ticked clocks ticks line view at over = grind arith

-- ---- lines in file order
pub ticks_on : (ticks rest : List ℕ) (tick : Option ℕ) → ticks_with ticks tick ++ rest ≡ ticks ++ with_tick tick rest
ticks_on ticks rest tick = grind (arith, append_assoc)

lines_planned : EventsLowerWhatIsLeft → (script : ScriptData) (lines : List Line) (ticks : List ℕ) (p : Played) → IsReached script p → ExplainedInvariant p.state p.items → IsPlayable script p.clock lines → PlannedSoFar script ticks p → PlannedSoFar script (ticks ++ ticks_in lines) (lines_played script lines p)
unfolding lines_played ticks_of ticks_in
lines_planned lowers script [] ticks p reached tells playable so_far = subst (λ (t : List ℕ). PlannedSoFar script t p) (sym (append-nil ticks)) so_far
lines_planned lowers script (line ∷ lines) ticks p reached tells playable so_far =
    let tick : ℕ = tick_of line.verb in
    let rest : ℕ = ticks_of lines in
    let most : ℕ = p.clock + tick in
    let room : p.clock + (tick + rest) + script.setup.skew ≤ 2 ^ 61 = playable.ticks in
    let run : Ended ExplainedInvariant script line most (line_run script line p) = line_ends lowers ExplainedInvariant script line p tells_kept reached tells playable.leads (omega (arith, room)) in
    let next_played : Played = (line_run script line p).played in
    let by_then : next_played.clock + tick_ahead (line_run script line p).point line.verb ≤ most = run.going.ahead in
    let first : Going ExplainedInvariant script line most (opened p) = record { reached = reached; has = tells; leads = playable.leads; ahead = omega arith; room = omega (arith, room) } in
    let planned : RunPlanned script ticks line (line_run script line p) = run_planned script ticks line most (left_in line (opened p)) (opened p) first so_far in
    let over : ticked_by ticks (line_run script line p).point line ≡ ticks_with ticks (tick_by line.actor line.verb) = over_ticked (clocks_of script next_played) ticks line (view_of next_played.state line.actor) (line_run script line p).point run.over in
    let after : PlannedSoFar script (ticks_with ticks (tick_by line.actor line.verb)) next_played = subst (λ (t : List ℕ). PlannedSoFar script t next_played) over planned in
    subst (λ (t : List ℕ). PlannedSoFar script t (lines_played script lines next_played)) (ticks_on ticks (ticks_in lines) (tick_by line.actor line.verb))
    (lines_planned lowers script lines (ticks_with ticks (tick_by line.actor line.verb)) next_played run.going.reached run.going.has (record { leads = playable.leads; ticks = omega (arith, by_then, room) }) after)

pub scripts_are_planned : EventsLowerWhatIsLeft → ScriptsArePlanned
scripts_are_planned lowers script in_range playable =
    planned_in_the_end script (script_played script) (lines_planned lowers script script.lines [] (opening_played script) (opening_reached script in_range) (tells_at_first script.setup in_range) playable (planned_at_first script))
