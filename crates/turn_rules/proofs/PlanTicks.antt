-- The ticks of own events, and that passing lines passes none.
use Rattle.turn_rules.proofs.Names.{◌≡◌, ℕ, ◌≤◌, true, false, List, ◌∷◌, ◌++◌, append_assoc, Option, Some}
use Rattle.turn_rules.proofs.Names.{None, refl, ◌∙◌, subst, arith, unwrap_or, same_Some, Actor}
use Rattle.turn_rules.proofs.Names.{Clock, Event, Line, Verb, ScriptData, Point}
use Rattle.turn_rules.proofs.Names.{View, same_actor, clocks, last_master}
use Rattle.turn_rules.proofs.Names.{Clocks, with_tick, ticks_in, clocks_of, view_of, tick_ahead}
use Rattle.turn_rules.proofs.Names.{LinesReadClocks, ReadsClocks, ticks_with, tick_at, Passes, Seat, lines_of}
use Rattle.turn_rules.proofs.Names.{lines_left, ahead_of, Carried, aimed_node, aimed_clocks, seat_passed}
use Rattle.turn_rules.proofs.Names.{unanswered, ticks_ahead}
use Rattle.turn_rules.proofs.OwnEvents.{IsNextOf}
use Rattle.turn_rules.proofs.OwnTurns.{present_own, OwnTurn}
use Rattle.turn_rules.proofs.SeatLists.{drop_get}
use Rattle.turn_rules.proofs.SeatsOn.{passed_keeps}

-- ---- own events and those of stages read the clocks
own_reads : LinesReadClocks → (clocks : Clocks) (actor : Actor) (line : Verb) (at : Point) (view : View) (e : Event) → IsNextOf clocks actor line at view e → ReadsClocks clocks (tick_at at actor line) e
own_reads read clocks actor line at view e h = grind arith

-- what an event reads does not depend on the node that a line asks
reads_anyhow : (base : ℕ) (leads : List ℕ) (one two : ℕ) (tick : Option ℕ) (e : Event) → ReadsClocks (clocks base leads one) tick e → ReadsClocks (clocks base leads two) tick e
reads_anyhow base leads one two tick e reads = grind arith

pub turn_reads : LinesReadClocks → (script : ScriptData) (c : Carried) (actor : Actor) (aim : ℕ) (e : Event) (k : OwnTurn script c actor aim e) → ReadsClocks (clocks_of script c.played) (tick_at k.seat.point k.line.actor k.line.verb) e
turn_reads read script c actor aim e k =
    let tick : Option ℕ = tick_at k.seat.point k.line.actor k.line.verb in
    reads_anyhow c.played.clock script.leads (aimed_node c.played.items aim) (last_master c.played.items) tick e (own_reads read (aimed_clocks script c aim) k.line.actor k.line.verb k.seat.point (view_of c.played.state k.line.actor) e k.next)

pub stage_reads : (clocks : Clocks) (made e : Event) → Some made ≡ Some e → ReadsClocks clocks None made → ReadsClocks clocks None e
stage_reads clocks made e is reads = subst (λ (x : Event). ReadsClocks clocks None x) (same_Some made e is) reads

-- ---- ticks
-- only the clock's own lines tick
abbrev pub IsOther : Actor → Type 0
IsOther actor = same_actor Clock actor ≡ false

pub other_tick : (actor : Actor) (line : Verb) (at : Point) → IsOther actor → tick_at at actor line ≡ None
other_tick actor line at other = grind arith

-- the clock's tick is as long as the line says
pub clock_tick : (line : Verb) (at : Point) → unwrap_or (tick_at at Clock line) 0 ≤ tick_ahead at line
clock_tick line at = grind arith

-- the first of the lines ticks once, when it opens
pub first_ticks : (line : Line) (lines : List Line) (at : Point) → ticks_in (unanswered at (line ∷ lines)) ≡ with_tick (tick_at at line.actor line.verb) (ticks_in lines)
unfolding ticks_in
first_ticks line lines at = grind arith

pub ticks_moved : (ticks rest : List ℕ) (tick : Option ℕ) → ticks_with ticks tick ++ rest ≡ ticks ++ with_tick tick rest
ticks_moved ticks rest tick = grind (arith, append_assoc)

-- ---- passing lines passes no tick
ticks_passed : (clocks : Clocks) (view : View) (seat : Seat) (line : Line) (lines : List Line) → line.actor ≡ Clock → ahead_of clocks true view line seat ≡ Passes → ticks_in lines ≡ ticks_in (unanswered seat.point (line ∷ lines))
ticks_passed clocks view seat line lines same passes = grind (arith, first_ticks)

pub passing_ahead : (script : ScriptData) (c : Carried) (seat : Seat) → seat.actor ≡ Clock → ticks_ahead script (Some (seat_passed script c seat)) ≡ ticks_ahead script (Some seat)
passing_ahead script c seat same =
    (passed_keeps script (clocks_of script c.played) (view_of c.played.state seat.actor) (λ (after : Seat) (lines : List Line). (after.actor ≡ Clock) × (ticks_in (unanswered after.point lines) ≡ ticks_ahead script (Some seat))) (λ s line lines is passes k. (k.0, ticks_passed (clocks_of script c.played) (view_of c.played.state seat.actor) s line lines (present_own script s line (drop_get s.place (lines_of script s.actor) line lines is) ∙ k.0) passes ∙ k.1)) (lines_left script seat) seat refl (same, refl)).1
