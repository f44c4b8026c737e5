-- For run_board and grant_laws too.
-- The events of own turns come at their time, and so do those of stages; only the clock's own line ticks.
use Rattle.std.proofs.Common.{arith}
use Rattle.turn_rules.proofs.Names.{◌≡◌, ℕ, List, Some, sym, subst, none-some, Actor, Clock}
use Rattle.turn_rules.proofs.Names.{Event, Verb, Point, View, tick_of, clocks}
use Rattle.turn_rules.proofs.Names.{Clocks, next, tick_ahead, Timed, event_timed}
use Rattle.turn_rules.proofs.OwnEvents.{IsNextOf}

-- ---- a tick is only the clock's
-- so much of a line's tick is made by the clock alone
abbrev pub own_tick : Actor → ℕ → ℕ
own_tick Clock tick = tick
own_tick _ tick = 0

abbrev IsQuiet : Actor → Verb → Type 0
IsQuiet actor line = own_tick actor (tick_of line) ≡ tick_of line

-- a line of another actor that would tick has no first event
quiet_at : (clocks : Clocks) (actor : Actor) (line : Verb) (at : Point) (view : View) (e : Event) → next clocks actor line at view ≡ Some e → own_tick actor (tick_ahead at line) ≡ tick_ahead at line
quiet_at clocks actor line at view e is = grind (arith, none-some)

-- ---- each own event is timed
next_timed : (clocks : Clocks) (actor : Actor) (line : Verb) (at : Point) (view : View) (e : Event) → next clocks actor line at view ≡ Some e → Timed clocks (own_tick actor (tick_ahead at line)) e
next_timed clocks actor line at view e is = subst (λ (tick : ℕ). Timed clocks tick e) (sym (quiet_at clocks actor line at view e is)) (event_timed clocks actor line at view e is)

pub own_timed : (clocks : Clocks) (actor : Actor) (line : Verb) (at : Point) (view : View) (e : Event) → IsNextOf clocks actor line at view e → Timed clocks (own_tick actor (tick_ahead at line)) e
own_timed clocks actor line at view e h = grind (arith, next_timed)

-- the time of an event does not depend on the node that a line asks
pub timed_anyhow : (base : ℕ) (leads : List ℕ) (one two tick : ℕ) (e : Event) → Timed (clocks base leads one) tick e → Timed (clocks base leads two) tick e
timed_anyhow base leads one two tick e timed = grind arith
