-- For turn_rules, split_stores, run_board and grant_laws too.
-- The events of a line come at their time: readings are the base clock and a lead, and a tick is as long as its line says.
use Rattle.command_semantics.proofs.Names.{◌≡◌, ℕ, ◌+◌, ◌≤◌, ◌^◌, Option, Some, None, refl}
use Rattle.command_semantics.proofs.Names.{subst, arith, slice_index_or, Actor}
use Rattle.command_semantics.proofs.Names.{Event, reading_of, seen_after, IsSteadyAt, Verb, Point, Opens}
use Rattle.command_semantics.proofs.Names.{View, Clocks, reading_at}
use Rattle.command_semantics.proofs.Names.{clock_opens, node_opens, session_next}
use Rattle.command_semantics.proofs.Names.{janitor_next, opens_alone, next, clock_after, tick_of}
use Rattle.machine.specs.declared.event.Event.TheVariants as event

-- the tick that is still ahead of a line
abbrev pub tick_ahead : Point → Verb → ℕ
tick_ahead Opens line = tick_of line
tick_ahead _ line = 0

-- ---- each event that is next is timed
abbrev pub Timed : Clocks → ℕ → Event → Type 0
Timed clocks tick (event.Tick to) = to ≡ clocks.base + tick
Timed clocks tick (event.Take node reading) = reading ≡ reading_at clocks node
Timed clocks tick (event.Renew node reading) = reading ≡ reading_at clocks node
Timed clocks tick (event.Accept node session reading) = reading ≡ reading_at clocks node
Timed clocks tick _ = Unit {0}

abbrev pub IfTimed : Clocks → ℕ → Option Event → Type 0
IfTimed clocks tick None = Unit {0}
IfTimed clocks tick (Some e) = Timed clocks tick e

node_timed : (clocks : Clocks) (tick node : ℕ) (line : Verb) → IfTimed clocks tick (node_opens clocks node line)
node_timed clocks tick node line = grind arith

session_timed : (clocks : Clocks) (tick session : ℕ) (line : Verb) (view : View) (at : Point) → IfTimed clocks tick (session_next clocks session line view at)
session_timed clocks tick session line view at = grind arith

janitor_timed : (clocks : Clocks) (tick : ℕ) (line : Verb) (view : View) (at : Point) → IfTimed clocks tick (janitor_next line view at)
janitor_timed clocks tick line view at = grind arith

alone_timed : (clocks : Clocks) (tick : ℕ) (first : Option Event) (at : Point) → IfTimed clocks tick first → IfTimed clocks tick (opens_alone first at)
alone_timed clocks tick first at timed = grind arith

clock_line : (clocks : Clocks) (line : Verb) (at : Point) → IfTimed clocks (tick_ahead at line) (opens_alone (clock_opens clocks.base line) at)
clock_line clocks line at = grind arith

next_timed : (clocks : Clocks) (actor : Actor) (line : Verb) (at : Point) (view : View) → IfTimed clocks (tick_ahead at line) (next clocks actor line at view)
next_timed clocks actor line at view = grind (arith, clock_line, alone_timed, node_timed, session_timed, janitor_timed)

pub event_timed : (clocks : Clocks) (actor : Actor) (line : Verb) (at : Point) (view : View) (e : Event) → next clocks actor line at view ≡ Some e → Timed clocks (tick_ahead at line) e
event_timed clocks actor line at view e is = subst (λ (found : Option Event). IfTimed clocks (tick_ahead at line) found) is (next_timed clocks actor line at view)

-- ---- so its reading is steady, and the clock and the greatest reading go up together
pub record InTime (clocks : Clocks) (tick skew seen : ℕ) (e : Event) : Type 0 where
  pub at_least : clocks.base ≤ clock_after clocks.base e
  pub at_most : clock_after clocks.base e ≤ clocks.base + tick
  pub steady : IsSteadyAt skew seen (reading_of e)
  pub seen_most : seen_after seen (reading_of e) ≤ clocks.base + skew

-- no clock is ahead of the base by more than the skew, nor is the greatest reading
pub record OnTime (clocks : Clocks) (skew seen : ℕ) : Type 0 where
  pub leads : (node : ℕ) → slice_index_or clocks.leads node 0 ≤ skew
  pub room : clocks.base + skew ≤ 2 ^ 61
  pub before : seen ≤ clocks.base + skew

-- an event with a reading
read_in_time : (clocks : Clocks) (tick skew seen node reading : ℕ) (e : Event) → OnTime clocks skew seen → reading ≡ reading_at clocks node → reading_of e ≡ Some reading → clock_after clocks.base e ≡ clocks.base → InTime clocks tick skew seen e
read_in_time clocks tick skew seen node reading e on_time is reads stays = grind arith

-- one without
quiet_in_time : (clocks : Clocks) (tick skew seen : ℕ) (e : Event) → OnTime clocks skew seen → reading_of e ≡ None → clocks.base ≤ clock_after clocks.base e → clock_after clocks.base e ≤ clocks.base + tick → InTime clocks tick skew seen e
quiet_in_time clocks tick skew seen e on_time reads least most = grind arith

pub in_time : (clocks : Clocks) (tick skew seen : ℕ) (e : Event) → Timed clocks tick e → OnTime clocks skew seen → InTime clocks tick skew seen e
in_time clocks tick skew seen (event.Tick to) timed on_time = quiet_in_time clocks tick skew seen (event.Tick to) on_time refl (omega (arith, timed)) (omega (arith, timed))
in_time clocks tick skew seen (event.Take node reading) timed on_time = read_in_time clocks tick skew seen node reading (event.Take node reading) on_time timed refl refl
in_time clocks tick skew seen (event.Renew node reading) timed on_time = read_in_time clocks tick skew seen node reading (event.Renew node reading) on_time timed refl refl
in_time clocks tick skew seen (event.Accept node session reading) timed on_time = read_in_time clocks tick skew seen node reading (event.Accept node session reading) on_time timed refl refl
in_time clocks tick skew seen e timed on_time = quiet_in_time clocks tick skew seen e on_time refl (omega arith) (omega arith)
