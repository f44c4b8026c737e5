-- Each event that the run of any line makes lowers what is left.
use Rattle.command_semantics.proofs.Names.{◌≡◌, ℕ, ◌<◌, is_some, List, Option, Some, None, subst, arith}
use Rattle.command_semantics.proofs.Names.{same_Some, none-some, Fate, Janitor, Item, Sweeping}
use Rattle.command_semantics.proofs.Names.{RecalledReadsEnd, SettlesEnd, Event, State, stepped, Verb, ReachedInvariant}
use Rattle.command_semantics.proofs.Names.{Interruption, Point, Opens}
use Rattle.command_semantics.proofs.Names.{Steps, halt_of, unless_halted}
use Rattle.command_semantics.proofs.Names.{after_stepping, follows}
use Rattle.command_semantics.proofs.Names.{view_of, opens_alone, sweep_next, janitor_opens, janitor_next, one_left}
use Rattle.command_semantics.proofs.Names.{sweep_left, janitor_left, EventsLowerWhatIsLeft}
use Rattle.machine.specs.declared.event.Event.TheVariants as event
use Rattle.command_semantics.proofs.Sweeping.{sweep_open_lowers, sweep_first, sweep_lowers}
use Rattle.command_semantics.proofs.Lowering.{session_lowers}

-- ---- a run never opens again
pub followed_once : (line : Verb) (at : Point) (halt : Option Interruption) → one_left (follows line at halt) ≡ 0
followed_once line at halt = grind arith

-- ---- lines of one event
alone_lowers : (line : Verb) (at : Point) (halt : Option Interruption) (first : Option Event) (e : Event) → opens_alone first at ≡ Some e → one_left (follows line at halt) < one_left at
alone_lowers line at halt first e is = grind (arith, none-some)

-- ---- the janitor's lines
abbrev JanitorLowers : State → Verb → Point → Event → Fate → Type 0
JanitorLowers w line at e fate = janitor_left (stepped w e fate).state line (follows line at (halt_of (stepped w e fate).stop)) < janitor_left w line at

-- a step of a sweep that stops ends the run
ends_so : (w : State) (line : Verb) (halt : Option Interruption) (bound : ℕ) → janitor_left w line (unless_halted Steps halt) < bound → janitor_left w line (after_stepping halt) < bound
ends_so w line halt bound less = grind arith

janitor_opened : (w : State) (h : List Item) (line : Verb) (fate : Fate) (e : Event) → ReachedInvariant w h → janitor_opens line ≡ Some e → JanitorLowers w line Opens e fate
janitor_opened w h line fate e stands is = grind (arith, same_Some, sweep_open_lowers, ends_so, sweep_first, none-some)

swept_on : (w : State) (h : List Item) (line : Verb) (fate : Fate) (e : Event) → ReachedInvariant w h → (sweep : Option Sweeping) → w.sweep ≡ sweep → sweep_next (is_some sweep) ≡ Some e → JanitorLowers w line Steps e fate
swept_on w h line fate e stands None is go = absurd (none-some e go)
swept_on w h line fate e stands (Some s) is go = subst (λ (x : Event). JanitorLowers w line Steps x fate) (same_Some event.SweepStep e go) (ends_so (stepped w event.SweepStep fate).state line (halt_of (stepped w event.SweepStep fate).stop) (sweep_left w.rows w.sweep) (sweep_lowers w h line fate s stands is))

janitor_lowers : (w : State) (h : List Item) (line : Verb) (at : Point) (fate : Fate) (e : Event) → ReachedInvariant w h → janitor_next line (view_of w Janitor) at ≡ Some e → JanitorLowers w line at e fate
janitor_lowers w h line at fate e stands is = grind (arith, janitor_opened, swept_on, none-some)

-- ---- any line
pub all_lower : RecalledReadsEnd → SettlesEnd → EventsLowerWhatIsLeft
all_lower reads settles w h clocks h1 line at e fate stands is =
    grind (arith, alone_lowers, session_lowers, janitor_lowers)
