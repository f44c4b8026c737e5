-- The events of an actor's own turns: each is the next one of its line in file order, or the first of a completion that a
-- collect goes on with. So each lowers what is left of its line.
use Rattle.turn_rules.proofs.Names.{◌≡◌, ℕ, ◌<◌, Bool, List, Option, Some, ◌⊎◌}
use Rattle.turn_rules.proofs.Names.{ap, arith, none-some, Fate, Actor, Session}
use Rattle.turn_rules.proofs.Names.{Item, Event, State, stepped, Verb, ReachedInvariant, Point, Opens, Drives}
use Rattle.turn_rules.proofs.Names.{View, halt_of, follows}
use Rattle.turn_rules.proofs.Names.{EventsLowerWhatIsLeft, Clocks}
use Rattle.turn_rules.proofs.Names.{next, view_of, made_next}
use Rattle.turn_rules.proofs.Names.{own_next, made_by, OwnEventsLowerWhatIsLeft}
use Rattle.script_data.specs.declared.line.Verb.TheVariants as verb
use Rattle.command_semantics.specs.Left.{drive_left, left}

-- the next event of the line in file order, or what a collect goes on with
abbrev pub IsNextOf : Clocks → Actor → Verb → Point → View → Event → Type 0
IsNextOf clocks actor line at view e = (next clocks actor line at view ≡ Some e) ⊎ ((at ≡ Opens) × (line ≡ verb.Collect) × (next clocks actor line Drives view ≡ Some e))

-- ---- what is made is next
pub made_is : (found : Option Event) → made_by (made_next found) ≡ found
made_is found = grind arith

-- ---- each own event
pub own_is_next : (clocks : Clocks) (posted : Bool) (actor : Actor) (line : Verb) (at : Point) (view : View) (unawaited : Bool) (e : Event) → made_by (own_next clocks posted actor line at view unawaited) ≡ Some e → IsNextOf clocks actor line at view e
own_is_next clocks posted actor line at view unawaited e is = grind (arith, none-some, made_is)

-- ---- what is left
-- only a session's collect goes on with a placing and a completion
pub collects_session : (clocks : Clocks) (actor : Actor) (view : View) (e : Event) → next clocks actor verb.Collect Drives view ≡ Some e → (s : ℕ) × (actor ≡ Session s)
collects_session clocks actor view e is = grind (arith, none-some)

collect_lowers : EventsLowerWhatIsLeft → (clocks : Clocks) (w : State) (h : List Item) (s : ℕ) (e : Event) (fate : Fate) → ReachedInvariant w h → next clocks (Session s) verb.Collect Drives (view_of w (Session s)) ≡ Some e → left (stepped w e fate).state (Session s) verb.Collect (follows verb.Collect Opens (halt_of (stepped w e fate).stop)) < left w (Session s) verb.Collect Opens
collect_lowers lowers clocks w h s e fate stands is =
    let less : left (stepped w e fate).state (Session s) verb.Collect (follows verb.Collect Drives (halt_of (stepped w e fate).stop)) < drive_left w s = lowers w h clocks (Session s) verb.Collect Drives e fate stands is in
    omega (arith, less)

collects_lower : EventsLowerWhatIsLeft → (clocks : Clocks) (w : State) (h : List Item) (actor : Actor) (e : Event) (fate : Fate) → ReachedInvariant w h → next clocks actor verb.Collect Drives (view_of w actor) ≡ Some e → left (stepped w e fate).state actor verb.Collect (follows verb.Collect Opens (halt_of (stepped w e fate).stop)) < left w actor verb.Collect Opens
collects_lower lowers clocks w h actor e fate stands is = grind (arith, collects_session, collect_lowers)

pub next_lowers : EventsLowerWhatIsLeft → (clocks : Clocks) (w : State) (h : List Item) (actor : Actor) (line : Verb) (at : Point) (e : Event) (fate : Fate) → ReachedInvariant w h → IsNextOf clocks actor line at (view_of w actor) e → left (stepped w e fate).state actor line (follows line at (halt_of (stepped w e fate).stop)) < left w actor line at
next_lowers lowers clocks w h actor line at e fate stands h1 = grind (arith, collects_lower)

pub own_lowers : EventsLowerWhatIsLeft → OwnEventsLowerWhatIsLeft
own_lowers lowers w h clocks posted actor line at unawaited e fate stands is = next_lowers lowers clocks w h actor line at e fate stands (own_is_next clocks posted actor line at (view_of w actor) unawaited e (ap made_by is))
