-- For grant_laws too.
-- The events of an actor's own turns are of no other session.
use Rattle.turn_rules.proofs.Names.{◌≡◌, ℕ, Bool, true, false, cond, Option, Some, None, inl, inr, sym, ap, subst}
use Rattle.turn_rules.proofs.Names.{Actor, Clock, Node, Session, Janitor, Place, Doing, Event, Verb, Point, Opens}
use Rattle.turn_rules.proofs.Names.{Drives, Extends, Finishes, Reads, Steps, Over, View, Clocks, serves, is_served}
use Rattle.turn_rules.proofs.Names.{finish_next, places, placing_next, drive_next, extend_next, idle_next, collect_next}
use Rattle.turn_rules.proofs.Names.{read_next, steps_next, sweep_next, clock_opens, node_opens, session_opens}
use Rattle.turn_rules.proofs.Names.{janitor_opens, session_next, janitor_next, opens_alone, next}
use Rattle.system_parts.specs.declared.instance.Place.TheVariants as place
use Rattle.machine.specs.declared.event.Doing.TheVariants as doing
use Rattle.script_data.specs.declared.line.Verb.TheVariants as verb
use Rattle.turn_rules.proofs.OwnEvents.{IsNextOf}
use Rattle.turn_rules.proofs.StillReading.{IsNotOf}

abbrev IfNotOf : ℕ → Option Event → Type 0
IfNotOf s None = Unit {0}
IfNotOf s (Some e) = IsNotOf s e

alone_not : (s : ℕ) (first : Option Event) (at : Point) → IfNotOf s first → IfNotOf s (opens_alone first at)
alone_not s first Opens not = not
alone_not s first _ not = tt

clock_not : (s base : ℕ) (line : Verb) → IfNotOf s (clock_opens base line)
clock_not s base (verb.Tick by) = tt
clock_not s base (verb.Post name) = tt
clock_not s base (verb.Await name) = tt
clock_not s base _ = tt

node_not : (s : ℕ) (clocks : Clocks) (node : ℕ) (line : Verb) → IfNotOf s (node_opens clocks node line)
node_not s clocks node verb.Take = tt
node_not s clocks node _ = tt

sweep_not : (s : ℕ) (sweeping : Bool) → IfNotOf s (sweep_next sweeping)
sweep_not s true = tt
sweep_not s false = tt

janitor_first : (s : ℕ) (line : Verb) → IfNotOf s (janitor_opens line)
janitor_first s (verb.Sweep node txn) = tt
janitor_first s _ = tt

janitor_not : (s : ℕ) (line : Verb) (view : View) (at : Point) → IfNotOf s (janitor_next line view at)
janitor_not s line view Opens = janitor_first s line
janitor_not s line view Steps = sweep_not s view.sweeping
janitor_not s line view _ = tt

-- ---- another session
-- the session s is not the session t, whose line it is
module _ (s t : ℕ) (other : s ≡ t → ⊥) where
  served_not : (clocks : Clocks) (node : ℕ) (commit : Bool) (at : Place) (served : Bool) → IfNotOf s (cond served (Some (serves clocks t node commit at)) None)
  served_not clocks node commit at false = tt
  served_not clocks node commit place.Asked true = tt
  served_not clocks node commit place.Accepted true = tt
  served_not clocks node true place.Drawn true = tt
  served_not clocks node false place.Drawn true = tt
  served_not clocks node commit place.Settled true = tt

  finish_not : (now : Doing) → IfNotOf s (finish_next t now)
  finish_not doing.Completing = other
  finish_not _ = tt

  placing_not : (now : Doing) (placed : Bool) → IfNotOf s (placing_next t now placed)
  placing_not doing.Placing true = other
  placing_not doing.Placing false = tt
  placing_not doing.Completing placed = other
  placing_not _ placed = tt

  drive_not : (clocks : Clocks) (line : Verb) (view : View) (request : Option (ℕ × Place)) → IfNotOf s (drive_next clocks t line view request)
  drive_not clocks line view None = placing_not view.doing (places line)
  drive_not clocks line view (Some request) = served_not clocks request.0 view.commit request.1 (is_served line request.1)

  idle_not : (now : Doing) → IfNotOf s (idle_next t now)
  idle_not doing.Free = other
  idle_not doing.Gone = other
  idle_not doing.Open = other
  idle_not _ = tt

  collect_not : (clocks : Clocks) (view : View) (request : Option (ℕ × Place)) → IfNotOf s (collect_next clocks t view request)
  collect_not clocks view None = idle_not view.doing
  collect_not clocks view (Some request) = drive_not clocks verb.Collect view (Some request)

  extends_not : (request : Option (ℕ × Place)) → IfNotOf s (extend_next request)
  extends_not None = tt
  extends_not (Some (node, place.Accepted)) = tt
  extends_not (Some (node, _)) = tt

  read_not : (now : Doing) → IfNotOf s (read_next t now)
  read_not doing.Reading = other
  read_not _ = tt

  steps_not : (now : Doing) → IfNotOf s (steps_next t now)
  steps_not doing.Reading = other
  steps_not doing.Placing = other
  steps_not doing.OpenOutcome = other
  steps_not doing.Completing = other
  steps_not _ = tt

  opens_not : (clocks : Clocks) (line : Verb) (view : View) → IfNotOf s (session_opens clocks t line view)
  opens_not clocks verb.Collect view = collect_not clocks view view.request
  opens_not clocks (verb.Post name) view = tt
  opens_not clocks (verb.Await name) view = tt
  opens_not clocks (verb.Begin to) view = other
  opens_not clocks (verb.Commit to) view = other
  opens_not clocks (verb.Submit to) view = other
  opens_not clocks (verb.AskBegin node) view = other
  opens_not clocks (verb.AskCommit node) view = other
  opens_not clocks (verb.Write key value) view = other
  opens_not clocks (verb.Read key) view = other
  opens_not clocks (verb.Fetch key) view = other
  opens_not clocks verb.Abort view = other
  opens_not clocks verb.Heal view = other
  opens_not clocks verb.Vanish view = other
  opens_not clocks verb.Step view = other
  opens_not clocks verb.Finish view = other
  opens_not clocks _ view = tt

  session_not : (clocks : Clocks) (line : Verb) (view : View) (at : Point) → IfNotOf s (session_next clocks t line view at)
  session_not clocks line view Opens = opens_not clocks line view
  session_not clocks line view Drives = drive_not clocks line view view.request
  session_not clocks line view Extends = extends_not view.request
  session_not clocks line view Finishes = finish_not view.doing
  session_not clocks line view Reads = read_not view.doing
  session_not clocks line view Steps = steps_not view.doing
  session_not clocks line view Over = tt

-- ---- any other actor
others : (s : ℕ) (clocks : Clocks) (actor : Actor) (line : Verb) (at : Point) (view : View) → (actor ≡ Session s → ⊥) → IfNotOf s (next clocks actor line at view)
others s clocks Clock line at view other = alone_not s (clock_opens clocks.base line) at (clock_not s clocks.base line)
others s clocks (Node n) line at view other = alone_not s (node_opens clocks n line) at (node_not s clocks n line)
others s clocks (Session t) line at view other = session_not s t (λ same. other (ap (λ (q : ℕ). Session q) (sym same))) clocks line view at
others s clocks Janitor line at view other = janitor_not s line view at

pub not_of : (s : ℕ) (clocks : Clocks) (actor : Actor) (line : Verb) (at : Point) (view : View) (e : Event) → (actor ≡ Session s → ⊥) → IsNextOf clocks actor line at view e → IsNotOf s e
not_of s clocks actor line at view e other (inl is) = subst (λ (found : Option Event). IfNotOf s found) is (others s clocks actor line at view other)
not_of s clocks actor line at view e other (inr (opens, collects, is)) = subst (λ (found : Option Event). IfNotOf s found) is (others s clocks actor line Drives view other)
