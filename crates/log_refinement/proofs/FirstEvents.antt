-- The first event of a line is what its run opens with, and it opens a line of its actor alone.
use Rattle.log_refinement.proofs.Names.{◌≡◌, ℕ, false, List, [], Option, Some, None, refl, sym, subst, none-some, Actor}
use Rattle.log_refinement.proofs.Names.{Clock, Node, Session, Janitor, Verb, Clocks, next, tick_by, OpensNone, Event}
use Rattle.log_refinement.proofs.Names.{timed_at, rise_by, opener, first_event}
use Rattle.machine.specs.declared.event.Doing.TheVariants as doing
use Rattle.script_data.specs.declared.line.Target.TheVariants as target
use Rattle.script_data.specs.declared.line.Verb.TheVariants as verb
use Rattle.command_semantics.specs.declared.point.Point.TheVariants.{Opens}
use Rattle.command_semantics.specs.declared.point.View.{View}
use Rattle.split_parts.specs.declared.event.Event.TheVariants as event

-- ---- the first event of a line
-- the run of the line opens with it, at the time of its clock; it opens lines of the actor, and ticks as long as the line
pub record IsFirst (clocks : Clocks) (actor : Actor) (line : Verb) (view : View) (e : Event) : Type 0 where
  pub next_is : next clocks actor line Opens view ≡ Some (timed_at clocks.base clocks.leads clocks.master e)
  pub own : opener e ≡ Some actor
  pub rises : rise_by e ≡ tick_by actor line

abbrev IfFirst : Clocks → Actor → Verb → View → Option Event → Type 0
IfFirst clocks actor line view None = Unit {0}
IfFirst clocks actor line view (Some e) = IsFirst clocks actor line view e

session_first_is : (clocks : Clocks) (s : ℕ) (line : Verb) (view : View) → IfFirst clocks (Session s) line view (first_event (Session s) line)
session_first_is clocks s (verb.Begin (target.Node node)) view = record { next_is = refl; own = refl; rises = refl }
session_first_is clocks s (verb.Begin target.Master) view = record { next_is = refl; own = refl; rises = refl }
session_first_is clocks s (verb.AskBegin node) view = record { next_is = refl; own = refl; rises = refl }
session_first_is clocks s (verb.Commit (target.Node node)) view = record { next_is = refl; own = refl; rises = refl }
session_first_is clocks s (verb.Commit target.Master) view = record { next_is = refl; own = refl; rises = refl }
session_first_is clocks s (verb.Submit (target.Node node)) view = record { next_is = refl; own = refl; rises = refl }
session_first_is clocks s (verb.Submit target.Master) view = record { next_is = refl; own = refl; rises = refl }
session_first_is clocks s (verb.AskCommit node) view = record { next_is = refl; own = refl; rises = refl }
session_first_is clocks s (verb.Write key value) view = record { next_is = refl; own = refl; rises = refl }
session_first_is clocks s (verb.Read key) view = record { next_is = refl; own = refl; rises = refl }
session_first_is clocks s (verb.Fetch key) view = record { next_is = refl; own = refl; rises = refl }
session_first_is clocks s verb.Vanish view = record { next_is = refl; own = refl; rises = refl }
session_first_is clocks s (verb.Post name) view = record { next_is = refl; own = refl; rises = refl }
session_first_is clocks s (verb.Await name) view = record { next_is = refl; own = refl; rises = refl }
session_first_is clocks s _ view = tt

node_first_is : (clocks : Clocks) (n : ℕ) (line : Verb) (view : View) → IfFirst clocks (Node n) line view (first_event (Node n) line)
node_first_is clocks n verb.Take view = record { next_is = refl; own = refl; rises = refl }
node_first_is clocks n verb.Renew view = record { next_is = refl; own = refl; rises = refl }
node_first_is clocks n verb.Crash view = record { next_is = refl; own = refl; rises = refl }
node_first_is clocks n (verb.Hold stage) view = record { next_is = refl; own = refl; rises = refl }
node_first_is clocks n (verb.Free stage) view = record { next_is = refl; own = refl; rises = refl }
node_first_is clocks n (verb.Post name) view = record { next_is = refl; own = refl; rises = refl }
node_first_is clocks n (verb.Await name) view = record { next_is = refl; own = refl; rises = refl }
node_first_is clocks n _ view = tt

clock_first_is : (clocks : Clocks) (line : Verb) (view : View) → IfFirst clocks Clock line view (first_event Clock line)
clock_first_is clocks (verb.Tick by) view = record { next_is = refl; own = refl; rises = refl }
clock_first_is clocks (verb.Post name) view = record { next_is = refl; own = refl; rises = refl }
clock_first_is clocks (verb.Await name) view = record { next_is = refl; own = refl; rises = refl }
clock_first_is clocks _ view = tt

janitor_first_is : (clocks : Clocks) (line : Verb) (view : View) → IfFirst clocks Janitor line view (first_event Janitor line)
janitor_first_is clocks (verb.Post name) view = record { next_is = refl; own = refl; rises = refl }
janitor_first_is clocks (verb.Await name) view = record { next_is = refl; own = refl; rises = refl }
janitor_first_is clocks _ view = tt

if_first : (clocks : Clocks) (actor : Actor) (line : Verb) (view : View) → IfFirst clocks actor line view (first_event actor line)
if_first clocks Clock line view = clock_first_is clocks line view
if_first clocks (Node n) line view = node_first_is clocks n line view
if_first clocks (Session s) line view = session_first_is clocks s line view
if_first clocks Janitor line view = janitor_first_is clocks line view

pub first_is : (clocks : Clocks) (actor : Actor) (line : Verb) (view : View) (e : Event) → first_event actor line ≡ Some e → IsFirst clocks actor line view e
first_is clocks actor line view e is = subst (λ (found : Option Event). IfFirst clocks actor line view found) is (if_first clocks actor line view)

-- whatever the clocks show, and whatever the run looks at
first_own_is : (actor : Actor) (line : Verb) (e : Event) → first_event actor line ≡ Some e → IsFirst (record { base = 0; leads = []; master = 0 }) actor line (record { doing = doing.Free; request = None; commit = false; sweeping = false }) e
first_own_is actor line e is = first_is _ actor line _ e is

pub first_own : (actor : Actor) (line : Verb) (e : Event) → first_event actor line ≡ Some e → opener e ≡ Some actor
first_own actor line e is = (first_own_is actor line e is).own

pub first_rises : (actor : Actor) (line : Verb) (e : Event) → first_event actor line ≡ Some e → rise_by e ≡ tick_by actor line
first_rises actor line e is = (first_own_is actor line e is).rises

-- ---- events that open no line
-- the event opens no line of the actor
abbrev pub IsNotOf : Actor → Event → Type 0
IsNotOf actor e = opener e ≡ Some actor → ⊥

pub none_opens : (base : ℕ) (leads : List ℕ) (master : ℕ) (e : Event) → opener e ≡ None → OpensNone (timed_at base leads master e)
none_opens base leads master (event.Extend node) is = tt
none_opens base leads master (event.Accept node session) is = tt
none_opens base leads master (event.Decide node session) is = tt
none_opens base leads master (event.Put node session) is = tt
none_opens base leads master (event.Answer node session) is = tt
none_opens base leads master (event.Step session) is = tt
none_opens base leads master (event.Heal session) is = tt
none_opens base leads master (event.Abort session) is = tt
none_opens base leads master (event.SweepOpen node txn) is = tt
none_opens base leads master event.SweepStep is = tt
none_opens base leads master _ is = absurd (none-some _ (sym is))

-- the clock alone ticks
pub quiet_rise : (e : Event) → IsNotOf Clock e → rise_by e ≡ None
quiet_rise (event.Tick by) other = absurd (other refl)
quiet_rise _ other = refl
