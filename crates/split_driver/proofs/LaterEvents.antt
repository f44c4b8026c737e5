-- For this crate's own proofs.
-- What is chosen behind the first event of a line is an event of its actor.
use Rattle.std.proofs.Common.{◌≡◌, ℕ, Bool, true, false, List, Option, None, Some, sym, refl, subst}
use Rattle.std.specs.Prelude.{if◌then◌else◌}
use Rattle.std.specs.Option.{IfSome}
use Rattle.std.proofs.lemmas.Option.{none-some}
use Rattle.history_book.specs.declared.item.Actor.{Actor}
use Rattle.history_book.specs.declared.item.Actor.TheVariants.{Clock, Node, Session, Janitor}
use Rattle.system_parts.specs.declared.instance.Place.{Place}
use Rattle.system_parts.specs.declared.instance.Place.TheVariants as place
use Rattle.machine.specs.declared.event.Doing.{Doing}
use Rattle.machine.specs.declared.event.Doing.TheVariants as doing
use Rattle.machine.specs.declared.event.Event as timed
use Rattle.script_data.specs.declared.line.Verb.{Verb}
use Rattle.script_data.specs.declared.line.Verb.TheVariants as verb
use Rattle.command_semantics.specs.declared.point.Interruption.{Interruption}
use Rattle.command_semantics.specs.declared.point.Interruption.TheVariants.{NoStamp, NotYet, Refused, Faulted}
use Rattle.command_semantics.specs.declared.point.Point.{Point}
use Rattle.command_semantics.specs.declared.point.Point.TheVariants.{Opens, Drives, Extends, Finishes, Reads, Steps, Over}
use Rattle.command_semantics.specs.declared.point.View.{View}
use Rattle.command_semantics.specs.Interruptions.{unless_halted, after_write, after_serving, after_extending, after_stepping, after_opening, follows}
use Rattle.command_semantics.specs.Next as line
use Rattle.split_parts.specs.declared.event.Event.{Event}
use Rattle.log_refinement.specs.Follows.{IsLater}
use Rattle.split_driver.specs.Runs.{MayRun, later_of}

-- ---- behind the first event of a line
abbrev IsPast : Point → Type 0
IsPast Opens = ⊥
IsPast _ = Unit {0}

past_unless : (point : Point) (halt : Option Interruption) → IsPast point → IsPast (unless_halted point halt)
past_unless point None past = past
past_unless point (Some halt) past = tt

past_write : (halt : Option Interruption) → IsPast (after_write halt)
past_write None = tt
past_write (Some NoStamp) = tt
past_write (Some NotYet) = tt
past_write (Some Refused) = tt
past_write (Some Faulted) = tt

past_serving : (halt : Option Interruption) → IsPast (after_serving halt)
past_serving None = tt
past_serving (Some NoStamp) = tt
past_serving (Some NotYet) = tt
past_serving (Some Refused) = tt
past_serving (Some Faulted) = tt

past_extending : (halt : Option Interruption) → IsPast (after_extending halt)
past_extending None = tt
past_extending (Some NoStamp) = tt
past_extending (Some NotYet) = tt
past_extending (Some Refused) = tt
past_extending (Some Faulted) = tt

past_stepping : (halt : Option Interruption) → IsPast (after_stepping halt)
past_stepping None = tt
past_stepping (Some NoStamp) = tt
past_stepping (Some NotYet) = tt
past_stepping (Some Refused) = tt
past_stepping (Some Faulted) = tt

past_opening : (v : Verb) (halt : Option Interruption) → IsPast (after_opening v halt)
past_opening (verb.Begin to) halt = past_unless Drives halt tt
past_opening (verb.Commit to) halt = past_unless Drives halt tt
past_opening (verb.Submit to) halt = past_unless Drives halt tt
past_opening verb.Collect halt = past_serving halt
past_opening (verb.Write key value) halt = past_write halt
past_opening (verb.Read key) halt = past_unless Reads halt tt
past_opening verb.Abort halt = past_unless Finishes halt tt
past_opening verb.Finish halt = past_stepping halt
past_opening (verb.Sweep node txn) halt = past_unless Steps halt tt
past_opening _ halt = tt

follows_past : (v : Verb) (point : Point) (halt : Option Interruption) → IsPast (follows v point halt)
follows_past v Opens halt = past_opening v halt
follows_past v Drives halt = past_serving halt
follows_past v Extends halt = past_extending halt
follows_past v Finishes halt = past_unless Finishes halt tt
follows_past v Reads halt = past_unless Reads halt tt
follows_past v Steps halt = past_stepping halt
follows_past v Over halt = tt

past_may_run : (actor : Actor) (v : Verb) (point : Point) → IsPast point → MayRun actor v point
past_may_run actor v Opens past = absurd past
past_may_run actor v _ past = tt

-- from there the line may be run on
pub may_run : (actor : Actor) (v : Verb) (point : Point) (halt : Option Interruption) → MayRun actor v (follows v point halt)
may_run actor v point halt = past_may_run actor v (follows v point halt) (follows_past v point halt)

-- ---- the next event of a line
abbrev LaterOf : Actor → Option timed.Event → Type 0
LaterOf actor None = Unit {0}
LaterOf actor (Some e) = IfSome (later_of e) (IsLater actor)

serves_later : (clocks : line.Clocks) (s node : ℕ) (commit : Bool) (at : Place) → LaterOf (Session s) (Some (line.serves clocks s node commit at))
serves_later clocks s node commit place.Asked = refl
serves_later clocks s node commit place.Accepted = refl
serves_later clocks s node true place.Drawn = refl
serves_later clocks s node false place.Drawn = refl
serves_later clocks s node commit place.Settled = refl

served_later : (clocks : line.Clocks) (s node : ℕ) (commit : Bool) (at : Place) (served : Bool) → LaterOf (Session s) (if served then Some (line.serves clocks s node commit at) else None)
served_later clocks s node commit at true = serves_later clocks s node commit at
served_later clocks s node commit at false = tt

finish_later : (s : ℕ) (now : Doing) → LaterOf (Session s) (line.finish_next s now)
finish_later s doing.Completing = refl
finish_later s _ = tt

placing_later : (s : ℕ) (now : Doing) (placed : Bool) → LaterOf (Session s) (line.placing_next s now placed)
placing_later s doing.Placing true = refl
placing_later s doing.Completing true = refl
placing_later s doing.Completing false = refl
placing_later s _ _ = tt

drive_later : (clocks : line.Clocks) (s : ℕ) (v : Verb) (view : View) (request : Option (ℕ × Place)) → LaterOf (Session s) (line.drive_next clocks s v view request)
drive_later clocks s v view None = placing_later s view.doing (line.places v)
drive_later clocks s v view (Some held) = served_later clocks s held.0 view.commit held.1 (line.is_served v held.1)

extend_by_later : (s node : ℕ) (at : Place) → LaterOf (Session s) (line.extend_by node at)
extend_by_later s node place.Accepted = tt
extend_by_later s node _ = tt

extend_later : (s : ℕ) (request : Option (ℕ × Place)) → LaterOf (Session s) (line.extend_next request)
extend_later s None = tt
extend_later s (Some held) = extend_by_later s held.0 held.1

idle_later : (s : ℕ) (now : Doing) → LaterOf (Session s) (line.idle_next s now)
idle_later s doing.Free = refl
idle_later s doing.Gone = refl
idle_later s doing.Open = refl
idle_later s _ = tt

collect_later : (clocks : line.Clocks) (s : ℕ) (view : View) (request : Option (ℕ × Place)) → LaterOf (Session s) (line.collect_next clocks s view request)
collect_later clocks s view None = idle_later s view.doing
collect_later clocks s view (Some held) = drive_later clocks s verb.Collect view (Some held)

read_later : (s : ℕ) (now : Doing) → LaterOf (Session s) (line.read_next s now)
read_later s doing.Reading = refl
read_later s _ = tt

steps_later : (s : ℕ) (now : Doing) → LaterOf (Session s) (line.steps_next s now)
steps_later s doing.Reading = refl
steps_later s doing.Placing = refl
steps_later s doing.OpenOutcome = refl
steps_later s doing.Completing = refl
steps_later s _ = tt

sweep_later : (sweeping : Bool) → LaterOf Janitor (line.sweep_next sweeping)
sweep_later true = tt
sweep_later false = tt

not_some : {A : Type 0} (P : Type 0) (x : A) → Some x ≡ None → P
not_some P x is = absurd (none-some x (sym is))

-- a line whose form tells no first event begins with one that goes on, if with any
opens_later : (clocks : line.Clocks) (actor : Actor) (v : Verb) (view : View) → MayRun actor v Opens → LaterOf actor (line.next clocks actor v Opens view)
opens_later clocks (Session s) verb.Collect view may = collect_later clocks s view view.request
opens_later clocks (Session s) verb.Step view may = refl
opens_later clocks (Session s) verb.Finish view may = refl
opens_later clocks (Node n) verb.Extend view may = not_some _ _ may.1
opens_later clocks (Node n) (verb.Accept session) view may = not_some _ _ may.1
opens_later clocks (Node n) (verb.Decide session) view may = not_some _ _ may.1
opens_later clocks (Node n) (verb.Put session) view may = not_some _ _ may.1
opens_later clocks (Node n) (verb.Answer session) view may = not_some _ _ may.1
opens_later clocks Clock (verb.Tick by) view may = tt
opens_later clocks Janitor verb.Step view may = tt
opens_later clocks actor v view may = tt

next_later : (clocks : line.Clocks) (actor : Actor) (v : Verb) (point : Point) (view : View) → MayRun actor v point → LaterOf actor (line.next clocks actor v point view)
next_later clocks actor v Opens view may = opens_later clocks actor v view may
next_later clocks (Session s) v Drives view may = drive_later clocks s v view view.request
next_later clocks (Session s) v Extends view may = extend_later s view.request
next_later clocks (Session s) v Finishes view may = finish_later s view.doing
next_later clocks (Session s) v Reads view may = read_later s view.doing
next_later clocks (Session s) v Steps view may = steps_later s view.doing
next_later clocks Janitor v Steps view may = sweep_later view.sweeping
next_later clocks (Session s) v Over view may = tt
next_later clocks (Node n) v _ view may = tt
next_later clocks Clock v _ view may = tt
next_later clocks Janitor v _ view may = tt

-- what the next event of a line is, as an event of the parts
pub is_later : (clocks : line.Clocks) (actor : Actor) (v : Verb) (point : Point) (view : View) (e : timed.Event) (r : Option Event) → MayRun actor v point → Some e ≡ line.next clocks actor v point view → r ≡ later_of e → IfSome r (IsLater actor)
is_later clocks actor v point view e r may is by =
    subst (λ (o : Option Event). IfSome o (IsLater actor)) (sym by) (subst (LaterOf actor) (sym is) (next_later clocks actor v point view may))
