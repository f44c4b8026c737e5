-- How far the log of an actor follows the lines of a script while they are carried out.
use Rattle.std.specs.Prelude.{◌≡◌, ◌+◌, ◌≤◌, ◌⊎◌, true, List, [], ◌∷◌, ◌++◌, All, filter, length, Option, None, Some, Result, MatchResult}
use Rattle.tick_word.specs.Rule.{seat_limit}
use Rattle.history_book.specs.declared.item.Actor.{Actor}
use Rattle.script_data.specs.declared.line.Line.{Line}
use Rattle.script_data.specs.declared.line.Verb.{Verb}
use Rattle.script_data.specs.declared.line.Verb.TheVariants as verb
use Rattle.script_data.specs.Ticks.{tick_of}
use Rattle.command_semantics.specs.declared.point.Interruption.{Interruption}
use Rattle.command_semantics.specs.declared.point.Point.{Point}
use Rattle.command_semantics.specs.declared.point.Point.TheVariants.{Opens}
use Rattle.machine.specs.declared.event.Event as timed
use Rattle.machine.specs.declared.event.Event.TheVariants as timed_event
use Rattle.split_parts.specs.declared.event.Event.{Event}
use Rattle.split_parts.specs.declared.event.Event.TheVariants as event
use Rattle.split_stores.specs.declared.seat.Entry.{Entry}
use Rattle.split_stores.specs.Logs.{Logged, SameLog, CanRise, risen_by}
use Rattle.split_stores.specs.Makes.{AddsOne}
use Rattle.log_refinement.specs.Owed.{Standing, first_standing, is_paid}
use Rattle.log_refinement.specs.Follows.{TellsNoFirst, IsLater, Follows, FollowsFront, is_own}
use Rattle.split_driver.specs.declared.choosing.Choice.{Choice}
use Rattle.split_driver.specs.declared.choosing.Choice.TheVariants as choice
use Rattle.split_driver.specs.declared.play_stop.PlayStop.{PlayStop}
use Rattle.split_driver.specs.declared.play_stop.PlayStop.TheVariants as stop

-- ---- ticks
-- a tick raises the clock by 1 to 1,000,000
abbrev pub RisesInBounds : Verb → Type 0
RisesInBounds (verb.Tick by) = (1 ≤ by) × (by ≤ 1000000)
RisesInBounds _ = Unit {0}

abbrev pub RiseInBounds : List Line → Type 0
RiseInBounds lines = All (λ line. RisesInBounds line.verb) lines

-- the line's first event can be made behind these entries
abbrev pub CanOpen : Verb → List Entry → Type 0
CanOpen (verb.Tick by) entries = CanRise (event.Tick by) entries
CanOpen _ entries = Unit {0}

-- ---- stops
-- one who has drawn all ticks tells how many: the log has one entry for each
abbrev pub TellsDrawn : List Entry → PlayStop → Type 0
TellsDrawn entries (stop.Spent drawn) = (drawn ≡ length entries) × (seat_limit ≤ drawn)
TellsDrawn entries _ = Unit {0}

-- the actor stops with one entry of the event more, or with none
pub record StopsAt (e : Event) (old new : Logged) (why : PlayStop) : Type 0 where
  pub adds : AddsOne e old new ⊎ SameLog old new
  pub told : TellsDrawn new.entries why

-- one entry of the event was added, unless the actor stops
abbrev pub Enters : Event → Logged → Logged → Result (Option Interruption) PlayStop → Type 0
Enters e old new result = MatchResult result (λ _. AddsOne e old new) (StopsAt e old new)

-- the last entry is this one, of the event
pub record IsNewest (e : Event) (old new : Logged) (entry : Entry) : Type 0 where
  pub of : entry.event ≡ e
  pub entries : new.entries ≡ old.entries ++ entry ∷ []

-- ---- going on
-- a log, and how it stands with its lines
pub record Stand : Type 0 where
  pub entries : List Entry
  pub standing : Standing

abbrev pub stand : Logged → Standing → Stand
stand log st = record { entries = log.entries; standing = st }

-- what follows the lines that are left from here on, follows all lines, and what follows a front of them, a front of all
pub record IsFollowedTo (actor : Actor) (all : List Line) (at : Stand) (left : List Line) : Type 0 where
  pub whole : (later : List Entry) → Follows actor at.standing left later → Follows actor first_standing all (at.entries ++ later)
  pub front : (later : List Entry) → FollowsFront actor at.standing left later → FollowsFront actor first_standing all (at.entries ++ later)

-- the log goes on, and opens no line
pub record GoesOn (actor : Actor) (old new : Stand) : Type 0 where
  pub followed : (all left : List Line) → IsFollowedTo actor all old left → IsFollowedTo actor all new left
  pub risen : risen_by new.entries ≡ risen_by old.entries

-- the log goes on, and opens a line
pub record OpensLine (actor : Actor) (verb : Verb) (old new : Stand) : Type 0 where
  pub followed : (all left : List Line) (line : Line) → line.verb ≡ verb → IsFollowedTo actor all old (line ∷ left) → IsFollowedTo actor all new left
  pub risen : risen_by new.entries ≤ risen_by old.entries + tick_of verb

-- the log goes on over the line, which is passed over where it is another actor's
pub record PlaysLine (actor : Actor) (line : Line) (old new : Stand) : Type 0 where
  pub followed : (all left : List Line) → IsFollowedTo actor all old (filter (is_own actor) (line ∷ left)) → IsFollowedTo actor all new (filter (is_own actor) left)
  pub paid : is_paid new.standing ≡ true
  pub risen : risen_by new.entries ≤ risen_by old.entries + tick_of line.verb

-- ---- stopping
-- the actor stops while it goes on: the log is of a front of the lines
abbrev pub StopsOn : Actor → Stand → List Entry → Type 0
StopsOn actor old entries = (all left : List Line) → IsFollowedTo actor all old left → FollowsFront actor first_standing all entries

-- so too where it stops in the event that opens a line
abbrev pub StopsOpening : Actor → Verb → Stand → List Entry → Type 0
StopsOpening actor verb old entries = (all left : List Line) (line : Line) → line.verb ≡ verb → IsFollowedTo actor all old (line ∷ left) → FollowsFront actor first_standing all entries

-- and where it stops in the line, which may be another actor's
abbrev pub StopsIn : Actor → Line → Stand → List Entry → Type 0
StopsIn actor line old entries = (all left : List Line) → IsFollowedTo actor all old (filter (is_own actor) (line ∷ left)) → FollowsFront actor first_standing all entries

-- ---- choices
-- a line is run from its opening on where its form tells no first event, and else from behind that event
abbrev pub MayRun : Actor → Verb → Point → Type 0
MayRun actor verb Opens = TellsNoFirst actor verb
MayRun actor verb point = Unit {0}

-- the event of the parts that an event of the machine is, behind the first of a line: without what the clock tells
abbrev pub later_of : timed.Event → Option Event
later_of (timed_event.Extend node) = Some (event.Extend node)
later_of (timed_event.Accept node session reading) = Some (event.Accept node session)
later_of (timed_event.Decide node session) = Some (event.Decide node session)
later_of (timed_event.Put node session) = Some (event.Put node session)
later_of (timed_event.Answer node session) = Some (event.Answer node session)
later_of (timed_event.Step session) = Some (event.Step session)
later_of timed_event.SweepStep = Some event.SweepStep
later_of e = None

-- the event is one of the actor's behind a line's first, and where nothing is left to do nothing is owed
abbrev pub MayGoOn : Actor → Standing → Choice → Type 0
MayGoOn actor st (choice.Event e) = IsLater actor e
MayGoOn actor st choice.Over = is_paid st ≡ true
MayGoOn actor st choice.Stuck = Unit {0}
