-- How far the actors have come with their lines.
use Rattle.std.specs.Prelude.{if◌then◌else◌, ℕ, zero, suc, ◌+◌, Bool, true, false, ◌||◌, List, [], ◌∷◌, ◌++◌, drop, filter, slice_get, Option, None, Some}
use Rattle.std.specs.List.{list_any}
use Rattle.stamp_base.specs.SetupNumbers.{SetupNumbers}
use Rattle.history_book.specs.declared.item.Actor.{Actor}
use Rattle.history_book.specs.declared.item.Actor.TheVariants.{Clock, Node, Session, Janitor}
use Rattle.history_book.specs.declared.item.Item.{Item}
use Rattle.history_book.specs.declared.item.Item.TheVariants as item
use Rattle.machine.specs.Machine.{Step}
use Rattle.script_data.specs.declared.line.Line.{Line}
use Rattle.script_data.specs.declared.line.Verb.{Verb}
use Rattle.script_data.specs.declared.line.Verb.TheVariants as verb
use Rattle.script_data.specs.Data.{ScriptData}
use Rattle.command_semantics.specs.declared.point.Interruption.{Interruption}
use Rattle.command_semantics.specs.declared.point.Point.TheVariants.{Opens}
use Rattle.command_semantics.specs.declared.point.View.{View}
use Rattle.command_semantics.specs.Answers.{same_actor}
use Rattle.command_semantics.specs.Interruptions.{halt_of, follows}
use Rattle.command_semantics.specs.Next.{Clocks}
use Rattle.turn_rules.specs.declared.ahead.NextAction.{NextAction}
use Rattle.turn_rules.specs.declared.ahead.NextAction.TheVariants.{Passes}
use Rattle.turn_rules.specs.declared.seat.Seat.{Seat}
use Rattle.turn_rules.specs.Waiting.{own_next}

-- ---- the seats before the first line: clock, janitor, the nodes and the 16 sessions
abbrev pub first_seat : Actor → Seat
first_seat actor = record { actor = actor; place = 0; point = Opens; unawaited = false }

-- so many seats of actors of one kind, by their numbers
unfoldable pub seats_of : (ℕ → Actor) → ℕ → List Seat
seats_of kind zero = []
seats_of kind (suc n) = seats_of kind n ++ first_seat (kind n) ∷ []

abbrev pub first_seats : SetupNumbers → List Seat
first_seats setup = first_seat Clock ∷ first_seat Janitor ∷ seats_of (λ n. Node n) setup.nodes ++ seats_of (λ s. Session s) 16

-- ---- the lines of an actor
abbrev pub lines_of : ScriptData → Actor → List Line
lines_of script actor = filter (λ line. same_actor line.actor actor) script.lines

-- those that are not passed
abbrev pub lines_left : ScriptData → Seat → List Line
lines_left script seat = drop seat.place (lines_of script seat.actor)

abbrev pub present_line : ScriptData → Seat → Option Line
present_line script seat = slice_get (lines_of script seat.actor) seat.place

-- ---- passing lines with nothing left to do
-- once a collect is passed, no ask is left unawaited
abbrev pub still_unawaited : Verb → Bool → Bool
still_unawaited verb.Collect unawaited = false
still_unawaited _ unawaited = unawaited

abbrev pub with_next_line : Line → Seat → Seat
with_next_line line seat = record { actor = seat.actor; place = seat.place + 1; point = Opens; unawaited = still_unawaited line.verb seat.unawaited }

abbrev pub ahead_of : Clocks → Bool → View → Line → Seat → NextAction
ahead_of clocks posted view line seat = own_next clocks posted line.actor line.verb seat.point view seat.unawaited

-- nothing is left to do
abbrev pub is_passed : NextAction → Bool
is_passed Passes = true
is_passed _ = false

-- the seat once each line with nothing left to do is passed, these lines being ahead of it; a line that awaits a name is not
-- passed, whether or not the name is posted
unfoldable pub passed : Clocks → View → List Line → Seat → Seat
passed clocks view [] seat = seat
passed clocks view (line ∷ lines) seat = if is_passed (ahead_of clocks true view line seat) then passed clocks view lines (with_next_line line seat) else seat

-- ---- an event of the seat's line
abbrev pub is_ask : Item → Bool
is_ask (item.AskBegin session node) = true
is_ask (item.AskCommit session node start) = true
is_ask _ = false

-- an ask was made
abbrev pub was_asked : List Item → Bool
was_asked items = list_any is_ask items

-- the seat goes on from its point, by how the event stopped, and by whether it asked
abbrev pub gone_on : Verb → Option Interruption → Bool → Seat → Seat
gone_on verb halt asked seat = record seat { point = follows verb seat.point halt; unawaited = seat.unawaited || asked }

abbrev pub with_event_of : Line → Step → Seat → Seat
with_event_of line step seat = gone_on line.verb (halt_of step.stop) (was_asked step.items) seat

abbrev pub with_event_at : Option Line → Step → Seat → Seat
with_event_at None step seat = seat
with_event_at (Some line) step seat = with_event_of line step seat
