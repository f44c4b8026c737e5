-- What a list of turns makes of a script.
use Rattle.std.specs.Prelude.{ℕ, Bool, true, false, if◌then◌else◌, List, [], All, ◌≡◌, map, fold, find, replicate, slice_index_or, slice_set, Option, None, Some}
use Rattle.stamp_base.specs.declared.stage.Stage.{Stage}
use Rattle.stamp_base.specs.declared.stage.Stage.TheVariants.{Request, Persist, Reply}
use Rattle.history_book.specs.declared.item.Actor.{Actor}
use Rattle.history_book.specs.declared.item.Actor.TheVariants.{Node}
use Rattle.history_book.specs.declared.item.Item.{Item}
use Rattle.history_book.specs.declared.item.Note.TheVariants as note
use Rattle.machine.specs.declared.event.Event.{Event}
use Rattle.machine.specs.declared.event.Event.TheVariants as event
use Rattle.machine.specs.Machine.{Step}
use Rattle.script_data.specs.declared.line.Line.{Line}
use Rattle.script_data.specs.declared.line.Verb.{Verb}
use Rattle.script_data.specs.declared.line.Verb.TheVariants as verb
use Rattle.script_data.specs.Data.{ScriptData}
use Rattle.command_semantics.specs.Answers.{same_actor}
use Rattle.command_semantics.specs.Clocks.{clocks}
use Rattle.command_semantics.specs.Master.{has_take}
use Rattle.command_semantics.specs.Next.{Clocks, reading_at}
use Rattle.command_semantics.specs.Runs.{Played, clocks_of, step_of, played, opening_played}
use Rattle.command_semantics.specs.Views.{view_of}
use Rattle.turn_rules.specs.declared.ahead.NextAction.{NextAction}
use Rattle.turn_rules.specs.declared.ahead.NextAction.TheVariants.{Makes, Passes}
use Rattle.turn_rules.specs.declared.seat.Holds.{Holds}
use Rattle.turn_rules.specs.declared.seat.Seat.{Seat}
use Rattle.turn_rules.specs.declared.turn.Turn.{Turn}
use Rattle.turn_rules.specs.declared.turn.Turn.TheVariants as turn
use Rattle.turn_rules.specs.Seats.{first_seats, lines_left, present_line, ahead_of, passed, with_event_at}
use Rattle.session_script.specs.PostedNames.{is_posted, names_after}

-- what was carried out so far: state, history, clock and calls, the names that are posted, the stages that are held node by
-- node, and how far each actor has come
pub record Carried : Type 0 where
  pub played : Played
  pub names : List (List ℕ)
  pub held : List Holds
  pub seats : List Seat

-- ---- names and stages
-- the name that a line awaits is posted
abbrev pub name_posted : List (List ℕ) → Verb → Bool
name_posted names (verb.Await name) = is_posted names name
name_posted names _ = true

abbrev pub none_held : Holds
none_held = record { request = false; persist = false; reply = false }

abbrev pub is_held : Holds → Stage → Bool
is_held holds Request = holds.request
is_held holds Persist = holds.persist
is_held holds Reply = holds.reply

abbrev pub with_stage : Holds → Stage → Bool → Holds
with_stage holds Request now = record holds { request = now }
with_stage holds Persist now = record holds { persist = now }
with_stage holds Reply now = record holds { reply = now }

abbrev pub holds_at : List Holds → ℕ → Holds
holds_at held node = slice_index_or held node none_held

abbrev pub held_after : List Holds → Event → List Holds
held_after held (event.Note (Node node) (note.Hold stage)) = slice_set held node (with_stage (holds_at held node) stage true)
held_after held (event.Note (Node node) (note.Free stage)) = slice_set held node (with_stage (holds_at held node) stage false)
held_after held _ = held

-- ---- what is ahead of a seat's present line, where its actor's share is aimed at this node
-- the node that a line asks which names the master: that at which the share is aimed, where it has taken the record, or else the
-- first
abbrev pub aimed_node : List Item → ℕ → ℕ
aimed_node items aim = if has_take items aim then aim else 0

abbrev pub aimed_clocks : ScriptData → Carried → ℕ → Clocks
aimed_clocks script c aim = clocks c.played.clock script.leads (aimed_node c.played.items aim)

abbrev pub ahead_at : ScriptData → Carried → Seat → Option Line → ℕ → NextAction
ahead_at script c seat None aim = Passes
ahead_at script c seat (Some line) aim = ahead_of (aimed_clocks script c aim) (name_posted c.names line.verb) (view_of c.played.state seat.actor) line seat

abbrev pub seat_ahead : ScriptData → Carried → Seat → ℕ → NextAction
seat_ahead script c seat aim = ahead_at script c seat (present_line script seat) aim

abbrev pub ahead_in : ScriptData → Carried → Option Seat → ℕ → NextAction
ahead_in script c None aim = Passes
ahead_in script c (Some seat) aim = seat_ahead script c seat aim

-- the seat of an actor
abbrev pub seat_of : List Seat → Actor → Option Seat
seat_of seats actor = find (λ seat. same_actor seat.actor actor) seats

abbrev pub own_ahead : ScriptData → Carried → Actor → ℕ → NextAction
own_ahead script c actor aim = ahead_in script c (seat_of c.seats actor) aim

-- ---- the event of a turn
abbrev pub made_by : NextAction → Option Event
made_by (Makes e) = Some e
made_by _ = None

-- none where the actor's line waits, or no line is left
abbrev pub event_of : ScriptData → Carried → Turn → Option Event
event_of script c (turn.Own actor aim) = made_by (own_ahead script c actor aim)
event_of script c (turn.Accept node session) = Some (event.Accept node session (reading_at (clocks_of script c.played) node))
event_of script c (turn.Decide node session) = Some (event.Decide node session)
event_of script c (turn.Put node session) = Some (event.Put node session)
event_of script c (turn.Answer node session) = Some (event.Answer node session)
event_of script c (turn.Extend node) = Some (event.Extend node)

-- ---- what comes of it
-- an actor's own turn moves its seat
abbrev pub moved : ScriptData → Turn → Step → Seat → Seat
moved script (turn.Own actor aim) step seat = if same_actor seat.actor actor then with_event_at (present_line script seat) step seat else seat
moved script _ step seat = seat

abbrev pub with_event : ScriptData → Carried → Turn → Event → Carried
with_event script c turn e = record {
  played = played script c.played e;
  names = names_after c.names e;
  held = held_after c.held e;
  seats = map (moved script turn (step_of script c.played e)) c.seats;
}

-- every actor passes its lines with nothing left to do
abbrev pub seat_passed : ScriptData → Carried → Seat → Seat
seat_passed script c seat = passed (clocks_of script c.played) (view_of c.played.state seat.actor) (lines_left script seat) seat

abbrev pub all_passed : ScriptData → Carried → Carried
all_passed script c = record c { seats = map (seat_passed script c) c.seats }

abbrev pub turned_by : ScriptData → Carried → Turn → Option Event → Carried
turned_by script c turn None = c
turned_by script c turn (Some e) = all_passed script (with_event script c turn e)

abbrev pub turned : ScriptData → Carried → Turn → Carried
turned script c turn = turned_by script c turn (event_of script c turn)

-- ---- all turns
abbrev pub at_first : ScriptData → Carried
at_first script = record { played = opening_played script; names = []; held = replicate script.setup.nodes none_held; seats = first_seats script.setup }

abbrev pub carried : ScriptData → List Turn → Carried
carried script turns = fold (turned script) (all_passed script (at_first script)) turns

-- the history that the turns make
abbrev pub carried_items : ScriptData → List Turn → List Item
carried_items script turns = (carried script turns).played.items

-- no actor has a line left
abbrev pub AreWhole : ScriptData → List Turn → Type 0
AreWhole script turns = All (λ seat. lines_left script seat ≡ []) (carried script turns).seats
