-- Which actors have lines, and how their cursors stand to these.
use Rattle.std.specs.Prelude.{◌≡◌, ℕ, ◌≤◌, Bool, true, if◌then◌else◌, List, [], ◌∷◌, ◌++◌, All, filter, map, slice_get, None}
use Rattle.std.specs.List.{list_any}
use Rattle.history_book.specs.declared.item.Actor.{Actor}
use Rattle.script_data.specs.declared.line.Line.{Line}
use Rattle.script_data.specs.Data.{ScriptData}
use Rattle.command_semantics.specs.Answers.{same_actor}
use Rattle.turn_rules.specs.declared.seat.Seat.{Seat}
use Rattle.turn_rules.specs.Seats.{first_seats, lines_of}
use Rattle.thread_steps.specs.declared.cursor.Cursor.{Cursor}

-- ---- the actors that have lines, in the order of the seats
abbrev pub has_lines : ScriptData → Actor → Bool
has_lines script actor = list_any (λ line. same_actor line.actor actor) script.lines

-- the actor behind the others, if it has lines
abbrev pub with_actor : ScriptData → Actor → List Actor → List Actor
with_actor script actor actors = if has_lines script actor then actors ++ actor ∷ [] else actors

-- those among these seats
abbrev pub with_lines : ScriptData → List Seat → List Actor
with_lines script seats = filter (has_lines script) (map (λ (seat : Seat). seat.actor) seats)

abbrev pub actors_of : ScriptData → List Actor
actors_of script = with_lines script (first_seats script.setup)

-- ---- cursors
-- no cursor is ahead of its actor's place
abbrev pub AreBehind : (Actor → ℕ) → List Cursor → Type 0
AreBehind place cursors = All (λ cursor. cursor.done ≤ place cursor.actor) cursors

-- the actor has a cursor
abbrev pub HasCursor : List Cursor → Actor → Type 0
HasCursor cursors actor = list_any (λ a. same_actor a actor) (map (λ (cursor : Cursor). cursor.actor) cursors) ≡ true

-- each line's actor has a cursor
abbrev pub CoverLines : List Line → List Cursor → Type 0
CoverLines lines cursors = All (λ line. HasCursor cursors line.actor) lines

-- every cursor is at its end
abbrev pub AreAtTheirEnds : ScriptData → List Cursor → Type 0
AreAtTheirEnds script cursors = All (λ cursor. slice_get (lines_of script cursor.actor) cursor.done ≡ None) cursors
