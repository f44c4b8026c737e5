-- Seats with their actors' lines beside them.
use Rattle.std.specs.Prelude.{◌≡◌, ℕ, ◌≤◌, Bool, false, if◌then◌else◌, List, [], ◌∷◌, ◌++◌, All, drop, filter, find, length, map, slice_get, Option, None, Some}
use Rattle.history_book.specs.declared.item.Actor.{Actor}
use Rattle.history_book.specs.declared.item.Actor.TheVariants.{Clock, Node, Session, Janitor}
use Rattle.machine.specs.State.{State}
use Rattle.script_data.specs.declared.line.Line.{Line}
use Rattle.command_semantics.specs.declared.point.Interruption.{Interruption}
use Rattle.command_semantics.specs.Answers.{same_actor}
use Rattle.command_semantics.specs.Clocks.{HaveRoom}
use Rattle.command_semantics.specs.Next.{Clocks}
use Rattle.command_semantics.specs.Views.{view_of}
use Rattle.turn_rules.specs.declared.seat.Seat.{Seat}
use Rattle.turn_rules.specs.declared.turn.Turn.{Turn}
use Rattle.turn_rules.specs.declared.turn.Turn.TheVariants as turn
use Rattle.turn_rules.specs.Seats.{gone_on, passed, first_seat, seats_of}
use Rattle.run_board.specs.declared.seated.Seated.{Seated}

-- the lines of an actor among these
abbrev pub own_lines : Actor → List Line → List Line
own_lines actor lines = filter (λ line. same_actor line.actor actor) lines

abbrev pub line_of : Seated → Option Line
line_of s = slice_get s.lines.items s.seat.place

-- where an actor sits
abbrev pub seated_of : List Seated → Actor → Option Seated
seated_of seated actor = find (λ s. same_actor s.seat.actor actor) seated

-- whether it sits there
abbrev pub is_seat_of : Option Seated → Actor → Bool
is_seat_of None actor = false
is_seat_of (Some s) actor = same_actor s.seat.actor actor

abbrev pub sits_at : List Seated → ℕ → Actor → Bool
sits_at seated index actor = is_seat_of (slice_get seated index) actor

-- no actor has two seats
abbrev pub SitOnce : List Seated → Type 0
SitOnce seated = (i j : ℕ) (a b : Seated) → slice_get seated i ≡ Some a → slice_get seated j ≡ Some b → a.seat.actor ≡ b.seat.actor → i ≡ j

-- ---- an own turn's event moves its actor's seat on from the present line's point
abbrev pub gone_on_at : Option Line → Option Interruption → Bool → Seat → Seat
gone_on_at None halt asked seat = seat
gone_on_at (Some line) halt asked seat = gone_on line.verb halt asked seat

abbrev pub gone_on_with : Option Interruption → Bool → Seated → Seated
gone_on_with halt asked s = record s { seat = gone_on_at (line_of s) halt asked s.seat }

abbrev pub after_turn : Turn → Option Interruption → Bool → Seated → Seated
after_turn (turn.Own actor aim) halt asked s = if same_actor s.seat.actor actor then gone_on_with halt asked s else s
after_turn _ halt asked s = s

-- ---- passing lines
-- the clocks have room for each line, and the seat is at one of them or past them
pub record CanPass (base : ℕ) (leads : List ℕ) (s : Seated) : Type 0 where
  pub room : All (λ line. HaveRoom base leads line.verb) s.lines.items
  pub place : s.seat.place ≤ length s.lines.items

abbrev pub after_passing : Clocks → State → Seated → Seated
after_passing clocks w s = record s { seat = passed clocks (view_of w s.seat.actor) (drop s.seat.place s.lines.items) s.seat }

-- the session of which a turn is: its own, or one by which a stage serves its request
abbrev pub touched : Turn → Option ℕ
touched (turn.Own (Session session) aim) = Some session
touched (turn.Own actor aim) = None
touched (turn.Accept node session) = Some session
touched (turn.Decide node session) = Some session
touched (turn.Put node session) = Some session
touched (turn.Answer node session) = Some session
touched (turn.Extend node) = None

-- a session passes its lines, or every actor does
abbrev pub passing_of : ℕ → Clocks → State → Seated → Seated
passing_of session clocks w s = if same_actor s.seat.actor (Session session) then after_passing clocks w s else s

abbrev pub after_passes : Option ℕ → Clocks → State → List Seated → List Seated
after_passes None clocks w seated = map (after_passing clocks w) seated
after_passes (Some session) clocks w seated = map (passing_of session clocks w) seated

-- ---- the first seats
-- these actors sit, each with its own lines, of which none is passed
pub record AreSeated (lines : List Line) (sitting : List Seat) (all : List Seated) : Type 0 where
  pub seats : map (λ s. s.seat) all ≡ sitting
  pub own : All (λ s. s.lines.items ≡ own_lines s.seat.actor lines) all
  pub place : All (λ s. s.seat.place ≡ 0) all

-- the actor sits down behind those that sit, none of which has a line
abbrev pub SitsDown : Actor → List Seated → List Seated → Type 0
SitsDown actor old new = (sitting : List Seat) → AreSeated [] sitting old → AreSeated [] (sitting ++ first_seat actor ∷ []) new

-- each that sits has its own lines, this one among them where it is of that actor
abbrev pub TakesLine : Line → List Seated → List Seated → Type 0
TakesLine line old new = (lines : List Line) (sitting : List Seat) → SitOnce old → AreSeated lines sitting old → AreSeated (lines ++ line ∷ []) sitting new

-- all actors sit before their first lines
abbrev pub AreSeatedFirst : ℕ → List Line → List Seated → Type 0
AreSeatedFirst nodes lines all = AreSeated lines (first_seat Clock ∷ first_seat Janitor ∷ seats_of (λ n. Node n) nodes ++ seats_of (λ s. Session s) 16) all
