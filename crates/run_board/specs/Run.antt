-- A script run as its contracts see it, and what its parts keep.
use Rattle.std.specs.Prelude.{◌≡◌, ℕ, ◌≤◌, ◌&&◌, Bool, true, false, List, ◌++◌, [], ◌∷◌, All, map, length, slice_get, slice_index_or, Option, None, Some}
use Rattle.std.specs.List.{list_any}
use Rattle.stamp_base.specs.declared.limits.TheConstants.{LINE_LIMIT}
use Rattle.system_parts.specs.declared.instance.Held.{Held}
use Rattle.system_parts.specs.Instance.{InstanceEntry}
use Rattle.machine.specs.State.{State}
use Rattle.script_data.specs.Data.{ScriptData, IsSound}
use Rattle.command_semantics.specs.Laws.{AreLinesOf}
use Rattle.turn_rules.specs.declared.seat.Holds.{Holds}
use Rattle.turn_rules.specs.declared.turn.Turn.{Turn}
use Rattle.turn_rules.specs.Seats.{lines_of}
use Rattle.turn_rules.specs.Carried.{Carried, carried}
use Rattle.turn_rules.specs.Lawful.{is_accepted_by, AreLawful}
use Rattle.turn_rules.specs.Told.{AreForThreads}
use Rattle.run_board.specs.declared.seated.Seated.{Seated}

-- the script, and the turns that were made
pub record Ran : Type 0 where
  pub script : ScriptData
  pub turns : List Turn

abbrev pub reached_by : Ran → Carried
reached_by r = carried r.script r.turns

abbrev pub with_turn : Ran → Turn → Ran
with_turn r turn = record { script = r.script; turns = r.turns ++ turn ∷ [] }

-- ---- what the parts of a run keep
-- the lines beside a seat are its actor's, and the seat is at one of them or past them
pub record IsSeated (script : ScriptData) (s : Seated) : Type 0 where
  pub lines : s.lines.items ≡ lines_of script s.seat.actor
  pub place : s.seat.place ≤ length s.lines.items

-- the request waits for a stamp, and its session was told that none is left
abbrev pub waits_told : Option Held → Bool
waits_told None = false
waits_told (Some held) = is_accepted_by held.progress && held.told_no_stamp

-- the node's instance has no stamp left, and a session whose request waits there for one was told so
abbrev pub IsToldUsedUp : Option (Option InstanceEntry) → Type 0
IsToldUsedUp (Some (Some i)) = (i.last ≡ i.ceiling) × (list_any waits_told i.requests ≡ true)
IsToldUsedUp _ = ⊥

-- so it is at each node that is noted to lack stamps
abbrev pub AreToldUsedUp : State → List Bool → Type 0
AreToldUsedUp w lacking = (node : ℕ) → slice_index_or lacking node false ≡ true → IsToldUsedUp (slice_get w.nodes node)

-- names, holds and seats are what the turns made of them
pub record SitsAt (script : ScriptData) (c : Carried) (names : List (List ℕ)) (held : List Holds) (seated : List Seated) : Type 0 where
  pub posted : names ≡ c.names
  pub held_is : held ≡ c.held
  pub seats : map (λ s. s.seat) seated ≡ c.seats
  pub each : All (IsSeated script) seated

-- the script is one that was read, and the turns are lawful
pub record IsCarriedOut (script : ScriptData) (turns : List Turn) (lacking : List Bool) : Type 0 where
  pub sound : IsSound script
  pub few : length script.lines ≤ LINE_LIMIT
  pub sessions : AreLinesOf script.setup script.lines
  pub for_threads : AreForThreads script.lines
  pub lawful : AreLawful script turns
  pub used_up : AreToldUsedUp (carried script turns).played.state lacking
