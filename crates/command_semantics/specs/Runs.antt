-- The run of a line to its end, and the lines of a script in file order.
use Rattle.std.specs.Prelude.{ℕ, zero, suc, ◌+◌, List, [], ◌∷◌, ◌++◌, Option, None, Some}
use Rattle.stamp_base.specs.declared.stores.Store.{Store}
use Rattle.stamp_base.specs.declared.stores.Store.TheVariants.{Cells, Table, Master}
use Rattle.port_io.specs.declared.weather.Fate.{Fate}
use Rattle.port_io.specs.declared.weather.Fate.TheVariants.{Works}
use Rattle.port_io.specs.Planned.{planned_fate}
use Rattle.history_book.specs.declared.item.Item.{Item}
use Rattle.machine.specs.declared.event.Event.{Event}
use Rattle.machine.specs.declared.event.Event.TheVariants as event
use Rattle.machine.specs.State.{State, opening}
use Rattle.machine.specs.Machine.{Step, stepped, asks}
use Rattle.script_data.specs.declared.line.Line.{Line}
use Rattle.script_data.specs.Data.{ScriptData}
use Rattle.command_semantics.specs.declared.point.Point.{Point}
use Rattle.command_semantics.specs.declared.point.Point.TheVariants.{Opens}
use Rattle.command_semantics.specs.Interruptions.{halt_of, follows}
use Rattle.command_semantics.specs.Views.{view_of}
use Rattle.command_semantics.specs.Master.{last_master}
use Rattle.command_semantics.specs.Next.{Clocks, next}
use Rattle.command_semantics.specs.Left.{left}

-- the calls that were made on each store
pub record Calls : Type 0 where
  pub cells : ℕ
  pub table : ℕ
  pub master : ℕ

-- what was played so far: the state, the history, the base clock and the calls
pub record Played : Type 0 where
  pub state : State
  pub items : List Item
  pub clock : ℕ
  pub calls : Calls

-- ---- the fates of the calls
abbrev pub calls_on : Calls → Store → ℕ
calls_on calls Cells = calls.cells
calls_on calls Table = calls.table
calls_on calls Master = calls.master

abbrev pub one_more : Calls → Store → Calls
one_more calls Cells = record calls { cells = calls.cells + 1 }
one_more calls Table = record calls { table = calls.table + 1 }
one_more calls Master = record calls { master = calls.master + 1 }

abbrev pub calls_after : Calls → Option Store → Calls
calls_after calls None = calls
calls_after calls (Some store) = one_more calls store

-- the fate that the script plans for the next call on the store; where no store is asked it does not matter
abbrev pub fate_by : ScriptData → Calls → Option Store → Fate
fate_by script calls None = Works
fate_by script calls (Some store) = planned_fate script.faults store (calls_on calls store + 1)

abbrev pub fate_of : ScriptData → Played → Event → Fate
fate_of script p e = fate_by script p.calls (asks p.state e)

-- ---- one event
abbrev pub clock_after : ℕ → Event → ℕ
clock_after clock (event.Tick to) = to
clock_after clock _ = clock

abbrev pub step_of : ScriptData → Played → Event → Step
step_of script p e = stepped p.state e (fate_of script p e)

abbrev pub played : ScriptData → Played → Event → Played
played script p e = record {
  state = (step_of script p e).state;
  items = p.items ++ (step_of script p e).items;
  clock = clock_after p.clock e;
  calls = calls_after p.calls (asks p.state e);
}

-- ---- one line
-- the run of a line under way: where it stands, and what was played
pub record Run : Type 0 where
  pub point : Point
  pub played : Played

abbrev pub clocks_of : ScriptData → Played → Clocks
clocks_of script p = record { base = p.clock; leads = script.leads; master = last_master p.items }

-- the next event, if there is one
abbrev pub next_in : ScriptData → Line → Run → Option Event
next_in script line r = next (clocks_of script r.played) line.actor line.verb r.point (view_of r.played.state line.actor)

abbrev pub run_after : ScriptData → Line → Run → Event → Run
run_after script line r e = record {
  point = follows line.verb r.point (halt_of (step_of script r.played e).stop);
  played = played script r.played e;
}

abbrev pub left_in : Line → Run → ℕ
left_in line r = left r.played.state line.actor line.verb r.point

-- a run without a next event stays as it is
abbrev pub going_on : Run → Option Event → (Event → Run) → Run
going_on r None on = r
going_on r (Some e) on = on e

-- at most so many events of a run
unfoldable pub run_for : ℕ → ScriptData → Line → Run → Run
run_for zero script line r = r
run_for (suc most) script line r = going_on r (next_in script line r) (λ e. run_for most script line (run_after script line r e))

abbrev pub opened : Played → Run
opened p = record { point = Opens; played = p }

-- the whole run of a line: so many events as can be left are all there are
abbrev pub line_run : ScriptData → Line → Played → Run
line_run script line p = run_for (left_in line (opened p)) script line (opened p)

-- ---- the lines in file order, each to its end
unfoldable pub lines_played : ScriptData → List Line → Played → Played
lines_played script [] p = p
lines_played script (line ∷ lines) p = lines_played script lines (line_run script line p).played

-- before the first line
abbrev pub opening_played : ScriptData → Played
opening_played script = record { state = opening script.setup; items = []; clock = 0; calls = record { cells = 0; table = 0; master = 0 } }

abbrev pub script_played : ScriptData → Played
script_played script = lines_played script script.lines (opening_played script)

-- the history of a script that is carried out in file order
abbrev pub replayed : ScriptData → List Item
replayed script = (script_played script).items
