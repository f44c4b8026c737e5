-- What a script sets, without its lines.
use Rattle.std.specs.Prelude.{[]}
use Rattle.stamp_base.specs.Setups.{numbers_of}
use Rattle.script_data.specs.Data.{ScriptData}
use Rattle.session_script.specs.declared.script.Script.{Script}
use Rattle.session_script.specs.Script.{data_of}
use Rattle.split_parts.specs.declared.plan.Plan.{Plan}

abbrev pub plan_data : Plan → ScriptData
plan_data plan = record { setup = numbers_of plan.setup; leads = plan.leads.items; faults = plan.faults.items; lines = [] }

-- the script without its lines
abbrev pub planned_by : Script → ScriptData
planned_by script = record (data_of script) { lines = [] }
