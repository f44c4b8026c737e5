-- A script as plain lists, and what every script keeps.
use Rattle.std.specs.Prelude.{◌≡◌, ℕ, ◌≤◌, List, length, All}
use Rattle.stamp_base.specs.SetupNumbers.{SetupNumbers, AreInRange}
use Rattle.port_io.specs.Planned.{PlannedFault, OneEach}
use Rattle.script_data.specs.declared.line.Line.{Line}
use Rattle.script_data.specs.declared.limits.TheConstants.{FAULT_LIMIT}
use Rattle.script_data.specs.Sound.{LineIsSound}

pub record ScriptData : Type 0 where
  pub setup : SetupNumbers
  -- the lead of each node
  pub leads : List ℕ
  pub faults : List PlannedFault
  pub lines : List Line

-- no lead is above the skew
abbrev pub AreWithinSkew : ℕ → List ℕ → Type 0
AreWithinSkew skew leads = All (λ lead. lead ≤ skew) leads

-- the setup is in range, each node has one lead, no lead is above the skew, the planned faults are few and each of
-- another call, and each line is sound
pub record IsSound (script : ScriptData) : Type 0 where
  pub setup : AreInRange script.setup
  pub one_lead_each : length script.leads ≡ script.setup.nodes
  pub leads_within_skew : AreWithinSkew script.setup.skew script.leads
  pub few_faults : length script.faults ≤ FAULT_LIMIT
  pub one_fault_each : OneEach script.faults
  pub lines : All (LineIsSound script.setup.nodes) script.lines
