-- For this crate's own proofs.
-- A call leaves the cluster where its event leads to, and before the first event it stands at the opening.
use Rattle.std.proofs.Common.{◌≡◌, ℕ, ◌+◌, List, [], Option, None, Some, Result, Ok, Err, sym, ap, ◌∙◌, arith}
use Rattle.stamp_base.specs.SetupNumbers.{SetupNumbers}
use Rattle.stamp_base.specs.declared.stores.Store.{Store}
use Rattle.stamp_base.specs.declared.stores.Store.TheVariants.{Cells, Table, Master}
use Rattle.port_io.specs.declared.weather.Fate.{Fate}
use Rattle.port_io.specs.Planned.{PlannedFault, planned_fate}
use Rattle.machine.specs.declared.event.Event.{Event}
use Rattle.machine.specs.Effect.{Stop, Refuses, Faults}
use Rattle.machine.specs.State.{opening}
use Rattle.machine.specs.Machine.{Step, asks}
use Rattle.event_parts.specs.Made.{Asks}
use Rattle.event_parts.specs.declared.stopped.Stopped.{Stopped}
use Rattle.event_parts.specs.declared.stopped.Stopped.TheVariants.{Refused, StoreFault, NoMemory}
use Rattle.script_data.specs.Data.{ScriptData}
use Rattle.command_semantics.specs.Runs.{Played, calls_on, step_of}
use Rattle.cluster_core.specs.ClusterModel.{ClusterModel, MakesStep, step_under}
use Rattle.planned_cluster.specs.Standing.{StandsAt, OpensFor, PlaysOn, clock_made}
use Rattle.planned_cluster.proofs.FatesAhead.{moves_on, step_planned, stands_on}

stopped : (script : ScriptData) (p : Played) (e : Event) (old : ClusterModel) (clock : ℕ) (before : Store → ℕ → Fate) (end : Option Stop) → StandsAt script p old clock before → (step_under before old.state e).stop ≡ end → (step_of script p e).stop ≡ end
stopped script p e old clock before end at is = sym (ap (λ (s : Step). s.stop) (step_planned script p old.state before e at.state at.weather)) ∙ is

pub plays_on : (e : Event) (answer : Result Unit Stopped) (old new : ClusterModel) (clock after : ℕ) (before now : Store → ℕ → Fate) (faults later : ℕ) → MakesStep (step_under before old.state e) old new answer → Asks answer (asks old.state e) before now faults later → after ≡ clock_made clock e answer → PlaysOn e answer old clock before new after now
plays_on e (Ok done) old new clock after before now faults later made asked is = λ script p at.
    (stopped script p e old clock before None at made.stop, stands_on script p e old new clock after before now at made.parts made.items (moves_on (asks old.state e) before now faults later asked) is)
plays_on e (Err (Refused why)) old new clock after before now faults later made asked is = λ script p at.
    (stopped script p e old clock before (Some (Refuses why)) at made.stop, stands_on script p e old new clock after before now at made.parts made.items (moves_on (asks old.state e) before now faults later asked) is)
plays_on e (Err (StoreFault store)) old new clock after before now faults later made asked is = λ script p at.
    (stopped script p e old clock before (Some (Faults store)) at made.stop, stands_on script p e old new clock after before now at made.parts made.items (moves_on (asks old.state e) before now faults later asked) is)
plays_on e (Err NoMemory) old new clock after before now faults later made asked is = λ script p at. record {
  state = made.0 ∙ at.state;
  history = made.1 ∙ at.history;
  time = is ∙ at.time;
  weather = λ store n. asked.kept store n ∙ at.weather store n;
}

-- ---- before the first event
first_call : (faults : List PlannedFault) (store : Store) (n : ℕ) → planned_fate faults store (n + 1) ≡ planned_fate faults store (calls_on (record { cells = 0; table = 0; master = 0 }) store + 1 + n)
first_call faults Cells n = ap (λ (number : ℕ). planned_fate faults Cells number) (omega arith)
first_call faults Table n = ap (λ (number : ℕ). planned_fate faults Table number) (omega arith)
first_call faults Master n = ap (λ (number : ℕ). planned_fate faults Master number) (omega arith)

pub opens : (setup : SetupNumbers) (faults : List PlannedFault) (whole : ClusterModel) (clock : ℕ) (ahead : Store → ℕ → Fate) → whole.state ≡ opening setup → whole.history ≡ [] → clock ≡ 0 → ((store : Store) (n : ℕ) → ahead store n ≡ planned_fate faults store (n + 1)) → OpensFor setup faults whole clock ahead
opens setup faults whole clock ahead state history is planned = λ script same alike. record {
  state = state ∙ ap opening (sym same);
  history = history;
  time = is;
  weather = λ store n. planned store n ∙ ap (λ (fs : List PlannedFault). planned_fate fs store (n + 1)) (sym alike) ∙ first_call script.faults store n;
}
