-- An event that is made on the cluster is made of what was played, and the fates ahead stay the planned ones.
use Rattle.std.proofs.Common.{◌≡◌, ◌≢◌, ℕ, ◌+◌, List, ◌++◌, Option, None, Some, refl, ap, ◌∙◌, arith}
use Rattle.stamp_base.specs.declared.stores.Store.{Store}
use Rattle.stamp_base.specs.declared.stores.Store.TheVariants.{Cells, Table, Master}
use Rattle.port_io.specs.declared.weather.Fate.{Fate}
use Rattle.port_io.specs.Planned.{PlannedFault, planned_fate}
use Rattle.history_book.specs.declared.item.Item.{Item}
use Rattle.machine.specs.declared.event.Event.{Event}
use Rattle.machine.specs.State.{State}
use Rattle.machine.specs.Machine.{Step, asks, stepped}
use Rattle.event_parts.specs.Made.{fate_ahead, AsksOf}
use Rattle.script_data.specs.Data.{ScriptData}
use Rattle.command_semantics.specs.Runs.{Calls, Played, calls_on, one_more, calls_after, clock_after, fate_by, step_of, played}
use Rattle.cluster_core.specs.ClusterModel.{ClusterModel, step_under}
use Rattle.planned_cluster.specs.Standing.{StandsAt}

-- the weather is one call on this store further on
pub record IsOneOn (store : Store) (before now : Store → ℕ → Fate) : Type 0 where
  pub moved : (n : ℕ) → now store n ≡ before store (n + 1)
  pub kept : (other : Store) (n : ℕ) → other ≢ store → now other n ≡ before other n

-- so it is where a store was asked, and else it is as before
abbrev pub MovesOn : Option Store → (Store → ℕ → Fate) → (Store → ℕ → Fate) → Type 0
MovesOn None before now = (store : Store) (n : ℕ) → now store n ≡ before store n
MovesOn (Some store) before now = IsOneOn store before now

pub moves_on : (asked : Option Store) (before now : Store → ℕ → Fate) (faults after : ℕ) → AsksOf asked before now faults after → MovesOn asked before now
moves_on None before now faults after asks = asks.kept
moves_on (Some store) before now faults after asks = record { moved = asks.moved; kept = asks.kept }

-- the fates ahead are the planned ones, once these calls were made
abbrev pub ArePlanned : List PlannedFault → Calls → (Store → ℕ → Fate) → Type 0
ArePlanned faults calls ahead = (store : Store) (n : ℕ) → ahead store n ≡ planned_fate faults store (calls_on calls store + 1 + n)

one_later : (faults : List PlannedFault) (store : Store) (made n : ℕ) → planned_fate faults store (made + 1 + (n + 1)) ≡ planned_fate faults store (made + 1 + 1 + n)
one_later faults store made n = ap (λ (number : ℕ). planned_fate faults store number) (omega arith)

same_store_on : (faults : List PlannedFault) (store : Store) (made : ℕ) (before now : Store → ℕ → Fate) → ((n : ℕ) → before store n ≡ planned_fate faults store (made + 1 + n)) → IsOneOn store before now → (n : ℕ) → now store n ≡ planned_fate faults store (made + 1 + 1 + n)
same_store_on faults store made before now planned on n = on.moved n ∙ planned (n + 1) ∙ one_later faults store made n

one_on : (faults : List PlannedFault) (calls : Calls) (store other : Store) (before now : Store → ℕ → Fate) → ArePlanned faults calls before → IsOneOn store before now → (n : ℕ) → now other n ≡ planned_fate faults other (calls_on (one_more calls store) other + 1 + n)
one_on faults calls Cells Cells before now planned on = same_store_on faults Cells calls.cells before now (planned Cells) on
one_on faults calls Table Table before now planned on = same_store_on faults Table calls.table before now (planned Table) on
one_on faults calls Master Master before now planned on = same_store_on faults Master calls.master before now (planned Master) on
one_on faults calls Cells Table before now planned on = λ n. on.kept Table n (λ e. cc) ∙ planned Table n
one_on faults calls Cells Master before now planned on = λ n. on.kept Master n (λ e. cc) ∙ planned Master n
one_on faults calls Table Cells before now planned on = λ n. on.kept Cells n (λ e. cc) ∙ planned Cells n
one_on faults calls Table Master before now planned on = λ n. on.kept Master n (λ e. cc) ∙ planned Master n
one_on faults calls Master Cells before now planned on = λ n. on.kept Cells n (λ e. cc) ∙ planned Cells n
one_on faults calls Master Table before now planned on = λ n. on.kept Table n (λ e. cc) ∙ planned Table n

still_planned : (faults : List PlannedFault) (calls : Calls) (asked : Option Store) (before now : Store → ℕ → Fate) → ArePlanned faults calls before → MovesOn asked before now → ArePlanned faults (calls_after calls asked) now
still_planned faults calls None before now planned on = λ store n. on store n ∙ planned store n
still_planned faults calls (Some store) before now planned on = λ other n. one_on faults calls store other before now planned on n

-- the fate of the event's call is the planned one
fate_planned : (script : ScriptData) (calls : Calls) (asked : Option Store) (ahead : Store → ℕ → Fate) → ArePlanned script.faults calls ahead → fate_ahead asked ahead ≡ fate_by script calls asked
fate_planned script calls None ahead planned = refl
fate_planned script calls (Some store) ahead planned =
    let same : calls_on calls store + 1 + 0 ≡ calls_on calls store + 1 = omega arith in
    planned store 0 ∙ ap (λ (number : ℕ). planned_fate script.faults store number) same

pub step_planned : (script : ScriptData) (p : Played) (w : State) (ahead : Store → ℕ → Fate) (e : Event) → w ≡ p.state → ArePlanned script.faults p.calls ahead → step_under ahead w e ≡ step_of script p e
step_planned script p w ahead e same planned =
    ap (λ (v : State). stepped v e (fate_ahead (asks v e) ahead)) same ∙ ap (λ (fate : Fate). stepped p.state e fate) (fate_planned script p.calls (asks p.state e) ahead planned)

-- the cluster stands where the script was played with the event too
pub stands_on : (script : ScriptData) (p : Played) (e : Event) (old new : ClusterModel) (clock after : ℕ) (before now : Store → ℕ → Fate) → StandsAt script p old clock before → new.state ≡ (step_under before old.state e).state → new.history ≡ old.history ++ (step_under before old.state e).items → MovesOn (asks old.state e) before now → after ≡ clock_after clock e → StandsAt script (played script p e) new after now
stands_on script p e old new clock after before now at state history moves is =
    let step : step_under before old.state e ≡ step_of script p e = step_planned script p old.state before e at.state at.weather in
    let on : MovesOn (asks p.state e) before now = rw at.state at moves in
    record {
      state = state ∙ ap (λ (s : Step). s.state) step;
      history = history ∙ (ap (λ (h : List Item). h ++ (step_under before old.state e).items) at.history ∙ ap (λ (s : Step). p.items ++ s.items) step);
      time = is ∙ ap (λ (n : ℕ). clock_after n e) at.time;
      weather = still_planned script.faults p.calls (asks p.state e) before now at.weather on;
    }
