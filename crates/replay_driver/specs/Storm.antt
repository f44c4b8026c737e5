-- The storm: a script of so many transactions, in groups of four that run side by side, one for each of four sessions. The lease
-- is renewed behind each group. Behind every fiftieth group the node that stands by takes over, and the other one crashes.
use Rattle.std.specs.Prelude.{ℕ, ◌+◌, ◌-◌, ◌*◌, ◌/◌, ◌%◌, ◌==◌, min, if◌then◌else◌, List, [], ◌∷◌, ◌++◌, map, codes, decimal}
use Rattle.std.specs.List.{flat_map, range_with_len}
use Rattle.stamp_base.specs.SetupNumbers.{default_numbers}
use Rattle.history_book.specs.declared.item.Actor.{Actor}
use Rattle.history_book.specs.declared.item.Actor.TheVariants.{Clock, Node, Session}
use Rattle.script_data.specs.declared.line.Line.{Line}
use Rattle.script_data.specs.declared.line.Target.TheVariants as target
use Rattle.script_data.specs.declared.line.Verb.{Verb}
use Rattle.script_data.specs.declared.line.Verb.TheVariants.{Tick, Take, Renew, Crash, Begin, Commit, Write, Read}
use Rattle.script_data.specs.Data.{ScriptData}

-- an actor, and what it is to do
abbrev pub Action : Type 0
Action = Actor × Verb

-- ---- a transaction, by its number, at the node that serves
abbrev pub session_for : ℕ → Actor
session_for i = Session (i % 4)

-- it begins, reads a key and writes a key
abbrev pub works : ℕ → ℕ → List Action
works node i =
    (session_for i, Begin (target.Node node))
    ∷ (session_for i, Read ((7 * i) % 31))
    ∷ (session_for i, Write ((i * i) % 31) (codes "v" ++ decimal i))
    ∷ []

abbrev pub commits : ℕ → ℕ → Action
commits node i = (session_for i, Commit (target.Node node))

-- ---- a group, by its number
-- the numbers of its transactions: four, or as many as are left
abbrev pub members : ℕ → ℕ → List ℕ
members transactions group = range_with_len (4 * group) (min 4 (transactions - 4 * group))

-- two nodes change places behind every fiftieth group
abbrev pub serving : ℕ → ℕ
serving group = (group / 50) % 2

abbrev pub standing_by : ℕ → ℕ
standing_by group = 1 - serving group

abbrev pub renewal : ℕ → List Action
renewal group = (Clock, Tick 1) ∷ (Node (serving group), Renew) ∷ []

abbrev pub takeover : ℕ → List Action
takeover group = (Clock, Tick 12) ∷ (Node (standing_by group), Take) ∷ (Node (serving group), Crash) ∷ []

abbrev pub takeover_behind : ℕ → List Action
takeover_behind group = if (group + 1) % 50 == 0 then takeover group else []

abbrev pub group_actions : ℕ → ℕ → List Action
group_actions transactions group =
    flat_map (works (serving group)) (members transactions group)
    ++ map (commits (serving group)) (members transactions group)
    ++ renewal group
    ++ takeover_behind group

-- ---- the script
-- a short last group counts as one
abbrev pub groups : ℕ → ℕ
groups transactions = (transactions + 3) / 4

abbrev pub storm_actions : ℕ → List Action
storm_actions transactions = (Node 0, Take) ∷ flat_map (group_actions transactions) (range_with_len 0 (groups transactions))

-- the actions as lines, the first of which has this number
unfoldable pub lines_from : ℕ → List Action → List Line
lines_from number [] = []
lines_from number (action ∷ actions) = record { number = number; actor = action.0; verb = action.1 } ∷ lines_from (number + 1) actions

-- the setup is the default, no clock leads, and no fault is planned
abbrev pub storm_data : ℕ → ScriptData
storm_data transactions = record {
  setup = default_numbers;
  leads = 0 ∷ 0 ∷ [];
  faults = [];
  lines = lines_from 1 (storm_actions transactions);
}
