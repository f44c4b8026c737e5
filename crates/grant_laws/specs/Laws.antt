-- What is asked for is granted, where its premises hold.
use Rattle.std.specs.Prelude.{◌≡◌, ℕ, ◌+◌, ◌*◌, ◌≤◌, true, List, length, Option, None, MatchOption}
use Rattle.stamp_base.specs.SetupNumbers.{AreInRange}
use Rattle.history_book.specs.declared.cause.Cause.TheVariants as cause
use Rattle.history_book.specs.declared.item.Actor.TheVariants.{Node, Session}
use Rattle.history_book.specs.declared.item.Found.{Found}
use Rattle.history_book.specs.declared.item.Item.TheVariants as item
use Rattle.system_parts.specs.Instance.{InstanceEntry, least_unsettled}
use Rattle.script_data.specs.declared.limits.TheConstants.{FAULT_LIMIT}
use Rattle.script_data.specs.declared.line.Line.{Line}
use Rattle.script_data.specs.declared.line.Target.{Target}
use Rattle.script_data.specs.declared.line.Verb.TheVariants as verb
use Rattle.script_data.specs.Data.{ScriptData}
use Rattle.isolation_laws.specs.Words.{InstanceAt}
use Rattle.command_semantics.specs.Laws.{IsPlayable}
use Rattle.command_semantics.specs.Runs.{Played}
use Rattle.turn_rules.specs.declared.turn.Turn.{Turn}
use Rattle.turn_rules.specs.Carried.{carried}
use Rattle.grant_laws.specs.Granted.{line_of, IsBefore, reading_of, node_asked, AppendsWithin, Grants}
use Rattle.grant_laws.specs.Premises.{CanWrite, CanTake, CanBegin, CanCommit, CanRead, cells_to_read}

-- a write line appends the write
abbrev pub WritesAreGranted : Type 0
WritesAreGranted =
    (script : ScriptData) (p : Played) (number session key : ℕ) (value : List ℕ) → let line = line_of number (Session session) (verb.Write key value) in IsBefore script line p → (can : CanWrite script p session key) →
    Grants script line p (item.Write session can.work.start key value)

-- a take line appends the take of the next term: its epoch is the record's ceiling, its lease begins at the reading, and its
-- range is a whole one
abbrev pub TakesAreGranted : Type 0
TakesAreGranted =
    (script : ScriptData) (p : Played) (number node : ℕ) → let line = line_of number (Node node) verb.Take in IsBefore script line p → CanTake script p node →
    Grants script line p (item.Take node (reading_of script p node) (p.state.master.term + 1) p.state.master.ceiling (reading_of script p node + script.setup.lease) (p.state.master.ceiling + script.setup.range))

-- a begin line appends the begin, by the next stamp of the node that it asks, which it names or which is the master; where the
-- instance has drawn a commit that is not settled, it is told to wait, by the least of these
abbrev pub BeginsAreGranted : Type 0
BeginsAreGranted =
    (script : ScriptData) (p : Played) (number session : ℕ) (to : Target) → let line = line_of number (Session session) (verb.Begin to) in IsBefore script line p → (can : CanBegin script p session (node_asked script p to)) →
    MatchOption (least_unsettled can.serving.oracle.requests (can.serving.oracle.last + 1)) (Grants script line p (item.Begin session (can.serving.oracle.last + 1))) (λ commit. Grants script line p (item.Refused (Session session) (cause.NotYet commit)))

-- where sessions place their commits no instance has one in the way of a begin, in file order and by turns: so a begin waits for
-- nothing
pub record DirectBeginsNeverWait : Type 0 where
  pub in_file_order : (script : ScriptData) (line : Line) (p : Played) (node start : ℕ) (oracle : InstanceEntry) → script.setup.direct ≡ true → IsBefore script line p → InstanceAt p.state.nodes node oracle → least_unsettled oracle.requests start ≡ None
  pub by_turns : (script : ScriptData) (turns : List Turn) (node start : ℕ) (oracle : InstanceEntry) → script.setup.direct ≡ true → AreInRange script.setup → IsPlayable script 0 script.lines → InstanceAt (carried script turns).played.state.nodes node oracle → least_unsettled oracle.requests start ≡ None

-- a commit line appends the commit, by the next stamp of the node that it asks
abbrev pub CommitsAreGranted : Type 0
CommitsAreGranted =
    (script : ScriptData) (p : Played) (number session : ℕ) (to : Target) → let line = line_of number (Session session) (verb.Commit to) in IsBefore script line p → (can : CanCommit script p session (node_asked script p to)) →
    Grants script line p (item.Committed session can.work.start (can.serving.oracle.last + 1))

-- a read line appends its answer; which one, the isolation of the history tells. Where the script plans no more faults than one that
-- is read may, it does so by its fetch and at most 144 steps
abbrev pub ReadsAreGranted : Type 0
ReadsAreGranted =
    (script : ScriptData) (p : Played) (number session key : ℕ) → let line = line_of number (Session session) (verb.Read key) in IsBefore script line p → (can : CanRead script p session key) →
    (answer : Option Found) × Grants script line p (item.Read session can.work.start key answer) × (length script.faults ≤ FAULT_LIMIT → AppendsWithin script line p (1 + 144) (item.Read session can.work.start key answer))

-- ---- how long a read can be
-- a key has at most 48 cells without a shadow, one for each session and each fault, where the script plans no more faults than one
-- that is read may: so what is granted to a read asks for at most 144 steps behind its fetch
abbrev pub ReadsAreShort : Type 0
ReadsAreShort = (script : ScriptData) (p : Played) (line : Line) (start key : ℕ) → IsBefore script line p → length script.faults ≤ FAULT_LIMIT → 3 * cells_to_read p start key ≤ 144

-- on threads likewise, whatever turns were made
abbrev pub ReadsOnThreadsAreShort : Type 0
ReadsOnThreadsAreShort =
    (script : ScriptData) (turns : List Turn) (start key : ℕ) → AreInRange script.setup → IsPlayable script 0 script.lines → length script.faults ≤ FAULT_LIMIT →
    3 * cells_to_read (carried script turns).played start key ≤ 144
