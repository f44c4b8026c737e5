-- What is promised of the history of a script.
use Rattle.std.specs.Prelude.{ℕ, List, [], ◌⊎◌, Option, Result, Ok, Err, take}
use Rattle.history_book.specs.declared.item.Item.{Item}
use Rattle.port_io.specs.Ports.{Gains}
use Rattle.script_data.specs.Data.{ScriptData}
use Rattle.session_script.specs.Script.{BadLine}
use Rattle.command_semantics.specs.Runs.{replayed}
use Rattle.command_semantics.specs.Answers.{Answers}
use Rattle.script_service.specs.Promise.{Promise}
use Rattle.turn_rules.specs.declared.turn.Turn.{Turn}
use Rattle.cluster_core.specs.ClusterModel.{ClusterModel}
use Rattle.run_driver.specs.Runs.{RunsTo}
use Rattle.log_refinement.specs.Served.{Served}
use Rattle.split_driver.specs.Splits.{SplitsTo, TearsAt}
use Rattle.history_text.specs.Text.{printed}
use Rattle.omid_top.specs.Texts.{bad_line_text, spent_text, torn_text}

-- The history of the script, carried out in file order, keeps the promise, and answers every line.
pub record KeepsPromise (script : ScriptData) : Type 0 where
  pub promise : Promise script (replayed script)
  pub answers : Answers script (replayed script)

-- the sink got a front of the text
abbrev pub GainsFront : Option (List ℕ) → Option (List ℕ) → List ℕ → Type 0
GainsFront old new text = (n : ℕ) × Gains old new (take n text)

-- ---- on threads
-- the text of a history was written that some turns of the script make, which are lawful and whole; with the same promise
pub record WritesRun (script : ScriptData) (writes : List ℕ → Type 0) : Type 0 where
  pub history : List Item
  pub turns : List Turn
  pub comes : RunsTo script history turns
  pub written : writes (printed history)

-- a front of such a text, or of the line that names what is bad
abbrev pub IsCutRun : Result ScriptData BadLine → Option (List ℕ) → Option (List ℕ) → Type 0
IsCutRun (Ok script) held now = WritesRun script (GainsFront held now)
IsCutRun (Err bad) held now = GainsFront held now (bad_line_text bad)

-- ---- over split stores
-- the history of such a run keeps the same promise, answers every line, and serves the script
pub record KeepsSplit (script : ScriptData) (history : List Item) : Type 0 where
  pub promise : Promise script history
  pub answers : Answers script history
  pub served : Served script history

-- the text of a history was written that the logs of all actors settle into, each of which is of its actor's lines
pub record WritesSplit (script : ScriptData) (writes : List ℕ → Type 0) : Type 0 where
  pub whole : ClusterModel
  pub settles : SplitsTo script whole
  pub keeps : KeepsSplit script whole.history
  pub written : writes (printed whole.history)

-- it was written at which tick first something else was kept of an event than comes of it
pub record WritesTorn (script : ScriptData) (writes : List ℕ → Type 0) : Type 0 where
  pub tick : ℕ
  pub kept : Option Item
  pub replayed : Option Item
  pub tears : TearsAt script tick kept replayed
  pub written : writes (torn_text tick kept replayed)

-- a front of one of these texts, or of the line that says that ticks are spent
abbrev pub WritesFront : ScriptData → (List ℕ → Type 0) → Type 0
WritesFront script front = WritesSplit script front ⊎ WritesTorn script front ⊎ front spent_text

abbrev pub IsCutSplit : Result ScriptData BadLine → Option (List ℕ) → Option (List ℕ) → Type 0
IsCutSplit (Ok script) held now = WritesFront script (GainsFront held now)
IsCutSplit (Err bad) held now = GainsFront held now (bad_line_text bad)
