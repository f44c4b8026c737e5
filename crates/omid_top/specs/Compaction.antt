-- What a replay tells of its stores at rest, once they are compacted to a water: what a reader at the water finds at each key, and
-- how many rows there were and are.
use Rattle.std.specs.Prelude.{◌≡◌, ◌↔◌, ℕ, zero, suc, List, [], ◌∷◌, ◌++◌, Option, None, Some, Result, Ok, Err, length, codes, decimal}
use Rattle.history_book.specs.Isolation.{Visible}
use Rattle.history_book.specs.declared.item.Found.{Found}
use Rattle.history_text.specs.Text.{answer_text}
use Rattle.history_text.specs.Words.{key_text}
use Rattle.cell_compaction.specs.Rest.{snapshot, compacted}
use Rattle.script_data.specs.Data.{ScriptData}
use Rattle.session_script.specs.Script.{BadLine}
use Rattle.command_semantics.specs.Runs.{script_played, replayed}
use Rattle.system_parts.specs.Rows.{Row}
use Rattle.system_parts.specs.Pairs.{Pairs}
use Rattle.omid_top.specs.Promise.{KeepsPromise}
use Rattle.omid_top.specs.Texts.{bad_line_text}

-- ---- the text
-- the line of a key, where something is found there
abbrev pub found_line : ℕ → Option Found → List ℕ
found_line k None = []
found_line k (Some found) = key_text k ++ codes " " ++ answer_text (Some found) ++ 10 ∷ []

-- the lines of the first keys, ascending
unfoldable pub found_lines : (ℕ → Option Found) → ℕ → List ℕ
found_lines found zero = []
found_lines found (suc k) = found_lines found k ++ found_line k (found k)

abbrev pub counts_line : ℕ → ℕ → ℕ → List ℕ
counts_line before after water = codes "rows before=" ++ decimal before ++ codes " after=" ++ decimal after ++ codes " water=" ++ decimal water ++ 10 ∷ []

-- of all 4096 keys what is found there, and how many rows there were, how many stay, and the water
abbrev pub archive_text : (ℕ → Option Found) → ℕ → ℕ → ℕ → List ℕ
archive_text found before after water = found_lines found 4096 ++ counts_line before after water

-- ---- the stores of a script that was carried out in file order
abbrev pub rows_of : ScriptData → List Row
rows_of script = (script_played script).state.rows

abbrev pub pairs_of : ScriptData → Pairs
pairs_of script = (script_played script).state.pairs

-- what a reader with the start s finds in them at k
abbrev pub found_at : ScriptData → ℕ → ℕ → Option Found
found_at script s k = snapshot (rows_of script) (pairs_of script) s k

abbrev pub compact_text : ScriptData → ℕ → List ℕ
compact_text script water = archive_text (found_at script water) (length (rows_of script)) (length (compacted (rows_of script) (pairs_of script) water)) water

-- the same of what was read
abbrev pub compact_told : ℕ → Result ScriptData BadLine → List ℕ
compact_told water (Ok script) = compact_text script water
compact_told water (Err bad) = bad_line_text bad

-- ---- the promise
-- that of a replay, and at each key a reader at the water finds what is visible to it in the history
pub record KeepsCompaction (script : ScriptData) (water : ℕ) : Type 0 where
  pub promise : KeepsPromise script
  pub visible : (k : ℕ) (answer : Option Found) → Visible (replayed script) water k answer ↔ (answer ≡ found_at script water k)
