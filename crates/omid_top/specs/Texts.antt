-- The texts that the program writes besides histories, and the words that it knows.
use Rattle.std.specs.Prelude.{◌≡◌, ℕ, List, [], ◌∷◌, ◌++◌, ◌⊎◌, Option, None, Some, Result, Ok, Err, codes, decimal}
use Rattle.stamp_base.specs.Ranges.{IsStamp, IsWithin}
use Rattle.history_book.specs.declared.item.Item.{Item}
use Rattle.history_text.specs.Summary.{summarized}
use Rattle.history_text.specs.Text.{body_of, printed}
use Rattle.history_json.specs.Json.{json_printed}
use Rattle.session_script.specs.Causes.{cause_text}
use Rattle.script_data.specs.Data.{ScriptData}
use Rattle.session_script.specs.Script.{BadLine}
use Rattle.command_semantics.specs.Runs.{replayed}
use Rattle.omid_top.specs.declared.form.Form.{Form}
use Rattle.omid_top.specs.declared.form.Form.TheVariants as form
use Rattle.omid_top.specs.declared.words.Command.{Command}
use Rattle.omid_top.specs.declared.words.Command.TheVariants as command

-- the words of a command
abbrev pub IsReplay : List (List ℕ) → Type 0
IsReplay words = words ≡ codes "replay" ∷ []

abbrev pub IsReplaySummary : List (List ℕ) → Type 0
IsReplaySummary words = words ≡ codes "replay" ∷ codes "summary" ∷ []

abbrev pub IsReplayJson : List (List ℕ) → Type 0
IsReplayJson words = words ≡ codes "replay" ∷ codes "json" ∷ []

-- the replay whose stores are compacted to this water: its number in decimal, with no zero before it
pub record IsReplayCompact (water : ℕ) (words : List (List ℕ)) : Type 0 where
  pub named : words ≡ codes "replay" ∷ codes "compact" ∷ decimal water ∷ []
  pub within : IsStamp water

abbrev pub IsAnyReplayCompact : List (List ℕ) → Type 0
IsAnyReplayCompact words = (water : ℕ) × IsReplayCompact water words

abbrev pub IsRun : List (List ℕ) → Type 0
IsRun words = words ≡ codes "run" ∷ []

abbrev pub IsRunSplit : List (List ℕ) → Type 0
IsRunSplit words = words ≡ codes "run" ∷ codes "split" ∷ []

abbrev pub IsAudit : List (List ℕ) → Type 0
IsAudit words = words ≡ codes "audit" ∷ []

abbrev pub IsAuditStrict : List (List ℕ) → Type 0
IsAuditStrict words = words ≡ codes "audit" ∷ codes "strict" ∷ []

abbrev pub IsAnyAudit : List (List ℕ) → Type 0
IsAnyAudit words = IsAudit words ⊎ IsAuditStrict words

-- the storm of so many transactions: their number in decimal, with no zero before it
pub record IsStorm (transactions : ℕ) (words : List (List ℕ)) : Type 0 where
  pub named : words ≡ codes "storm" ∷ decimal transactions ∷ []
  pub within : IsWithin 1 20000 transactions

abbrev pub IsAnyStorm : List (List ℕ) → Type 0
IsAnyStorm words = (transactions : ℕ) × IsStorm transactions words

-- the words name a command that is built
abbrev pub IsKnown : List (List ℕ) → Type 0
IsKnown words = IsReplay words ⊎ IsReplaySummary words ⊎ IsReplayJson words ⊎ IsAnyReplayCompact words ⊎ IsRun words ⊎ IsRunSplit words ⊎ IsAnyAudit words ⊎ IsAnyStorm words

abbrev pub Names : Command → List (List ℕ) → Type 0
Names command.Replay words = IsReplay words
Names command.ReplaySummary words = IsReplaySummary words
Names command.ReplayJson words = IsReplayJson words
Names (command.ReplayCompact water) words = IsReplayCompact water words
Names command.Run words = IsRun words
Names command.RunSplit words = IsRunSplit words
Names command.Audit words = IsAudit words
Names command.AuditStrict words = IsAuditStrict words
Names (command.Storm transactions) words = IsStorm transactions words

abbrev pub usage_text : List ℕ
usage_text = codes "usage: omid replay [summary|json|compact N] | run [split] | audit [strict] | storm N" ++ 10 ∷ []

-- the first bad line of a script and its first cause
abbrev pub bad_line_text : BadLine → List ℕ
bad_line_text bad = codes "script line " ++ decimal bad.line ++ codes ": " ++ cause_text bad.cause ++ 10 ∷ []

-- ---- over split stores
abbrev pub told_text : Option Item → List ℕ
told_text None = codes "none"
told_text (Some item) = body_of item

abbrev pub told_line : List ℕ → Option Item → List ℕ
told_line word item = word ++ told_text item ++ 10 ∷ []

abbrev pub tick_line : ℕ → List ℕ
tick_line tick = codes "torn tick=" ++ decimal tick ++ 10 ∷ []

-- at this tick an entry kept something else than its event appends: the first pair of items that differ
abbrev pub torn_text : ℕ → Option Item → Option Item → List ℕ
torn_text tick kept replayed = tick_line tick ++ told_line (codes "kept ") kept ++ told_line (codes "replayed ") replayed

abbrev pub spent_text : List ℕ
spent_text = codes "ticks spent" ++ 10 ∷ []

-- ---- histories
-- what a replay writes for what it read, where this is the text of a history
abbrev pub replay_text : (List Item → List ℕ) → Result ScriptData BadLine → List ℕ
replay_text text (Ok script) = text (replayed script)
replay_text text (Err bad) = bad_line_text bad

-- the text of a history in a form
abbrev pub text_in : Form → List Item → List ℕ
text_in form.History = printed
text_in form.Json = json_printed
text_in form.Summary = summarized
