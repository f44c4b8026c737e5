-- What is said of all levels: a line for each, first those that hold, the strongest first.
use Rattle.std.specs.Prelude.{◌≡◌, ◌≢◌, ℕ, ◌==◌, if◌then◌else◌, List, [], ◌∷◌, ◌++◌, ◌⊎◌, codes}
use Rattle.trace_rules.specs.declared.wanted.Level.{Level}
use Rattle.trace_rules.specs.declared.wanted.Level.TheVariants.{Snapshot, Serializable}
use Rattle.trace_rules.specs.declared.wanted.Wanted.{Wanted}
use Rattle.trace_rules.specs.declared.wanted.Wanted.TheVariants.{Nothing, Sessions, RealTime}
use Rattle.omid_check_top.specs.Subject.{AsAsked, ReadsCommitted, Subject}
use Rattle.omid_check_top.specs.declared.levels.Grade.{Grade}
use Rattle.omid_check_top.specs.declared.levels.Grade.TheVariants.{AtLevel, OfReads}

-- the levels, the strongest first
abbrev pub ranked : List Grade
ranked = AtLevel Serializable RealTime ∷ AtLevel Serializable Sessions ∷ AtLevel Serializable Nothing ∷ AtLevel Snapshot RealTime ∷ AtLevel Snapshot Sessions ∷ AtLevel Snapshot Nothing ∷ OfReads ∷ []

-- a level with each order that may be asked for
abbrev pub with_orders : Level → List Grade
with_orders level = AtLevel level RealTime ∷ AtLevel level Sessions ∷ AtLevel level Nothing ∷ []

abbrev pub level_word : Level → List ℕ
level_word Snapshot = codes "snapshot"
level_word Serializable = codes "serializable"

abbrev pub wanted_word : Wanted → List ℕ
wanted_word Nothing = codes ""
wanted_word Sessions = codes " session"
wanted_word RealTime = codes " real-time"

abbrev pub grade_words : Grade → List ℕ
grade_words (AtLevel level wanted) = level_word level ++ wanted_word wanted
grade_words OfReads = codes "committed"

abbrev pub status_words : ℕ → List ℕ
status_words code = if code == 0 then codes ": holds\n" else (if code == 7 then codes ": does not hold\n" else codes ": not decided\n")

abbrev pub line_of : Grade → ℕ → List ℕ
line_of grade code = grade_words grade ++ status_words code

-- the status says whether the trace is so
abbrev pub IsStatus : Grade → Subject → ℕ → Type 0
IsStatus (AtLevel level wanted) s code = ((code ≡ 0) × AsAsked level wanted s) ⊎ ((code ≡ 7) × (AsAsked level wanted s → ⊥)) ⊎ (code ≡ 8)
IsStatus OfReads s code = ((code ≡ 0) × ReadsCommitted s) ⊎ ((code ≡ 7) × (ReadsCommitted s → ⊥))

-- the lines of these levels: of those that hold, and of the others
pub data AreSaid (s : Subject) : List Grade → List ℕ → List ℕ → Type 0 where
  NoneSaid : AreSaid s [] [] []
  Holding : {grades : List Grade} {holding others : List ℕ} (grade : Grade) → IsStatus grade s 0 → AreSaid s grades holding others → AreSaid s (grades ++ grade ∷ []) (holding ++ line_of grade 0) others
  Other : {grades : List Grade} {holding others : List ℕ} (grade : Grade) (code : ℕ) → code ≢ 0 → IsStatus grade s code → AreSaid s grades holding others → AreSaid s (grades ++ grade ∷ []) holding (others ++ line_of grade code)

-- the status is that of committed reads
pub record AreLevels (s : Subject) (code : ℕ) (text : List ℕ) : Type 0 where
  pub holding : List ℕ
  pub others : List ℕ
  pub said : AreSaid s ranked holding others
  pub told : text ≡ holding ++ others
  pub status : IsStatus OfReads s code
