-- What is told of a trace: that it is as asked, or not and why, or that it is not decided, or that it can't be judged.
use Rattle.std.specs.Prelude.{ℕ, List, [], ◌++◌, codes, decimal}
use Rattle.trace_rules.specs.declared.wanted.Level.{Level}
use Rattle.trace_rules.specs.declared.wanted.Level.TheVariants.{Snapshot, Serializable}
use Rattle.trace_rules.specs.declared.wanted.Wanted.{Wanted}
use Rattle.trace_rules.specs.declared.wanted.Wanted.TheVariants.{Nothing, Sessions, RealTime}
use Rattle.trace_index.specs.declared.attempts.Attempt.{Attempt}
use Rattle.trace_index.specs.declared.fault.Unclear.{Unclear}
use Rattle.trace_index.specs.declared.fault.Unclear.TheVariants.{WrittenTwice, WrittenByNobody, VersionTwice, BothWays}
use Rattle.trace_report.specs.Parts.{line_at, name_at}

abbrev pub level_text : Level → List ℕ
level_text Snapshot = codes "snapshot isolated"
level_text Serializable = codes "serializable"

abbrev pub wanted_text : Wanted → List ℕ
wanted_text Nothing = codes ""
wanted_text Sessions = codes " in sessions"
wanted_text RealTime = codes " in real time"

abbrev pub holds_text : Level → Wanted → ℕ → List ℕ
holds_text level wanted transactions = level_text level ++ wanted_text wanted ++ codes " transactions=" ++ decimal transactions ++ codes "\n"

-- with the anomaly's name
abbrev pub refused_text : Level → Wanted → List ℕ → List ℕ
refused_text level wanted name = codes "not " ++ level_text level ++ wanted_text wanted ++ codes ": " ++ name ++ codes "\n"

-- the wrong read, by its line, key and value
abbrev pub wrong_read_text : List (List ℕ) → List Attempt → ℕ → ℕ → List ℕ
wrong_read_text names attempts txn key = codes "  line " ++ decimal (line_at attempts txn) ++ codes " r " ++ name_at names key ++ codes "\n"

abbrev pub undecided_text : List (List ℕ) → ℕ → List ℕ
undecided_text names key = codes "not decided: writers of " ++ name_at names key ++ codes "\n"

abbrev pub why_text : Unclear → List ℕ
why_text WrittenTwice = codes " is written twice at "
why_text WrittenByNobody = codes " is read and written by nobody at "
why_text VersionTwice = codes " is told of two writers at "
why_text BothWays = codes "a list and a single value are told at "

-- a version by its number, and a value by its name
abbrev pub what_text : List (List ℕ) → ℕ → Unclear → List ℕ
what_text names value WrittenTwice = name_at names value
what_text names value WrittenByNobody = name_at names value
what_text names value VersionTwice = codes "version " ++ decimal value
what_text names value BothWays = []

-- the operation, by its line and member
unfoldable pub where_text : List Attempt → ℕ → ℕ → List ℕ
where_text attempts txn member = codes "trace line " ++ decimal (line_at attempts txn) ++ codes ": value[" ++ decimal member ++ codes "]: "

-- an operation of which it is not clear who wrote what
abbrev pub unclear_text : List (List ℕ) → List Attempt → ℕ → ℕ → ℕ → ℕ → Unclear → List ℕ
unclear_text names attempts txn member key value what =
    where_text attempts txn member ++ what_text names value what ++ why_text what ++ name_at names key ++ codes "\n"
