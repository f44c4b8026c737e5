-- The words that the program knows.
use Rattle.std.specs.Prelude.{ℕ, ◌||◌, if◌then◌else◌, List, [], ◌∷◌, ◌++◌, Option, None, Some, codes}
use Rattle.std.specs.Str.{bytes_eq}
use Rattle.trace_rules.specs.declared.wanted.Level.{Level}
use Rattle.trace_rules.specs.declared.wanted.Level.TheVariants.{Snapshot, Serializable}
use Rattle.trace_rules.specs.declared.wanted.Wanted.{Wanted}
use Rattle.trace_rules.specs.declared.wanted.Wanted.TheVariants.{Nothing, Sessions, RealTime}
use Rattle.omid_check_top.specs.declared.words.Question.TheVariants.{Committed, Isolated, Levels, Stamps}
use Rattle.omid_check_top.specs.declared.words.Command.{Command}
use Rattle.omid_check_top.specs.declared.words.Command.TheVariants.{Check, Help}

abbrev pub level_of : List ℕ → Option Level
level_of word = if bytes_eq word (codes "snapshot") then Some Snapshot else (if bytes_eq word (codes "serializable") then Some Serializable else None)

abbrev pub wanted_of : List ℕ → Option Wanted
wanted_of word = if bytes_eq word (codes "session") then Some Sessions else (if bytes_eq word (codes "real-time") then Some RealTime else None)

abbrev pub checks : Option Level → Option Wanted → Option Command
checks None wanted = None
checks (Some level) None = None
checks (Some level) (Some wanted) = Some (Check (Isolated level wanted))

-- a level, committed, or help
abbrev pub one_word : List ℕ → Option Command
one_word word = if bytes_eq word (codes "help") || bytes_eq word (codes "--help") then Some Help else (if bytes_eq word (codes "committed") then Some (Check Committed) else (if bytes_eq word (codes "levels") then Some (Check Levels) else checks (level_of word) (Some Nothing)))

-- stamps at the level
abbrev pub shows : Option Level → Option Wanted → Option Command
shows None wanted = None
shows (Some level) None = None
shows (Some level) (Some wanted) = Some (Check (Stamps level wanted))

abbrev pub two_words : List ℕ → List ℕ → Option Command
two_words word other = if bytes_eq word (codes "stamps") then shows (level_of other) (Some Nothing) else checks (level_of word) (wanted_of other)

abbrev pub three_words : List ℕ → List ℕ → List ℕ → Option Command
three_words word other last = if bytes_eq word (codes "stamps") then shows (level_of other) (wanted_of last) else None

-- the command that the words name, where they name one
abbrev pub command_of : List (List ℕ) → Option Command
command_of [] = None
command_of (word ∷ []) = one_word word
command_of (word ∷ other ∷ []) = two_words word other
command_of (word ∷ other ∷ last ∷ []) = three_words word other last
command_of (word ∷ other ∷ last ∷ more ∷ words) = None

abbrev pub usage_text : List ℕ
usage_text = codes "usage: omid_check [stamps] snapshot | serializable [session | real-time], committed, levels, or help\n"
