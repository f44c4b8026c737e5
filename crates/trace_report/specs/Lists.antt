-- The names of wrong lists, and how one is told.
use Rattle.std.specs.Prelude.{ℕ, List, ◌++◌, codes, decimal}
use Rattle.list_ranks.specs.declared.wrong.Flaw.{Flaw}
use Rattle.list_ranks.specs.declared.wrong.Flaw.TheVariants.{Dirty, Turned, Split, Missing, Cut, Different}
use Rattle.list_ranks.specs.declared.wrong.WrongList.{WrongList}
use Rattle.trace_index.specs.declared.attempts.Attempt.{Attempt}
use Rattle.trace_report.specs.Parts.{line_at, name_at}

abbrev pub flaw_name : Flaw → List ℕ
flaw_name Dirty = codes "dirty read (G1a)"
flaw_name Turned = codes "list out of order"
flaw_name Split = codes "list out of order"
flaw_name Missing = codes "list with a gap"
flaw_name Cut = codes "list with a gap"
flaw_name Different = codes "incompatible order"

-- what the other transaction did at the key
abbrev pub beside_text : Flaw → List ℕ
beside_text Dirty = codes " append "
beside_text Turned = codes " append "
beside_text Split = codes " append "
beside_text Missing = codes " append "
beside_text Cut = codes " append "
beside_text Different = codes " r "

-- the list that a transaction read, by its line
unfoldable pub list_text : List ℕ → ℕ → List ℕ
list_text name line = codes "  line " ++ decimal line ++ codes " r " ++ name

-- what another one did
unfoldable pub done_text : List ℕ → Flaw → List ℕ
done_text name flaw = beside_text flaw ++ name ++ codes "\n"

-- by its line
unfoldable pub other_text : List ℕ → ℕ → Flaw → List ℕ
other_text name line flaw = codes " beside line " ++ decimal line ++ done_text name flaw

-- the list's line, and the other one
abbrev pub wrong_list_text : List (List ℕ) → List Attempt → WrongList → List ℕ
wrong_list_text names attempts wrong =
    list_text (name_at names wrong.key) (line_at attempts wrong.reader) ++ other_text (name_at names wrong.key) (line_at attempts wrong.other) wrong.flaw
