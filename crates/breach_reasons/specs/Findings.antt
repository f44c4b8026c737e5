-- What a history is found to be: isolated, and serial where that is asked too, or what is broken first.
use Rattle.std.specs.Prelude.{◌≡◌, ℕ, ◌+◌, Bool, true, false, if◌then◌else◌, List, [], ◌∷◌, ◌++◌, length, codes, decimal}
use Rattle.history_book.specs.Isolation.{Isolated}
use Rattle.history_book.specs.Serial.{Serial}
use Rattle.history_book.specs.declared.item.Item.{Item}
use Rattle.history_book.specs.declared.item.Item.TheVariants.{Begin, Placed}
use Rattle.isolation_rules.specs.Judged.{IsFirstBroken}
use Rattle.isolation_rules.specs.declared.verdict.Rule.{Rule}
use Rattle.isolation_rules.specs.declared.verdict.Rule.TheVariants as rule
use Rattle.read_sets.specs.Crossings.{IsLeastCrossing}
use Rattle.read_sets.specs.declared.judge.SerialVerdict.TheVariants.{Crossed}
use Rattle.read_sets.specs.Crossings as crossings
use Rattle.breach_reasons.specs.declared.finding.Finding.{Finding}
use Rattle.breach_reasons.specs.declared.finding.Finding.TheVariants as finding

-- the finding is right
abbrev pub IsFound : Bool → List Item → Finding → Type 0
IsFound strict h finding.Sound = Isolated h × (strict ≡ true → Serial h)
IsFound strict h (finding.Broken which first second) = IsFirstBroken h which first second
IsFound strict h (finding.Crossed read placed) = (strict ≡ true) × Isolated h × crossings.IsJudged h (Crossed read placed)

-- the status that goes with it, as an audit has it
abbrev pub finding_status : Finding → ℕ
finding_status finding.Sound = 0
finding_status _ = 7

-- ---- in a line
-- how many begins and commits there are
abbrev pub one_begin : Item → ℕ
one_begin (Begin session start) = 1
one_begin _ = 0

unfoldable pub begins_in : List Item → ℕ
begins_in [] = 0
begins_in (x ∷ xs) = one_begin x + begins_in xs

abbrev pub one_commit : Item → ℕ
one_commit (Placed start commit) = 1
one_commit _ = 0

unfoldable pub commits_in : List Item → ℕ
commits_in [] = 0
commits_in (x ∷ xs) = one_commit x + commits_in xs

abbrev pub rule_name : Rule → List ℕ
rule_name rule.Stamped = codes "stamped"
rule_name rule.Apart = codes "apart"
rule_name rule.Read = codes "read"
rule_name rule.Fresh = codes "fresh"

abbrev pub sound_name : Bool → List ℕ
sound_name strict = if strict then codes "serial: " else codes "isolated: "

abbrev pub numbers_text : ℕ → ℕ → List ℕ
numbers_text first second = codes " " ++ decimal first ++ codes " " ++ decimal second

abbrev pub broken_line : List ℕ → ℕ → ℕ → List ℕ
broken_line name first second = codes "not isolated: " ++ name ++ numbers_text first second

unfoldable pub crossed_line : ℕ → ℕ → List ℕ
crossed_line read placed = broken_line (codes "serial") read placed

-- isolated, with how many transactions began and committed; or what an audit says
unfoldable pub finding_line : Bool → List Item → Finding → List ℕ
finding_line strict items finding.Sound =
    sound_name strict ++ decimal (begins_in items) ++ codes " transactions began, " ++ decimal (commits_in items) ++ codes " committed"
finding_line strict items (finding.Broken which first second) = broken_line (rule_name which) first second
finding_line strict items (finding.Crossed read placed) = crossed_line read placed
