-- What an audit reports of a history.
use Rattle.std.specs.Prelude.{◌≡◌, ◌≢◌, ℕ, ◌<◌, ◌-◌, List, [], ◌∷◌, ◌++◌, ◌⊎◌, Option, length, codes, decimal}
use Rattle.history_book.specs.declared.item.Item.{Item}
use Rattle.history_book.specs.Isolation.{Isolated}
use Rattle.history_book.specs.Serial.{Serial}
use Rattle.port_io.specs.Ports.{Gains}
use Rattle.isolation_rules.specs.declared.verdict.Rule.{Rule}
use Rattle.isolation_rules.specs.declared.verdict.Rule.TheVariants as rule
use Rattle.isolation_rules.specs.Judged.{IsFirstBroken}
use Rattle.read_sets.specs.Crossings.{IsLeastCrossing}
use Rattle.omid_top.specs.declared.report.Report.{Report}
use Rattle.omid_top.specs.declared.report.Report.TheVariants as report
use Rattle.omid_top.specs.declared.standard.Standard.{Standard}
use Rattle.omid_top.specs.declared.standard.Standard.TheVariants as standard
use Rattle.history_json.specs.History.{AreItems, IsFirstBad}
use Rattle.omid_top.specs.Promise.{GainsFront}

-- ---- what is asked
abbrev pub meets : Standard → List Item → Type 0
meets standard.Isolated h = Isolated h
meets standard.Strict h = Isolated h × Serial h

-- ---- what is right
-- the bytes are this many items, and these are as asked
pub record IsClearedHistory (asked : Standard) (bytes : List ℕ) (count : ℕ) : Type 0 where
  pub items : List Item
  pub read : AreItems bytes items
  pub met : meets asked items
  pub counted : count ≡ length items

-- the bytes are items that are not isolated, and of the rules in their order this one is the first that is broken,
-- by these two items first
pub record IsBrokenHistory (bytes : List ℕ) (rule : Rule) (first second : ℕ) : Type 0 where
  pub items : List Item
  pub read : AreItems bytes items
  pub broken : Isolated items → ⊥
  pub least : IsFirstBroken items rule first second

-- serial was asked for, and the bytes are items that are isolated and not serial: of the reads that a placed commit crosses this
-- is the first, and this the first commit that crosses it, both counted from 1
pub record IsCrossedHistory (asked : Standard) (bytes : List ℕ) (first second : ℕ) : Type 0 where
  pub items : List Item
  pub read : AreItems bytes items
  pub strict : asked ≡ standard.Strict
  pub isolated : Isolated items
  pub broken : Serial items → ⊥
  pub counted : (0 < first) × (0 < second)
  pub least : IsLeastCrossing items (first - 1) (second - 1)

-- the report is right about the bytes
abbrev pub IsReportOn : Standard → List ℕ → Report → Type 0
IsReportOn asked bytes (report.Isolated items) = IsClearedHistory asked bytes items
IsReportOn asked bytes (report.Broken rule first second) = IsBrokenHistory bytes rule first second
IsReportOn asked bytes (report.Crossed read placed) = IsCrossedHistory asked bytes read placed
IsReportOn asked bytes (report.NotAnItem line) = IsFirstBad bytes line

-- the status that goes with a report
abbrev pub report_status : Report → ℕ
report_status (report.Isolated items) = 0
report_status (report.Broken rule first second) = 7
report_status (report.Crossed read placed) = 7
report_status (report.NotAnItem line) = 3

abbrev pub rule_text : Rule → List ℕ
rule_text rule.Stamped = codes "stamped"
rule_text rule.Apart = codes "apart"
rule_text rule.Read = codes "read"
rule_text rule.Fresh = codes "fresh"

abbrev pub broken_text : List ℕ → ℕ → ℕ → List ℕ
broken_text word first second = codes "not isolated: " ++ word ++ codes " " ++ decimal first ++ codes " " ++ decimal second ++ 10 ∷ []

abbrev pub report_text : Report → List ℕ
report_text (report.Isolated items) = codes "isolated items=" ++ decimal items ++ 10 ∷ []
report_text (report.Broken rule first second) = broken_text (rule_text rule) first second
report_text (report.Crossed read placed) = broken_text (codes "serial") read placed
report_text (report.NotAnItem line) = codes "history line " ++ decimal line ++ codes ": not an item" ++ 10 ∷ []

-- the statuses of a report
abbrev pub IsVerdict : ℕ → Type 0
IsVerdict code = (code ≡ 0) ⊎ (code ≡ 3) ⊎ (code ≡ 7)

-- a report that is right about the bytes, and has this status, was written
pub record Reported (asked : Standard) (bytes : List ℕ) (code : ℕ) (old new : Option (List ℕ)) : Type 0 where
  pub report : Report
  pub right : IsReportOn asked bytes report
  pub status : report_status report ≡ code
  pub told : Gains old new (report_text report)

-- a front of a report that is right about the bytes was written
pub record ReportedFront (asked : Standard) (bytes : List ℕ) (old new : Option (List ℕ)) : Type 0 where
  pub report : Report
  pub right : IsReportOn asked bytes report
  pub told : GainsFront old new (report_text report)

-- a status is fair to items that were audited: they are not said to be none, 0 clears them only where they are as asked, and
-- 7 accuses them only where they are not
pub record IsFairTo (asked : Standard) (items : List Item) (code : ℕ) : Type 0 where
  pub read : code ≢ 3
  pub cleared : code ≡ 0 → meets asked items
  pub accused : code ≡ 7 → meets asked items → ⊥
