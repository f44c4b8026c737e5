-- A right report is fair, since bytes have one list of items at most, and with items no line is bad.
use Rattle.std.proofs.Common.{◌≡◌, ℕ, ◌<◌, List, ◌⊎◌, inl, inr, Option, None, Some, length, subst, arith}
use Rattle.std.specs.Prelude.{IfSome}
use Rattle.std.proofs.lemmas.List.{append-nil}
use Rattle.stamp_base.specs.declared.limits.TheConstants.{BYTE_LIMIT}
use Rattle.port_io.specs.Ports.{Gives, IsAtEnd}
use Rattle.history_book.specs.declared.item.Item.{Item}
use Rattle.history_book.specs.Isolation.{Isolated}
use Rattle.history_book.specs.Serial.{Serial}
use Rattle.history_json.proofs.OneHistory.{one_history, items_are_not_bad, too_long_is_bad}
use Rattle.omid_top.specs.declared.report.Report.{Report}
use Rattle.omid_top.specs.declared.report.Report.TheVariants as report
use Rattle.history_json.specs.History.{AreItems}
use Rattle.omid_top.specs.declared.standard.Standard.{Standard}
use Rattle.omid_top.specs.declared.standard.Standard.TheVariants as standard
use Rattle.omid_top.specs.Audit.{meets, IsReportOn, IsVerdict, report_status, IsFairTo}

isolated_of : (asked : Standard) (items : List Item) → meets asked items → Isolated items
isolated_of standard.Isolated items met = met
isolated_of standard.Strict items met = met.0

serial_of : (asked : Standard) (items : List Item) → asked ≡ standard.Strict → meets asked items → Serial items
serial_of standard.Isolated items strict met = cc
serial_of standard.Strict items strict met = met.1

pub right_is_fair : (asked : Standard) (bytes : List ℕ) (found : Report) (items : List Item) → IsReportOn asked bytes found → AreItems bytes items → IsFairTo asked items (report_status found)
right_is_fair asked bytes (report.Isolated count) items right read = record {
  read = λ e. cc;
  cleared = λ _. subst (λ (xs : List Item). meets asked xs) (one_history bytes right.items items right.read read) right.met;
  accused = λ e. cc;
}
right_is_fair asked bytes (report.Broken rule first second) items right read = record {
  read = λ e. cc;
  cleared = λ e. cc;
  accused = λ _ met. subst (λ (xs : List Item). Isolated xs → ⊥) (one_history bytes right.items items right.read read) right.broken (isolated_of asked items met);
}
right_is_fair asked bytes (report.Crossed first second) items right read = record {
  read = λ e. cc;
  cleared = λ e. cc;
  accused = λ _ met. subst (λ (xs : List Item). Serial xs → ⊥) (one_history bytes right.items items right.read read) right.broken (serial_of asked items right.strict met);
}
right_is_fair asked bytes (report.NotAnItem line) items right read = absurd (items_are_not_bad bytes items line read right)

-- a status that is none of a report's says nothing of the items
pub silent_is_fair : (asked : Standard) (items : List Item) (code : ℕ) → (IsVerdict code → ⊥) → IsFairTo asked items code
silent_is_fair asked items code silent = record {
  read = λ is. silent (inr (inl is));
  cleared = λ is. absurd (silent (inl is));
  accused = λ is. absurd (silent (inr (inr is)));
}

five_is_silent : (code : ℕ) → code ≡ 5 → IsVerdict code → ⊥
five_is_silent code five (inl done) = absurd (omega (arith, five, done))
five_is_silent code five (inr (inl three)) = absurd (omega (arith, five, three))
five_is_silent code five (inr (inr seven)) = absurd (omega (arith, five, seven))

-- the status of a report that was written, or could not be, is fair
pub written_is_fair : (asked : Standard) (bytes : List ℕ) (found : Report) (items : List Item) (code : ℕ) → IsReportOn asked bytes found → AreItems bytes items → (IsVerdict code → report_status found ≡ code) → IsVerdict code ⊎ (code ≡ 5) → IsFairTo asked items code
written_is_fair asked bytes found items code right read is (inl verdict) = subst (λ (n : ℕ). IsFairTo asked items n) (is verdict) (right_is_fair asked bytes found items right read)
written_is_fair asked bytes found items code right read is (inr five) = silent_is_fair asked items code (five_is_silent code five)

-- what holds of all bytes that were given holds of what a source had left
pub of_all_left : (old new : Option (List ℕ)) (bytes : List ℕ) (P : List ℕ → Type 0) → Gives old new bytes → IsAtEnd new → P bytes → IfSome old P
of_all_left old None bytes P given ended holds = rw given tt
of_all_left old (Some rest) bytes P given ended holds = rw (given, ended, append-nil bytes) holds

-- bytes that were left are reported as too many
pub of_too_many : (asked : Standard) (left : Option (List ℕ)) (P : List ℕ → Type 0) → ((bytes : List ℕ) → IsReportOn asked bytes (report.NotAnItem 0) → P bytes) → IfSome left (λ bytes. BYTE_LIMIT < length bytes) → IfSome left P
of_too_many asked None P holds long = tt
of_too_many asked (Some bytes) P holds long = holds bytes (too_long_is_bad bytes long)
