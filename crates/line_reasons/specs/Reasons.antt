-- Why a line is no item: what each fault means, in each format, and what is told of it.
use Rattle.std.specs.Prelude.{◌≡◌, ℕ, ◌-◌, ◌≤◌, List, [], ◌++◌, codes, IfSome, slice_get}
use Rattle.history_reading.specs.History.{lines_of}
use Rattle.history_json.specs.History.{format_of}
use Rattle.history_json.specs.declared.history.Format.{Format}
use Rattle.history_json.specs.declared.history.Format.TheVariants.{Json, Text}
use Rattle.line_reasons.specs.declared.wants.Wants.{Wants}
use Rattle.line_reasons.specs.declared.fault.LineFault.{LineFault}
use Rattle.line_reasons.specs.declared.fault.LineFault.TheVariants as fault
use Rattle.line_reasons.specs.Wants.{wants_text}
use Rattle.line_reasons.specs.TextLines.{TellsText}
use Rattle.line_reasons.specs.Objects.{TellsJson}

-- the fault is one of the line, in this format
abbrev pub Tells : Format → List ℕ → LineFault → Type 0
Tells Text line it = TellsText line it
Tells Json line it = TellsJson line it

-- ---- in words
abbrev pub member_text : List ℕ → Wants → List ℕ
member_text name wants = codes "    member `" ++ name ++ codes "`: " ++ wants_text wants ++ codes "\n"

abbrev pub missing_text : List ℕ → List ℕ
missing_text name = codes "    member `" ++ name ++ codes "` is missing\n"

abbrev pub plain_text : LineFault → List ℕ
plain_text fault.CarriageReturn = codes "    it ends in a carriage return\n"
plain_text fault.Unseen = codes "    a byte of it is neither visible nor a blank\n"
plain_text fault.LooseBlank = codes "    a blank stands at its front or end, or behind another\n"
plain_text fault.Mixed = codes "    it is an object, and the history's first line is not\n"
plain_text fault.NoAnswer = codes "    a read ends in `none`, or in `from=` and a value\n"
plain_text fault.TooLong = codes "    more stands behind its members\n"
plain_text fault.NoJson = codes "    it is no JSON, as the history's first line is\n"
plain_text fault.NoObject = codes "    it is no object, as the history's first line is\n"
plain_text fault.NoKind = codes "    member `kind`: the kind of an item\n"
plain_text fault.TooMany = codes "    it has more members than its kind\n"
plain_text fault.UnknownKind = codes "    there is no such kind of item\n"
plain_text _ = []

abbrev pub fault_text : LineFault → List ℕ
fault_text (fault.Missing name) = missing_text name.now
fault_text (fault.Member name wants) = member_text name.now wants
fault_text it = plain_text it

-- words were added that tell a fault of the line
pub record AddsReason (format : Format) (line old new : List ℕ) : Type 0 where
  pub it : LineFault
  pub tells : Tells format line it
  pub added : new ≡ old ++ fault_text it

-- why the line of this number, counted from 1, is no item; line 0 stands for too many bytes
pub record AddsReasonAt (bytes : List ℕ) (number : ℕ) (old new : List ℕ) : Type 0 where
  pub long : number ≡ 0 → new ≡ old ++ codes "    a history has at most 16777216 bytes\n"
  pub line : 1 ≤ number → IfSome (slice_get (lines_of bytes) (number - 1)) (λ line. AddsReason (format_of bytes) line old new)
