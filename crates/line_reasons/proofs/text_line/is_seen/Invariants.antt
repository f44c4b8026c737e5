use Rattle.std.proofs.Common.{◌≡◌, drop}
use Rattle.std.specs.List.{list_all}
use Rattle.line_reasons.specs.TextLines.{is_seen}
use Rattle.line_reasons.proofs.text_line.is_seen.Given as goal

abbrev pub invariant-loop-byte : goal.invariant-loop-byte
invariant-loop-byte l = list_all is_seen (drop l.byte-index l.line) ≡ list_all is_seen l.line
