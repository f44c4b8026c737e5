use Rattle.std.proofs.Common.{◌≡◌, ◌+◌, ◌≤◌, length, drop}
use Rattle.std.specs.List.{All}
use Rattle.history_text.specs.Fits.{FitsItem}
use Rattle.history_reading.specs.History.{lines_of}
use Rattle.history_json.proofs.LineLemmas.{NoneBad, Told}
use Rattle.history_json.proofs.history.read_lines.Given as goal

abbrev pub invariant-loop-line : goal.invariant-loop-line
invariant-loop-line l = record {
  told : Told l.format (lines_of l.rest) (lines_of l.bytes) l.items.items;
  fit : All FitsItem l.items.items;
  placed : drop l.done (lines_of l.bytes) ≡ lines_of l.rest;
  before : NoneBad l.format (lines_of l.bytes) l.done;
  counted : l.done + length l.rest ≤ length l.bytes;
}

abbrev pub decreases-loop-line : goal.decreases-loop-line
decreases-loop-line l = length l.rest
