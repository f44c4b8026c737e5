use Rattle.std.proofs.Common.{◌≡◌, ◌+◌, ◌≤◌, length}
use Rattle.std.specs.Str.Lines.{lines}
use Rattle.session_script.specs.Script.{script_from, nothing_read}
use Rattle.session_script.specs.Reading.{so_far}
use Rattle.session_script.proofs.reading.read_lines.Given as goal

abbrev pub invariant-loop-rest : goal.invariant-loop-rest
invariant-loop-rest l = record {
  read : script_from l.mode (so_far l.reading) (l.number + 1) (lines l.rest) ≡ script_from l.mode nothing_read 1 (lines l.bytes);
  numbered : l.number + length l.rest ≤ length l.bytes;
}

abbrev pub decreases-loop-rest : goal.decreases-loop-rest
decreases-loop-rest l = length l.rest
