use Rattle.std.proofs.Common.{◌≡◌, ◌+◌, ◌*◌, ◌≤◌, ◌++◌, drop, length}
use Rattle.json.specs.Print.{escape}
use Rattle.history_json.proofs.templates.sessions.push_escaped.Given as goal

abbrev pub invariant-loop-byte : goal.invariant-loop-byte
invariant-loop-byte l = record {
  told : l.line ++ escape (drop l.byte-index l.bytes) ≡ l.fn.line ++ escape l.bytes;
  room : length l.line ≤ length l.fn.line + 2 * l.byte-index;
}
