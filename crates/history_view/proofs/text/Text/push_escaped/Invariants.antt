use Rattle.std.proofs.Common.{◌≡◌, ◌++◌, take}
use Rattle.history_view.specs.Words.{escaped}
use Rattle.history_view.proofs.text.Text.push_escaped.Given as goal

abbrev pub invariant-loop-byte : goal.invariant-loop-byte
invariant-loop-byte l = l.self ≡ l.fn.self ++ escaped (take l.byte-index l.words)
