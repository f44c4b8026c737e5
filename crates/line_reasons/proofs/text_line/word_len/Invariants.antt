use Rattle.std.proofs.Common.{◌≡◌, ◌+◌, length}
use Rattle.history_reading.specs.ReadWords.{word_len}
use Rattle.line_reasons.proofs.text_line.word_len.Given as goal

abbrev pub invariant-loop-rest : goal.invariant-loop-rest
invariant-loop-rest l = (l.len + word_len l.rest ≡ word_len l.bytes) × (l.len + length l.rest ≡ length l.bytes)

abbrev pub decreases-loop-rest : goal.decreases-loop-rest
decreases-loop-rest l = length l.rest
