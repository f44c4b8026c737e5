use Rattle.std.proofs.Common.{◌≡◌, length}
use Rattle.history_reading.specs.ReadWords.{is_word}
use Rattle.history_reading.proofs.reading.words.is_word.Given as goal

abbrev pub invariant-loop-left : goal.invariant-loop-left
invariant-loop-left l = is_word l.left l.rest ≡ is_word l.word l.bytes

abbrev pub decreases-loop-left : goal.decreases-loop-left
decreases-loop-left l = length l.left
