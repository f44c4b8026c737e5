use Rattle.std.proofs.Common.{◌≡◌, ℕ, ◌<◌, false, get_or}
use Rattle.session_script.specs.Words.{ends_word}
use Rattle.session_script.proofs.cutting.word_end.Given as goal

abbrev pub invariant-loop-i : goal.invariant-loop-i
invariant-loop-i l = (k : ℕ) → k < l.i → ends_word (get_or l.text k 0) ≡ false
