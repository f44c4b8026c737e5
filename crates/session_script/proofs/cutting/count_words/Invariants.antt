use Rattle.std.proofs.Common.{◌≡◌, ◌+◌, ◌≤◌, true, length}
use Rattle.std.specs.List.{list_all}
use Rattle.session_script.specs.Words.{is_plain, words_of}
use Rattle.session_script.proofs.cutting.count_words.Given as goal

abbrev pub invariant-loop-more : goal.invariant-loop-more
invariant-loop-more l = record {
  plain : list_all is_plain l.rest ≡ list_all is_plain l.text;
  counted : list_all is_plain l.text ≡ true → l.count + length (words_of l.rest) ≡ length (words_of l.text);
  within : l.count + length l.rest ≤ length l.text;
}

abbrev pub decreases-loop-more : goal.decreases-loop-more
decreases-loop-more l = length l.rest
