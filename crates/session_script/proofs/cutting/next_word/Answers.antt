use Rattle.session_script.proofs.WordLemmas.{takes_word}
use Rattle.session_script.proofs.cutting.next_word.Goals as goal

pub returns : goal.returns
returns c = takes_word _ _ _ c.skip_blanks-text.ensures c.word_end-end.ensures.place c.word_end-end.ensures.within
