use Rattle.std.proofs.Common.{◌≡◌, ◌+◌, length, sym, ◌∙◌, arith}
use Rattle.session_script.specs.Words.{words_of}
use Rattle.session_script.proofs.WordLemmas.{no_words}
use Rattle.session_script.proofs.cutting.count_words.Goals as goal

pub returns-then-is_empty-2-clause-count : goal.returns-then-is_empty-2-clause-count
returns-then-is_empty-2-clause-count c =
    let none = no_words _ _ _ c.next_word.ensures (sym c.is_empty.ensures ∙ c.if-is_empty.true) (sym c.is_empty-then-is_empty.ensures ∙ c.if-is_empty-2.true) in
    let counted : c.loop-more.count + length (words_of c.loop-more.rest.now) ≡ length (words_of c.args.text.now) = c.loop-more.invariant.counted (sym c.loop-more.invariant.plain ∙ none.0) in
    omega (arith, counted, none.1)
