use Rattle.std.proofs.Common.{ap, ◌∙◌}
use Rattle.std.proofs.lemmas.Option.{none-some, same_Some}
use Rattle.history_text.specs.Text.{body_of}
use Rattle.history_json.specs.Words.{words_of}
use Rattle.history_json.proofs.WordsLemmas.{words_again}
use Rattle.history_json.proofs.item.candidate.Goals as goal

pub returns-in-Some-clause-only : goal.returns-in-Some-clause-only
returns-in-Some-clause-only c = λ item fits e.
    let told = rw c.in-Some.is at c.in_ok-words.ensures in
    c.read_item.ensures.only item fits (c.deref.ensures.value ∙ same_Some _ _ (told ∙ ap words_of e ∙ words_again item))

pub returns-in-None-clause-only : goal.returns-in-None-clause-only
returns-in-None-clause-only c = λ item fits e.
    let told = rw c.in-None.is at c.in_ok-words.ensures in
    absurd (none-some (body_of item) (told ∙ ap words_of e ∙ words_again item))
