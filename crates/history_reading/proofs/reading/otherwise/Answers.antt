use Rattle.std.proofs.Common.{sym, ap, ◌∙◌, ◌≡◌}
use Rattle.std.proofs.lemmas.Option.{none-some, same_Some}
use Rattle.std.proofs.lemmas.Bool.{both_ways}
use Rattle.history_text.specs.Text.{body_of}
use Rattle.history_reading.specs.Reading.{item_at}
use Rattle.history_reading.proofs.RoundTrip.{item_again}
use Rattle.history_reading.proofs.reading.otherwise.Goals as goal

pub returns-in_err-item-clause-only : goal.returns-in_err-item-clause-only
returns-in_err-item-clause-only c = λ item fits e. absurd (none-some item (sym c.in_err-item.was ∙ c.candidate.ensures ∙ ap item_at e ∙ item_again item fits))

pub returns-then-same-clause-only : goal.returns-then-same-clause-only
returns-then-same-clause-only c = λ item fits e. sym c.in_ok-item.was ∙ c.candidate.ensures ∙ ap item_at e ∙ item_again item fits

pub returns-else-same-clause-only : goal.returns-else-same-clause-only
returns-else-same-clause-only c = λ item fits e.
    let one : c.in_ok-item.item ≡ item = same_Some _ _ (sym c.in_ok-item.was ∙ c.candidate.ensures ∙ ap item_at e ∙ item_again item fits) in
    absurd (both_ways c.is_body_of-same.result c.if-same.false (c.is_body_of-same.ensures.same.1 (e ∙ ap body_of (sym one))))
