use Rattle.std.proofs.Common.{Some, sym, ap, ◌∙◌}
use Rattle.history_reading.proofs.RoundTrip.{one_body}
use Rattle.history_reading.proofs.reading.read_item.Goals as goal

pub returns-in-Some-clause-only : goal.returns-in-Some-clause-only
returns-in-Some-clause-only c = λ item fits line.
    let told = c.by_template.ensures in
    ap Some (one_body c.in-Some.item item (rw c.in-Some.is at told.fits) fits (sym (rw c.in-Some.is at told.found) ∙ line))
