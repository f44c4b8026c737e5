use Rattle.std.proofs.Common.{Some, ap}
use Rattle.history_json.specs.declared.history.Format.TheVariants.{Json}
use Rattle.history_json.proofs.OneHistory.{same_line}
use Rattle.history_json.proofs.line.from_line.Goals as goal

pub returns-in-Some-clause-only : goal.returns-in-Some-clause-only
returns-in-Some-clause-only c = λ item fits line.
    let told = c.printed_item.ensures in
    ap Some (same_line Json c.args.line.now c.in-Some.item item (rw c.in-Some.is at told.fits) fits (rw c.in-Some.is at told.found) line)
