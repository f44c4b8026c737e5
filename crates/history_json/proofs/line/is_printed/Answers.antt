use Rattle.history_json.proofs.ObjectLemmas.{printed_again}
use Rattle.history_json.proofs.line.is_printed.Goals as goal

pub returns-clause-again : goal.returns-clause-again
returns-clause-again c = printed_again c.args.item.now c.print_object.ensures.fits
