use Rattle.run_board.proofs.Names.{◌∙◌, sym, ap, Turn, lacking_after}
use Rattle.run_board.proofs.Lacking.{noted}
use Rattle.run_board.proofs.making.note_lack.Goals as goal

pub returns-then-finds_no_stamp : goal.returns-then-finds_no_stamp
returns-then-finds_no_stamp c = c.set_lack.ensures ∙ sym (ap (λ (t : Turn). lacking_after c.args.lacking.now.items t c.args.halt) c.in-Decide.is ∙ noted c.args.lacking.now.items c.in-Decide.node c.in-Decide.session c.args.halt (sym c.finds_no_stamp.ensures ∙ c.if-finds_no_stamp.true))
