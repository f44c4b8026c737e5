use Rattle.run_board.proofs.Names.{◌∙◌, sym, Request, Persist, Reply}
use Rattle.run_board.proofs.StageSteps.{all_free}
use Rattle.run_board.proofs.play.Play.is_free.Goals as goal

pub returns : goal.returns
returns g c =
    let request = c.is_held-request.ensures in
    let persist = c.is_held-persist.ensures in
    let reply = c.is_held-reply.ensures in (
      λ t. let none = c.is_none.ensures.0 t in all_free c.args.self.now.ran c.args.node (sym request ∙ none.0) (sym persist ∙ none.1) (sym reply ∙ none.2),
      λ free. c.is_none.ensures.1 (request ∙ free Request, persist ∙ free Persist, reply ∙ free Reply),
    )
