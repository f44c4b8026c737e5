use Rattle.run_board.proofs.Names.{◌∙◌, ap, IsStageHeld, Played}
use Rattle.run_board.proofs.play.Play.is_held.Goals as goal

pub returns : goal.returns
returns g c = c.is_held.ensures ∙ ap (λ (p : Played). IsStageHeld p.ran c.args.node c.args.stage) c.self.view_is
