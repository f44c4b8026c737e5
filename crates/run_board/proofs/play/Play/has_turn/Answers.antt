use Rattle.run_board.proofs.Names.{◌∙◌, ap, state_of, has_turn, Played}
use Rattle.run_board.proofs.play.Play.has_turn.Goals as goal

pub returns : goal.returns
returns g c = c.has_turn.ensures ∙ ap (λ (p : Played). has_turn (state_of p.ran) c.args.node c.args.stage c.args.session) c.self.view_is
