use Rattle.run_board.proofs.Names.{sym, subst, Played, GoesThrough}
use Rattle.run_board.proofs.StageSteps.{none_through}
use Rattle.run_board.proofs.play.Play.serve_through.Goals as goal
use Rattle.run_board.proofs.play.Play.serve_through.Goals.{then-is_clear, else-is_clear}

pub returns-clause-through : goal.returns-clause-through
returns-clause-through g c =
    let through = λ (p : Played). GoesThrough c.args.node c.args.term c.args.session c.args.self.now p in
    elim c.if-is_clear.branch [
      | then-is_clear w ↦ subst through (sym w.self-is) w.pass_stages.ensures
      | else-is_clear w ↦ subst through (sym w.self-is) (none_through c.args.node c.args.term c.args.session c.args.self.now)
    ]
