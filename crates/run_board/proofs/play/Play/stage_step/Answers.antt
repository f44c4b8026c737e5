use Rattle.run_board.proofs.PlayKept.{kept_further}
use Rattle.run_board.proofs.Counted.{counted_served}
use Rattle.run_board.proofs.play.Play.stage_step.Goals as goal

pub invariant_of-self : goal.invariant_of-self
invariant_of-self g c =
    let old = c.self.inside.run in
    let new = c.stage_step.new.self in
    let kept = kept_further old new c.self.inside.cursors (c.stage_steps_go_further.ensures old new c.args.node c.args.term c.args.stage c.args.session c.stage_step.result c.stage_step.ensures.made) c.self.invariant.kept in
    record { kept = kept; counted = counted_served old new c.args.node c.args.term c.args.stage c.args.session c.stage_step.result c.self.inside.cursors c.stage_step.ensures.made c.self.invariant.counted }
