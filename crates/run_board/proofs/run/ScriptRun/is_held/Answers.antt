use Rattle.run_board.proofs.Names.{List, ◌∙◌, ap, Holds, is_held, holds_at, Ran, IsStageHeld}
use Rattle.run_board.proofs.run.ScriptRun.is_held.Goals as goal

pub returns : goal.returns
returns c =
    let held_is = c.as_slice.ensures.value ∙ c.self.invariant.1.held_is in
    c.is_held.ensures ∙ ap (λ (h : Holds). is_held h c.args.stage) c.holds_at.ensures ∙ ap (λ (all : List Holds). is_held (holds_at all c.args.node) c.args.stage) held_is ∙ ap (λ (r : Ran). IsStageHeld r c.args.node c.args.stage) c.self.view_is
