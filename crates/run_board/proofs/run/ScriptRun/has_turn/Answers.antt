use Rattle.run_board.proofs.Names.{◌∙◌, ap, is_some, State, Ran, has_turn, state_of}
use Rattle.turn_rules.specs.Lawful as lawful
use Rattle.run_board.proofs.run.ScriptRun.has_turn.Goals as goal

pub returns : goal.returns
returns c =
    let request = c.asking.ensures.0 ∙ ap (λ both. both.0) c.in_flight-request.ensures in
    let commit = c.asking.ensures.1 ∙ ap (λ both. both.1) c.in_flight-request.ensures in
    c.is_some.ensures ∙ ap (λ turn. is_some turn) (c.stage_turn.ensures ∙ (λ k. lawful.serving_turn_of c.args.stage c.args.node c.args.session (commit k) (request k)))
    ∙ ap (λ (w : State). has_turn w c.args.node c.args.stage c.args.session) c.self.invariant.0.state
    ∙ ap (λ (r : Ran). has_turn (state_of r) c.args.node c.args.stage c.args.session) c.self.view_is
