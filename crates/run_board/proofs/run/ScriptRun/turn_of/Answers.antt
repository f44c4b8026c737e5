use Rattle.run_board.proofs.Names.{◌≡◌, Some, None, subst, sym, ap, ◌∙◌, MatchOption, slice_index_or, Session, view_of}
use Rattle.run_board.proofs.Names.{data_of, Ran, IsServable, state_of}
use Rattle.std.specs.Prelude.{false}
use Rattle.turn_rules.specs.declared.turn.Turn.TheVariants as turn
use Rattle.turn_rules.specs.Lawful as lawful
use Rattle.run_board.proofs.Servable.{extends_first, serves_there, serves_found}
use Rattle.run_board.proofs.run.ScriptRun.turn_of.Goals as goal

pub returns-in-Some-Decide : goal.returns-in-Some-Decide
returns-in-Some-Decide c =
    let s = c.self.inside in
    let r : Ran = record { script = data_of s.script; turns = s.turns.items } in
    let seen = c.view-view.ensures ∙ ap (λ w. view_of w (Session c.args.session)) c.self.invariant.0.state in
    let decides = ap (λ view. lawful.stage_turn c.args.stage c.args.node c.args.session view) (sym seen) ∙ sym c.stage_turn.ensures ∙ c.in-Some-Decide.is ∙ ap (λ t. Some t) c.in-Some-Decide.field-0-is in
    let lacks = ap (λ lacking. slice_index_or lacking c.args.node false) (sym c.as_slice.ensures.value) ∙ sym c.is_lacking.ensures ∙ c.if-is_lacking.true in
    subst (λ (x : Ran). IsServable x c.args.node c.args.stage c.args.session (turn.Extend c.args.node)) c.self.view_is (extends_first r s.lacking.items c.args.stage c.args.node c.args.session _ _ c.self.invariant.2 lacks decides)

pub returns-in_default : goal.returns-in_default
returns-in_default c =
    let s = c.self.inside in
    let r : Ran = record { script = data_of s.script; turns = s.turns.items } in
    let seen = c.view-view.ensures ∙ ap (λ w. view_of w (Session c.args.session)) c.self.invariant.0.state in
    let found = ap (λ view. lawful.stage_turn c.args.stage c.args.node c.args.session view) (sym seen) ∙ sym c.stage_turn.ensures ∙ c.in-Some-Decide.is in
    serves_there r c.args.self.now c.args.stage c.args.node c.args.session c.in-Some-Decide.field-0 c.self.view_is found

pub returns-in_default-2 : goal.returns-in_default-2
returns-in_default-2 c =
    let s = c.self.inside in
    let r : Ran = record { script = data_of s.script; turns = s.turns.items } in
    let seen = c.view-view.ensures ∙ ap (λ w. view_of w (Session c.args.session)) c.self.invariant.0.state in
    let found = ap (λ view. lawful.stage_turn c.args.stage c.args.node c.args.session view) (sym seen) ∙ sym c.in_default.ensures in
    serves_there r c.args.self.now c.args.stage c.args.node c.args.session _ c.self.view_is found

pub returns-in_default-3 : goal.returns-in_default-3
returns-in_default-3 c =
    let s = c.self.inside in
    let r : Ran = record { script = data_of s.script; turns = s.turns.items } in
    let seen = c.view-view.ensures ∙ ap (λ w. view_of w (Session c.args.session)) c.self.invariant.0.state in
    let found = ap (λ view. lawful.stage_turn c.args.stage c.args.node c.args.session view) (sym seen) ∙ sym c.stage_turn.ensures in
    subst (λ (x : Ran). MatchOption c.stage_turn.result (lawful.stage_turn c.args.stage c.args.node c.args.session (lawful.session_view (state_of x) c.args.session) ≡ None) (λ by. IsServable x c.args.node c.args.stage c.args.session by)) c.self.view_is (serves_found r c.args.stage c.args.node c.args.session c.stage_turn.result found)
