use Rattle.run_board.proofs.Names.{ℕ, List, Bool, Option, Some, ◌∙◌, sym, ap, Line, clocks, view_of, data_of}
use Rattle.run_board.proofs.Names.{aimed_node, aimed_clocks, ahead_at, name_posted, own_next, Ran, reached_by}
use Rattle.run_board.proofs.run.ScriptRun.ahead_at.Goals as goal

pub returns-in-Some : goal.returns-in-Some
returns-in-Some c =
    let s = c.self.inside in
    let r : Ran = record { script = data_of s.script; turns = s.turns.items } in
    let line = c.in-Some.line in
    let seat = c.args.seat.now in
    let posted = c.name_posted.ensures ∙ ap (λ (x : Ran). name_posted (reached_by x).names line.verb) (sym c.self.view_is) in
    let view = c.view.ensures ∙ ap (λ w. view_of w seat.actor) c.self.invariant.0.state in
    let aimed = c.aimed.ensures ∙ ap (λ (x : Ran). aimed_node (reached_by x).played.items c.args.aim) (sym c.self.view_is) in
    c.own_event.ensures
    ∙ ap (λ (base : ℕ). own_next (clocks base c.as_slice.result.now c.aimed.result) c.name_posted.result line.actor line.verb seat.point c.view.result seat.unawaited) c.self.invariant.0.time
    ∙ ap (λ (leads : List ℕ). own_next (clocks (reached_by r).played.clock leads c.aimed.result) c.name_posted.result line.actor line.verb seat.point c.view.result seat.unawaited) c.as_slice.ensures.value
    ∙ ap (λ (n : ℕ). own_next (clocks (reached_by r).played.clock r.script.leads n) c.name_posted.result line.actor line.verb seat.point c.view.result seat.unawaited) aimed
    ∙ ap (λ (p : Bool). own_next (aimed_clocks r.script (reached_by r) c.args.aim) p line.actor line.verb seat.point c.view.result seat.unawaited) posted
    ∙ ap (λ v. own_next (aimed_clocks r.script (reached_by r) c.args.aim) (name_posted (reached_by r).names line.verb) line.actor line.verb seat.point v seat.unawaited) view
    ∙ ap (λ (x : Ran). ahead_at x.script (reached_by x) seat (Some line) c.args.aim) c.self.view_is
    ∙ ap (λ (l : Option Line). ahead_at c.args.self.now.script (reached_by c.args.self.now) seat l c.args.aim) (sym c.in-Some.is)
