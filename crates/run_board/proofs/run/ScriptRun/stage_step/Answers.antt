use Rattle.std.proofs.Common.{sym, ◌∙◌, rules}
use Rattle.run_board.proofs.Servable.{lacks_there}
use Rattle.run_board.proofs.Telling.{Served, serves}
use Rattle.run_board.proofs.run.ScriptRun.stage_step.Goals as goal

pub returns-clause-made : goal.returns-clause-made
returns-clause-made c =
    let k : Served c.args.self.now c.args.node c.args.term c.args.stage c.args.session c.in-Some.turn c.in-Some-event_of.event = record {
      free = sym c.is_held.ensures ∙ c.if-is_held.false;
      of_term = search rules;
      servable = c.in-Some.ensures;
      event = sym c.event_of.ensures ∙ c.in-Some-event_of.is;
    } in
    serves c.args.self.now c.serve.new.self c.args.node c.args.term c.args.stage c.args.session c.in-Some.turn c.in-Some-event_of.event c.serve.result k c.serve.ensures.made

pub returns-clause-memory : goal.returns-clause-memory
returns-clause-memory c = lacks_there c.args.self.now c.args.node c.args.session c.args.stage c.in-Some.turn c.serve.result c.in-Some.ensures c.serve.ensures.memory
