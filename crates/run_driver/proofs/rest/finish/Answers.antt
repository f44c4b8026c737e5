use Rattle.std.proofs.Common.{subst}
use Rattle.script_data.specs.Data.{ScriptData}
use Rattle.run_driver.specs.Runs.{RunsTo}
use Rattle.run_driver.proofs.rest.finish.Goals as goal

pub returns-in-Ok : goal.returns-in-Ok
returns-in-Ok g c = subst (λ (script : ScriptData). RunsTo script c.in-Ok.made.0.history c.in-Ok.made.1.items) c.loop.invariant (record {
  result = c.in-Ok.ensures.result;
  promise = record {
    isolated = c.in-Ok.ensures.isolated.0;
    serial = c.in-Ok.ensures.serial;
    explained = c.in-Ok.ensures.isolated.1;
    planned = c.in-Ok.ensures.planned;
    service = c.in-Ok.ensures.service;
  };
  answers = c.in-Ok.ensures.answered;
})
