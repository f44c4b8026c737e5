use Rattle.machine.specs.StoreSteps.{store_of}
use Rattle.machine.specs.Events.Step.{work_of}
use Rattle.session_events.proofs.WorkSteps.{Asking, step_heard}
use Rattle.session_events.proofs.stepping.step_asked.Goals as goal

pub returns-in-Ok-clause-made : goal.returns-in-Ok-clause-made
returns-in-Ok-clause-made g c =
    let x : Asking = record { session = c.args.session; fate = g.W.Weather.ahead c.args.weather.now (store_of c.args.ask.now) 0; client = c.args.client.now; rows = c.args.cells.now.rows; pairs = c.args.table.now.pairs; work = work_of c.args.client.now; asked = c.args.ask.now } in
    step_heard x (record { ready = _; client = _; rows = _; pairs = _ }) _ _ _ _ (record { next = c.requires.next; met = rw c.in_ok-make_room.ensures.pairs at c.in-Ok.ensures.met; ready = c.in_ok-make_ready.ensures.client; work = c.in_ok-make_ready.ensures.work }) c.told.ensures.client c.told.ensures.items
