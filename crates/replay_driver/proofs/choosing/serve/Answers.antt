use Rattle.machine.specs.declared.event.Event.TheVariants.{Accept}
use Rattle.replay_driver.proofs.Chosen.{accept_next}
use Rattle.replay_driver.proofs.choosing.serve.Goals as goal

pub made-requires : goal.made-requires
made-requires c =
    c.requires.can.steady (Accept c.args.request.0 c.args.session c.reading_at-reading.result)
    (accept_next c.args.play.now c.args.leads.now c.args.line.now c.args.session c.args.request c.reading_at-reading.result c.requires.actor c.requires.request c.in-Asked.is c.requires.served c.reading_at-reading.ensures)
