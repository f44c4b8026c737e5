use Rattle.session_events.proofs.SweepSteps.{sweep_heard}
use Rattle.session_events.proofs.sweeping.meet_in_room.Goals as goal

pub returns-in-Ok-clause-made : goal.returns-in-Ok-clause-made
returns-in-Ok-clause-made g c =
    sweep_heard c.args.sweep.now _ _ _ _ _ _ _ _ _ _ _ c.in-Ok.ensures.met c.take_answer.ensures.sweep c.take_answer.ensures.items c.take_answer.ensures.answer
