use Rattle.session_events.proofs.stepping.step.Goals as goal

pub returns-in-Some-clause-made : goal.returns-in-Some-clause-made
returns-in-Some-clause-made g c = c.place.ensures.made c.args.cells.now.rows
