use Rattle.session_events.proofs.healing.heal.Goals as goal

pub returns-in-Some-clause-made : goal.returns-in-Some-clause-made
returns-in-Some-clause-made g c = λ pairs. rw (← c.in-Some.ensures) (c.heal_offered.ensures.made pairs)
