use Rattle.session_events.proofs.OwnPlacings.{placing_step}
use Rattle.session_events.proofs.placing.place.Goals as goal

pub returns-clause-made : goal.returns-clause-made
returns-clause-made g c = λ rows. placing_step _ _ _ _ _ _ _ _ _ _ _ _ (c.place_record.ensures.made rows) c.requires
