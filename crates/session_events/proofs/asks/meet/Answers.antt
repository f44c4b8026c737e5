use Rattle.session_events.proofs.PlacedMarks.{failed_is_met, items_of_failure}
use Rattle.session_events.proofs.asks.meet.Goals as goal

pub returns-in-Err-clause-met : goal.returns-in-Err-clause-met
returns-in-Err-clause-met g c =
    failed_is_met _ _ _ _ _ _ _ _ _ c.in-Err.ensures.rows c.in-Err.ensures.pairs c.in-Err.ensures.answer
    (items_of_failure _ _ _ _ _ _ _ _ _ _ c.fail.ensures.items c.placed_item-made.ensures c.may_place-unmarked.ensures c.may_place-still_unmarked.ensures c.store_of.ensures)
