-- What a refusal says of the state that it is made in: defined beside the outcomes of events, which are shown together with it.
pub use Rattle.machine.specs.Due.{Serves, DueVerdict, DueOldEpoch, DueExpired, DueStop, DueNoStamp, DueSettled, DueNotYet, DueFull, DueGone, DueNone, DueEarly, DueSpent, DueHolding, DueOvertaken, DueToSession, DueToNode, DueToJanitor, DueNow, cause_of_loss, IsRefusal, DueLoss, Places, MetMark, FailedToPlace, HowPlaced, DuePlacing, NeedsNoRow, Due, AreDue}
