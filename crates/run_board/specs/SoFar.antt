-- What holds of a play at every moment.
use Rattle.std.specs.Prelude.{◌≡◌, Some}
use Rattle.history_book.specs.declared.item.Actor.{Actor}
use Rattle.turn_rules.specs.declared.seat.Seat.{Seat}
use Rattle.turn_rules.specs.Carried.{seat_of}
use Rattle.turn_rules.specs.Laws.{IsAnsweredSoFar}
use Rattle.run_board.specs.Run.{Ran, reached_by}

-- each actor's lines are answered as far as its seat has come, and a read that is under way is owed
abbrev pub AreAnsweredSoFar : Ran → Type 0
AreAnsweredSoFar r = (actor : Actor) (seat : Seat) → seat_of (reached_by r).seats actor ≡ Some seat → IsAnsweredSoFar r.script (reached_by r) seat
