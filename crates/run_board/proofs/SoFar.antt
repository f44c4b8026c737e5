-- Whatever turns were made so far, the lines that were passed are answered, and the plan is kept.
use Rattle.run_board.proofs.Names.{List, Cursor, playable_at_first, TurnsAnswerSoFar, TurnsArePlannedSoFar}
use Rattle.run_board.proofs.Names.{IsPlannedSoFar, Ran, reached_by, IsKept, AreAnsweredSoFar}

pub answered_so_far : (r : Ran) (cursors : List Cursor) → TurnsAnswerSoFar → IsKept r cursors → AreAnsweredSoFar r
answered_so_far r cursors law k = λ actor seat at. (law r.script r.turns actor seat k.sound.setup (playable_at_first r.script k.sound k.few) k.sessions at).1

pub planned_so_far : (r : Ran) (cursors : List Cursor) → TurnsArePlannedSoFar → IsKept r cursors → IsPlannedSoFar r.script (reached_by r)
planned_so_far r cursors law k = law r.script r.turns k.sound.setup (playable_at_first r.script k.sound k.few)
