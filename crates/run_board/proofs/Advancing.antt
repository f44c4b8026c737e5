-- An actor's step that memory was not refused for counts the lines that were passed.
use Rattle.run_board.proofs.Names.{◌≡◌, refl, Done, Advance, Played, Counts}
use Rattle.run_board.specs.declared.answers.Advance.TheVariants as advance
use Rattle.run_board.specs.Steps as steps
use Rattle.run_board.specs.Playing.{Advances}

pub advances : (old new : Played) (mine now : Done) (answer : Advance) → (answer ≡ advance.NoMemory → ⊥) → steps.Advances old.ran mine.actor mine.aim answer new.ran → Counts old new mine now → Advances old mine answer new now
advances old new mine now (advance.Did asked) some made counts = (made, counts)
advances old new mine now (advance.Waits why) some made counts = (made, counts)
advances old new mine now advance.Ended some made counts = (made, counts)
advances old new mine now advance.NoMemory some made counts = absurd (some refl)
