-- The lines of an actor that are not done.
use Rattle.std.specs.Prelude.{◌≡◌, List, drop}
use Rattle.std.specs.List.{filter}
use Rattle.history_book.specs.declared.item.Actor.{Actor}
use Rattle.thread_steps.specs.Done.{Done, is_same}
use Rattle.script_data.specs.declared.line.Line.{Line}
use Rattle.actor_threads.specs.declared.lines.LinesLeft.{LinesLeft}

-- those of an actor
abbrev pub own : Actor → List Line → List Line
own actor lines = filter (λ line. is_same line.actor actor) lines

-- those that are left
abbrev pub own_left : LinesLeft → List Line
own_left left = own left.actor (drop left.from left.lines.now)

-- what is left is what the share has not counted
pub record AreLeft (lines : List Line) (mine : Done) (left : LinesLeft) : Type 0 where
  pub actor : left.actor ≡ mine.actor
  pub rest : own_left left ≡ drop mine.amount (own mine.actor lines)
