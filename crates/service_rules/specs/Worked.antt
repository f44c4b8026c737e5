-- Small histories that are, and that are not, as users rely on.
use Rattle.std.specs.Prelude.{ℕ, List, [], ◌∷◌, None, Some}
use Rattle.history_book.specs.declared.cause.Cause.{Cause}
use Rattle.history_book.specs.declared.cause.Cause.TheVariants as cause
use Rattle.history_book.specs.declared.item.Actor.TheVariants.{Session}
use Rattle.history_book.specs.declared.item.Ending.TheVariants.{Aborted}
use Rattle.history_book.specs.declared.item.Item.{Item}
use Rattle.history_book.specs.declared.item.Item.TheVariants.{AskBegin, AskCommit, Draw, Begin, Write, Read, Placed, Committed, End, Refused}

-- ---- told outcomes
-- the commit is told once it is placed, and before
abbrev pub placed_then_told : List Item
placed_then_told = AskCommit 0 0 1 ∷ Placed 1 2 ∷ Committed 0 1 2 ∷ []

abbrev pub told_then_placed : List Item
told_then_placed = AskCommit 0 0 1 ∷ Committed 0 1 2 ∷ Placed 1 2 ∷ []

-- the session asks for the commit of its transaction, is refused, and then the commit is placed
abbrev pub refused_then_placed : Cause → List Item
refused_then_placed why = AskCommit 0 0 1 ∷ Refused (Session 0) why ∷ Placed 1 2 ∷ []

-- the other way round
abbrev pub placed_then_refused : Cause → List Item
placed_then_refused why = AskCommit 0 0 1 ∷ Placed 1 2 ∷ Refused (Session 0) why ∷ []

-- another transaction is placed
abbrev pub refused_begin : List Item
refused_begin = AskCommit 0 0 1 ∷ Placed 1 2 ∷ Committed 0 1 2 ∷ AskBegin 0 0 ∷ Refused (Session 0) (cause.Expired 5 5) ∷ []

-- a transaction ends, and is placed all the same
abbrev pub ended_then_placed : List Item
ended_then_placed = Begin 0 1 ∷ End 0 1 Aborted ∷ Placed 1 2 ∷ []

-- ---- stamps
-- a start is told, then another session asks, and this one is drawn for it
abbrev pub told_then_drawn : ℕ → List Item
told_then_drawn start = Begin 0 3 ∷ AskBegin 1 0 ∷ Draw 1 0 1 start None ∷ []

-- the other session asked before
abbrev pub asked_then_told : ℕ → List Item
asked_then_told start = AskBegin 1 0 ∷ Begin 0 3 ∷ Draw 1 0 1 start None ∷ []

-- it is told this start
abbrev pub told_then_begun : ℕ → List Item
told_then_begun start = Begin 0 3 ∷ AskBegin 1 0 ∷ Begin 1 start ∷ []

-- a commit is drawn for an ask that came behind a start that was told
abbrev pub commit_behind_start : ℕ → List Item
commit_behind_start commit = Begin 0 3 ∷ AskCommit 1 0 1 ∷ Draw 1 0 1 1 (Some commit) ∷ []

-- ---- one copy
-- a key is read, another transaction writes it and commits, and then the reader may
abbrev pub p : List ℕ
p = 112 ∷ []

abbrev pub crossed_read : List Item → List Item
crossed_read rest = Read 1 2 0 None ∷ Write 0 1 0 p ∷ Placed 1 3 ∷ rest

abbrev pub reader_commits : List Item
reader_commits = crossed_read (Placed 2 4 ∷ [])

abbrev pub reader_ends : List Item
reader_ends = crossed_read []
