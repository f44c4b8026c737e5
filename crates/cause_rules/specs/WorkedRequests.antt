-- Short histories of what a session is told of its own request: lost, waiting, or not taken on.
use Rattle.std.specs.Prelude.{ℕ, List, [], ◌∷◌, ◌++◌, None, Some}
use Rattle.stamp_base.specs.SetupNumbers.{SetupNumbers, default_numbers}
use Rattle.history_book.specs.declared.cause.Cause.TheVariants as cause
use Rattle.history_book.specs.declared.item.Actor.TheVariants.{Session}
use Rattle.history_book.specs.declared.item.Item.{Item}
use Rattle.history_book.specs.declared.item.Item.TheVariants.{Take, AskBegin, AskCommit, Accept, Draw, Begin, Placed, Committed, Refused, Vanish, Step}
use Rattle.history_book.specs.declared.item.StoreStep.TheVariants.{Handed}
use Rattle.cause_rules.specs.WorkedHistories.{told, told_between}

-- ---- a begin that is lost
-- a begin is asked of the node 0, with what comes before the ask and after it; the session is told of a node and of a term
abbrev pub before_crashed : List Item → List Item → List Item
before_crashed first last = first ++ AskBegin 0 0 ∷ last

abbrev pub crashed_told : List Item → List Item → ℕ → ℕ → List Item
crashed_told first last node term = told (before_crashed first last) (Session 0) (cause.Crashed node term)

-- ---- a begin that waits
-- the commit 2 of the transaction 1 is drawn in a term; a begin is accepted in the term 1, and a start is drawn for it; a
-- commit is placed; the begin is told of a commit
pub record Waiting : Type 0 where
  pub drawn_in : ℕ
  pub start : ℕ
  pub placed : ℕ
  pub commit : ℕ

abbrev pub waiting : Waiting
waiting = record { drawn_in = 1; start = 6; placed = 4; commit = 2 }

abbrev pub before_not_yet : Waiting → List Item
before_not_yet c =
    Draw 0 0 c.drawn_in 1 (Some 2) ∷ AskBegin 1 0 ∷ Accept 1 0 1 0 ∷ Draw 1 0 1 c.start None ∷ Placed 3 c.placed ∷ []

abbrev pub not_yet_told : Waiting → List Item
not_yet_told c = told (before_not_yet c) (Session 1) (cause.NotYet c.commit)

-- the begin was not asked for
abbrev pub before_not_yet_unasked : List Item
before_not_yet_unasked = Draw 0 0 1 1 (Some 2) ∷ Accept 1 0 1 0 ∷ Draw 1 0 1 3 None ∷ []

abbrev pub not_yet_told_unasked : List Item
not_yet_told_unasked = told before_not_yet_unasked (Session 1) (cause.NotYet 2)

-- ---- a node that is full
-- a node holds two requests
abbrev pub two_slots : SetupNumbers
two_slots = record default_numbers { slots = 2 }

-- the node 0 takes; a begin is asked of it and a commit of a node, and then comes more; a third session is told of a number of
-- requests
abbrev pub before_full : ℕ → List Item → List Item
before_full node later = Take 0 0 1 0 10 100 ∷ AskBegin 0 0 ∷ AskCommit 1 node 1 ∷ later

abbrev pub full_told : ℕ → List Item → ℕ → List Item
full_told node later in_flight = told (before_full node later) (Session 2) (cause.Full in_flight)

-- the begin is answered or refused for good, the commit is answered or handed over, or another session asks
abbrev pub begun : List Item
begun = Begin 0 2 ∷ []

abbrev pub begin_refused : List Item
begin_refused = Refused (Session 0) (cause.Expired 10 10) ∷ []

abbrev pub committed : List Item
committed = Placed 1 2 ∷ Committed 1 1 2 ∷ []

abbrev pub handed : List Item
handed = Step (Session 1) (Handed 1 2) ∷ []

abbrev pub asked : List Item
asked = AskBegin 3 0 ∷ []

-- ---- a session that is gone
-- a session vanishes, and the session 0 is told that it is gone
abbrev pub vanished : ℕ → List Item
vanished session = Vanish session ∷ []

abbrev pub gone_told : ℕ → List Item
gone_told session = told (vanished session) (Session 0) cause.Gone

-- the session 0 is told so before it vanishes
abbrev pub vanishes_later : List Item
vanishes_later = told_between [] (Session 0) cause.Gone (vanished 0)
