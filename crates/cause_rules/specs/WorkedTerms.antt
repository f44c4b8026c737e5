-- Short histories of what is told of a term: its epoch, its lease, its range, and the term after it.
use Rattle.std.specs.Prelude.{◌+◌, ℕ, ◌-◌, ◌^◌, List, [], ◌∷◌, None, Some}
use Rattle.history_book.specs.declared.cause.Cause.TheVariants as cause
use Rattle.history_book.specs.declared.item.Actor.TheVariants.{Node, Session}
use Rattle.history_book.specs.declared.item.Item.{Item}
use Rattle.history_book.specs.declared.item.Item.TheVariants.{Take, Renew, Extend, AskBegin, AskCommit, Accept, Draw, Crash}
use Rattle.cause_rules.specs.WorkedHistories.{told}

-- ---- the epoch of the node's last take
-- the node 0 takes the terms 1 and 2, with the epochs 50 and 100, and the node 1 a later one with the epoch 200; a transaction
-- asks the node 0 to commit, and is told of a start and of an epoch
abbrev pub before_old : ℕ → List Item
before_old start = Take 0 0 1 50 10 100 ∷ Crash 0 1 ∷ Take 0 12 2 100 22 200 ∷ Take 1 24 3 200 34 300 ∷ AskCommit 0 0 start ∷ []

abbrev pub old_told : ℕ → ℕ → ℕ → List Item
old_told asked start epoch = told (before_old asked) (Session 0) (cause.OldEpoch start epoch)

-- ---- the end of the node's lease
-- the node 0 takes and renews, crashes, takes again until 30 and renews until 35; the node 1 takes until 50 and renews until
-- 55; a begin is asked of the node 0, and told of a reading and of an end
abbrev pub before_expired : List Item
before_expired =
    Take 0 0 1 0 10 100 ∷ Renew 0 5 1 15 ∷ Crash 0 1
    ∷ Take 0 20 2 100 30 200 ∷ Renew 0 25 2 35
    ∷ Take 1 40 3 200 50 300 ∷ Renew 1 45 3 55
    ∷ AskBegin 0 0 ∷ []

abbrev pub expired_told : ℕ → ℕ → List Item
expired_told reading until = told before_expired (Session 0) (cause.Expired reading until)

-- ---- a later term
abbrev pub two_takes : List Item
two_takes = Take 0 0 1 0 10 100 ∷ Take 1 12 2 100 22 200 ∷ []

-- the node 0 takes the term 1 and the node 1 the term 2; a commit is accepted in a term, and told of one
abbrev pub before_replaced : ℕ → List Item
before_replaced accepted_in = Take 0 0 1 0 10 100 ∷ Take 1 12 2 100 22 200 ∷ AskCommit 0 0 1 ∷ Accept 0 0 accepted_in 0 ∷ []

abbrev pub replaced_told : ℕ → ℕ → List Item
replaced_told accepted_in found = told (before_replaced accepted_in) (Session 0) (cause.Replaced found)

-- it is accepted in the term 1, and was not asked for
abbrev pub before_replaced_unasked : List Item
before_replaced_unasked = Take 0 0 1 0 10 100 ∷ Take 1 12 2 100 22 200 ∷ Accept 0 0 1 0 ∷ []

abbrev pub replaced_told_unasked : List Item
replaced_told_unasked = told before_replaced_unasked (Session 0) (cause.Replaced 2)

-- after the same takes a node is told of a term
abbrev pub overtaken_told : ℕ → ℕ → List Item
overtaken_told node found = told two_takes (Node node) (cause.Replaced found)

-- ---- the end of the range
-- a node takes a term with a ceiling, and the stamps 1 and 2 are drawn in a term, one as a start and one as a commit; a begin
-- is accepted in the term 1, and told of a last stamp
pub record Drawn : Type 0 where
  pub taken : ℕ
  pub ceiling : ℕ
  pub drawn_in : ℕ
  pub last : ℕ

abbrev pub drawn_out : Drawn
drawn_out = record { taken = 1; ceiling = 2; drawn_in = 1; last = 2 }

abbrev pub before_no_stamp : Drawn → List Item
before_no_stamp c =
    Take 0 0 c.taken 0 10 c.ceiling ∷ Draw 0 0 c.drawn_in 1 None ∷ Draw 0 0 c.drawn_in 1 (Some 2)
    ∷ AskBegin 2 0 ∷ Accept 2 0 1 0 ∷ []

abbrev pub no_stamp_told : Drawn → List Item
no_stamp_told c = told (before_no_stamp c) (Session 2) (cause.NoStamp c.last)

-- the begin was not asked for
abbrev pub before_no_stamp_unasked : List Item
before_no_stamp_unasked = Take 0 0 1 0 10 2 ∷ Draw 0 0 1 1 None ∷ Draw 0 0 1 1 (Some 2) ∷ Accept 2 0 1 0 ∷ []

abbrev pub no_stamp_told_unasked : List Item
no_stamp_told_unasked = told before_no_stamp_unasked (Session 2) (cause.NoStamp 2)

-- ---- the end of all stamps
-- the greatest ceiling that leaves room for a further range of 100 stamps
abbrev pub last_room : ℕ
last_room = 2 ^ 62 - 100

-- a node takes with a ceiling, and is told of one
abbrev pub spent_told : ℕ → ℕ → List Item
spent_told ceiling spent = told (Take 0 0 1 0 10 ceiling ∷ []) (Node 0) (cause.Spent spent)

-- an extension gave the ceiling, and a session that asked is told of it
abbrev pub spent_told_after_extension : ℕ → List Item
spent_told_after_extension ceiling = told (Take 0 0 1 0 10 100 ∷ Extend 0 1 ceiling ∷ AskBegin 0 0 ∷ []) (Session 0) (cause.Spent ceiling)

-- it is told so without having asked
abbrev pub before_spent_unasked : List Item
before_spent_unasked = Take 0 0 1 0 10 100 ∷ Extend 0 1 (last_room + 1) ∷ []

abbrev pub spent_told_unasked : List Item
spent_told_unasked = told before_spent_unasked (Session 0) (cause.Spent (last_room + 1))
