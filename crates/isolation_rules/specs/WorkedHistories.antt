-- Small histories that are, and that are not, what isolation asks for.
use Rattle.std.specs.Prelude.{ℕ, List, [], ◌∷◌, Option, None, Some}
use Rattle.history_book.specs.declared.item.Actor.TheVariants.{Janitor}
use Rattle.history_book.specs.declared.item.Found.{Found}
use Rattle.history_book.specs.declared.item.Item.{Item}
use Rattle.history_book.specs.declared.item.Item.TheVariants.{AskBegin, Begin, Write, Read, Placed, Step}
use Rattle.history_book.specs.declared.item.StoreStep.TheVariants.{Keys}

-- two values of one letter
abbrev pub p : List ℕ
p = 112 ∷ []

abbrev pub q : List ℕ
q = 113 ∷ []

-- both writers of the key committed, though neither committed below the other's start
abbrev pub both_committed : List Item
both_committed = Write 0 1 0 p ∷ Write 1 2 0 q ∷ Placed 1 3 ∷ Placed 2 4 ∷ []

-- the transaction with the start 4 reads the key, and a commit below its start is placed later
abbrev pub read_of : Option Found → List Item
read_of answer = Write 0 1 0 p ∷ Read 1 4 0 answer ∷ Placed 1 3 ∷ []

abbrev pub from_first : Found
from_first = record { from = 1; value = p }

-- The transaction with the start 3 reads the key that it wrote, where a version of another is visible to it. In the
-- second history a sweep lists its keys before it reads.
abbrev pub unlisted_read : Found → List Item
unlisted_read answer = Write 0 1 0 p ∷ Placed 1 2 ∷ Write 1 3 0 q ∷ Read 1 3 0 (Some answer) ∷ []

abbrev pub listed_read : Found → List Item
listed_read answer = Write 0 1 0 p ∷ Placed 1 2 ∷ Write 1 3 0 q ∷ Step Janitor (Keys 3 1) ∷ Read 1 3 0 (Some answer) ∷ []

abbrev pub own_write : Found
own_write = record { from = 3; value = q }

-- a begin below a commit that was placed before its ask, and one whose ask came first
abbrev pub stale_begin : List Item
stale_begin = Placed 1 3 ∷ AskBegin 1 0 ∷ Begin 1 2 ∷ []

abbrev pub asked_before : List Item
asked_before = AskBegin 1 0 ∷ Placed 1 3 ∷ Begin 1 2 ∷ []

-- stamps that stand for two things
abbrev pub one_commit_of_two : List Item
one_commit_of_two = Placed 1 3 ∷ Placed 2 3 ∷ []

abbrev pub one_start_of_two : List Item
one_start_of_two = Begin 0 1 ∷ Begin 1 1 ∷ []

abbrev pub start_as_commit : List Item
start_as_commit = Begin 0 3 ∷ Placed 1 3 ∷ []

-- the transaction with the start 3 commits with this stamp
abbrev pub commit_of_three : ℕ → List Item
commit_of_three commit = Placed 3 commit ∷ []

-- each of two transactions reads the key that the other writes; the first commits at 3, and then these items follow
abbrev pub write_skew : List Item → List Item
write_skew rest = Begin 0 1 ∷ Begin 1 2 ∷ Read 0 1 0 None ∷ Write 0 1 1 p ∷ Read 1 2 1 None ∷ Write 1 2 0 q ∷ Placed 1 3 ∷ rest

-- the second commits at 4
abbrev pub both_of_skew : List Item
both_of_skew = write_skew (Placed 2 4 ∷ [])

-- the second does not commit
abbrev pub one_of_skew : List Item
one_of_skew = write_skew []

abbrev pub from_second : Found
from_second = record { from = 2; value = q }

-- the transaction with the start 2 reads a key that another writes, after or before it writes that key itself
abbrev pub write_then_read : List Item
write_then_read = Write 0 1 0 p ∷ Write 1 2 0 q ∷ Read 1 2 0 (Some from_second) ∷ Placed 1 3 ∷ Placed 2 4 ∷ []

abbrev pub read_then_write : List Item
read_then_write = Write 0 1 0 p ∷ Read 1 2 0 None ∷ Write 1 2 0 q ∷ Placed 1 3 ∷ Placed 2 4 ∷ []
