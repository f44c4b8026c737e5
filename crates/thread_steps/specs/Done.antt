-- How many lines of each actor are done, as cursors and shares tell it.
use Rattle.std.specs.Prelude.{ℕ, ◌<◌, ◌^◌, Bool, true, false, ◌==◌, if◌then◌else◌, List, [], ◌∷◌, All, length, sum_by}
use Rattle.history_book.specs.declared.item.Actor.{Actor}
use Rattle.history_book.specs.declared.item.Actor.TheVariants.{Clock, Node, Session, Janitor}
use Rattle.thread_steps.specs.declared.cursor.Cursor.{Cursor}

-- what a share tells: its actor, how many lines were done through it, and at which node it is aimed
pub record Done : Type 0 where
  pub actor : Actor
  pub amount : ℕ
  pub aim : ℕ

abbrev pub fresh : Actor → Done
fresh actor = record { actor = actor; amount = 0; aim = 0 }

abbrev pub aimed_at : ℕ → Done → Done
aimed_at node share = record share { aim = node }

-- ---- cursors
abbrev pub first_cursor : Actor → Cursor
first_cursor actor = record { actor = actor; done = 0 }

-- the lines of all actors that are done
abbrev pub all_done : List Cursor → ℕ
all_done cursors = sum_by (λ cursor. cursor.done) cursors

-- the two are one actor
abbrev pub is_same : Actor → Actor → Bool
is_same Clock Clock = true
is_same (Node n) (Node m) = n == m
is_same (Session s) (Session t) = s == t
is_same Janitor Janitor = true
is_same _ _ = false

-- the actor's cursor has come up to this place
unfoldable pub caught_up : Actor → ℕ → List Cursor → List Cursor
caught_up actor place [] = []
caught_up actor place (cursor ∷ cursors) = if is_same cursor.actor actor then record cursor { done = place } ∷ cursors else cursor ∷ caught_up actor place cursors

-- so few that what they count in all is a number of 64 bits
pub record AreFew (cursors : List Cursor) : Type 0 where
  pub count : length cursors < 2 ^ 32
  pub each : All (λ cursor. cursor.done < 2 ^ 32) cursors

-- ---- parts
-- so many parts a ledger has for these actors; where there is none, one part is in no share
abbrev pub parts_for : List Actor → ℕ
parts_for [] = 1
parts_for actors = length actors
