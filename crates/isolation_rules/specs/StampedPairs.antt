-- Two items whose stamps meet, and a commit at or below its start.
use Rattle.std.specs.Prelude.{◌≡◌, ℕ, ◌<◌, ◌==◌, ◌||◌, Bool, true, false, List, ◌⊎◌, slice_get, IsSomeAnd, nat_le}
use Rattle.history_book.specs.declared.item.Item.{Item}
use Rattle.history_book.specs.declared.item.Item.TheVariants.{Begin, Placed}

-- a begin's start, and the stamps of another item that it may not share
abbrev pub start_meets : ℕ → Item → Bool
start_meets t (Begin session start) = t == start
start_meets t (Placed start commit) = t == commit
start_meets t _ = false

-- a placed start and commit, and the stamps of another item that they may not share
abbrev pub placed_meets : ℕ → ℕ → Item → Bool
placed_meets t c (Begin session start) = c == start
placed_meets t c (Placed start commit) = (t == start) || (c == commit)
placed_meets t c _ = false

-- two begins of one start; two placed items of one start or of one commit; a begin whose start is the
-- commit of a placed item, in either order
abbrev pub stamps_meet : Item → Item → Bool
stamps_meet (Begin session start) other = start_meets start other
stamps_meet (Placed start commit) other = placed_meets start commit other
stamps_meet _ other = false

-- a placed item whose start is not below its commit
abbrev pub commits_too_low : Item → Bool
commits_too_low (Placed start commit) = nat_le commit start
commits_too_low _ = false

-- The items at the places i and j have stamps that meet, or i and j are one item that commits at or
-- below its start. Places in a list count from 0 here; a verdict counts them from 1.
abbrev pub BreaksStamped : List Item → ℕ → ℕ → Type 0
BreaksStamped h i j =
    ((i ≡ j) × IsSomeAnd (slice_get h i) (λ x. commits_too_low x ≡ true))
    ⊎ ((i < j) × IsSomeAnd (slice_get h i) (λ x. IsSomeAnd (slice_get h j) (λ y. stamps_meet x y ≡ true)))
