-- A commit that was placed before a begin was asked for, and is not below the begin's start.
use Rattle.std.specs.Prelude.{ℕ, ◌<◌, ◌≤◌, List, length, take, slice_get, IsSomeAnd}
use Rattle.history_book.specs.Isolation.{before_ask}
use Rattle.history_book.specs.declared.item.Item.{Item}
use Rattle.history_book.specs.declared.item.Item.TheVariants.{Begin, Placed}

-- the place of the ask of the session's begin at the place j: of its last ask before j, and j itself
-- where there is none
abbrev pub ask_place : List Item → ℕ → ℕ → ℕ
ask_place h session j = length (before_ask session (take j h))

-- the place i stands before the ask of the begin at j, whose start is not above the commit
abbrev pub IsStaleAt : List Item → ℕ → ℕ → ℕ → Item → Type 0
IsStaleAt h i commit j (Begin session start) = (i < ask_place h session j) × (start ≤ commit)
IsStaleAt h i commit j _ = ⊥

abbrev pub IsStale : List Item → ℕ → Item → ℕ → Item → Type 0
IsStale h i (Placed start commit) j other = IsStaleAt h i commit j other
IsStale h i _ j other = ⊥

-- the item at the place i is a commit that the begin at the place j should have been above
abbrev pub BreaksFresh : List Item → ℕ → ℕ → Type 0
BreaksFresh h i j = IsSomeAnd (slice_get h i) (λ x. IsSomeAnd (slice_get h j) (λ y. IsStale h i x j y))
