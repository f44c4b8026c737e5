-- The last item, from a place on, that is what a clue asks for.
use Rattle.std.specs.Prelude.{ℕ, zero, suc, ◌+◌, ◌-◌, Bool, false, if◌then◌else◌, List, Option, None, Some, length, slice_get}
use Rattle.history_book.specs.declared.item.Item.{Item}
use Rattle.refusal_reasons.specs.declared.clue.Clue.{Clue}
use Rattle.refusal_reasons.specs.Clues.{fits}

abbrev pub passes : (Item → Bool) → Option Item → Bool
passes test None = false
passes test (Some x) = test x

-- of so many places from one on, the last whose item passes the test
unfoldable pub last_in : (Item → Bool) → List Item → ℕ → ℕ → Option ℕ
last_in test h from zero = None
last_in test h from (suc n) = if passes test (slice_get h (from + n)) then Some (from + n) else last_in test h from n

abbrev pub last_place : (Item → Bool) → List Item → ℕ → Option ℕ
last_place test h from = last_in test h from (length h - from)

abbrev pub seek : List Item → ℕ → Clue → Option ℕ
seek h from clue = last_place (fits clue) h from

-- the place behind one, and the first where there is none
abbrev pub behind : Option ℕ → ℕ
behind None = 0
behind (Some place) = suc place
