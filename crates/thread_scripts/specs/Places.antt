-- How many lines of an actor are passed.
use Rattle.std.specs.Prelude.{ℕ, Option, None, Some}
use Rattle.turn_rules.specs.declared.seat.Seat.{Seat}

-- as many as its seat has come past; none where it has no seat
abbrev pub place_in : Option Seat → ℕ
place_in None = 0
place_in (Some seat) = seat.place
