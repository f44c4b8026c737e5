-- Lists of pairs that were published, each a term and the node that took it.
use Rattle.std.specs.Prelude.{◌≡◌, ℕ, Bool, true, ◌&&◌, nat_lt, if◌then◌else◌, List, [], ◌∷◌, length, take, Option, None, Some}
use Rattle.std.specs.List.{last_or}
use Rattle.master_beacon.specs.declared.rule.Announced.{Announced}

abbrev pub announced : ℕ → ℕ → Announced
announced term node = record { term = term; node = node }

abbrev pub last_of : List Announced → Option Announced
last_of list = last_or None list

-- 0 stands for the term where there is no pair
abbrev pub term_of : Option Announced → ℕ
term_of None = 0
term_of (Some pair) = pair.term

abbrev pub last_term : List Announced → ℕ
last_term list = term_of (last_of list)

-- whether each term is above the one before it, and the first is above low
abbrev pub rises_above : ℕ → List Announced → Bool
rises_above low [] = true
rises_above low (pair ∷ pairs) = nat_lt low pair.term && rises_above pair.term pairs

abbrev pub IsRising : List Announced → Type 0
IsRising list = rises_above 0 list ≡ true

-- the first list is a front of the second
abbrev pub IsFrontOf : List Announced → List Announced → Type 0
IsFrontOf front whole = front ≡ take (length front) whole

abbrev pub longer : List Announced → List Announced → List Announced
longer mine theirs = if nat_lt (length mine) (length theirs) then theirs else mine
