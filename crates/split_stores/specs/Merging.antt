-- The logs of all seats as one list, in the order of the ticks.
use Rattle.std.specs.Prelude.{◌≡◌, ℕ, List, [], flat_map, length, Option, None, Some}
use Rattle.std.specs.List.Sorted.{IsPermutation}
use Rattle.atomic_table.specs.Seated.{TableId}
use Rattle.tick_word.specs.Rule.{ticks_to}
use Rattle.tick_word.specs.Seats.{Seated}
use Rattle.split_stores.specs.declared.seat.Entry.{Entry}
use Rattle.split_stores.specs.Logs.{Logged, ticks_of}

-- the entries of all logs, log by log
abbrev pub logs_of : List Logged → List Entry
logs_of logs = flat_map (λ log. log.entries) logs

-- these are the entries of all logs, in the order of their ticks, which are those from 1 on, each once
pub record InTickOrder (entries merged : List Entry) : Type 0 where
  pub all : IsPermutation entries merged
  pub ticks : ticks_of merged ≡ ticks_to (length merged)

-- ---- seats that are joined one by one
abbrev pub drawn_by : Option Seated → List ℕ
drawn_by None = []
drawn_by (Some seat) = seat.drawn

abbrev pub parts_by : Option Seated → ℕ
parts_by None = 0
parts_by (Some seat) = seat.parts

abbrev pub IsOf : TableId → Option Seated → Type 0
IsOf word None = Unit {0}
IsOf word (Some seat) = seat.word ≡ word
