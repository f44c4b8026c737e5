-- A read under way as its callers see it.
use Rattle.std.specs.Prelude.{ℕ, Bool, Option}
use Rattle.system_parts.specs.declared.known.Known.{Known}
use Rattle.system_parts.specs.declared.asks.Told.{Told}
use Rattle.system_parts.specs.declared.key_read.Next.{Next}
use Rattle.system_parts.specs.Resolve.{settle_turn}
use Rattle.system_parts.specs.KeyRead.{Reading, ReadTurn, settling_of, read_told, reading_left, next_reached, next_turned, is_recall}
use Rattle.system_parts.specs.Cache.{learnt_by}
use Rattle.system_parts.specs.Recalled.{read_recalled, next_recalled}

-- the reading is none once there is an answer; a cell that was just come to is recalled; the last step decided so much for good
pub record Run : Type 0 where
  pub reading : Option Reading
  pub recalls : Bool
  pub learnt : Option (ℕ × Known)

abbrev pub run_at : Option (ℕ × Known) → ReadTurn → Next → Run
run_at learnt turn next = record { reading = reading_left turn; recalls = is_recall next; learnt = learnt }

-- the read has come to a cell, or has its answer
abbrev pub run_reached : Option (ℕ × Known) → ReadTurn → Run
run_reached learnt turn = run_at learnt turn (next_reached turn)

-- after a recall
abbrev pub run_recalled : Option (ℕ × Known) → Reading → Option Known → Run
run_recalled learnt r known = run_at learnt (read_recalled r known) (next_recalled r known)

-- after a step on the stores
abbrev pub next_told : Reading → Told → Next
next_told r told = next_turned (settle_turn (settling_of r) told) (read_told r told)

abbrev pub run_told : Reading → Told → Run
run_told r told = run_at (learnt_by r told) (read_told r told) (next_told r told)
