-- A small trace with lists.
use Rattle.std.specs.Prelude.{ℕ, suc, ◌+◌, true, [], ◌∷◌, Some}
use Rattle.trace_rules.specs.declared.trace.Operation.TheVariants.{Read, Write}
use Rattle.trace_rules.specs.Trace.{Trace}
use Rattle.trace_rules.specs.Stamping.{Stamping}

-- two append to a key, and a third reads it
abbrev pub appended : Trace
appended = record {
  transactions = record { process = 0; committed = true } ∷ record { process = 1; committed = true } ∷ record { process = 2; committed = true } ∷ [];
  operations = Write 0 7 1 ∷ Write 1 7 2 ∷ Read 2 7 (Some (record { from = 1; value = 2 })) ∷ [];
}

-- one after another
abbrev pub in_turn : Stamping
in_turn = record { start = λ t. t + t; commit = λ t. suc (t + t) }
