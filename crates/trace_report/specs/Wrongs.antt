-- The names of wrong reads.
use Rattle.std.specs.Prelude.{ℕ, Bool, true, false, List, Option, None, Some, codes, slice_get, take}
use Rattle.trace_rules.specs.declared.trace.Version.{Version}
use Rattle.trace_rules.specs.declared.trace.Operation.{Operation}
use Rattle.trace_rules.specs.declared.trace.Operation.TheVariants.{Read, Write}
use Rattle.trace_rules.specs.Trace.{Trace, committed_in, last_of}
use Rattle.trace_report.specs.declared.wrong.Wrong.{Wrong}
use Rattle.trace_report.specs.declared.wrong.Wrong.TheVariants.{Dirty, Intermediate, NotOwn}

-- by what the reader had written there itself, and whether the writer of what it found counts as committed
abbrev pub wrong_by : Option ℕ → Bool → Wrong
wrong_by (Some own) committed = NotOwn
wrong_by None true = Intermediate
wrong_by None false = Dirty

abbrev pub wrong_version : Trace → ℕ → ℕ → ℕ → Version → Wrong
wrong_version trace place txn key found = wrong_by (last_of (take place trace.operations) txn key) (committed_in (slice_get trace.transactions found.from))

abbrev pub wrong_of : Trace → ℕ → Operation → Wrong
wrong_of trace place (Read txn key (Some found)) = wrong_version trace place txn key found
wrong_of trace place (Read txn key None) = NotOwn
wrong_of trace place (Write txn key value) = NotOwn

abbrev pub wrong_in : Trace → ℕ → Option Operation → Wrong
wrong_in trace place None = NotOwn
wrong_in trace place (Some operation) = wrong_of trace place operation

-- of the read at this place, where something is wrong with it
abbrev pub wrong_at : Trace → ℕ → Wrong
wrong_at trace place = wrong_in trace place (slice_get trace.operations place)

abbrev pub wrong_name : Wrong → List ℕ
wrong_name Dirty = codes "dirty read (G1a)"
wrong_name Intermediate = codes "intermediate read (G1b)"
wrong_name NotOwn = codes "own write not read"
