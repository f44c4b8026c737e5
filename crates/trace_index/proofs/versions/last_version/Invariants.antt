use Rattle.std.proofs.Common.{◌≡◌, None, drop}
use Rattle.trace_index.specs.Versions.{last_version}
use Rattle.trace_index.proofs.versions.last_version.Given as goal

abbrev pub invariant-loop-value : goal.invariant-loop-value
invariant-loop-value l = last_version l.writers l.txn l.member l.key l.found (drop l.value-index l.values) ≡ last_version l.writers l.txn l.member l.key None l.values
