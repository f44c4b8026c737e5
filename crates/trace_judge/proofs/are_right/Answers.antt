use Rattle.std.proofs.Common.{length, rules}
use Rattle.trace_rules.specs.declared.wanted.Level.TheVariants.{Snapshot, Serializable}
use Rattle.outer_reads.specs.Sources.{trace_of}
use Rattle.asked_orders.specs.Keeps.{stamping_of}
use Rattle.version_ranks.specs.Ranks.{asked_with}
use Rattle.trace_judge.proofs.JudgeLemmas.{keeps_with, stamps_at}
use Rattle.trace_judge.proofs.are_right.Goals as goal

pub returns-in-Snapshot : goal.returns-in-Snapshot
returns-in-Snapshot c = λ go operations known.
    stamps_at c.args.level Snapshot (asked_with c.args.wanted c.args.level c.args.times.now c.args.ranks.now (trace_of c.args.transactions.now operations)) (trace_of c.args.transactions.now operations) c.args.numbers.now c.in-Snapshot.is
    (c.are_stamps.ensures go operations known)
    (keeps_with c.args.wanted c.args.level c.args.times.now c.args.ranks.now (trace_of c.args.transactions.now operations) (stamping_of c.args.level (length c.args.transactions.now) c.args.numbers.now) (c.keep_ranks.ensures (search rules)) (c.keep_asked.ensures (search rules) operations))

pub returns-in-Serializable : goal.returns-in-Serializable
returns-in-Serializable c = λ go operations known.
    stamps_at c.args.level Serializable (asked_with c.args.wanted c.args.level c.args.times.now c.args.ranks.now (trace_of c.args.transactions.now operations)) (trace_of c.args.transactions.now operations) c.args.numbers.now c.in-Serializable.is
    (c.are_serial.ensures go (trace_of c.args.transactions.now operations) known)
    (keeps_with c.args.wanted c.args.level c.args.times.now c.args.ranks.now (trace_of c.args.transactions.now operations) (stamping_of c.args.level (length c.args.transactions.now) c.args.numbers.now) (c.keep_ranks.ensures (search rules)) (c.keep_asked.ensures (search rules) operations))
