use Rattle.std.proofs.Common.{◌<◌, length, get_or, arith}
use Rattle.std.proofs.lemmas.Option.{slice_get-get_or}
use Rattle.trace_rules.specs.declared.trace.Operation.TheVariants.{Write}
use Rattle.outer_reads.specs.Sources.{trace_of}
use Rattle.outer_reads.proofs.ReadLemmas.{writings_on, all_written}
use Rattle.outer_reads.proofs.writings.writings_of.Goals as goal

pub loop-place-preserved : goal.loop-place-preserved
loop-place-preserved c =
    let less : c.loop-place.place < length c.args.operations.now = omega (arith, c.loop-place-test.true) in
    let at = slice_get-get_or c.args.operations.now c.loop-place.place (Write 0 0 0) less in
    writings_on (trace_of c.args.transactions.now c.args.operations.now) c.loop-place.place (get_or c.args.operations.now c.loop-place.place (Write 0 0 0)) c.loop-place.writings.items c.add.new.writings.items c.writing_at-found.result at
    (c.writing_at-found.ensures (get_or c.args.operations.now c.loop-place.place (Write 0 0 0)) at) c.in_ok-add.ensures c.loop-place.invariant

pub returns : goal.returns
returns c = all_written (trace_of c.args.transactions.now c.args.operations.now) c.loop-place.writings.items c.loop-place.place (omega (arith, c.loop-place-test.false)) c.loop-place.invariant
