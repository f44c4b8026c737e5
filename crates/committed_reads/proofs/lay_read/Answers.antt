use Rattle.std.proofs.Common.{None, get_or}
use Rattle.std.proofs.lemmas.Option.{slice_get-get_or}
use Rattle.std.proofs.lemmas.Result.{on_ok_weaker}
use Rattle.outer_reads.specs.declared.readings.Reading.{Reading}
use Rattle.committed_reads.proofs.ReadLemmas.{nothing_read, read_pushed}
use Rattle.committed_reads.proofs.lay_read.Goals as goal

pub returns-in-None : goal.returns-in-None
returns-in-None c = λ laid.
    let r : Reading = get_or c.args.readings.now c.args.i (record { place = 0; txn = 0; key = 0; answer = None }) in
    nothing_read c.args.count c.args.i c.args.readings.now c.args.edges.now.items r (slice_get-get_or c.args.readings.now c.args.i (record { place = 0; txn = 0; key = 0; answer = None }) c.requires) laid c.in-None.is

pub returns-in-Some : goal.returns-in-Some
returns-in-Some c =
    let r : Reading = get_or c.args.readings.now c.args.i (record { place = 0; txn = 0; key = 0; answer = None }) in
    on_ok_weaker c.push_within.result
    (λ pushed laid. read_pushed c.args.count c.args.i c.args.readings.now c.args.edges.now.items c.push_within.new.edges.items r c.in-Some.found (slice_get-get_or c.args.readings.now c.args.i (record { place = 0; txn = 0; key = 0; answer = None }) c.requires) c.in-Some.is pushed laid)
    c.push_within.ensures
