use Rattle.std.proofs.Common.{◌≡◌, ◌+◌, None, get_or, sym, rules, arith}
use Rattle.std.proofs.lemmas.Grind.{common_steps}
use Rattle.std.proofs.lemmas.Option.{slice_get-get_or, same_Some, IfSome_then}
use Rattle.outer_reads.specs.declared.readings.Reading.{Reading}
use Rattle.trace_edges.specs.Edges.{OfRead}
use Rattle.trace_edges.proofs.read_edge.Goals as goal

pub returns-in-Some : goal.returns-in-Some
returns-in-Some c =
    let r : Reading = get_or c.args.readings.now c.args.i (record { place = 0; txn = 0; key = 0; answer = None }) in
    let at = slice_get-get_or c.args.readings.now c.args.i (record { place = 0; txn = 0; key = 0; answer = None }) c.requires in
    IfSome_then c.edge_of.result c.edge_of.ensures (λ e is order.
    let start = is.0 in
    let from : e.from ≡ c.args.starts + c.in-Some.found.from = first_of (search rules, grind (arith, common_steps)) in
    OfRead c.args.i r c.in-Some.found at c.in-Some.is from (sym (same_Some r.txn e.to is.1)))
