use Rattle.std.proofs.Common.{◌≡◌, ◌≢◌, ◌+◌, None, Some, get_or, slice_get, sym, ◌∙◌, rules, arith}
use Rattle.std.proofs.lemmas.Grind.{common_steps}
use Rattle.std.proofs.lemmas.Option.{slice_get-get_or, same_Some, IfSome_then}
use Rattle.outer_reads.specs.declared.readings.Reading.{Reading}
use Rattle.trace_edges.specs.Edges.{OfMissed}
use Rattle.trace_edges.proofs.missed_edge.Goals as goal

pub returns-else-not-is_witnessed : goal.returns-else-not-is_witnessed
returns-else-not-is_witnessed c =
    let r : Reading = get_or c.args.readings.now c.args.i (record { place = 0; txn = 0; key = 0; answer = None }) in
    let at = slice_get-get_or c.args.readings.now c.args.i (record { place = 0; txn = 0; key = 0; answer = None }) c.requires in
    let there : slice_get c.args.order.now c.args.hint.next ≡ Some c.in-Some.next = sym c.version_at.ensures ∙ c.in-Some.is in
    let key : c.in-Some.next.key ≡ r.key = first_of (search rules, grind (arith, common_steps)) in
    let other : c.in-Some.next.txn ≢ r.txn = first_of (search rules, grind (arith, common_steps)) in
    IfSome_then c.edge_of.result c.edge_of.ensures (λ e is.
    let end = is.1 in
    let to : e.to ≡ c.args.starts + c.in-Some.next.txn = first_of (search rules, grind (arith, common_steps)) in
    OfMissed c.args.i c.args.hint.next r c.in-Some.next at there key other (c.is_witnessed.ensures (search rules)) (sym (same_Some r.txn e.from is.0)) to)
