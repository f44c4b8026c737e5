use Rattle.std.proofs.Common.{◌≡◌, ◌≢◌, ◌+◌, None, Some, get_or, slice_get, sym, ◌∙◌, rules, arith}
use Rattle.std.proofs.lemmas.Grind.{common_steps}
use Rattle.std.proofs.lemmas.Option.{slice_get-get_or, same_Some, IfSome_then}
use Rattle.outer_reads.specs.declared.readings.Reading.{Reading}
use Rattle.trace_edges.specs.Edges.{OfApart}
use Rattle.trace_edges.proofs.later_edge.Goals as goal

pub returns-else-not-is_witnessed : goal.returns-else-not-is_witnessed
returns-else-not-is_witnessed c =
    let r : Reading = get_or c.args.readings.now c.args.i (record { place = 0; txn = 0; key = 0; answer = None }) in
    let at = slice_get-get_or c.args.readings.now c.args.i (record { place = 0; txn = 0; key = 0; answer = None }) c.requires.reading in
    let there : slice_get c.args.order.now c.args.hint.next ≡ Some c.in-Some.next = sym c.version_at.ensures ∙ c.in-Some.is in
    let key : c.in-Some.next.key ≡ r.key = first_of (search rules, grind (arith, common_steps)) in
    let other : c.in-Some.next.txn ≢ r.txn = first_of (search rules, grind (arith, common_steps)) in
    IfSome_then c.edge_of.result c.edge_of.ensures (λ e is.
    let start = is.0 in
    let from : e.from ≡ c.args.starts + r.txn = first_of (search rules, grind (arith, common_steps)) in
    OfApart c.args.i c.args.hint.next c.args.hint.own r c.in-Some.next c.args.own at there c.requires.own key other (c.requires.key r at) (c.requires.txn r at) (c.is_witnessed.ensures (search rules)) from (sym (same_Some c.in-Some.next.txn e.to is.1)))
