use Rattle.std.proofs.lemmas.List.{take_rest}
use Rattle.line_reasons.proofs.RowLemmas.{breaks_behind, breaks_last, ok_on}
use Rattle.line_reasons.proofs.broken.+broken.Goals as goal

pub returns-in-len1 : goal.returns-in-len1
returns-in-len1 depth c =
    breaks_last c.args.kind.now c.args.before.now c.args.row.now _ c.args.bytes.now c.as_bytes.result.now c.last_fault.result c.in-len1.len_at_least c.in-len1.len_below c.as_bytes.ensures.value c.last_fault.ensures

pub returns-then-branch : goal.returns-then-branch
returns-then-branch depth c =
    ok_on c.broken.result _ _
    (breaks_behind c.args.kind.now c.args.before.now c.args.row.now _ c.args.bytes.now c.in-Some.rest.now _ _ _ _ _ c.in-len2-up.len_at_least
    c.as_bytes-in-len2-up.ensures.value c.as_bytes-in-len2-up-2.ensures.value c.as_bytes-then-branch.ensures.value c.in-Some.ensures c.said_of-said.ensures c.behind_it.ensures)
    (rw (take_rest c.args.row.now 2) at c.broken.ensures)
