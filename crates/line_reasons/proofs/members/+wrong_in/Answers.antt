use Rattle.std.proofs.lemmas.List.{take_rest}
use Rattle.serde_json.specs.View.{view}
use Rattle.line_reasons.proofs.RowLemmas.{any_behind, ok_on}
use Rattle.line_reasons.proofs.members.+wrong_in.Goals as goal

pub returns-then-branch : goal.returns-then-branch
returns-then-branch depth c =
    ok_on c.wrong_in.result _ _ (any_behind c.args.kind.now c.args.noted.now c.args.row.now (view c.args.value.now) c.in-len2-up.len_at_least)
    (rw (take_rest c.args.row.now 2) at c.wrong_in.ensures)
