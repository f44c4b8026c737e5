use Rattle.std.proofs.Common.{arith, rules}
use Rattle.cell_store.proofs.KeyRows.{all_upto, fetched_lower}
use Rattle.cell_store.proofs.key_list.upto.Goals as goal

pub returns-in-len1-up : goal.returns-in-len1-up
returns-in-len1-up c =
    let all = all_upto c.args.cells.now c.args.upto c.last-item.result c.requires (omega (arith, c.in-len1-up.len_at_least)) c.last-item.is (search rules) in
    λ k. fetched_lower k c.args.upto c.args.cells.now all
