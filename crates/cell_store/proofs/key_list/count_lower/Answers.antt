use Rattle.std.proofs.Common.{arith, rules}
use Rattle.cell_store.proofs.KeyRows.{lower_than_last}
use Rattle.cell_store.proofs.key_list.count_lower.Goals as goal

pub returns-in-len1-up-2-clause-lower : goal.returns-in-len1-up-2-clause-lower
returns-in-len1-up-2-clause-lower c =
    lower_than_last c.args.cells.now c.args.version c.last-item-2.result c.requires (omega (arith, c.in-len1-up.len_at_least)) c.last-item-2.is (search rules)
