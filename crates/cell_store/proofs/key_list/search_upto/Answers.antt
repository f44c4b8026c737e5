use Rattle.std.proofs.Common.{leb, rules}
use Rattle.std.proofs.lemmas.List.Sorted.{IsPartitionPoint-from_clause, IsPartitionedBy-leb}
use Rattle.system_parts.specs.declared.rows.Cell.{Cell}
use Rattle.cell_store.proofs.KeyRows.{fetched-upto_part, non_decreasing, upto_parts}
use Rattle.cell_store.proofs.key_list.search_upto.Goals as goal

pub returns : goal.returns
returns c =
    let split = IsPartitionedBy-leb (λ (x : Cell). x.version) c.args.cells.now c.args.upto (non_decreasing c.args.cells.now c.requires) in
    let point = IsPartitionPoint-from_clause (λ (x : Cell). leb x.version c.args.upto) _ _ c.partition_point-count.ensures.partitioned split (λ a r q k. search rules) in
    let parts = upto_parts c.args.cells.now c.partition_point-count.result c.args.upto point in
    λ k. fetched-upto_part k c.args.upto c.partition_point-count.result c.args.cells.now parts.0 parts.1
