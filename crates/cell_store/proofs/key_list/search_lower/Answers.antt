use Rattle.std.proofs.Common.{ltb, rules}
use Rattle.std.proofs.lemmas.List.Sorted.{IsPartitionPoint-from_clause, IsPartitionedBy-ltb}
use Rattle.system_parts.specs.declared.rows.Cell.{Cell}
use Rattle.cell_store.proofs.KeyRows.{non_decreasing, lower_parts}
use Rattle.cell_store.proofs.key_list.search_lower.Goals as goal

pub returns : goal.returns
returns c =
    let split = IsPartitionedBy-ltb (λ (x : Cell). x.version) c.args.cells.now c.args.version (non_decreasing c.args.cells.now c.requires) in
    let point = IsPartitionPoint-from_clause (λ (x : Cell). ltb x.version c.args.version) _ _ c.partition_point.ensures.partitioned split (λ a r q k. search rules) in
    let parts = lower_parts c.args.cells.now c.partition_point.result c.args.version point in
    record { within = c.partition_point.ensures.bound; lower = parts.0; higher = parts.1 }
