use Rattle.std.proofs.Common.{leb, rules}
use Rattle.std.proofs.lemmas.List.Sorted.{IsPartitionPoint-from_clause, IsPartitionedBy-leb}
use Rattle.cell_store.specs.declared.at_rest.Row.{Row}
use Rattle.cell_compaction.proofs.KeyRows.{keys_rise, key_parts}
use Rattle.cell_compaction.proofs.latest.end_of.Goals as goal

pub returns-clause-upto : goal.returns-clause-upto
returns-clause-upto c =
    let split = IsPartitionedBy-leb (λ (x : Row). x.key) c.args.rows.now c.args.key (keys_rise c.args.rows.now c.requires) in
    let point = IsPartitionPoint-from_clause (λ (x : Row). leb x.key c.args.key) _ _ c.partition_point.ensures.partitioned split (λ a r q k. search rules) in
    (key_parts c.args.rows.now c.partition_point.result c.args.key point).0

pub returns-clause-above : goal.returns-clause-above
returns-clause-above c =
    let split = IsPartitionedBy-leb (λ (x : Row). x.key) c.args.rows.now c.args.key (keys_rise c.args.rows.now c.requires) in
    let point = IsPartitionPoint-from_clause (λ (x : Row). leb x.key c.args.key) _ _ c.partition_point.ensures.partitioned split (λ a r q k. search rules) in
    (key_parts c.args.rows.now c.partition_point.result c.args.key point).1
