use Rattle.std.proofs.Common.{sym, arith, rules}
use Rattle.std.proofs.lemmas.List.Sorted.{IsPartitionPoint-from_clause}
use Rattle.fragment_table.proofs.Ends.{ends_take}
use Rattle.fragment_table.proofs.Finding.{ends_by, ends_parted, point_none, point_found}
use Rattle.fragment_table.proofs.table.find_fragment.Goals as goal

pub returns-then-before-rows : goal.returns-then-before-rows
returns-then-before-rows c =
    let point = IsPartitionPoint-from_clause (ends_by c.args.offset) _ _ c.partition_point-before.ensures.partitioned (ends_parted c.args.rows.now c.args.offset c.requires.ends) (λ a r q k. search rules) in
    sym (point_none c.args.rows.now c.args.offset c.partition_point-before.result c.requires.ends point c.if-before-rows.true)

pub end_of-requires : goal.end_of-requires
end_of-requires c = ends_take 0 c.partition_point-before.result c.args.rows.now c.requires.ends

pub overflow_sub-result : goal.overflow_sub-result
overflow_sub-result c =
    let point = IsPartitionPoint-from_clause (ends_by c.args.offset) _ _ c.partition_point-before.ensures.partitioned (ends_parted c.args.rows.now c.args.offset c.requires.ends) (λ a r q k. search rules) in
    let found = point_found c.args.rows.now c.args.offset c.partition_point-before.result c.requires.ends point (omega (arith, c.if-before-rows.false, c.partition_point-before.ensures.bound)) in
    omega (arith, found.0, c.end_of.ensures)

pub returns : goal.returns
returns c =
    let point = IsPartitionPoint-from_clause (ends_by c.args.offset) _ _ c.partition_point-before.ensures.partitioned (ends_parted c.args.rows.now c.args.offset c.requires.ends) (λ a r q k. search rules) in
    let found = point_found c.args.rows.now c.args.offset c.partition_point-before.result c.requires.ends point (omega (arith, c.if-before-rows.false, c.partition_point-before.ensures.bound)) in
    rw c.end_of.ensures (sym found.1)
