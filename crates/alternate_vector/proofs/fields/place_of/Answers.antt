use Rattle.std.proofs.Common.{rules}
use Rattle.std.specs.Ordering.{is_le, nat_cmp}
use Rattle.std.specs.Cmp.Lexicographic.{slice_cmp}
use Rattle.std.proofs.lemmas.List.Sorted.{IsPartitionPoint-from_clause}
use Rattle.alternate_vector.proofs.Range.{le_parted, le_not_gt, not_le_gt}
use Rattle.alternate_vector.proofs.fields.place_of.Goals as goal

pub returns-clause-place : goal.returns-clause-place
returns-clause-place c = λ rising.
    let point = IsPartitionPoint-from_clause (λ line. is_le (slice_cmp nat_cmp line.name c.args.name.now)) _ _ c.partition_point.ensures.partitioned (le_parted c.args.lines.now c.args.name.now rising) (λ a r q k. search rules) in
    (λ k d low lt. le_not_gt (slice_cmp nat_cmp _ c.args.name.now) (point.0 k d low lt), λ k d low lt. not_le_gt (slice_cmp nat_cmp _ c.args.name.now) (point.1 k d low lt))
