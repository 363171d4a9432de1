use Rattle.std.proofs.Common.{rules, ◌≡◌, ◌+◌, ◌-◌, ◌<◌, ℕ, false, get_or, drop, length, ap, ◌∙◌, arith, length-drop}
use Rattle.std.specs.Ordering.{is_lt, is_le, nat_cmp}
use Rattle.std.specs.Cmp.Lexicographic.{slice_cmp}
use Rattle.std.proofs.lemmas.List.{get_or-drop}
use Rattle.std.proofs.lemmas.List.Sorted.{IsPartitionPoint-from_clause}
use Rattle.http_header.specs.Token.{lowercase}
use Rattle.alternate_vector.specs.Lines.{fields_of}
use Rattle.alternate_vector.specs.Vary.{named}
use Rattle.alternate_vector.proofs.Order.{rising_drop, some_line}
use Rattle.alternate_vector.proofs.Range.{lt_parted, le_parted, skip_named, take_named}
use Rattle.alternate_vector.proofs.matching.lines_of.Goals as goal

pub returns : goal.returns
returns c =
    let key = lowercase c.args.name.now in
    let lines = c.args.lines.now in
    let low = c.partition_point-low.result in
    let rest = c.split_at.result.1.now in
    let rest_is : rest ≡ drop low lines = c.split_at.ensures.back in
    let long : length rest ≡ length lines - low = ap length rest_is ∙ length-drop low lines in
    let first = IsPartitionPoint-from_clause (λ line. is_lt (slice_cmp nat_cmp line.name key)) _ _ c.partition_point-low.ensures.partitioned (lt_parted lines key c.requires) (λ a r q k. search rules) in
    let second = IsPartitionPoint-from_clause (λ line. is_le (slice_cmp nat_cmp line.name key)) _ _ c.partition_point-count.ensures.partitioned (le_parted rest key (rw rest_is (rising_drop low lines c.requires))) (λ a r q k. search rules) in
    let not_less : (k : ℕ) → k < length rest → is_lt (slice_cmp nat_cmp (get_or rest k some_line).name key) ≡ false =
    λ k l. rw (rest_is, get_or-drop) (first.1 (low + k) some_line (omega arith) (omega (arith, l, long))) in
    ap fields_of c.split_at-2.ensures.front
    ∙ take_named rest c.partition_point-count.result key some_line not_less (λ k l. second.0 k some_line (omega arith) l) (λ k h l. second.1 k some_line h l)
    ∙ ap (λ ls. named key (fields_of ls)) rest_is
    ∙ skip_named lines low key some_line (λ k l. first.0 k some_line (omega arith) l)
