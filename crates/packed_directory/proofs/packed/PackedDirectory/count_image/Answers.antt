use Rattle.std.proofs.Common.{List, length, ap, ◌∙◌, arith}
use Rattle.dir_segment.specs.Lists.{Lists}
use Rattle.packed_directory.proofs.Spelling.{image_count}
use Rattle.packed_directory.proofs.packed.PackedDirectory.count_image.Goals as goal

pub count_entries-requires : goal.count_entries-requires
count_entries-requires c =
    let g = c.args.g.now in
    let count = ap (λ (q : List Lists). length q) (c.deref.ensures.value ∙ c.in_ok-segments.ensures.segments) ∙ image_count g c.args.bytes.now in
    record { few = omega (arith, count, g.accepted.segments_fit) }
