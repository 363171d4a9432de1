use Rattle.std.proofs.Common.{List, length, ap, ◌∙◌}
use Rattle.dir_segment.specs.Lists.{Lists}
use Rattle.packed_directory.specs.Packed.{packed_rows}
use Rattle.packed_directory.specs.PackedImage.{meant_from}
use Rattle.packed_directory.proofs.Meaning.{read_rows, read_is_packed}
use Rattle.packed_directory.proofs.Spelling.{image_count}
use Rattle.packed_directory.proofs.packed.PackedDirectory.read_image.Goals as goal
use Rattle.dir_table.specs.Wrap.{stored_from}

pub assemble-requires : goal.assemble-requires
assemble-requires c =
    let g = c.args.g.now in
    let before = c.in_ok-segments.segments.items in
    let count = ap (λ (q : List Lists). length q) c.in_ok-segments.ensures.segments ∙ image_count g c.args.bytes.now in
    record { packed = read_is_packed g c.args.cursor c.args.floor before c.clean_all.new.segments.items c.requires.cursor c.requires.floor count c.in_ok-segments.ensures.widths c.clean_all.ensures }

pub returns-clause-rows : goal.returns-clause-rows
returns-clause-rows c =
    let g = c.args.g.now in
    ap packed_rows c.in_ok-directory.ensures
    ∙ read_rows g c.args.cursor c.args.floor c.in_ok-segments.segments.items c.clean_all.new.segments.items c.clean_all.ensures
    ∙ ap (λ (q : List Lists). stored_from c.args.floor (meant_from g c.args.cursor 0 q)) c.in_ok-segments.ensures.segments
