use Rattle.std.proofs.Common.{rules, refl}
use Rattle.tape_base.specs.Key.{key_bytes}
use Rattle.tape_base.specs.Piece.{piece_bytes}
use Rattle.tape_base.proofs.keys.piece_bytes.Goals as goal

pub slice_bounds-bytes-end-3 : goal.slice_bounds-bytes-end-3
unfolding key_bytes
slice_bounds-bytes-end-3 c =
    rw (c.copy_from_slice-2.ensures.after, c.copy_from_slice.ensures.after, c.to_le_bytes.ensures, c.bytes.ensures.bytes) (search rules)

pub returns : goal.returns
unfolding piece_bytes key_bytes
returns c =
    rw (c.copy_from_slice-3.ensures.after, c.copy_from_slice-2.ensures.after, c.copy_from_slice.ensures.after, c.to_le_bytes-2.ensures, c.to_le_bytes.ensures, c.bytes.ensures.bytes) refl
