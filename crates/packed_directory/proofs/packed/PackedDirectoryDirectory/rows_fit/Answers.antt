use Rattle.std.proofs.Common.{ℕ, ◌<◌, List, length, subst}
use Rattle.dir_segment.specs.Lists.{Lists}
use Rattle.dir_segment.specs.Entries.{AreCounted}
use Rattle.packed_directory.specs.Packed.{segment_at}
use Rattle.packed_directory.specs.Packing.{packed_of}
use Rattle.packed_directory.proofs.Plain.{all_ended, few_plain}
use Rattle.packed_directory.proofs.packed.PackedDirectoryDirectory.rows_fit.Goals as goal

pub returns-clause-ended : goal.returns-clause-ended
returns-clause-ended c =
    let d = c.self.inside in
    rw (← c.self.view_is) (all_ended (packed_of d) d.beside.bounds.first c.self.invariant.packed)

pub returns-clause-few : goal.returns-clause-few
returns-clause-few c _ =
    let d = c.self.inside in
    let P : List Lists → Type 0 = λ segments. (k : ℕ) → k < length segments → AreCounted (segment_at segments k) in
    let counted = subst P c.deref.ensures.value c.all_counted.ensures in
    rw (← c.self.view_is) (few_plain d.beside.geometry d.beside.cursor d.segments.items c.self.invariant.packed.widths counted)
