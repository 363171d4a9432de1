use Rattle.packed_directory.specs.Packing.{packed_of}
use Rattle.packed_directory.proofs.Walking.{before_segment, each_has}
use Rattle.packed_directory.proofs.packed.PackedDirectory.begin_all.Goals as goal

pub returns-clause-rows : goal.returns-clause-rows
returns-clause-rows c =
    let d = c.self.inside in
    rw (← c.self.view_is) (before_segment (packed_of d) 0 (each_has d.beside.geometry d.segments.items c.self.invariant.packed.widths))
