use Rattle.std.proofs.Common.{◌≡◌, ◌+◌, length, arith}
use Rattle.packed_directory.proofs.Readable.{rows_readable, entries_of_places}
use Rattle.packed_directory.proofs.packed.PackedDirectory.rows_are_readable.Goals as goal

pub returns-clause-rows : goal.returns-clause-rows
returns-clause-rows c =
    let d = c.self.inside in
    let count : 0 + length d.segments.items ≡ d.beside.geometry.segments = omega (arith, c.self.invariant.packed.count) in
    rw (← c.self.view_is) (rows_readable d.beside.geometry d.beside.cursor d.floor d.end d.beside.bounds.first 0 d.segments.items count c.self.invariant.packed.widths c.self.invariant.packed.between)

pub returns-clause-entries : goal.returns-clause-entries
returns-clause-entries c =
    let d = c.self.inside in
    rw (← c.self.view_is) (entries_of_places d.beside.geometry d.beside.cursor d.floor d.end d.beside.bounds.first d.segments.items c.self.invariant.packed.between)
