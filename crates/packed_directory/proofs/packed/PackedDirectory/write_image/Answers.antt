use Rattle.std.proofs.Common.{ap, ◌∙◌, arith}
use Rattle.packed_directory.specs.PackedImage.{meant_from}
use Rattle.packed_directory.proofs.Cleaning.{least_back}
use Rattle.packed_directory.proofs.Meaning.{told_rows}
use Rattle.packed_directory.proofs.packed.PackedDirectory.write_image.Goals as goal

pub returns-clause-rows : goal.returns-clause-rows
returns-clause-rows c =
    let d = c.self.inside in
    let g = d.beside.geometry in
    let behind = rw (← c.self.view_is) at c.requires.next.0 in
    let most = rw (← c.self.view_is) at c.requires.next.1 in
    rw (← c.self.view_is) (ap (meant_from g c.args.cursor 0) (c.write_segments.ensures.segments ∙ c.deref.ensures.value)
    ∙ told_rows g d.beside.cursor d.floor d.end c.args.cursor d.beside.bounds.first behind (omega (arith, d.beside.bounds.first, c.self.invariant.packed.behind, behind)) most 0 d.segments.items c.self.invariant.packed.between)

pub returns-clause-low : goal.returns-clause-low
returns-clause-low c =
    let d = c.self.inside in
    let behind = rw (← c.self.view_is) at c.requires.next.0 in
    rw (← c.self.view_is) (least_back d.beside.geometry c.args.cursor (omega (arith, d.beside.bounds.first, c.self.invariant.packed.behind, behind)))
