use Rattle.std.proofs.Common.{◌≡◌, ◌≤◌, [], length, sym, ◌∙◌, arith}
use Rattle.packed_directory.specs.Packing.{packed_of}
use Rattle.packed_directory.specs.AllWalks.{rows_ahead}
use Rattle.packed_directory.proofs.Walking.{over_all}
use Rattle.packed_directory.proofs.packed.PackedDirectory.next_of_all.Goals as goal

pub returns-clause-gives : goal.returns-clause-gives
returns-clause-gives c =
    let d = c.self.inside in
    let w = c.loop-walk.walk in
    let past : length d.segments.items ≤ w.segment = omega (arith, c.loop-walk-test.false, c.self.invariant.packed.count) in
    let none : rows_ahead c.args.self.now w ≡ [] = rw (← c.self.view_is) (over_all (packed_of d) w past) in
    (sym c.loop-walk.invariant.rows ∙ none, none)
