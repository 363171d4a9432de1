use Rattle.std.proofs.Common.{◌≤◌, sym}
use Rattle.dir_table.proofs.RowLists.{permutes_same}
use Rattle.packed_directory.specs.Phases.{IsCursor, least_place}
use Rattle.packed_directory.proofs.Cleaning.{turned_is_packed, turned_rows, least_by_floor}
use Rattle.packed_directory.proofs.packed.PackedDirectoryDirectory.wrap.Goals as goal

pub invariant_of-self-2 : goal.invariant_of-self-2
invariant_of-self-2 c =
    let d = c.self.inside in
    let g = d.beside.geometry in
    let first = rw (← c.self.view_is) at c.requires.cursor.first in
    let begun : IsCursor g.content c.args.cursor = record { first = first; bound = c.requires.cursor.bound } in
    let readable = rw (← c.self.view_is) at c.requires.cursor.readable in
    let least : least_place g c.args.cursor ≤ c.args.floor = least_by_floor g c.args.cursor c.args.floor begun readable in
    record {
      packed = turned_is_packed g d.beside.cursor d.floor d.end c.args.cursor c.args.floor d.beside.bounds.first begun least d.segments.items c.clean_all.new.segments.items c.self.invariant.packed c.clean_all.ensures c.requires.cursor.low;
      made = c.self.invariant.made;
      room = c.self.invariant.room;
    }

pub returns-clause-rows : goal.returns-clause-rows
returns-clause-rows c =
    let d = c.self.inside in
    let g = d.beside.geometry in
    let first = rw (← c.self.view_is) at c.requires.cursor.first in
    let begun : IsCursor g.content c.args.cursor = record { first = first; bound = c.requires.cursor.bound } in
    let readable = rw (← c.self.view_is) at c.requires.cursor.readable in
    let above = rw (← c.self.view_is) at c.requires.above in
    let least : least_place g c.args.cursor ≤ c.args.floor = least_by_floor g c.args.cursor c.args.floor begun readable in
    rw (← c.self.view_is) (permutes_same _ _ (sym (turned_rows g d.beside.cursor d.floor d.end c.args.cursor c.args.floor d.beside.bounds.first begun least d.segments.items c.clean_all.new.segments.items c.self.invariant.packed c.clean_all.ensures above)))
