use Rattle.std.proofs.Common.{Bool, rules}
use Rattle.dir_entry.specs.declared.entry.Entry.{Entry}
use Rattle.packed_directory.specs.Phases.{stands_between}
use Rattle.packed_directory.proofs.Cleaning.{cleaned_from_law}
use Rattle.packed_directory.proofs.space.clean.Goals as goal

pub returns : goal.returns
returns c =
    let g = c.args.beside.now.geometry in
    let cursor = c.args.beside.now.cursor in
    let test : Entry → Bool = stands_between g cursor c.args.low c.args.high in
    let lists = c.clean.ensures.lists test (search rules) in
    cleaned_from_law c.clean_keeps.ensures.keeps g cursor c.args.low c.args.high c.args.segment.now c.clean.new.self c.is_counted.ensures.stored lists c.clean.ensures.width
