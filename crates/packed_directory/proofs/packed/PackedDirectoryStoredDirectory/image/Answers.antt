use Rattle.std.proofs.Common.{List, sym, subst}
use Rattle.std.specs.List.Sorted.{IsPermutation}
use Rattle.std.proofs.lemmas.List.Sorted.{IsPermutation-refl}
use Rattle.dir_table.specs.declared.rows.StoredRow.{StoredRow}
use Rattle.packed_directory.specs.Phases.{least_place}
use Rattle.packed_directory.specs.Packed.{packed_rows}
use Rattle.packed_directory.proofs.packed.PackedDirectoryStoredDirectory.image.Goals as goal
use Rattle.dir_table.specs.Wrap.{stored_from}

pub returns-clause-rows : goal.returns-clause-rows
returns-clause-rows c =
    let d = c.args.self.now in
    let low = least_place d.geometry c.args.cursor in
    let rows : List StoredRow = stored_from low (packed_rows d) in
    record {
      low = low;
      below = c.write_image.ensures.low;
      from = subst (λ (q : List StoredRow). IsPermutation rows q) (sym c.write_image.ensures.rows) (IsPermutation-refl rows);
    }
