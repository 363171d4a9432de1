use Rattle.std.proofs.Common.{[], refl, sym, ap}
use Rattle.std.proofs.lemmas.List.Sorted.{IsPermutation-refl}
use Rattle.dir_table.specs.Links.{rows_of, rows_in}
use Rattle.dir_table.proofs.RowLists.{permutes_same}
use Rattle.dir_table.proofs.list.ListDirectoryDirectory.insert.Goals as goal

pub returns-clause-rows : goal.returns-clause-rows
returns-clause-rows c =
    let rows = rows_in c.self.inside.links in
    rw (← c.self.view_is) (record {
      row = c.of_piece-row.result;
      is = c.of_piece-row.ensures.row;
      gone = [];
      takes = record {
        left = rows;
        parted = IsPermutation-refl rows;
        entered = permutes_same _ _ (sym (ap rows_of c.add.ensures.entries));
      };
      displaced = record { none = refl; untold = refl };
    })
