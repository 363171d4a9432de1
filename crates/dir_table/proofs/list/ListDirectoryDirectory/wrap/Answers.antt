use Rattle.std.proofs.Common.{◌<◌, List, sym, subst}
use Rattle.std.specs.Prelude.{All}
use Rattle.dir_table.specs.declared.rows.StoredRow.{StoredRow}
use Rattle.dir_table.specs.Links.{rows_in}
use Rattle.dir_table.proofs.RowLists.{all_from, permutes_same}
use Rattle.dir_table.proofs.list.ListDirectoryDirectory.wrap.Goals as goal

pub invariant_of-self : goal.invariant_of-self
invariant_of-self c =
    let P : List StoredRow → Type 0 = λ rs. All (λ r. r.place < c.args.cursor) rs in
    record {
      linked = c.forget-self-inside.ensures.linked;
      above = c.forget-self-inside.ensures.above;
      within = c.forget-self-inside.ensures.within;
      ended = subst P (sym c.forget-self-inside.ensures.rows)
          (all_from (λ r. r.place < c.args.cursor) c.args.floor (rows_in c.self.inside.links) (rw (← c.self.view_is) at c.requires.above));
      cursor = c.requires.cursor.bound;
      none = c.self.invariant.none;
    }

pub returns-clause-rows : goal.returns-clause-rows
returns-clause-rows c = rw (← c.self.view_is) (permutes_same _ _ (sym c.forget-self-inside.ensures.rows))
