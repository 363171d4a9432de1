use Rattle.std.proofs.Common.{◌<◌, ap, arith}
use Rattle.dir_table.specs.Links.{rows_of, rows_in}
use Rattle.dir_table.proofs.RowLists.{all_taken}
use Rattle.dir_table.proofs.list.ListDirectoryDirectory.delete.Goals as goal

pub invariant_of-self : goal.invariant_of-self
invariant_of-self c =
    let within = c.self.invariant.within in
    let next = c.take_row.ensures.next in
    record {
      linked = c.take_row.ensures.linked;
      above = c.take_row.ensures.above c.self.inside.first c.self.invariant.above;
      within = omega (arith, within, next);
      ended = all_taken (λ r. r.place < c.self.inside.window.end) c.take_row.result c.of_key-row.result (rows_in c.self.inside.links) (rows_in c.take_row.new.links)
          c.take_row.ensures.gone (λ h. ap rows_of (c.take_row.ensures.none h)) c.self.invariant.ended;
      cursor = c.self.invariant.cursor;
      none = c.self.invariant.none;
    }
