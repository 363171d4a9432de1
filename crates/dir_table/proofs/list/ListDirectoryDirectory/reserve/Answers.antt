use Rattle.std.proofs.Common.{ℕ, ◌<◌, List, sym, subst, arith}
use Rattle.std.specs.Prelude.{All}
use Rattle.dir_table.specs.declared.rows.StoredRow.{StoredRow}
use Rattle.dir_table.specs.Links.{AllFrom, rows_of}
use Rattle.dir_table.proofs.list.ListDirectoryDirectory.reserve.Goals as goal

pub invariant_of-self : goal.invariant_of-self
invariant_of-self c =
    let P : List (ℕ × StoredRow) → Type 0 = λ es. AllFrom c.self.inside.first es in
    let Q : List (ℕ × StoredRow) → Type 0 = λ es. All (λ r. r.place < c.self.inside.window.end) (rows_of es) in
    let within = c.self.invariant.within in
    let next = c.reserve.ensures.next in
    record {
      linked = c.reserve.ensures.linked;
      above = subst P (sym c.reserve.ensures.entries) c.self.invariant.above;
      within = omega (arith, within, next);
      ended = subst Q (sym c.reserve.ensures.entries) c.self.invariant.ended;
      cursor = c.self.invariant.cursor;
      none = c.self.invariant.none;
    }
