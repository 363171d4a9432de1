use Rattle.std.proofs.Common.{ℕ, ◌∷◌, ◌≤◌, List, ap, sym, subst, not, nat_eq}
use Rattle.std.specs.Prelude.{IsPermutation}
use Rattle.dir_table.specs.declared.rows.StoredRow.{StoredRow}
use Rattle.dir_table.specs.Links.{AllFrom, entries_of, node_at, newest_at, row_at, rows_in, rows_of}
use Rattle.dir_table.proofs.Parts.{all_filter, permutes_without, row_below}
use Rattle.dir_table.proofs.links.take_row.Goals as goal

pub returns-in-Some-clause-gone : goal.returns-in-Some-clause-gone
returns-in-Some-clause-gone c =
    let here = c.in-Some.ensures.found in
    let P : List StoredRow → Type 0 = λ rs. IsPermutation (rows_in c.args.links.now) (here.it ∷ rs) in
    record {
      it = here.it;
      is = here.is;
      left = subst P (sym (ap rows_of c.take_out.ensures.entries))
          (permutes_without c.in-Some.number (row_at c.args.links.now) here.it here.stands c.args.links.now.next
          (row_below (node_at c.args.links.now) (newest_at c.args.links.now) c.args.links.now.next c.requires c.in-Some.number here.it here.stands));
    }

pub returns-in-Some-clause-above : goal.returns-in-Some-clause-above
returns-in-Some-clause-above c first all =
    let P : List (ℕ × StoredRow) → Type 0 = λ es. AllFrom first es in
    subst P (sym c.take_out.ensures.entries) (all_filter (λ e. first ≤ e.0) (λ e. not (nat_eq c.in-Some.number e.0)) (entries_of c.args.links.now) all)
