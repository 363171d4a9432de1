-- What goes in and out of rows, without what is kept beside their places.
use Rattle.std.proofs.Common.{◌≡◌, ℕ, Bool, true, false, List, [], ◌∷◌, ◌++◌, nat_le, sym, ap, subst}
use Rattle.std.specs.Prelude.{All, IsPermutation}
use Rattle.std.specs.Bool.{OnTrue}
use Rattle.std.proofs.lemmas.List.{map-append}
use Rattle.std.proofs.lemmas.List.Elements.{All-nil, All-cons, All-head, All-tail}
use Rattle.std.proofs.lemmas.List.Sorted.{IsPermutation-map}
use Rattle.dir_table.specs.declared.rows.DirRow.{DirRow}
use Rattle.dir_table.specs.declared.rows.StoredRow.{StoredRow}
use Rattle.dir_table.specs.Entering.{TakesRow}
use Rattle.dir_table.specs.Rows.{plain_row, plain_rows, LosesPlain}
use Rattle.dir_table.specs.Wrap.{rows_at_or_above, stored_from}
use Rattle.dir_table.proofs.RowLists.{plain_filter}

pub plain_takes : (row : StoredRow) (gone before after : List StoredRow) → TakesRow row gone before after
    → TakesRow (plain_row row) (plain_rows gone) (plain_rows before) (plain_rows after)
plain_takes row gone before after t = record {
  left = plain_rows t.left;
  parted = subst (λ (q : List DirRow). IsPermutation (plain_rows before) q) (map-append plain_row gone t.left)
      (IsPermutation-map plain_row before (gone ++ t.left) t.parted);
  entered = IsPermutation-map plain_row (row ∷ t.left) after t.entered;
}

plain_loses : (row : DirRow) (before after : List StoredRow) → LosesPlain row before after → IsPermutation (plain_rows before) (row ∷ plain_rows after)
plain_loses row before after l =
    subst (λ (r : DirRow). IsPermutation (plain_rows before) (r ∷ plain_rows after)) l.is (IsPermutation-map plain_row before (l.it ∷ after) l.left)

pub plain_gone : (b : Bool) (row : DirRow) (before after : List StoredRow) → OnTrue b (LosesPlain row before after) → OnTrue b (IsPermutation (plain_rows before) (row ∷ plain_rows after))
plain_gone true row before after gone = plain_loses row before after gone
plain_gone false row before after gone = gone

pub plain_none : (b : Bool) (before after : List StoredRow) → (b ≡ false → after ≡ before) → b ≡ false → plain_rows after ≡ plain_rows before
plain_none b before after none h = ap plain_rows (none h)

pub plain_from : (low : ℕ) (before after : List StoredRow) → IsPermutation (stored_from low before) after → IsPermutation (rows_at_or_above low (plain_rows before)) (plain_rows after)
plain_from low before after p =
    subst (λ (q : List DirRow). IsPermutation q (plain_rows after)) (sym (plain_filter (λ (r : DirRow). nat_le low r.place) before))
    (IsPermutation-map plain_row (stored_from low before) after p)

-- what holds of all rows holds of them with what is kept of each
pub all_stored : (P : DirRow → Type 0) (rows : List StoredRow) → All P (plain_rows rows) → All (λ r. P (plain_row r)) rows
all_stored P [] all = All-nil (λ (r : StoredRow). P (plain_row r))
all_stored P (r ∷ rows) all =
    All-cons (λ (q : StoredRow). P (plain_row q)) r rows (All-head P (plain_row r) (plain_rows rows) all)
    (all_stored P rows (All-tail P (plain_row r) (plain_rows rows) all))
