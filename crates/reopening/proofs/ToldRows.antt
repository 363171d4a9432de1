-- The elements of a directory in another order.
use Rattle.std.proofs.Common.{◌≡◌, ℕ, List, subst}
use Rattle.std.specs.List.Sorted.{IsPermutation}
use Rattle.std.proofs.lemmas.List.Sorted.{IsPermutation-trans}
use Rattle.tape_base.specs.declared.geometries.Geometry.{Geometry}
use Rattle.stripe_header.specs.declared.states.CopyState.{CopyState}
use Rattle.dir_table.specs.declared.rows.StoredRow.{StoredRow}
use Rattle.dir_table.specs.Wrap.{stored_from}
use Rattle.packed_directory.specs.PackedImage.{means}
use Rattle.reopening.specs.Newest.{bound_of}
use Rattle.reopening.specs.Opens.{rows_told}

pub told_rows : (g : Geometry) (told : CopyState) (bytes : List ℕ) (low : ℕ) (rows all : List StoredRow) → low ≡ bound_of g told
    → IsPermutation (stored_from low (means g told.cursor bytes)) rows → IsPermutation rows all → IsPermutation (rows_told g told bytes) all
unfolding rows_told
told_rows g told bytes low rows all is one two =
    IsPermutation-trans (rows_told g told bytes) rows all (subst (λ k. IsPermutation (stored_from k (means g told.cursor bytes)) rows) is one) two
