-- What a vector lists may be kept, and so may what a new one is to list.
use Rattle.std.proofs.Common.{◌≡◌, ℕ, ◌+◌, ◌-◌, ◌*◌, ◌/◌, ◌<◌, ◌≤◌, List, [], ◌∷◌, ◌++◌, length, refl, sym, ap, subst, arith, Bool, true, false}
use Rattle.std.specs.Prelude.{Option, Some, None, if◌then◌else◌, option_map, unwrap_or, nat_le, ◌&&◌}
use Rattle.std.specs.List.{AllByRecursion}
use Rattle.std.proofs.lemmas.Bool.{and_parts, leb-true}
use Rattle.tape_base.specs.declared.keys.Key.{Key}
use Rattle.tape_base.specs.Blocks.{blocks_of}
use Rattle.tape_base.specs.Geometry.{budget_of}
use Rattle.tape_base.specs.Piece.{is_vector}
use Rattle.alternate_vector.specs.Alternates.{Stored, IsStored, is_within, longest_within, merged, vector_size, with_new}
use Rattle.alternate_vector.specs.Spelling.{IsSpelling, vector_bytes}
use Rattle.alternate_vector.proofs.Chosen.{each_merged, some_merged}
use Rattle.cache_model.specs.State.{State, Row, PutRow, LastVector, Complete, TakenOut, alternate_of, is_live, list_among, list_of_last, list_of_put, list_of_row, merged_list, most_payload, put_of, row_in, last_vector, vector_piece}
use Rattle.cache_model.specs.Legal.{FitsAlone}
use Rattle.cache_model.specs.Vectors.{AreTold, IsListed, IsVectorRow}
use Rattle.cache_model.proofs.Lists.{found_row, own_piece}

-- ---- what is listed

-- the row of a vector lists its alternates
pub listed_row : (s : State) (rows : List Row) (key : Key) (put : ℕ) (row : Row) → AllByRecursion (IsListed s) rows → row_in rows (vector_piece key put) ≡ Some row
    → (list : List Stored) × IsVectorRow s row list
listed_row s rows key put row each h =
    let found : IsListed s row × (row.id ≡ vector_piece key put) = (found_row (IsListed s) (vector_piece key put) rows row each h, own_piece (vector_piece key put) rows row h) in
    found.0 (ap is_vector found.1)

stored_by : (s : State) (row : Row) (list : List Stored) (b : Bool) → row.alternates ≡ Some list → AllByRecursion IsStored list
    → AllByRecursion IsStored (if b then unwrap_or row.alternates [] else [])
stored_by s row list true e each = rw e each
stored_by s row list false e each = tt

stored_found : (s : State) (o : Option Row) → ((row : Row) → o ≡ Some row → (list : List Stored) × IsVectorRow s row list)
    → AllByRecursion IsStored (unwrap_or (option_map (list_of_row s) o) [])
stored_found s None listed = tt
stored_found s (Some row) listed =
    let l : (list : List Stored) × IsVectorRow s row list = listed row refl in
    stored_by s row l.0 (is_live s row) l.1.lists l.1.spelled.stored.each

stored_last : (s : State) (rows : List Row) (key : Key) (last : Option LastVector) → AllByRecursion (IsListed s) rows
    → AllByRecursion IsStored (unwrap_or (option_map (list_of_last s rows key) last) [])
stored_last s rows key (Some (Complete put)) each = stored_found s (row_in rows (vector_piece key put)) (λ row h. listed_row s rows key put row each h)
stored_last s rows key (Some (TakenOut put)) each = tt
stored_last s rows key None each = tt

-- ---- the longest end

within_by : (most bytes : ℕ) (a : Stored) (alternates : List Stored) (b : Bool) → is_within most bytes (a ∷ alternates) ≡ b
    → (0 < length (longest_within most bytes alternates) → is_within most bytes (longest_within most bytes alternates) ≡ true)
    → 0 < length (if b then a ∷ alternates else longest_within most bytes alternates)
    → is_within most bytes (if b then a ∷ alternates else longest_within most bytes alternates) ≡ true
within_by most bytes a alternates true e rest some = e
within_by most bytes a alternates false e rest some = rest some

-- a longest end that has alternates is within the limits
within_longest : (most bytes : ℕ) (alternates : List Stored) → 0 < length (longest_within most bytes alternates) → is_within most bytes (longest_within most bytes alternates) ≡ true
within_longest most bytes [] some = absurd (omega (arith, some))
within_longest most bytes (a ∷ alternates) some =
    within_by most bytes a alternates (is_within most bytes (a ∷ alternates)) refl (within_longest most bytes alternates) some

-- a payload of a piece, in bytes and in blocks
payload_fits : (bytes blocks : ℕ) → (128 + bytes + 511) / 512 ≤ blocks → bytes ≤ 512 * blocks - 128
payload_fits bytes blocks h = omega (arith, h)

pub blocks_fit : (bytes blocks : ℕ) → 0 < blocks → bytes ≤ 512 * blocks - 128 → (128 + bytes + 511) / 512 ≤ blocks
blocks_fit bytes blocks some h = omega (arith, some, h)

-- ---- what a put is to list

pub record IsMerged (s : State) (list : List Stored) : Type 0 where
  pub spelled : IsSpelling (vector_bytes list) list
  pub small : blocks_of (vector_size list) ≤ budget_of s.geometry

merged_fits : (s : State) (before : List Stored) (new : Stored) → AllByRecursion IsStored before → IsStored new → blocks_of (vector_size (new ∷ [])) ≤ budget_of s.geometry
    → IsMerged s (merged s.geometry.alternates (most_payload s.geometry) before new)
merged_fits s before new each stored fits =
    let list : List Stored = merged s.geometry.alternates (most_payload s.geometry) before new in
    let alone : vector_size (new ∷ []) ≤ most_payload s.geometry = payload_fits (vector_size (new ∷ [])) (budget_of s.geometry) fits in
    let some : 0 < length list = some_merged s.geometry.alternates (most_payload s.geometry) before new s.geometry.keeps.some alone in
    let within : (nat_le (length list) s.geometry.alternates && nat_le (vector_size list) (most_payload s.geometry)) ≡ true =
    within_longest s.geometry.alternates (most_payload s.geometry) (with_new before new) some in
    let parts = and_parts (nat_le (length list) s.geometry.alternates) (nat_le (vector_size list) (most_payload s.geometry)) within in
    let few : length list ≤ s.geometry.alternates = leb-true (length list) s.geometry.alternates parts.0 in
    let small : vector_size list ≤ most_payload s.geometry = leb-true (vector_size list) (most_payload s.geometry) parts.1 in
    let blocks : 0 < budget_of s.geometry = omega (arith, fits) in
    record {
      spelled = record {
        some = some;
        stored = record { few = omega (arith, few, s.geometry.keeps.few); each = each_merged s.geometry.alternates (most_payload s.geometry) before new each stored };
        spelled = refl;
      };
      small = blocks_fit (vector_size list) (budget_of s.geometry) blocks small;
    }

merged_told : (s : State) (w : PutRow) → AreTold s → IsStored (alternate_of w) → FitsAlone s w 0 → IsMerged s (merged_list s w)
merged_told s w told stored alone =
    let rows : AllByRecursion (IsListed s) (s.displaced ++ s.rows) = subst (λ (d : List Row). AllByRecursion (IsListed s) (d ++ s.rows)) (sym told.displaced) told.vectors in
    merged_fits s (list_among s (s.displaced ++ s.rows) w.key) (alternate_of w) (stored_last s (s.displaced ++ s.rows) w.key (last_vector s w.key) rows) stored alone

-- the list of a put that was found
pub list_found : (s : State) (put : ℕ) (w : PutRow) → put_of s put ≡ Some w → list_of_put s put ≡ merged_list s w
list_found s put w found = ap (λ (o : Option PutRow). unwrap_or (option_map (merged_list s) o) []) found

pub put_told : (s : State) (put : ℕ) (w : PutRow) → AreTold s → put_of s put ≡ Some w → FitsAlone s w 0 → IsMerged s (list_of_put s put)
put_told s put w told found alone = subst (IsMerged s) (sym (list_found s put w found)) (merged_told s w told (told.puts put w found) alone)
