-- The tests that an entry of the directory has to pass by itself, in the order of an opening.
use Rattle.std.specs.Prelude.{ℕ, ◌+◌, ◌==◌, ◌&&◌, ◌||◌, nat_le, nat_lt, not, Bool, true, false, List, Option, Some, None, if◌then◌else◌}
use Rattle.std.specs.List.{list_all, list_any, range_with_len, filter_map}
use Rattle.std.specs.Option.{is_none}
use Rattle.device_log.specs.Image.{Image}
use Rattle.tape_base.specs.declared.geometries.Geometry.{Geometry}
use Rattle.tape_base.specs.declared.pieces.PieceId.{PieceId}
use Rattle.tape_base.specs.Blocks.{blocks_of}
use Rattle.tape_base.specs.Geometry.{budget_of}
use Rattle.tape_base.specs.Piece.{is_vector, key_of_piece}
use Rattle.tape_base.specs.Place.{lap_of, lap_end_of}
use Rattle.stripe_header.specs.declared.area.Area.{Area}
use Rattle.stripe_header.specs.declared.states.CopyState.{CopyState}
use Rattle.doc_header.specs.Reading.{doc_of, first_fault, length_of, payload_of}
use Rattle.dir_table.specs.declared.rows.StoredRow.{StoredRow}
use Rattle.packed_directory.specs.StoredRows.{is_under}
use Rattle.alternate_vector.specs.Alternates.{Stored}
use Rattle.cache_model.specs.declared.findings.FoundRow.{FoundRow}
use Rattle.reopening.specs.Documents.{document_at, listed_in, standing_of}

-- the place is at least the first cursor, and the document at that place is accepted
abbrev pub is_document : Geometry → ℕ → List ℕ → Bool
is_document g place bytes = nat_le g.content place && is_none (first_fault bytes g.generation place)

-- the document takes at most half a buffer; it does not end above the end of its lap, nor, in the cursor's
-- lap, above the cursor
abbrev pub is_inside : Geometry → ℕ → ℕ → ℕ → Bool
is_inside g cursor place blocks =
    nat_le blocks (budget_of g) && (nat_le (place + blocks) (lap_end_of g place)
    && (not (lap_of g place == lap_of g cursor) || nat_le (place + blocks) cursor))

-- an entry for the place stands under the segment, the bucket and the tag of its piece's directory key
abbrev pub is_entered : Geometry → List StoredRow → ℕ → PieceId → Bool
is_entered g rows place id = list_any (λ r. r.place == place && is_under g (key_of_piece id) r) rows

-- a put is positive and below the copy's next one
abbrev pub is_begun : ℕ → ℕ → Bool
is_begun next put = nat_lt 0 put && nat_lt put next

-- so is that of a piece, where its index is at most 4,096
abbrev pub has_put : ℕ → PieceId → Bool
has_put next id = nat_lt 4096 id.index || is_begun next id.put

-- alternates are listed, and so are their puts
abbrev pub lists_begun : ℕ → Option (List Stored) → Bool
lists_begun next None = false
lists_begun next (Some list) = list_all (λ x. is_begun next x.put) list

-- for index 0, the payload is a vector, and the puts of its alternates are positive and below the next one
abbrev pub lists_puts : ℕ → PieceId → List ℕ → Bool
lists_puts next id payload = if is_vector id then lists_begun next (listed_in payload) else true

-- what is asked of the document by itself, and of the entry beside it
abbrev pub passes_tests : Geometry → CopyState → List StoredRow → ℕ → List ℕ → Bool
passes_tests g told rows place bytes =
    is_document g place bytes
    && (is_inside g told.cursor place (blocks_of (length_of bytes))
    && (is_entered g rows place (doc_of bytes).id
    && (has_put told.next_put (doc_of bytes).id
    && lists_puts told.next_put (doc_of bytes).id (payload_of bytes))))

-- of bytes at a place what stands there, where the tests are passed
unfoldable pub judged : Geometry → CopyState → List StoredRow → ℕ → List ℕ → Option FoundRow
judged g told rows place bytes = if passes_tests g told rows place bytes then Some (standing_of place bytes) else None

-- what an entry of the directory that passes stands for at a place; two that pass there are equal
abbrev pub standing_at : Area → CopyState → List StoredRow → Image → ℕ → Option FoundRow
standing_at a told rows c place = judged a.geometry told rows place (document_at a c place)

-- all that pass from a place on, at so many places, in rising place
abbrev pub standing_from : Area → CopyState → List StoredRow → Image → ℕ → ℕ → List FoundRow
standing_from a told rows c low count = filter_map (standing_at a told rows c) (range_with_len low count)
