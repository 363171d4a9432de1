-- A live vector's alternates, and what its bytes give back.
use Rattle.std.proofs.Common.{◌≡◌, ℕ, ◌≤◌, List, [], refl, sym, subst, ◌∙◌, ap, inl, inr, ◌⊎◌, take, Bool, true, false}
use Rattle.std.specs.Prelude.{Option, Some, None, if◌then◌else◌, option_map, option_and_then, unwrap_or}
use Rattle.tape_base.specs.declared.keys.Key.{Key}
use Rattle.tape_base.specs.declared.pieces.PieceId.{PieceId}
use Rattle.tape_base.specs.Piece.{is_vector}
use Rattle.tape_base.specs.Blocks.{blocks_of}
use Rattle.tape_base.specs.Digest.{Collide}
use Rattle.tape_base.specs.Geometry.{budget_of}
use Rattle.hex.specs.Hex.{IsBytes}
use Rattle.tape_base.proofs.Bytes.{IsBytes-take}
use Rattle.tape_base.proofs.DigestLaw.{digests_tell_lem}
use Rattle.doc_header.specs.Reading.{document_digest, extent_of, payload_of}
use Rattle.doc_header.proofs.MovingLaws.{document_small}
use Rattle.doc_header.proofs.ReadingLaws.{payload_told}
use Rattle.alternate_vector.proofs.Bytes.{vector_small}
use Rattle.alternate_vector.specs.Alternates.{Stored, vector_size}
use Rattle.alternate_vector.specs.Spelling.{IsSpelling, vector_bytes}
use Rattle.cache_model.specs.State.{State, Row, PutRow, LastVector, Complete, TakenOut, alternates_of, is_live, last_vector, list_of_last, list_of_put, list_of_row, live_row_of, only_live, put_of, row_in, vector_piece}
use Rattle.cache_model.specs.Verdict.{live_vector_of, vector_of_last}
use Rattle.cache_model.specs.Legal.{FitsAlone}
use Rattle.cache_model.specs.Vectors.{AreTold, AreVectors, IsVectorRow, vector_doc, vector_document}
use Rattle.cache_model.proofs.Found.{none_is}
use Rattle.cache_model.proofs.Lists.{own_piece}
use Rattle.cache_model.proofs.Merged.{IsMerged, listed_row, put_told}

-- ---- a live vector

live_by : (s : State) (first row : Row) (list : List Stored) (b : Bool) → is_live s first ≡ b → (if b then Some first else None) ≡ Some row
    → (first ≡ row) × (list_of_row s first ≡ unwrap_or first.alternates [])
live_by s first row list true e h = (cc, rw e refl)
live_by s first row list false e h = none_is h

record IsLive (s : State) (o : Option Row) (row : Row) : Type 0 where
  found : o ≡ Some row
  list : unwrap_or (option_map (list_of_row s) o) [] ≡ unwrap_or row.alternates []

live_found : (s : State) (o : Option Row) (row : Row) → option_and_then (only_live s) o ≡ Some row → IsLive s o row
live_found s None row h = none_is h
live_found s (Some first) row h =
    let live = live_by s first row [] (is_live s first) refl h in
    record { found = ap Some live.0; list = live.1 ∙ ap (λ (r : Row). unwrap_or r.alternates []) live.0 }

listed_last : (s : State) (key : Key) (row : Row) (last : Option LastVector) → AreVectors s → option_and_then (live_row_of s) (option_and_then (vector_of_last key) last) ≡ Some row
    → (list : List Stored) × IsVectorRow s row list × (unwrap_or (option_map (list_of_last s s.rows key) last) [] ≡ list)
listed_last s key row (Some (Complete put)) each h =
    let live : IsLive s (row_in s.rows (vector_piece key put)) row = live_found s (row_in s.rows (vector_piece key put)) row h in
    let l : (list : List Stored) × IsVectorRow s row list = listed_row s s.rows key put row each live.found in
    (l.0, l.1, live.list ∙ ap (λ o. unwrap_or o []) l.1.lists)
listed_last s key row (Some (TakenOut put)) each h = none_is h
listed_last s key row None each h = none_is h

pub live_vector_is_listed : (s : State) (key : Key) (row : Row) → AreVectors s → live_vector_of s key ≡ Some row
    → (list : List Stored) × IsVectorRow s row list × (alternates_of s key ≡ list)
live_vector_is_listed s key row each h = listed_last s key row (last_vector s key) each h

-- a key's live vector is a vector, and is live by its own name
pub record IsLiveVector (s : State) (row : Row) : Type 0 where
  pub vector : is_vector row.id ≡ true
  pub live : live_row_of s row.id ≡ Some row

stands_last : (s : State) (key : Key) (row : Row) (last : Option LastVector) → option_and_then (live_row_of s) (option_and_then (vector_of_last key) last) ≡ Some row → IsLiveVector s row
stands_last s key row (Some (Complete put)) h =
    let id : PieceId = vector_piece key put in
    let own : row.id ≡ id = own_piece id s.rows row (live_found s (row_in s.rows id) row h).found in
    record { vector = ap is_vector own; live = subst (λ i. live_row_of s i ≡ Some row) (sym own) h }
stands_last s key row (Some (TakenOut put)) h = none_is h
stands_last s key row None h = none_is h

pub live_vector_stands : (s : State) (key : Key) (row : Row) → live_vector_of s key ≡ Some row → IsLiveVector s row
live_vector_stands s key row h = stands_last s key row (last_vector s key) h

-- ---- its bytes

pub vector_is_read_back : (s : State) (row : Row) (list : List Stored) (bytes : List ℕ) (v : IsVectorRow s row list) → IsBytes bytes → row.digest ≡ document_digest bytes
    → (payload_of bytes ≡ vector_bytes list) ⊎ Collide (take (extent_of bytes) bytes) (vector_document s row v.start list)
vector_is_read_back s row list bytes v small h =
    elim (digests_tell_lem (take (extent_of bytes) bytes) (vector_document s row v.start list) (IsBytes-take (extent_of bytes) bytes small)
    (document_small (vector_doc s row v.start) (vector_bytes list) (vector_small list v.spelled.stored)) (sym h ∙ v.digest)) [
      | inl same ↦ inl (payload_told bytes (vector_doc s row v.start) (vector_bytes list) same)
      | inr collide ↦ inr collide
    ]

-- ---- the vector that a put is to have

pub merged_is_spelled : (s : State) (put : ℕ) (w : PutRow) → AreTold s → put_of s put ≡ Some w → FitsAlone s w 0
    → IsSpelling (vector_bytes (list_of_put s put)) (list_of_put s put) × (blocks_of (vector_size (list_of_put s put)) ≤ budget_of s.geometry)
merged_is_spelled s put w told found alone = let m : IsMerged s (list_of_put s put) = put_told s put w told found alone in (m.spelled, m.small)
