-- A flush whose copy ends right below 2^62, and one whose copy would end above, which is refused.
use Rattle.std.specs.Prelude.{ℕ, ◌≡◌, ◌+◌, ◌-◌, ◌*◌, ◌^◌, false, refl, true, List, [], ◌∷◌, ◌++◌, None, Some, length}
use Rattle.std.proofs.Math.Dec.{lit≤, lit<}
use Rattle.hex.specs.Hex.{IsBytes}
use Rattle.tape_base.specs.declared.digests.Digest.{Digest}
use Rattle.tape_base.specs.declared.geometries.Geometry.{Geometry}
use Rattle.tape_base.specs.declared.pieces.PieceId.{PieceId}
use Rattle.device_log.specs.Calls.{Call, Read, Wrote}
use Rattle.doc_header.specs.Moving.{moved_to}
use Rattle.doc_header.specs.Reading.{document_digest}
use Rattle.tape_base.specs.Place.{block_of}
use Rattle.cache_model.specs.declared.findings.FoundRow.{FoundRow}
use Rattle.cache_model.specs.declared.record.Rec.{Rec}
use Rattle.cache_model.specs.declared.record.Rec.TheVariants as rec
use Rattle.cache_model.specs.Legal.{IsStep}
use Rattle.cache_model.specs.Opening.{Opening}
use Rattle.cache_model.specs.Openings.{opened_records}
use Rattle.cache_model.specs.Permit.{Exhausted, Flush, Permit}
use Rattle.cache_model.specs.State.{State, after_all, fragment_piece, nothing_yet}
use Rattle.record_rows.specs.Worked.{IsBlock, a, b, no_digest, put_of_no_bytes}

-- 96 blocks, so that a lap goes on above 2^62; buffers of 8, and fragments of up to 1,600 bytes, which take half of one
abbrev pub over_the_end : Geometry
over_the_end = record {
  segments = 1;
  buckets = 64;
  content = 96;
  agg = 8;
  reach = 16;
  fragment = 1600;
  generation = 7;
  alternates = 5;
  accepted = record {
    segments_fit = (lit≤ tt, lit≤ tt);
    buckets_fit = (lit≤ tt, lit≤ tt);
    agg_fits = (lit≤ tt, lit≤ tt, refl);
    content_fits = (lit≤ tt, lit< tt);
    reach_fits = (lit≤ tt, lit< tt);
    fragment_fits = (lit≤ tt, lit≤ tt);
  };
  keeps = record { some = lit≤ tt; few = lit≤ tt };
}

-- a step of a stripe that does not sync, with these calls
abbrev pub unsynced : List Call → Permit
unsynced events = record { packed = false; syncs = false; now = 0; past = []; events = events }

-- a fragment of four blocks, pinned, which stands so far below the cursor that the next floor passes it
abbrev pub pinned_piece : PieceId
pinned_piece = fragment_piece a 1 1

abbrev pub pinned_at : ℕ → Digest → FoundRow
pinned_at cursor digest =
    record {
      id = pinned_piece;
      place = cursor - 88;
      blocks = 4;
      digest = digest;
      length = 1600;
      payload = no_digest;
      pin =
          9;
      alternates = None;
    }

-- an opening finds it
abbrev pub pinned_found : ℕ → Digest → Opening
pinned_found cursor digest =
    record { serial = 9; cursor = cursor; floor = cursor - 88; next_put = 2; clean = true; found = pinned_at cursor digest ∷ [] }

-- an object of no bytes is in the buffer
abbrev pub before_flush : (cursor : ℕ) (piece object : Digest) → State
before_flush cursor piece object = after_all nothing_yet (opened_records over_the_end (pinned_found cursor piece) ++ put_of_no_bytes cursor 2 b object)

-- a flush copies the fragment to the front of the next buffer
abbrev pub copied_from : ℕ → List ℕ → List Rec
copied_from cursor bytes =
    rec.Began (cursor + 1) (cursor - 87)
    ∷ rec.Moved pinned_piece (cursor - 88) (cursor + 1) (document_digest (moved_to (cursor + 1) bytes)) ∷ []

-- bytes of a document of four blocks
pub record AreFour (bytes : List ℕ) : Type 0 where
  pub whole : length bytes ≡ 512 * 4
  pub of_bytes : IsBytes bytes

-- the copy ends one block below 2^62
abbrev pub ACopyMayEndBelowTheLimit : Type 0
ACopyMayEndBelowTheLimit = (bytes block : List ℕ) → AreFour bytes → IsBlock block
    → IsStep (unsynced (Wrote (block_of over_the_end (2 ^ 62 - 6)) block ∷ Read (block_of over_the_end (2 ^ 62 - 94)) bytes ∷ [])) (before_flush (2 ^ 62 - 6) (document_digest bytes) (document_digest block)) (Flush ∷ [])
    (copied_from (2 ^ 62 - 6) bytes) None

-- it would end one block above: whatever the device does
abbrev pub ACopyAboveTheLimitIsNoStep : Type 0
ACopyAboveTheLimitIsNoStep = (piece object : Digest) (bytes : List ℕ) (calls : List Call)
    → IsStep (unsynced calls) (before_flush (2 ^ 62 - 4) piece object) (Flush ∷ []) (copied_from (2 ^ 62 - 4) bytes) None → ⊥

-- such a flush is refused, and no device is asked
abbrev pub AFlushAtTheLimitIsRefused : Type 0
AFlushAtTheLimitIsRefused = (piece object : Digest) → IsStep (unsynced []) (before_flush (2 ^ 62 - 4) piece object) (Flush ∷ []) [] (Some Exhausted)
