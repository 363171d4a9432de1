-- Sessions with syncs and openings, each worked by hand.
use Rattle.std.specs.Prelude.{ℕ, ◌≡◌, Bool, true, false, List, [], ◌∷◌, ◌++◌, Some, None, length, map, fold, codes}
use Rattle.tape_base.specs.declared.keys.Key.{Key}
use Rattle.tape_base.specs.declared.pieces.PieceId.{PieceId}
use Rattle.tape_base.specs.Digest.{digest_of}
use Rattle.doc_header.specs.declared.documents.Doc.{Doc}
use Rattle.doc_header.specs.Document.{digest_of_document}
use Rattle.fragment_table.specs.Table.{made_row}
use Rattle.alternate_vector.specs.Alternates.{Stored}
use Rattle.alternate_vector.specs.Spelling.{vector_bytes}
use Rattle.cache_model.specs.declared.answer.ReadAnswer.TheVariants as read
use Rattle.cache_model.specs.declared.cause.Cause.TheVariants as cause
use Rattle.cache_model.specs.declared.findings.FoundRow.{FoundRow}
use Rattle.cache_model.specs.declared.record.Rec.TheVariants as rec
use Rattle.cache_model.specs.Opening.{Opening}
use Rattle.cache_model.specs.Openings.{IsOpening}
use Rattle.cache_model.specs.Syncs.{Follows}
use Rattle.cache_model.specs.State.{State, Mark, after_all, mark_of_format, floor_now, least_geometry, list_of_piece, mark_now, nothing_yet, vector_piece}
use Rattle.cache_model.specs.Verdict.{lookup_verdict, vector_of}
use Rattle.cache_model.specs.Legal.{format_records}
use Rattle.cache_model.specs.Room.{MayDisplace, is_full_for}
use Rattle.cache_model.specs.Syncing.{InParts, WhereDue, at_first, first_records}
use Rattle.record_rows.specs.Worked.{a, b, behind_format, behind_opening, empty_put, fillers, flush_here, flushed, language, last, late, no_bytes, no_digest, of_packed, one_byte, other, placed_here, put_at, put_here, put_with, small, some_digest, synced, taking, told, varies}

-- ---- a sync, and what comes behind it

-- one object, a sync, and another object
abbrev pub with_later_put : State
with_later_put = behind_format (put_at 64 1 a ++ (synced 2 66 false ++ (rec.Began 66 10 ∷ put_at 66 2 b)))

-- what the sync held when it began
abbrev pub second_sync : Opening
second_sync = taking (mark_now (behind_format (put_at 64 1 a)) 2 66 false)

-- the sync alone may be found, with both pieces of the first object; the second object is lost
abbrev pub LaterPutsAreLost : Type 0
LaterPutsAreLost = (told with_later_put ≡ record { serial = 2; cursor = 66; floor = 18; found = 2; clean = false } ∷ [])
    × (lookup_verdict (behind_opening second_sync []) a [] ≡ read.Hit 1)
    × (lookup_verdict (behind_opening second_sync []) b [] ≡ read.Miss (cause.BeforeOpening 2))

-- so an opening that takes it up follows that session
abbrev pub AnOpeningFollows : Type 0
AnOpeningFollows = Follows with_later_put small second_sync

-- and what a format leaves may be opened: nothing is found
abbrev pub AFormatMayBeOpened : Type 0
AFormatMayBeOpened = IsOpening true small (taking (mark_of_format small))

-- a removal behind it
abbrev pub with_removal : State
with_removal = behind_format (put_at 64 1 a ++ (synced 2 66 false ++ (rec.Began 66 10 ∷ rec.Removed 1 a ∷ [])))

-- leaves what the sync holds, so the object comes back
abbrev pub ARemovalComesBack : Type 0
ARemovalComesBack = (told with_removal ≡ record { serial = 2; cursor = 66; floor = 18; found = 2; clean = false } ∷ [])
    × (lookup_verdict with_removal a [] ≡ read.Miss cause.Removed)
    × (lookup_verdict (behind_opening second_sync []) a [] ≡ read.Hit 1)

-- ---- a sync in parts

-- it was begun behind one object, and is not finished
abbrev pub while_it_runs : State
while_it_runs = behind_format (put_at 64 1 a ++ rec.SyncBegun 2 66 false true ∷ rec.Began 66 10 ∷ [])

-- it may be found, and so may the format; behind that nothing is known
abbrev pub ARunningSyncMayBeTaken : Type 0
ARunningSyncMayBeTaken = (while_it_runs.running ≡ Some 2)
    × (told while_it_runs
    ≡ record { serial = 2; cursor = 66; floor = 18; found = 2; clean = false } ∷ record { serial = 1; cursor = 64; floor = 16; found = 0; clean = false } ∷ [])
    × (lookup_verdict (behind_opening (taking (mark_now (behind_format []) 1 64 false)) []) a [] ≡ read.Miss (cause.BeforeOpening 1))

-- another object, and then its last part
abbrev pub once_it_ended : State
once_it_ended = behind_format (put_at 64 1 a ++ (rec.SyncBegun 2 66 false true ∷ rec.Began 66 10 ∷ put_at 66 2 b) ++ rec.SyncDone 2 ∷ [])

-- it alone may be found, without that object
abbrev pub AFinishedSyncIsTaken : Type 0
AFinishedSyncIsTaken = (once_it_ended.running ≡ None)
    × (told once_it_ended ≡ record { serial = 2; cursor = 66; floor = 18; found = 2; clean = false } ∷ [])

-- ---- a stripe that is closed

-- the buffer is synced, and then a clean copy is written
abbrev pub once_closed : State
once_closed = behind_format (put_at 64 1 a ++ (synced 2 66 false ++ (rec.Began 66 10 ∷ synced 3 66 true)))

-- what it holds
abbrev pub clean_sync : Opening
clean_sync = taking (mark_now (behind_format (put_at 64 1 a ++ (synced 2 66 false ++ rec.Began 66 10 ∷ []))) 3 66 true)

-- it is marked, and the opening finds all from the floor on that it had
abbrev pub AClosedStripeOpensClean : Type 0
AClosedStripeOpensClean = (once_closed.marked ≡ true)
    × (told once_closed ≡ record { serial = 3; cursor = 66; floor = 10; found = 2; clean = true } ∷ [])
    × ((behind_opening clean_sync []).marked ≡ true)
    × (lookup_verdict (behind_opening clean_sync []) a [] ≡ read.Hit 1)

-- behind that opening a sync that is not clean comes before an object is put
abbrev pub once_written : State
once_written = behind_opening clean_sync (synced 4 66 false ++ put_at 66 2 b)

-- the mark is gone, and the bound is that of the cursor again
abbrev pub WhatIsWrittenUnmarks : Type 0
WhatIsWrittenUnmarks = (once_written.marked ≡ false)
    × (told once_written ≡ record { serial = 4; cursor = 66; floor = 18; found = 2; clean = false } ∷ [])
    × (lookup_verdict once_written b [] ≡ read.Hit 2)

-- ---- found vectors

-- an alternate of one fragment, for one language
abbrev pub stored_in : ℕ → List ℕ → Stored
stored_in put value = record (one_byte (language value) varies put) { table = made_row 1 some_digest ∷ [] }

-- a vector's document
abbrev pub document_of : ℕ → ℕ → Key → Doc
document_of place put key = record { id = vector_piece key put; place = place; generation = 7; pin = 0; start = 0 }

-- the vector as an opening finds it
abbrev pub vector_at : ℕ → ℕ → Key → List Stored → FoundRow
vector_at place put key list = record {
  id = vector_piece key put;
  place = place;
  blocks = 1;
  digest = digest_of_document (document_of place put key) (vector_bytes list);
  length = length (vector_bytes list);
  payload = digest_of (vector_bytes list);
  pin = 0;
  alternates = Some list;
}

-- two alternates of one key
abbrev pub two_languages : List Stored
two_languages = stored_in 3 (codes "de") ∷ stored_in 4 (codes "fr") ∷ []

-- one with two alternates, and one with a single alternate, which no line varies
abbrev pub two_vectors : Opening
two_vectors = record {
  serial = 9;
  cursor = 70;
  floor = 22;
  next_put = 6;
  clean = false;
  found = vector_at 64 4 a two_languages ∷ vector_at 65 5 b (no_bytes 5 ∷ []) ∷ [];
}

-- an opening may take them up, of a directory that displaces too
abbrev pub TwoVectorsMayBeFound : Type 0
TwoVectorsMayBeFound = (packed : Bool) → IsOpening packed small two_vectors

-- each is its key's last; a request that none matches is told how many there are, and of a third key it is told that
-- the session began with the opening
abbrev pub AFoundVectorIsKnown : Type 0
AFoundVectorIsKnown = (vector_of (behind_opening two_vectors []) a ≡ Some (vector_piece a 4))
    × (lookup_verdict (behind_opening two_vectors []) a (language (codes "fr")) ≡ read.Hit 4)
    × (lookup_verdict (behind_opening two_vectors []) a (language (codes "it")) ≡ read.Miss (cause.NoMatch 2))
    × (lookup_verdict (behind_opening two_vectors []) b [] ≡ read.Hit 5)
    × (lookup_verdict (behind_opening two_vectors []) other [] ≡ read.Miss (cause.BeforeOpening 9))

-- an object of one more language
abbrev pub once_merged : State
once_merged = behind_opening two_vectors (put_with two_languages (language (codes "it")) varies 70 6 a)

-- stands beside those that were found, whose vector goes; the commit tells what its vector lists
abbrev pub AnotherPutMerges : Type 0
AnotherPutMerges = (list_of_piece once_merged (vector_piece a 6) ≡ two_languages ++ one_byte (language (codes "it")) varies 6 ∷ [])
    × (lookup_verdict once_merged a (language (codes "it")) ≡ read.Hit 6)
    × (lookup_verdict once_merged a (language (codes "de")) ≡ read.Hit 3)
    × (lookup_verdict once_merged a (language (codes "es")) ≡ read.Miss (cause.NoMatch 3))
    × (length once_merged.rows ≡ 3)

-- ---- syncs that are due

-- the last of eight puts fills the last buffer of a lap
abbrev pub at_lap_end : State
at_lap_end = flushed WhereDue (fillers 8 (behind_format []))

-- the flush of that buffer makes the fifth sync, and the next buffer begins the next lap; an empty buffer is left
abbrev pub ALapEndsWithASync : Type 0
ALapEndsWithASync = (at_lap_end.cursor ≡ 128)
    × (floor_now at_lap_end ≡ 72)
    × (flush_here WhereDue (fillers 8 (behind_format [])) ≡ rec.SyncBegun 5 128 false false ∷ rec.SyncDone 5 ∷ rec.Began 128 72 ∷ [])
    × (map (λ (m : Mark). m.cursor) at_lap_end.marks ≡ 128 ∷ 112 ∷ 96 ∷ 80 ∷ 64 ∷ [])

-- an object of no bytes stands alone in that buffer
abbrev pub with_one_block : State
with_one_block = put_here b 0 (fillers 7 (behind_format []))

-- so it is of a buffer of one block
abbrev pub AShortBufferEndsTheLap : Type 0
AShortBufferEndsTheLap = (with_one_block.filled ≡ 1)
    × (flush_here WhereDue with_one_block ≡ rec.SyncBegun 5 128 false false ∷ rec.SyncDone 5 ∷ rec.Began 128 72 ∷ [])

-- a sync in parts was begun at the end of a lap
abbrev pub at_end_in_parts : State
at_end_in_parts = flushed InParts (fillers 8 (behind_format []))

-- the device refused a part of it
abbrev pub once_refused : State
once_refused = after_all at_end_in_parts (rec.Fault 1 ∷ [])

-- and a buffer was filled behind that
abbrev pub past_its_reach : State
past_its_reach = fillers 1 once_refused

-- that sync goes on still; it is ended before the buffer is written, and holds the pieces of six puts, and one vector
abbrev pub ARunningSyncIsEndedFirst : Type 0
ARunningSyncIsEndedFirst = (flush_here InParts (fillers 8 (behind_format [])) ≡ rec.SyncBegun 5 128 false true ∷ rec.Began 128 72 ∷ [])
    × ((past_its_reach.cursor ≡ 128) × (past_its_reach.filled ≡ 8))
    × (past_its_reach.running ≡ Some 5)
    × (first_records WhereDue past_its_reach ≡ rec.SyncDone 5 ∷ [])
    × (told (at_first WhereDue past_its_reach) ≡ record { serial = 5; cursor = 128; floor = 80; found = 43; clean = false } ∷ [])

-- behind the records of an object of no bytes
abbrev pub with_tenth : State
with_tenth = after_all past_its_reach (empty_put b past_its_reach)

-- so do these: its vector has no room, and the flush for it ends that sync first, which alone may be found then
abbrev pub AnEmptyPutEndsItFirst : Type 0
AnEmptyPutEndsItFirst = (empty_put b past_its_reach
    ≡ rec.WriteOpened (record { 0 = 0 }) 10 b [] [] 0 ∷ rec.SyncDone 5 ∷ rec.Began 136 80 ∷ rec.Placed (vector_piece b 10) 136 1 no_digest 0
    ∷ rec.Committed 10 b 0 (no_bytes 10 ∷ []) ∷ [])
    × (list_of_piece with_tenth (vector_piece b 10) ≡ no_bytes 10 ∷ [])
    × (told with_tenth ≡ record { serial = 5; cursor = 128; floor = 80; found = 43; clean = false } ∷ [])
    × (lookup_verdict with_tenth b [] ≡ read.Hit 10)

-- ---- a full segment

-- objects of no bytes, each a vector alone, in a directory of one bucket
abbrev pub objects : List Key → State
objects keys = fold (λ s key. put_here key 0 s) (after_all nothing_yet (format_records least_geometry)) keys

-- four of them use all its slots
abbrev pub with_four : State
with_four = objects (a ∷ b ∷ other ∷ last ∷ [])

-- the vector of a fifth
abbrev pub fifth : PieceId
fifth = vector_piece late 5

-- its entry displaces the first object
abbrev pub once_displaced : State
once_displaced = placed_here (rec.Displaced (vector_piece a 1) 0 4 ∷ []) fifth with_four

-- exactly one piece goes, which is a tenth of the slots that are no roots, and leaves a slot; where there is one nothing goes
abbrev pub AFullSegmentLosesATenth : Type 0
AFullSegmentLosesATenth = MayDisplace of_packed with_four fifth (rec.Displaced (vector_piece a 1) 0 4 ∷ [])
    × (is_full_for with_four fifth ≡ true)
    × (is_full_for (objects (a ∷ b ∷ other ∷ [])) fifth ≡ false)
    × (lookup_verdict once_displaced a [] ≡ read.Miss (cause.Displaced 0 4))
    × (lookup_verdict once_displaced b [] ≡ read.Hit 2)
