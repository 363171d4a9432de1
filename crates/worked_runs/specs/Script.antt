-- A script of nine lines on a device in memory of 83 blocks, and what each line did. The format lays the device out, and all
-- pieces stay in the buffer, so no other call is made. Keys and digests stay names: no SHA-256 is computed.
use Rattle.std.specs.Prelude.{ℕ, ◌+◌, ◌*◌, true, false, refl, List, [], ◌∷◌, ◌++◌, codes, None, replicate}
use Rattle.std.proofs.Math.Dec.{lit≤, lit<}
use Rattle.tape_base.specs.declared.digests.Digest.{Digest}
use Rattle.tape_base.specs.declared.geometries.Geometry.{Geometry}
use Rattle.tape_base.specs.declared.keys.Key.{Key}
use Rattle.tape_base.specs.Digest.{digest_of}
use Rattle.tape_base.specs.Key.{key_of_url}
use Rattle.tape_base.specs.Place.{directory_blocks_of}
use Rattle.device_log.specs.Calls.{Call, Synced, Wrote}
use Rattle.dir_sync.specs.SyncCalls.{open_block, shut_block}
use Rattle.stripe_copies.specs.Format.{first_span}
use Rattle.doc_header.specs.Document.{digest_of_document}
use Rattle.fragment_table.specs.Table.{TableRow, made_row}
use Rattle.alternate_vector.specs.Alternates.{Stored}
use Rattle.alternate_vector.specs.Spelling.{vector_bytes}
use Rattle.cache_model.specs.declared.answer.ReadAnswer.TheVariants as read
use Rattle.cache_model.specs.declared.cause.Cause.{Cause}
use Rattle.cache_model.specs.declared.cause.Cause.TheVariants as cause
use Rattle.cache_model.specs.declared.record.Rec.{Rec}
use Rattle.cache_model.specs.declared.record.Rec.TheVariants as rec
use Rattle.cache_model.specs.Legal.{format_records}
use Rattle.cache_model.specs.Permit.{Permit}
use Rattle.cache_model.specs.State.{fragment_piece, vector_piece}
use Rattle.script_run.specs.Turn.{Turn}

-- ---- the lines

-- 64 blocks of content, with buffers of 8 and fragments of 4 bytes
abbrev pub line_to_format : List ℕ
line_to_format = codes "format mem:a 1 64 64 8 16 4 7"

-- with no lines of a request
abbrev pub line_to_get : List ℕ
line_to_get = codes "get /a"

-- a body of one byte
abbrev pub line_to_put : List ℕ
line_to_put = codes "put /a 61"

-- an actor opens a reader
abbrev pub line_to_open : List ℕ
line_to_open = codes "open-read r /a"

-- and reads on
abbrev pub line_to_read_on : List ℕ
line_to_read_on = codes "next r"

-- what was put
abbrev pub line_to_remove : List ℕ
line_to_remove = codes "remove /a"

-- the object is looked for before it is put; behind that an actor reads it, it is got and removed, and is looked for again
abbrev pub script_lines : List (List ℕ)
script_lines =
    line_to_format
    ∷ line_to_get
    ∷ line_to_put
    ∷ line_to_open
    ∷ line_to_read_on
    ∷ line_to_read_on
    ∷ line_to_get
    ∷ line_to_remove
    ∷ line_to_get
    ∷ []

-- the actor
abbrev pub name_of_reader : List ℕ
name_of_reader = codes "r"

-- the key of the object
abbrev pub key_of_a : Key
key_of_a = key_of_url (codes "/a")

-- the body of the put
abbrev pub body_of_a : List ℕ
body_of_a = 97 ∷ []

-- ---- what each line recorded

-- the numbers of the first line, and five alternates
abbrev pub script_geometry : Geometry
script_geometry = record {
  segments = 1;
  buckets = 64;
  content = 64;
  agg = 8;
  reach = 16;
  fragment = 4;
  generation = 7;
  alternates = 5;
  accepted = record {
    segments_fit = (lit≤ tt, lit≤ tt);
    buckets_fit = (lit≤ tt, lit≤ tt);
    agg_fits = (lit≤ tt, lit≤ tt, refl);
    content_fits = (lit≤ tt, lit< tt);
    reach_fits = (lit≤ tt, lit< tt);
    fragment_fits = (lit≤ tt, lit≤ tt);
  };
  keeps = record { some = lit≤ tt; few = lit≤ tt };
}

-- a lookup by no actor, with no lines of a request, that finds nothing
abbrev pub miss_records : ℕ → Key → Cause → List Rec
miss_records reader key why = rec.ReadOpened reader (record { 0 = 0 }) key [] (read.Miss why) ∷ []

-- the one fragment of the put, in a table
abbrev pub row_of_a : TableRow
row_of_a = made_row 1 (digest_of body_of_a).0

-- what the vector of the put lists
abbrev pub alternate_of_a : Stored
alternate_of_a = record { put = 1; pin = 0; length = 1; request = []; response = []; table = row_of_a ∷ [] }

-- the digest of its fragment as a document
abbrev pub fragment_digest : Key → Digest
fragment_digest key = digest_of_document (record { id = fragment_piece key 1 1; place = 64; generation = 7; pin = 0; start = 0 }) body_of_a

-- and that of its vector
abbrev pub vector_digest : Key → Digest
vector_digest key =
    digest_of_document (record { id = vector_piece key 1; place = 65; generation = 7; pin = 0; start = 0 })
    (vector_bytes (alternate_of_a ∷ []))

-- the put of one byte: its fragment takes the first block of the buffer, its vector the next one
abbrev pub put_records : Key → List Rec
put_records key =
    rec.WriteOpened (record { 0 = 0 }) 1 key [] [] 0
    ∷ rec.Cut 1 1 1 (digest_of body_of_a)
    ∷ rec.Placed (fragment_piece key 1 1) 64 1 (fragment_digest key) 0
    ∷ rec.Placed (vector_piece key 1) 65 1 (vector_digest key) 0
    ∷ rec.Committed 1 key 1 (alternate_of_a ∷ [])
    ∷ []

-- the first actor opens a reader of it
abbrev pub hit_records : Key → List Rec
hit_records key = rec.ReadOpened 2 (record { 0 = 1 }) key [] (read.Hit 1) ∷ []

-- which is given the one fragment
abbrev pub piece_records : List Rec
piece_records = rec.Gave 2 1 1 ∷ []

-- and comes to the end
abbrev pub end_records : List Rec
end_records = rec.Ended 2 1 ∷ []

-- it is read to its end by no actor
abbrev pub get_records : Key → List Rec
get_records key = rec.ReadOpened 3 (record { 0 = 0 }) key [] (read.Hit 1) ∷ rec.Gave 3 1 1 ∷ rec.Ended 3 1 ∷ rec.ReadClosed 3 ∷ []

-- and then removed
abbrev pub removal_records : Key → List Rec
removal_records key = rec.Removed 1 key ∷ []

-- ---- the turns

-- as many bytes as a copy of the directory has; which they are no line says
abbrev pub body_of_copy : List ℕ
body_of_copy = replicate (512 * (directory_blocks_of script_geometry + 2)) 0

-- the calls of the format, the last one first
abbrev pub calls_of_format : List Call
calls_of_format =
    Synced
    ∷ Wrote 1 open_block
    ∷ Synced
    ∷ Wrote 3 body_of_copy
    ∷ Wrote 0 (first_span script_geometry)
    ∷ Synced
    ∷ Wrote 1 (shut_block ++ shut_block)
    ∷ []

-- behind the format, under a directory that displaces, at the moment 0: the device makes no call
abbrev pub silent : Permit
silent = record { packed = true; syncs = false; now = 0; past = calls_of_format; events = [] }

-- a line that added these records and gave these bytes, and made no call
abbrev pub silent_turn : List Rec → List ℕ → Turn
silent_turn added given = record { added = added; refused = None; device = silent; given = given; told = [] }

-- the format
abbrev pub turn_of_format : Turn
turn_of_format = record {
  added = format_records script_geometry;
  refused = None;
  device = record silent { past = []; events = calls_of_format };
  given = [];
  told = [];
}

-- the get before the put
abbrev pub turn_of_miss : Key → Turn
turn_of_miss key = silent_turn (miss_records 1 key cause.NeverPut) []

-- the put
abbrev pub turn_of_put : Key → Turn
turn_of_put key = silent_turn (put_records key) []

-- the line that opens the reader
abbrev pub turn_of_hit : Key → Turn
turn_of_hit key = silent_turn (hit_records key) []

-- the first that reads on
abbrev pub turn_of_piece : Turn
turn_of_piece = silent_turn piece_records body_of_a

-- the second
abbrev pub turn_of_end : Turn
turn_of_end = silent_turn end_records []

-- the get of what was put
abbrev pub turn_of_get : Key → Turn
turn_of_get key = silent_turn (get_records key) body_of_a

-- the removal
abbrev pub turn_of_removal : Key → Turn
turn_of_removal key = silent_turn (removal_records key) []

-- the get behind the removal
abbrev pub turn_at_last : Key → Turn
turn_at_last key = silent_turn (miss_records 4 key cause.Removed) []

-- what each line did, under any key
abbrev pub turns_with : Key → List Turn
turns_with key =
    turn_of_format
    ∷ turn_of_miss key
    ∷ turn_of_put key
    ∷ turn_of_hit key
    ∷ turn_of_piece
    ∷ turn_of_end
    ∷ turn_of_get key
    ∷ turn_of_removal key
    ∷ turn_at_last key
    ∷ []

-- under the key of the object
abbrev pub script_turns : List Turn
script_turns = turns_with key_of_a
