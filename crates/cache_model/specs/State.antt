-- What the records of a session stand for: one record of values, and what each record makes of it.
use Rattle.std.specs.Prelude.{ℕ, max, ◌+◌, ◌-◌, ◌*◌, ◌==◌, nat_le, Bool, true, false, not, if◌then◌else◌, List, [], ◌∷◌, ◌++◌, map, filter, find, fold, Option, Some, None, option_map, option_and_then, option_to_list, slice_get, unwrap_or, length, refl}
use Rattle.std.specs.Map.{lookup}
use Rattle.std.specs.List.{flat_map}
use Rattle.std.proofs.Math.Dec.{lit≤, lit<}
use Rattle.tape_base.specs.declared.keys.Key.{Key}
use Rattle.tape_base.specs.declared.pieces.PieceId.{PieceId}
use Rattle.tape_base.specs.declared.digests.Digest.{Digest}
use Rattle.tape_base.specs.declared.geometries.Geometry.{Geometry}
use Rattle.tape_base.specs.Key.{same_key}
use Rattle.tape_base.specs.Piece.{is_vector, same_piece}
use Rattle.tape_base.specs.Geometry.{budget_of}
use Rattle.tape_base.specs.Place.{floor_of, next_cursor_of, reach_of}
use Rattle.fragment_table.specs.Table.{TableRow, made_row, total_length}
use Rattle.alternate_vector.specs.Field.{Field}
use Rattle.alternate_vector.specs.Alternates.{Stored, chosen, merged}
use Rattle.cache_model.specs.declared.cause.Cause.{Cause}
use Rattle.cache_model.specs.declared.cause.Cause.TheVariants as cause
use Rattle.cache_model.specs.declared.answer.ReadAnswer.{ReadAnswer}
use Rattle.cache_model.specs.declared.answer.ReadAnswer.TheVariants as read
use Rattle.cache_model.specs.declared.findings.FoundRow.{FoundRow}
use Rattle.cache_model.specs.Opening.{Opening}
use Rattle.cache_model.specs.declared.record.Rec.{Rec}
use Rattle.cache_model.specs.declared.record.Rec.TheVariants as rec

-- a piece that was placed and not taken out; a fragment has the length and the digest of its payload, a vector the
-- alternates that it lists
pub record Row : Type 0 where
  pub id : PieceId
  pub place : ℕ
  pub blocks : ℕ
  pub digest : Digest
  pub payload : Option TableRow
  pub pin : ℕ
  pub alternates : Option (List Stored)

-- what a sync holds: its serial, the cursor of the buffer behind it, the place below which it names nothing, where the
-- last of its pieces may end, the next put number, whether it is clean, and the pieces that it names
pub record Mark : Type 0 where
  pub serial : ℕ
  pub cursor : ℕ
  pub low : ℕ
  pub end : ℕ
  pub next_put : ℕ
  pub clean : Bool
  pub rows : List Row

-- the last of a key's commits and removals, by the put of its vector
pub data LastVector : Type 0 where
  Complete : (put : ℕ) → LastVector
  TakenOut : (put : ℕ) → LastVector

-- how far a put has come
pub data Writing : Type 0 where
  Open : Writing
  Closed : Writing
  GivenUp : Writing

-- a put of this session, and the fragments that it has cut
pub record PutRow : Type 0 where
  pub actor : ℕ
  pub put : ℕ
  pub key : Key
  pub request : List Field
  pub response : List Field
  pub pin : ℕ
  pub cuts : List TableRow
  pub writing : Writing

-- an open reader: the fragments of the alternate that it hit, or none where it follows a writer,
-- and the index that it takes next
pub record ReaderRow : Type 0 where
  pub actor : ℕ
  pub reader : ℕ
  pub key : Key
  pub put : ℕ
  pub table : Option (List TableRow)
  pub next : ℕ

-- the tape, the pieces, the keys' vectors, the puts and the readers of a session at one moment
pub record State : Type 0 where
  pub geometry : Geometry
  -- where the buffer begins, and how many blocks were placed from there
  pub cursor : ℕ
  pub filled : ℕ
  -- the pieces that stand, in the order in which they were placed
  pub rows : List Row
  -- the piece that was placed last at each place, the last first
  pub places : List (ℕ × PieceId)
  -- the places of the pieces that were to be copied ahead and were not, the last first
  pub unsaved : List ℕ
  -- what the insert that goes on has displaced so far
  pub displaced : List Row
  -- the pieces that were displaced or damaged, the last first
  pub lost : List (PieceId × Cause)
  -- the commits and removals of each key, the last first
  pub vectors : List (Key × LastVector)
  -- how many alternates each vector lists, as its commit or the opening told it, the last first
  pub counts : List (PieceId × ℕ)
  -- the puts, the last first
  pub puts : List PutRow
  -- the length and the digest of the fragment that was cut last, which is placed next
  pub last_cut : Option TableRow
  -- a vector that was placed and is not committed yet
  pub pending : Option PieceId
  -- the number of the next put
  pub next_put : ℕ
  -- the puts of each key that were given up, the last first
  pub aborts : List (Key × ℕ)
  -- the open readers, the last first
  pub readers : List ReaderRow
  -- the number of the next reader
  pub next_reader : ℕ
  -- the device's count at its last fault
  pub fault : ℕ
  -- the floor of the opening with which the session began; 0 behind a format
  pub least : ℕ
  -- the serial of that opening
  pub opened : Option ℕ
  -- what the syncs of the session hold, the last first; the first of all is that with which it began
  pub marks : List Mark
  -- the serial of the last sync that finished
  pub finished : ℕ
  -- the serial of the sync in parts that goes on
  pub running : Option ℕ
  -- a clean copy may be found: nothing is placed before a sync that is not clean
  pub marked : Bool
  -- how many puts were forgotten
  pub dropped : ℕ

-- a geometry that stands where no session began yet
abbrev pub least_geometry : Geometry
least_geometry = record {
  segments = 1;
  buckets = 1;
  content = 32;
  agg = 8;
  reach = 8;
  fragment = 1;
  generation = 0;
  alternates = 5;
  accepted = record {
    segments_fit = (lit≤ tt, lit≤ tt);
    buckets_fit = (lit≤ tt, lit≤ tt);
    agg_fits = (lit≤ tt, lit≤ tt, refl);
    content_fits = (lit≤ tt, lit< tt);
    reach_fits = (lit≤ tt, lit< tt);
    fragment_fits = (lit≤ tt, lit≤ tt);
  };
  keeps = record { some = lit≤ tt; few = lit≤ tt };
}

-- the place below which a copy that is not clean names nothing: what stands there the cursor may have come to
abbrev pub low_of : Geometry → ℕ → ℕ
low_of g cursor = reach_of g cursor - g.content

-- what the copy holds that a format makes
abbrev pub mark_of_format : Geometry → Mark
mark_of_format g =
    record { serial = 1; cursor = g.content; low = low_of g g.content; end = g.content; next_put = 1; clean = false; rows = [] }

-- at the beginning of a session that a format began
abbrev pub formatted : Geometry → State
formatted geometry = record {
  geometry = geometry;
  cursor = geometry.content;
  filled = 0;
  rows = [];
  places = [];
  unsaved = [];
  displaced = [];
  lost = [];
  vectors = [];
  counts = [];
  puts = [];
  last_cut = None;
  pending = None;
  next_put = 1;
  aborts = [];
  readers = [];
  next_reader = 1;
  fault = 0;
  least = 0;
  opened = None;
  marks = mark_of_format geometry ∷ [];
  finished = 1;
  running = None;
  marked = false;
  dropped = 0;
}

-- before the first record
abbrev pub nothing_yet : State
nothing_yet = formatted least_geometry

-- ---- places (aggregation buffer: Apache Traffic Server guide, Cache Architecture)

-- the least place that may be read: that of the buffer, or that of the opening
abbrev pub floor_now : State → ℕ
floor_now s = max s.least (floor_of s.geometry s.cursor)

-- where the next piece is placed
abbrev pub place_now : State → ℕ
place_now s = s.cursor + s.filled

-- where the next buffer begins: behind what is filled, or at the next lap
abbrev pub cursor_next : State → ℕ
cursor_next s = next_cursor_of s.geometry s.cursor s.filled

-- the floor once that buffer begins: what is below it then is passed
abbrev pub floor_next : State → ℕ
floor_next s = max s.least (floor_of s.geometry (cursor_next s))

-- ---- pieces

-- how many fragments a put may have: as many as a table may have rows; its vector does not count
abbrev pub most_fragments : ℕ
most_fragments = 4096

-- the vector of a put: index 0 under the key
abbrev pub vector_piece : Key → ℕ → PieceId
vector_piece key put = record { first = key; put = put; index = 0 }

-- a fragment of a put, by its index from 1 in the order of the body
abbrev pub fragment_piece : Key → ℕ → ℕ → PieceId
fragment_piece key put index = record { first = key; put = put; index = index }

-- the first of these rows that is the piece's, live or not
abbrev pub row_in : List Row → PieceId → Option Row
row_in rows id = find (λ row. same_piece row.id id) rows

-- the row of a piece, also where the floor has passed it; none where it was taken out
abbrev pub row_of : State → PieceId → Option Row
row_of s id = row_in s.rows id

-- the place at which a piece begins, also below the floor; none where it was taken out
abbrev pub place_of : State → PieceId → Option ℕ
place_of s id = option_map (λ row. row.place) (row_of s id)

-- a piece is live where its place is not below the floor, also where it ends above it
abbrev pub is_live : State → Row → Bool
is_live s row = nat_le (floor_now s) row.place

-- the row where it may be read, else none
abbrev pub only_live : State → Row → Option Row
only_live s row = if is_live s row then Some row else None

-- a piece that may be read: it stands, and the floor has not passed it
abbrev pub live_row_of : State → PieceId → Option Row
live_row_of s id = option_and_then (only_live s) (row_of s id)

-- all pieces that may be read, in the order in which they were placed
abbrev pub live_rows : State → List Row
live_rows s = filter (is_live s) s.rows

-- ---- what is found, and what syncs hold

-- the length and the digest of a found fragment's payload, by the header that the opening accepted
abbrev pub payload_of_found : FoundRow → Option TableRow
payload_of_found f = if is_vector f.id then None else Some (made_row f.length f.payload.0)

-- a piece that an opening found
abbrev pub row_of_found : FoundRow → Row
row_of_found f =
    record { id = f.id; place = f.place; blocks = f.blocks; digest = f.digest; payload = payload_of_found f; pin = f.pin; alternates = f.alternates }

-- its place
abbrev pub place_of_found : FoundRow → ℕ × PieceId
place_of_found f = (f.place, f.id)

-- where it is a vector, that is its key's last
abbrev pub vector_of_found : FoundRow → List (Key × LastVector)
vector_of_found f = if is_vector f.id then (f.id.first, Complete f.id.put) ∷ [] else []

-- and lists so many alternates
abbrev pub count_of_found : FoundRow → List (PieceId × ℕ)
count_of_found f = if is_vector f.id then (f.id, length (unwrap_or f.alternates [])) ∷ [] else []

-- what the copy holds that an opening took
abbrev pub mark_of_opening : Opening → Mark
mark_of_opening o =
    record { serial = o.serial; cursor = o.cursor; low = o.floor; end = o.cursor; next_put = o.next_put; clean = o.clean; rows = map row_of_found o.found }

-- at the beginning of a session that an opening began
abbrev pub state_of_opening : Geometry → Opening → State
state_of_opening geometry o = record (formatted geometry) {
  cursor = o.cursor;
  rows = map row_of_found o.found;
  places = map place_of_found o.found;
  vectors = flat_map vector_of_found o.found;
  counts = flat_map count_of_found o.found;
  next_put = o.next_put;
  least = o.floor;
  opened = Some o.serial;
  marks = mark_of_opening o ∷ [];
  finished = o.serial;
  marked = o.clean;
}

-- a clean sync names from the floor on, another one from a lap below the place up to which the cursor may come before the
-- next
abbrev pub low_of_sync : State → ℕ → Bool → ℕ
low_of_sync s cursor clean = if clean then floor_now s else low_of s.geometry cursor

-- the live pieces that a sync with this cursor names
abbrev pub synced_rows : State → ℕ → Bool → List Row
synced_rows s cursor clean = filter (λ row. nat_le (low_of_sync s cursor clean) row.place) (live_rows s)

-- what a sync that begins now holds
abbrev pub mark_now : State → ℕ → ℕ → Bool → Mark
mark_now s serial cursor clean = record {
  serial = serial;
  cursor = cursor;
  low = low_of_sync s cursor clean;
  end = place_now s;
  next_put = s.next_put;
  clean = clean;
  rows = synced_rows s cursor clean;
}

-- the sync of this serial
abbrev pub mark_of : State → ℕ → Option Mark
mark_of s serial = find (λ m. m.serial == serial) s.marks

-- the cursor of the last sync that finished
abbrev pub synced_cursor : State → ℕ
synced_cursor s = unwrap_or (option_map (λ (m : Mark). m.cursor) (mark_of s s.finished)) s.geometry.content

-- it is known as a clean one
abbrev pub is_clean_sync : State → ℕ → Bool
is_clean_sync s serial = unwrap_or (option_map (λ (m : Mark). m.clean) (mark_of s serial)) false

-- ---- puts and readers

-- the put of this number, open or over: it stays known up to the session's end
abbrev pub put_of : State → ℕ → Option PutRow
put_of s put = find (λ p. p.put == put) s.puts

-- the open reader of this number; one that was closed is gone
abbrev pub reader_of : State → ℕ → Option ReaderRow
reader_of s reader = find (λ r. r.reader == reader) s.readers

-- the key's last commit or removal, also where that vector is not live any more
abbrev pub last_vector : State → Key → Option LastVector
last_vector s key = lookup (λ k. same_key k key) s.vectors

-- the put of the key that was given up last, whatever was committed before or since
abbrev pub last_abort : State → Key → Option ℕ
last_abort s key = lookup (λ k. same_key k key) s.aborts

-- ---- alternates (RFC 9111, section 4.1)

-- the alternate that a put stands for
abbrev pub alternate_of : PutRow → Stored
alternate_of p = record { put = p.put; pin = p.pin; length = total_length p.cuts; request = p.request; response = p.response; table = p.cuts }

-- what a vector lists that stands, live or not
abbrev pub list_of_piece : State → PieceId → List Stored
list_of_piece s id = unwrap_or (option_and_then (λ (row : Row). row.alternates) (row_of s id)) []

-- how many alternates a vector lists, as it was told
abbrev pub count_of_vector : State → PieceId → ℕ
count_of_vector s id = unwrap_or (lookup (λ i. same_piece i id) s.counts) 0

-- the alternates of a vector that may be read
abbrev pub list_of_row : State → Row → List Stored
list_of_row s row = if is_live s row then unwrap_or row.alternates [] else []

-- the alternates of a key's last vector, where that is live and among some rows
abbrev pub list_of_last : State → List Row → Key → LastVector → List Stored
list_of_last s rows key (Complete put) = unwrap_or (option_map (list_of_row s) (row_in rows (vector_piece key put))) []
list_of_last s rows key (TakenOut put) = []

-- so it is of a key; one that was never committed, or was removed last, has none
abbrev pub list_among : State → List Row → Key → List Stored
list_among s rows key = unwrap_or (option_map (list_of_last s rows key) (last_vector s key)) []

-- the alternates of a key
abbrev pub alternates_of : State → Key → List Stored
alternates_of s key = list_among s s.rows key

-- the most bytes of payload that one piece may have
abbrev pub most_payload : Geometry → ℕ
most_payload g = 512 * budget_of g - 128

-- the alternates of a put's vector: those before that the new request does not match, and the put's
-- own, as many from the end as there may be; what the insert displaces counts as still there
abbrev pub merged_list : State → PutRow → List Stored
merged_list s p = merged s.geometry.alternates (most_payload s.geometry) (list_among s (s.displaced ++ s.rows) p.key) (alternate_of p)

-- the same by the put's number; nothing of a put that is not known
abbrev pub list_of_put : State → ℕ → List Stored
list_of_put s put = unwrap_or (option_map (merged_list s) (put_of s put)) []

-- the last alternate of a list that matches a request
abbrev pub last_match : List Field → List Stored → Option Stored
last_match request alternates = option_and_then (slice_get alternates) (chosen request alternates)

-- ---- what each record makes of the state

-- the rows but those of the piece, in the same order
abbrev pub without : PieceId → List Row → List Row
without id rows = filter (λ row. not (same_piece row.id id)) rows

-- what a piece lists when it is placed: a vector the list of its put, a fragment none
abbrev pub listed : State → PieceId → Option (List Stored)
listed s piece = if is_vector piece then Some (list_of_put s piece.put) else None

-- the payload of a piece that is placed: that of the fragment that was cut last
abbrev pub payload_placed : State → PieceId → Option TableRow
payload_placed s piece = if is_vector piece then None else s.last_cut

-- the row of a piece that is placed: its payload and what a vector lists are fixed by the state before
abbrev pub placed_row : State → PieceId → ℕ → ℕ → Digest → ℕ → Row
placed_row s piece place blocks digest pin =
    record { id = piece; place = place; blocks = blocks; digest = digest; payload = payload_placed s piece; pin = pin; alternates = listed s piece }

-- a key's last vector goes, where it is not that of the put
abbrev pub without_earlier : Key → ℕ → Option LastVector → List Row → List Row
without_earlier key put (Some (Complete old)) rows = if old == put then rows else without (vector_piece key old) rows
without_earlier key put _ rows = rows

-- the put of this number is changed; all others stay, and their order
abbrev pub change_put : ℕ → (PutRow → PutRow) → List PutRow → List PutRow
change_put put f puts = map (λ p. if p.put == put then f p else p) puts

-- with one fragment more, behind those that the put has cut
abbrev pub with_cut : TableRow → PutRow → PutRow
with_cut row p = record p { cuts = p.cuts ++ row ∷ [] }

-- the put at another stage, with its cuts and lines as they are
abbrev pub with_writing : Writing → PutRow → PutRow
with_writing writing p = record p { writing = writing }

-- the reader of this number goes on to the index `next`; all others stay
abbrev pub change_reader : ℕ → ℕ → List ReaderRow → List ReaderRow
change_reader reader next readers = map {A = ReaderRow} (λ r. if r.reader == reader then record r { next = next } else r) readers

-- all readers but the one of this number, which is closed
abbrev pub without_reader : ℕ → List ReaderRow → List ReaderRow
without_reader reader readers = filter (λ r. not (r.reader == reader)) readers

-- the fragments of the alternate that a lookup hits
abbrev pub table_of_hit : State → Key → List Field → List TableRow
table_of_hit s key request = unwrap_or (option_map (λ (a : Stored). a.table) (last_match request (alternates_of s key))) []

-- a hit keeps the table as it is listed then; one that follows has none, and a miss opens no reader
abbrev pub opened_reader : State → ℕ → ℕ → Key → List Field → ReadAnswer → List ReaderRow
opened_reader s reader actor key request (read.Hit put) =
    record { actor = actor; reader = reader; key = key; put = put; table = Some (table_of_hit s key request); next = 1 } ∷ []
opened_reader s reader actor key request (read.Follow put) =
    record { actor = actor; reader = reader; key = key; put = put; table = None; next = 1 } ∷ []
opened_reader s reader actor key request (read.Miss why) = []

-- a piece at another place, as the document with this digest
abbrev pub moved_row : ℕ → Digest → Row → Row
moved_row place digest row = record row { place = place; digest = digest }

-- the blocks that a copy takes: those of its piece, and none where that does not stand
abbrev pub blocks_of_row : Option Row → ℕ
blocks_of_row row = unwrap_or (option_map (λ (r : Row). r.blocks) row) 0

-- a put at its beginning: open, with no fragment cut
abbrev pub opened_put : ℕ → ℕ → Key → List Field → List Field → ℕ → PutRow
opened_put actor put key request response pin =
    record { actor = actor; put = put; key = key; request = request; response = response; pin = pin; cuts = []; writing = Open }

-- the state behind one record; a format or an opening leaves nothing of the session before it
abbrev pub state_after : State → Rec → State
state_after s (rec.Formatted geometry) = formatted geometry
state_after s (rec.Opened geometry serial cursor floor next_put clean list) =
    state_of_opening geometry (record { serial = serial; cursor = cursor; floor = floor; next_put = next_put; clean = clean; found = list })
state_after s (rec.Began cursor floor) = record s { cursor = cursor; filled = 0 }
state_after s (rec.Placed piece place blocks digest pin) = record s {
  filled = s.filled + blocks;
  rows = without piece s.rows ++ placed_row s piece place blocks digest pin ∷ [];
  places = (place, piece) ∷ s.places;
  displaced = [];
  pending = if is_vector piece then Some piece else s.pending;
}
state_after s (rec.Moved piece from place digest) = record s {
  filled = s.filled + blocks_of_row (row_of s piece);
  rows = without piece s.rows ++ map (moved_row place digest) (option_to_list (row_of s piece));
  places = (place, piece) ∷ s.places;
}
state_after s (rec.Unsaved piece place fault) = record s { unsaved = place ∷ s.unsaved }
state_after s (rec.Displaced piece segment live) = record s {
  rows = without piece s.rows;
  displaced = s.displaced ++ option_to_list (row_of s piece);
  lost = (piece, cause.Displaced segment live) ∷ s.lost;
}
state_after s (rec.Damaged piece place kept found) = record s {
  rows = without piece s.rows;
  lost = (piece, cause.Damaged place kept found) ∷ s.lost;
}
state_after s (rec.WriteOpened actor put key request response pin) = record s {
  puts = opened_put actor.0 put key request response pin ∷ s.puts;
  next_put = put + 1;
}
state_after s (rec.Cut put index length digest) = record s {
  puts = change_put put (with_cut (made_row length digest.0)) s.puts;
  last_cut = Some (made_row length digest.0);
}
state_after s (rec.Committed put key bytes alternates) = record s {
  rows = without_earlier key put (last_vector s key) s.rows;
  vectors = (key, Complete put) ∷ s.vectors;
  counts = (vector_piece key put, length alternates) ∷ s.counts;
  puts = change_put put (with_writing Closed) s.puts;
  pending = None;
}
state_after s (rec.Aborted put key) = record s {
  puts = change_put put (with_writing GivenUp) s.puts;
  aborts = (key, put) ∷ s.aborts;
}
state_after s (rec.Removed put key) = record s {
  rows = without (vector_piece key put) s.rows;
  vectors = (key, TakenOut put) ∷ s.vectors;
}
state_after s (rec.ReadOpened reader actor key request answer) = record s {
  readers = opened_reader s reader actor.0 key request answer ++ s.readers;
  next_reader = reader + 1;
}
state_after s (rec.Gave reader index length) = record s { readers = change_reader reader (index + 1) s.readers }
state_after s (rec.Ended reader length) = s
state_after s (rec.Waited reader cut) = s
state_after s (rec.Broke reader why) = s
state_after s (rec.ReadClosed reader) = record s { readers = without_reader reader s.readers }
state_after s (rec.SyncBegun serial cursor clean in_parts) = record s {
  marks = mark_now s serial cursor clean ∷ s.marks;
  running = if in_parts then Some serial else s.running;
  marked = if clean then true else s.marked;
}
state_after s (rec.SyncDone serial) = record s {
  finished = serial;
  running = None;
  marked = if is_clean_sync s serial then s.marked else false;
}
state_after s (rec.Fault count) = record s { fault = count }

-- the state behind records, one after the other
abbrev pub after_all : State → List Rec → State
after_all s recs = fold state_after s recs

-- it holds of each record, at the state before that
abbrev pub AllAlong : (State → Rec → Type 0) → State → List Rec → Type 0
AllAlong Holds s [] = Unit {0}
AllAlong Holds s (r ∷ recs) = Holds s r × AllAlong Holds (state_after s r) recs
