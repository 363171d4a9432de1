-- How a row is put together: a small geometry, the records of a put and of a sync, and what an opening has.
use Rattle.std.specs.Prelude.{◌≡◌, ℕ, zero, suc, ◌+◌, ◌*◌, nat_le, Bool, false, true, if◌then◌else◌, refl, List, [], ◌∷◌, ◌++◌, length, map, filter, codes, option_map, unwrap_or}
use Rattle.std.specs.List.{range_with_len, repeat}
use Rattle.std.proofs.Math.Dec.{lit≤, lit<}
use Rattle.tape_base.specs.declared.digests.Digest.{Digest}
use Rattle.tape_base.specs.declared.geometries.Geometry.{Geometry}
use Rattle.tape_base.specs.declared.keys.Key.{Key}
use Rattle.tape_base.specs.declared.pieces.PieceId.{PieceId}
use Rattle.fragment_table.specs.Table.{TableRow, made_row}
use Rattle.alternate_vector.specs.Alternates.{Stored, vector_size}
use Rattle.alternate_vector.specs.Field.{Field}
use Rattle.cache_model.specs.declared.findings.FoundRow.{FoundRow}
use Rattle.cache_model.specs.declared.record.Rec.{Rec}
use Rattle.cache_model.specs.declared.record.Rec.TheVariants as rec
use Rattle.cache_model.specs.Legal.{format_records}
use Rattle.cache_model.specs.Opening.{Opening}
use Rattle.cache_model.specs.Verdict.{digest_in}
use Rattle.cache_model.specs.Openings.{opened_records}
use Rattle.cache_model.specs.Outcomes.{flush_tail}
use Rattle.cache_model.specs.Permit.{Permit}
use Rattle.cache_model.specs.Room.{has_room}
use Rattle.cache_model.specs.Syncing.{Syncing, WhereDue, at_first, behind_records, first_records}
use Rattle.cache_model.specs.State.{State, Mark, Row, after_all, fragment_piece, list_of_piece, nothing_yet, place_now, vector_piece}

-- 64 blocks, buffers of 8, a reach of 16, fragments of 4 bytes
abbrev pub small : Geometry
small = record {
  segments = 1;
  buckets = 64;
  content = 64;
  agg = 8;
  reach = 16;
  fragment = 4;
  generation = 7;
  alternates = 5;
  accepted = record {
    segments_fit = (lit≤ tt, lit≤ tt);
    buckets_fit = (lit≤ tt, lit≤ tt);
    agg_fits = (lit≤ tt, lit≤ tt, refl);
    content_fits = (lit≤ tt, lit< tt);
    reach_fits = (lit≤ tt, lit< tt);
    fragment_fits = (lit≤ tt, lit≤ tt);
  };
  keeps = record { some = lit≤ tt; few = lit≤ tt };
}

-- the same with 4,096 buckets
abbrev pub wide : Geometry
wide = record {
  segments = 1;
  buckets = 4096;
  content = 64;
  agg = 8;
  reach = 16;
  fragment = 4;
  generation = 7;
  alternates = 5;
  accepted = record {
    segments_fit = (lit≤ tt, lit≤ tt);
    buckets_fit = (lit≤ tt, lit≤ tt);
    agg_fits = (lit≤ tt, lit≤ tt, refl);
    content_fits = (lit≤ tt, lit< tt);
    reach_fits = (lit≤ tt, lit< tt);
    fragment_fits = (lit≤ tt, lit≤ tt);
  };
  keeps = record { some = lit≤ tt; few = lit≤ tt };
}

abbrev pub a : Key
a = record { number = 1 }

abbrev pub b : Key
b = record { number = 2 }

abbrev pub other : Key
other = record { number = 3 }

abbrev pub last : Key
last = record { number = 4 }

abbrev pub late : Key
late = record { number = 5 }

-- a step of a directory that displaces, in which the device does nothing
abbrev pub of_packed : Permit
of_packed = record { packed = true; syncs = true; now = 0; past = []; events = [] }

-- no verdict reads one
abbrev pub no_digest : Digest
no_digest = record { 0 = [] }

-- 32 bytes as the digest of a payload, which no verdict reads
abbrev pub some_digest : List ℕ
some_digest = repeat 32 (1 ∷ [])

-- ---- records

-- the alternate of a put of no bytes
abbrev pub no_bytes : ℕ → Stored
no_bytes put = record { put = put; pin = 0; length = 0; request = []; response = []; table = [] }

-- the alternate of a put of one byte
abbrev pub one_byte : List Field → List Field → ℕ → Stored
one_byte request response put =
    record { put = put; pin = 0; length = 1; request = request; response = response; table = made_row 1 [] ∷ [] }

-- a put of one byte: its fragment at a place, its vector behind that, which lists it behind these alternates
abbrev pub put_with : List Stored → List Field → List Field → ℕ → ℕ → Key → List Rec
put_with before request response place put key =
    rec.WriteOpened (record { 0 = 0 }) put key request response 0
    ∷ rec.Cut put 1 1 no_digest
    ∷ rec.Placed (fragment_piece key put 1) place 1 no_digest 0
    ∷ rec.Placed (vector_piece key put) (place + 1) 1 no_digest 0
    ∷ rec.Committed put key 1 (before ++ one_byte request response put ∷ [])
    ∷ []

-- the same with no lines, alone in its vector
abbrev pub put_at : ℕ → ℕ → Key → List Rec
put_at place put key = put_with [] [] [] place put key

-- an object of no bytes: its vector alone, which has this digest
abbrev pub put_of_no_bytes : ℕ → ℕ → Key → Digest → List Rec
put_of_no_bytes place put key digest =
    rec.WriteOpened (record { 0 = 0 }) put key [] [] 0 ∷ rec.Placed (vector_piece key put) place 1 digest 0
    ∷ rec.Committed put key 0 (no_bytes put ∷ []) ∷ []

-- the block of its vector
abbrev pub IsBlock : List ℕ → Type 0
IsBlock block = length block ≡ 512

-- a whole sync
abbrev pub synced : ℕ → ℕ → Bool → List Rec
synced serial cursor clean = rec.SyncBegun serial cursor clean false ∷ rec.SyncDone serial ∷ []

-- ---- steps, each by the state before it

-- a flush that copies nothing, with the syncs that it needs
abbrev pub flush_here : Syncing → State → List Rec
flush_here k s = first_records k s ++ (behind_records k (at_first k s) ++ flush_tail s [] [])

abbrev pub flushed : Syncing → State → State
flushed k s = after_all s (flush_here k s)

-- where a piece of one block has no room the buffer is flushed
abbrev pub flushed_for_room : State → State
flushed_for_room s = if has_room s 1 then s else flushed WhereDue s

-- a piece of one block is placed, behind these records
abbrev pub placed_here : List Rec → PieceId → State → State
placed_here before id s = after_all (flushed_for_room s) (before ++ rec.Placed id (place_now (flushed_for_room s)) 1 no_digest 0 ∷ [])

-- the next fragment of a put, of four bytes
abbrev pub cut_here : Key → ℕ → ℕ → State → State
cut_here key put index s = placed_here (rec.Cut put index 4 no_digest ∷ []) (fragment_piece key put index) s

-- fragments of these indices, and then the vector
abbrev pub pieces_here : Key → ℕ → List ℕ → State → State
pieces_here key put [] s = placed_here [] (vector_piece key put) s
pieces_here key put (index ∷ indices) s = pieces_here key put indices (cut_here key put index s)

-- a put of so many fragments
abbrev pub put_here : Key → ℕ → State → State
put_here key fragments s =
    let put : ℕ = s.next_put in
    let opened : State = after_all s (rec.WriteOpened (record { 0 = 0 }) put key [] [] 0 ∷ []) in
    let placed : State = pieces_here key put (range_with_len 1 fragments) opened in
    after_all placed (rec.Committed put key (4 * fragments) (list_of_piece placed (vector_piece key put)) ∷ [])

-- the records of a put of no bytes: its vector alone, behind a flush where that has no room
abbrev pub empty_put : Key → State → List Rec
empty_put key s =
    let put : ℕ = s.next_put in
    let opens : List Rec = rec.WriteOpened (record { 0 = 0 }) put key [] [] 0 ∷ [] in
    let opened : State = after_all s opens in
    let flushes : List Rec = (if has_room opened 1 then [] else flush_here WhereDue opened) in
    let places : List Rec = rec.Placed (vector_piece key put) (place_now (after_all opened flushes)) 1 no_digest 0 ∷ [] in
    opens ++ (flushes ++ (places ++ rec.Committed put key 0 (no_bytes put ∷ []) ∷ []))

-- so many puts of 28 bytes under one key, each of which fills a buffer
abbrev pub fillers : ℕ → State → State
fillers zero s = s
fillers (suc n) s = fillers n (put_here a 7 s)

-- ---- sessions

-- behind a format and these records
abbrev pub behind_format : List Rec → State
behind_format recs = after_all nothing_yet (format_records small ++ recs)

-- behind an opening and these records
abbrev pub behind_opening : Opening → List Rec → State
behind_opening o recs = after_all nothing_yet (opened_records small o ++ recs)

-- the syncs that an opening may take up
abbrev pub allowed : State → List Mark
allowed s = filter (λ m. nat_le s.finished m.serial) s.marks

-- the bytes of a piece's payload: those of a fragment, or what spells the alternates of a vector
abbrev pub payload_bytes : Row → ℕ
payload_bytes row = unwrap_or (option_map (λ (entry : TableRow). entry.length) row.payload) (vector_size (unwrap_or row.alternates []))

-- a piece as an opening finds it
abbrev pub found_row_of : Row → FoundRow
found_row_of row = record {
  id = row.id;
  place = row.place;
  blocks = row.blocks;
  digest = row.digest;
  length = payload_bytes row;
  payload = unwrap_or (option_map digest_in row.payload) no_digest;
  pin = row.pin;
  alternates = row.alternates;
}

-- the opening that takes a sync up
abbrev pub taking : Mark → Opening
taking m = record { serial = m.serial; cursor = m.cursor; floor = m.low; next_put = m.next_put; clean = m.clean; found = map found_row_of m.rows }

-- the numbers of an opening: what a line tells of it
pub record ToldOpening : Type 0 where
  pub serial : ℕ
  pub cursor : ℕ
  pub floor : ℕ
  pub found : ℕ
  pub clean : Bool

-- those of each sync that may be taken up, the last first
abbrev pub told : State → List ToldOpening
told s = map (λ (m : Mark). record { serial = m.serial; cursor = m.cursor; floor = m.low; found = length m.rows; clean = m.clean }) (allowed s)

-- ---- lines

abbrev pub line : List ℕ → List ℕ → List Field
line name value = record { name = name; value = value } ∷ []

abbrev pub language : List ℕ → List Field
language value = line (codes "accept-language") value

abbrev pub varies : List Field
varies = line (codes "vary") (codes "Accept-Language")
