-- What a lookup and a reader are answered, and the cause where there is nothing to give.
use Rattle.std.specs.Prelude.{ℕ, ◌-◌, ◌==◌, Bool, true, false, ◌&&◌, if◌then◌else◌, List, [], length, find, Option, Some, None, option_and_then, option_map, unwrap_or, slice_get}
use Rattle.std.specs.List.{list_any}
use Rattle.std.specs.Map.{lookup}
use Rattle.tape_base.specs.declared.keys.Key.{Key}
use Rattle.tape_base.specs.declared.pieces.PieceId.{PieceId}
use Rattle.tape_base.specs.declared.digests.Digest.{Digest}
use Rattle.tape_base.specs.Key.{same_key}
use Rattle.tape_base.specs.Piece.{same_piece}
use Rattle.fragment_table.specs.Table.{TableRow, total_length}
use Rattle.alternate_vector.specs.Field.{Field}
use Rattle.alternate_vector.specs.Vary.{request_matches}
use Rattle.alternate_vector.specs.Alternates.{Stored}
use Rattle.cache_model.specs.declared.cause.Cause.{Cause}
use Rattle.cache_model.specs.declared.cause.Cause.TheVariants as cause
use Rattle.cache_model.specs.declared.answer.ReadAnswer.{ReadAnswer}
use Rattle.cache_model.specs.declared.answer.ReadAnswer.TheVariants as read
use Rattle.cache_model.specs.declared.answer.NextAnswer.{NextAnswer}
use Rattle.cache_model.specs.declared.answer.NextAnswer.TheVariants as next
use Rattle.cache_model.specs.State.{State, Row, PutRow, ReaderRow, LastVector, Complete, TakenOut, Writing, Open, Closed, GivenUp, alternates_of, count_of_vector, floor_now, fragment_piece, last_abort, last_match, last_vector, live_row_of, put_of, row_of, vector_piece}

-- ---- causes

-- of what no record of the session speaks, by how it began
abbrev pub cause_of_beginning : Option ℕ → Cause
cause_of_beginning None = cause.NeverPut
cause_of_beginning (Some serial) = cause.BeforeOpening serial

-- of what no record speaks: puts were forgotten, or it is from before the session
abbrev pub no_record : State → Cause
no_record s = if s.dropped == 0 then cause_of_beginning s.opened else cause.Unrecorded s.dropped

-- the last displacement or damage of a piece, if there was one
abbrev pub cause_of_loss : State → PieceId → Option Cause
cause_of_loss s id = lookup (λ lost. same_piece lost id) s.lost

-- the piece at this place was to be copied ahead and was not
abbrev pub is_unsaved : State → ℕ → Bool
is_unsaved s place = list_any (λ p. p == place) s.unsaved

-- the piece's place, which is below the floor, the floor, and whether it was to be copied ahead and was not
abbrev pub passed : State → Row → Cause
passed s row = cause.Passed row.place (floor_now s) (is_unsaved s row.place)

-- why a piece is not live: it was displaced or damaged, or it was passed; a vector that was taken out
-- has no cause of its own
abbrev pub cause_of_piece : State → PieceId → Cause
cause_of_piece s id = unwrap_or (cause_of_loss s id) (unwrap_or (option_map (passed s) (row_of s id)) (no_record s))

-- the vector is live: how many alternates it lists, of which none answers
abbrev pub no_match : State → PieceId → Cause
no_match s id = cause.NoMatch (count_of_vector s id)

-- why a key's vector answers nothing: it is live and none matches, or it is not live
abbrev pub cause_of_vector : State → PieceId → Cause
cause_of_vector s id = unwrap_or (option_map (λ (row : Row). no_match s id) (live_row_of s id)) (cause_of_piece s id)

-- behind a commit it is that of the vector, behind a removal the removal itself
abbrev pub cause_of_last : State → Key → LastVector → Cause
cause_of_last s key (Complete put) = cause_of_vector s (vector_piece key put)
cause_of_last s key (TakenOut put) = cause.Removed

-- of a key with neither: its last put that was given up, or nothing on record
abbrev pub cause_without_vector : State → Key → Cause
cause_without_vector s key = unwrap_or (option_map cause.Aborted (last_abort s key)) (no_record s)

-- why a lookup of a key gives neither a stored alternate nor a writer to follow
abbrev pub cause_of_miss : State → Key → Cause
cause_of_miss s key = unwrap_or (option_map (cause_of_last s key) (last_vector s key)) (cause_without_vector s key)

-- ---- lookups

-- the put is still written: neither closed nor given up
abbrev pub is_open : PutRow → Bool
is_open p = elim p.writing [ Open ↦ true | Closed ↦ false | GivenUp ↦ false ]

-- the stored alternate that answers a request
abbrev pub hit : State → Key → List Field → Option Stored
hit s key request = last_match request (alternates_of s key)

-- an open writer of the key, whose lines the request matches (RFC 9111, section 4.1)
abbrev pub may_follow : Key → List Field → PutRow → Bool
may_follow key request p = is_open p && (same_key p.key key && request_matches request p.request p.response)

-- the last open writer that answers a request
abbrev pub followed : State → Key → List Field → Option PutRow
followed s key request = find (may_follow key request) s.puts

-- a stored alternate is told by the number of its put
abbrev pub hit_answer : Stored → ReadAnswer
hit_answer a = read.Hit a.put

-- an open writer is told by the number of the put that it writes
abbrev pub follow_answer : PutRow → ReadAnswer
follow_answer p = read.Follow p.put

-- a stored alternate, or else an open writer, or else the cause
abbrev pub lookup_verdict : State → Key → List Field → ReadAnswer
lookup_verdict s key request =
    unwrap_or (option_map hit_answer (hit s key request))
    (unwrap_or (option_map follow_answer (followed s key request))
    (read.Miss (cause_of_miss s key)))

-- ---- readers

-- the fragments that a put has cut so far, the first one first; none of a put that is not known
abbrev pub cuts_of : State → ℕ → List TableRow
cuts_of s put = unwrap_or (option_map (λ (p : PutRow). p.cuts) (put_of s put)) []

-- the fragments of what a reader hit, or those that its writer has cut
abbrev pub table_of : State → ReaderRow → List TableRow
table_of s r = unwrap_or r.table (cuts_of s r.put)

-- the piece of the index that a reader takes next, cut or not
abbrev pub next_piece : ReaderRow → PieceId
next_piece r = fragment_piece r.key r.put r.next

-- the fragment that a reader takes next, where it is cut
abbrev pub next_row : State → ReaderRow → Option TableRow
next_row s r = slice_get (table_of s r) (r.next - 1)

-- the fragment is given where its piece is live; else the reader breaks, with the cause
abbrev pub verdict_of_fragment : State → ReaderRow → TableRow → NextAnswer
verdict_of_fragment s r row =
    unwrap_or (option_map (λ (live : Row). next.Gave r.next row.length) (live_row_of s (next_piece r)))
    (next.Broke (cause_of_piece s (next_piece r)))

-- behind the last cut: an open writer is waited for, a closed one is the end, one given up breaks
abbrev pub verdict_of_writing : PutRow → Writing → NextAnswer
verdict_of_writing p Open = next.Waited (length p.cuts)
verdict_of_writing p Closed = next.Ended (total_length p.cuts)
verdict_of_writing p GivenUp = next.Broke (cause.Aborted p.put)

-- a put that is followed is known
abbrev pub verdict_of_followed : Option PutRow → NextAnswer
verdict_of_followed (Some p) = verdict_of_writing p p.writing
verdict_of_followed None = next.Waited 0

-- where all that is cut was given
abbrev pub verdict_at_end : State → ReaderRow → Option (List TableRow) → NextAnswer
verdict_at_end s r (Some table) = next.Ended (total_length table)
verdict_at_end s r None = verdict_of_followed (put_of s r.put)

-- the next fragment where it is cut and live, or why it is not; behind the last one how the put stands
abbrev pub reader_verdict : State → ReaderRow → NextAnswer
reader_verdict s r = unwrap_or (option_map (verdict_of_fragment s r) (next_row s r)) (verdict_at_end s r r.table)

-- ---- what a chronicle is asked of pieces and keys

-- the key's last vector, where it was not removed
abbrev pub vector_of_last : Key → LastVector → Option PieceId
vector_of_last key (Complete put) = Some (vector_piece key put)
vector_of_last key (TakenOut put) = None

-- so it is of a key, live or not; one that was never committed has none
abbrev pub vector_of : State → Key → Option PieceId
vector_of s key = option_and_then (vector_of_last key) (last_vector s key)

-- the key's last vector, where it may be read
abbrev pub live_vector_of : State → Key → Option Row
live_vector_of s key = option_and_then (live_row_of s) (vector_of s key)

-- the piece stands at this place
abbrev pub if_at : ℕ → PieceId → Row → Option PieceId
if_at place id row = if row.place == place then Some id else None

-- the piece, where it is live and still begins at this place: it may have been moved from there
abbrev pub if_still_at : State → ℕ → PieceId → Option PieceId
if_still_at s place id = option_and_then (if_at place id) (live_row_of s id)

-- the live piece that begins at a place
abbrev pub piece_at : State → ℕ → Option PieceId
piece_at s place = option_and_then (if_still_at s place) (lookup (λ p. p == place) s.places)

-- the recorded digest of a live piece: that of its document at its place
abbrev pub digest_of_piece : State → PieceId → Option Digest
digest_of_piece s id = option_map (λ (row : Row). row.digest) (live_row_of s id)

-- the digest that a row of a table tells: that of a payload, not of a document
abbrev pub digest_in : TableRow → Digest
digest_in entry = record { 0 = entry.digest }

-- the digest of the payload of a live fragment
abbrev pub payload_of_piece : State → PieceId → Option Digest
payload_of_piece s id = option_map digest_in (option_and_then (λ (row : Row). row.payload) (live_row_of s id))

-- the blocks that a live piece takes, its header included
abbrev pub size_of : State → PieceId → Option ℕ
size_of s id = option_map (λ (row : Row). row.blocks) (live_row_of s id)

-- the pin of a live piece, which stays where it is copied ahead
abbrev pub pin_of : State → PieceId → Option ℕ
pin_of s id = option_map (λ (row : Row). row.pin) (live_row_of s id)
