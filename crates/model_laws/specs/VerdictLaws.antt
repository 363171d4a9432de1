-- What lookups and readers are answered, in the subject's sentences.
use Rattle.std.specs.Prelude.{ℕ, ◌≡◌, ◌<◌, ◌≤◌, true, List, [], ◌∷◌, length, Some, None}
use Rattle.tape_base.specs.declared.keys.Key.{Key}
use Rattle.tape_base.specs.declared.geometries.Geometry.{Geometry}
use Rattle.tape_base.specs.declared.digests.Digest.{Digest}
use Rattle.fragment_table.specs.Table.{total_length}
use Rattle.alternate_vector.specs.Field.{Field}
use Rattle.alternate_vector.specs.Alternates.{Stored, is_match, vector_size}
use Rattle.cache_model.specs.declared.cause.Cause.TheVariants as cause
use Rattle.cache_model.specs.declared.answer.ReadAnswer.TheVariants as read
use Rattle.cache_model.specs.declared.answer.NextAnswer.TheVariants as next
use Rattle.cache_model.specs.declared.record.Rec.TheVariants as rec
use Rattle.cache_model.specs.State.{State, Row, PutRow, ReaderRow, Complete, TakenOut, Open, Closed, after_all, alternate_of, alternates_of, floor_now, formatted, fragment_piece, last_vector, live_row_of, most_payload, put_of, row_of, vector_piece}
use Rattle.cache_model.specs.Verdict.{cause_of_loss, followed, hit, is_unsaved, lookup_verdict, next_row, reader_verdict}
use Rattle.cache_model.specs.Permit.{IsAmong}

-- what is hit is one of the key's alternates, and matches the request (RFC 9111, section 4.1)
abbrev pub HitMatches : Type 0
HitMatches = (s : State) (key : Key) (request : List Field) (a : Stored) → hit s key request ≡ Some a
    → IsAmong a (alternates_of s key) × (is_match request a ≡ true)

-- a put that is complete and has its place is what requests that match it hit, whatever stood before
abbrev pub CompleteIsHit : Type 0
CompleteIsHit = (s : State) (w : PutRow) (place blocks pin n : ℕ) (digest : Digest) (list : List Stored) (request : List Field)
    → put_of s w.put ≡ Some w → is_match request (alternate_of w) ≡ true → vector_size (alternate_of w ∷ []) ≤ most_payload s.geometry → floor_now s ≤ place
    → lookup_verdict (after_all s (rec.Placed (vector_piece w.key w.put) place blocks digest pin
    ∷ rec.Committed w.put w.key n list ∷ [])) w.key request ≡ read.Hit w.put

-- a removed object is missed, unless a writer may be followed
abbrev pub RemovedIsMissed : Type 0
RemovedIsMissed = (s : State) (key : Key) (put : ℕ) (request : List Field) → last_vector s key ≡ Some (TakenOut put) → followed s key request ≡ None
    → lookup_verdict s key request ≡ read.Miss cause.Removed

-- an object whose vector the floor has passed is missed, with the vector's place and the floor
abbrev pub PassedIsMissed : Type 0
PassedIsMissed = (s : State) (key : Key) (put : ℕ) (row : Row) (request : List Field) → last_vector s key ≡ Some (Complete put)
    → row_of s (vector_piece key put) ≡ Some row → row.place < floor_now s → cause_of_loss s (vector_piece key put) ≡ None → followed s key request ≡ None
    → lookup_verdict s key request ≡ read.Miss (cause.Passed row.place (floor_now s) (is_unsaved s row.place))

-- behind a format nothing was put
abbrev pub FormattedIsEmpty : Type 0
FormattedIsEmpty = (geometry : Geometry) (key : Key) (request : List Field) → lookup_verdict (formatted geometry) key request ≡ read.Miss cause.NeverPut

-- a reader is given the next fragment of its own put, which is live
abbrev pub GivenIsOwn : Type 0
GivenIsOwn = (s : State) (r : ReaderRow) (index n : ℕ) → reader_verdict s r ≡ next.Gave index n
    → (index ≡ r.next) × ((row : Row) × (live_row_of s (fragment_piece r.key r.put index) ≡ Some row))

-- a reader comes to the end once all was given
abbrev pub EndIsWhole : Type 0
EndIsWhole = (s : State) (r : ReaderRow) (n : ℕ) → reader_verdict s r ≡ next.Ended n → next_row s r ≡ None

-- one that follows a writer, once that is closed, with the length of all that was cut
abbrev pub FollowedIsClosed : Type 0
FollowedIsClosed = (s : State) (r : ReaderRow) (n : ℕ) → r.table ≡ None → reader_verdict s r ≡ next.Ended n
    → (w : PutRow) × ((put_of s r.put ≡ Some w) × (w.writing ≡ Closed) × (n ≡ total_length w.cuts))

-- a reader waits for an open writer alone
abbrev pub WaitsForOpen : Type 0
WaitsForOpen = (s : State) (r : ReaderRow) (w : PutRow) (n : ℕ) → put_of s r.put ≡ Some w → reader_verdict s r ≡ next.Waited n
    → (w.writing ≡ Open) × (n ≡ length w.cuts)
