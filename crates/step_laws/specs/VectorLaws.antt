-- What records leave of vectors: each lists its alternates, or two documents of one SHA-256 are shown.
use Rattle.std.specs.Prelude.{ℕ, ◌≡◌, ◌<◌, ◌≤◌, ◌⊎◌, ◌++◌, Bool, false, List, [], length, Option, Some, None, unwrap_or}
use Rattle.device_log.specs.Calls.{Call}
use Rattle.tape_base.specs.declared.geometries.Geometry.{Geometry}
use Rattle.tape_base.specs.declared.keys.Key.{Key}
use Rattle.tape_base.specs.declared.pieces.PieceId.{PieceId}
use Rattle.tape_base.specs.Blocks.{blocks_of}
use Rattle.tape_base.specs.Geometry.{budget_of}
use Rattle.alternate_vector.specs.Field.{Field}
use Rattle.alternate_vector.specs.Alternates.{vector_size}
use Rattle.alternate_vector.specs.Spelling.{IsSpelling, vector_bytes}
use Rattle.cache_model.specs.declared.answer.ReadAnswer.TheVariants as read
use Rattle.cache_model.specs.declared.cause.Cause.TheVariants as cause
use Rattle.cache_model.specs.declared.record.Rec.{Rec}
use Rattle.cache_model.specs.Opening.{Opening}
use Rattle.cache_model.specs.Openings.{IsOpening, opened_records}
use Rattle.cache_model.specs.State.{State, Row, PutRow, Complete, after_all, alternates_of, count_of_vector, last_vector, list_of_put, live_row_of, nothing_yet, put_of, row_of, vector_piece}
use Rattle.cache_model.specs.Verdict.{followed, hit, lookup_verdict}
use Rattle.cache_model.specs.Permit.{Setting, Permit, IsAmong, Intent, Reason, End}
use Rattle.cache_model.specs.Due.{due_pieces}
use Rattle.cache_model.specs.Outcomes.{AreOutcomes, Outcome, flush_records, stopped_records}
use Rattle.cache_model.specs.Legal.{Course, Does, FitsAlone, IsLegal, IsStep, format_records, is_writing}
use Rattle.cache_model.specs.Tape.{IsSound}
use Rattle.cache_model.specs.Pair.{IsCopyPair, IsPair, ShowsPair}
use Rattle.cache_model.specs.Vectors.{AreTold, AreVectors, IsVectorAs}

-- a session begins so
abbrev pub FormatsTell : Type 0
FormatsTell = (s : State) (geometry : Geometry) → AreTold (after_all s (format_records geometry))

-- so does one that an opening begins, whose vectors list their alternates
abbrev pub OpeningsTell : Type 0
OpeningsTell = (packed : Bool) (s : State) (geometry : Geometry) (o : Opening) → IsOpening packed geometry o → AreTold (after_all s (opened_records geometry o))

-- a flush that copies what is due leaves it so, or two documents of one SHA-256 are shown
abbrev pub FlushTells : Type 0
FlushTells = (p : Permit) (s : State) (now left : ℕ) (outcomes : List Outcome) → IsSound s → AreTold s → AreOutcomes p s left (due_pieces s now) outcomes
    → AreTold (after_all s (flush_records s (due_pieces s now) outcomes)) ⊎ IsCopyPair IsVectorAs p s now left

-- one that stops copies none
abbrev pub StoppedTells : Type 0
StoppedTells = (s : State) (rows : List Row) (outcomes : List Outcome) (count : ℕ) → AreTold s → AreTold (after_all s (stopped_records rows outcomes count))

-- each group of records leaves it so, on a sound tape
abbrev pub GroupsTell : Type 0
GroupsTell = (p : Permit) (s : State) (i : Intent) (added : List Rec) (e : End) → IsSound s → AreTold s → Does p s i added e
    → AreTold (after_all s added) ⊎ IsPair IsVectorAs p s i

-- and so does each step
abbrev pub StepsTell : Type 0
StepsTell = (p : Permit) (s : State) (intents : List Intent) (added : List Rec) (why : Option Reason)
    → IsSound s → AreTold s → IsStep p s intents added why → AreTold (after_all s added) ⊎ ShowsPair IsVectorAs p s intents added

-- in one of the steps of a chronicle two documents of one SHA-256 are shown for a vector
pub record IsShownIn (courses : List Course) (recs : List Rec) : Type 0 where
  pub course : Course
  pub among : IsAmong course courses
  pub before : List Rec
  pub added : List Rec
  pub rest : List Rec
  pub is : recs ≡ before ++ added ++ rest
  pub shows : ShowsPair IsVectorAs course.permit (after_all nothing_yet before) course.intents added

-- in each legal chronicle each vector lists its alternates, or a step shows two documents of one SHA-256
abbrev pub VectorsAreKept : Type 0
VectorsAreKept = (setting : Setting) (past : List Call) (courses : List Course) (recs : List Rec) → IsLegal setting past courses recs
    → AreVectors (after_all nothing_yet recs) ⊎ IsShownIn courses recs

-- where the vector of a put's alternate alone is a piece, so is the vector that the put is to have
abbrev pub MergedIsSpelled : Type 0
MergedIsSpelled = (s : State) (put : ℕ) (w : PutRow) → AreTold s → put_of s put ≡ Some w → FitsAlone s w 0
    → IsSpelling (vector_bytes (list_of_put s put)) (list_of_put s put) × (blocks_of (vector_size (list_of_put s put)) ≤ budget_of s.geometry)

-- ---- how many alternates a vector lists

-- a put was begun, and is not written any more
abbrev pub IsOver : State → ℕ → Type 0
IsOver s put = (put < s.next_put) × (is_writing s put ≡ false)

-- where a vector stands, live or not, it lists as many alternates as are told of it
abbrev pub VectorIsCounted : State → PieceId → Type 0
VectorIsCounted s id = (row : Row) → row_of s id ≡ Some row → count_of_vector s id ≡ length (unwrap_or row.alternates [])

-- so it is of the last vector of each key, whose put is over; and each put has a number below the next one
pub record VectorsAreCounted (s : State) : Type 0 where
  pub counted : (key : Key) (put : ℕ) → last_vector s key ≡ Some (Complete put) → VectorIsCounted s (vector_piece key put)
  pub over : (key : Key) (put : ℕ) → last_vector s key ≡ Some (Complete put) → IsOver s put
  pub earlier : (put : ℕ) (w : PutRow) → put_of s put ≡ Some w → put < s.next_put

-- a session begins so
abbrev pub FormatsCount : Type 0
FormatsCount = (s : State) (geometry : Geometry) → VectorsAreCounted (after_all s (format_records geometry))

-- so does one that an opening begins
abbrev pub OpeningsCount : Type 0
OpeningsCount = (packed : Bool) (s : State) (geometry : Geometry) (o : Opening)
    → IsOpening packed geometry o → VectorsAreCounted (after_all s (opened_records geometry o))

-- each group of records leaves it so
abbrev pub GroupsCount : Type 0
GroupsCount = (p : Permit) (s : State) (i : Intent) (added : List Rec) (e : End)
    → VectorsAreCounted s → Does p s i added e → VectorsAreCounted (after_all s added)

-- and so does each step
abbrev pub StepsCount : Type 0
StepsCount = (p : Permit) (s : State) (intents : List Intent) (added : List Rec) (why : Option Reason)
    → VectorsAreCounted s → IsStep p s intents added why → VectorsAreCounted (after_all s added)

-- in each legal chronicle the last vector of a key lists as many alternates as are told of it, where it stands
abbrev pub CountIsListed : Type 0
CountIsListed = (setting : Setting) (past : List Call) (courses : List Course) (recs : List Rec) (key : Key) (put : ℕ) → IsLegal setting past courses recs
    → last_vector (after_all nothing_yet recs) key ≡ Some (Complete put)
    → VectorIsCounted (after_all nothing_yet recs) (vector_piece key put)

-- the key's last vector is live, and neither an alternate nor a writer answers the request
pub record IsUnanswered (s : State) (key : Key) (request : List Field) : Type 0 where
  pub put : ℕ
  pub row : Row
  pub last : last_vector s key ≡ Some (Complete put)
  pub live : live_row_of s (vector_piece key put) ≡ Some row
  pub none_matches : hit s key request ≡ None
  pub none_writes : followed s key request ≡ None

-- in each legal chronicle such a request is missed, and told how many alternates the key has
abbrev pub UnansweredIsCounted : Type 0
UnansweredIsCounted = (setting : Setting) (past : List Call) (courses : List Course) (recs : List Rec) (key : Key) (request : List Field)
    → IsLegal setting past courses recs
    → (let s : State = after_all nothing_yet recs in
    IsUnanswered s key request → lookup_verdict s key request ≡ read.Miss (cause.NoMatch (length (alternates_of s key))))
