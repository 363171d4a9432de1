-- The bytes that lines give are those that were put.
use Rattle.std.specs.Prelude.{ℕ, ◌≡◌, ◌-◌, ◌*◌, ◌<◌, ◌⊎◌, List, [], ◌∷◌, take, Option, Some, None, Bool, true, false}
use Rattle.tape_base.specs.declared.geometries.Geometry.{Geometry}
use Rattle.tape_base.specs.declared.keys.Key.{Key}
use Rattle.tape_base.specs.declared.digests.Digest.{Digest}
use Rattle.fragment_table.specs.Table.{TableRow}
use Rattle.alternate_vector.specs.Field.{Field}
use Rattle.alternate_vector.specs.Alternates.{is_match}
use Rattle.cache_model.specs.State.{State, Row, PutRow, ReaderRow, Closed, after_all, alternate_of, live_row_of, put_of, reader_of}
use Rattle.cache_model.specs.Verdict.{digest_in, next_piece, next_row}
use Rattle.cache_model.specs.declared.answer.ReadAnswer.TheVariants as read
use Rattle.cache_model.specs.declared.record.Rec.{Rec}
use Rattle.cache_model.specs.Permit.{End, Intent, Look, Permit, ReadAll, ReadOn, Reason, StopReading}
use Rattle.cache_model.specs.Given.{IsDocumentOf}
use Rattle.cache_model.specs.Due.{due_pieces}
use Rattle.cache_model.specs.Outcomes.{AreOutcomes, Outcome, flush_records, stopped_records}
use Rattle.cache_model.specs.Tape.{IsSound}
use Rattle.cache_model.specs.Legal.{Does, IsQuiet, IsStep, IsUnlike, format_records}
use Rattle.tape_base.specs.Digest.{digest_of}
use Rattle.cache_model.specs.Pair.{IsCopyPair, IsPairOf, ShowsPair}
use Rattle.cache_model.specs.Vectors.{AreTold}
use Rattle.script_grammar.specs.declared.step.Step.{Step}
use Rattle.script_run.specs.Run.{Run, Stream}
use Rattle.script_run.specs.Asked.{asked}
use Rattle.script_run.specs.Turn.{Turn, lookup_in}
use Rattle.script_run.specs.Behind.{streams_behind}
use Rattle.script_run.specs.Own.{AreOwn, ArePayloadsOwn, AreWriting, IsComplete, IsPlacedAs, piece_of}
use Rattle.script_run.specs.Takes.{streams_with}

-- behind a format nothing was put
abbrev pub FormatsOwn : Type 0
FormatsOwn = (s : State) (geometry : Geometry) (streams : ℕ → Stream) → AreOwn (after_all s (format_records geometry)) streams

-- a flush that copies what is due leaves what stands to what writers took, or two documents of one SHA-256
-- are shown
abbrev pub FlushOwns : Type 0
FlushOwns = (p : Permit) (s : State) (streams : ℕ → Stream) (now left : ℕ) (outcomes : List Outcome) → IsSound s → AreOwn s streams
    → AreOutcomes p s left (due_pieces s now) outcomes
    → AreOwn (after_all s (flush_records s (due_pieces s now) outcomes)) streams ⊎ IsCopyPair (IsPlacedAs streams) p s now left

-- one that stops copies none
abbrev pub StoppedOwns : Type 0
StoppedOwns = (s : State) (streams : ℕ → Stream) (rows : List Row) (outcomes : List Outcome) (count : ℕ) → AreOwn s streams
    → AreOwn (after_all s (stopped_records rows outcomes count)) streams

-- what stands belongs to what writers took, behind each line as before it, where each put that an actor
-- writes is open before it; or the line shows two documents of one SHA-256, by bytes that the device gave in
-- its turn
abbrev pub StepsOwn : Type 0
StepsOwn = (run : Run) (s : State) (turn : Turn) (step : Step) → IsSound s → AreTold s → IsQuiet s → AreOwn s run.streams → AreWriting run s
    → IsStep turn.device s (asked run s step) turn.added turn.refused
    → AreOwn (after_all s turn.added) (streams_behind run s (after_all s turn.added) turn step)
    ⊎ ShowsPair (IsPlacedAs (streams_with run s step)) turn.device s (asked run s step) turn.added

-- what stands belongs to what writers took, but for the documents of fragments
abbrev pub OwnIsKept : Type 0
OwnIsKept = (s : State) (streams : ℕ → Stream) → AreOwn s streams → ArePayloadsOwn s streams

-- so it is behind a format
abbrev pub FormatsKeep : Type 0
FormatsKeep = (s : State) (geometry : Geometry) (streams : ℕ → Stream) → ArePayloadsOwn (after_all s (format_records geometry)) streams

-- and behind each line as before it, whatever a copy shows, where nothing is displaced before it; and
-- nothing is displaced behind it
abbrev pub StepsKeep : Type 0
StepsKeep = (run : Run) (s : State) (turn : Turn) (step : Step) → IsSound s → s.displaced ≡ [] → IsQuiet s → ArePayloadsOwn s run.streams → AreWriting run s
    → IsStep turn.device s (asked run s step) turn.added turn.refused
    → ArePayloadsOwn (after_all s turn.added) (streams_behind run s (after_all s turn.added) turn step)
    × ((after_all s turn.added).displaced ≡ [])

-- the payload of a fragment that was read is that part of what the writer of its put took, or two
-- documents of one SHA-256 are shown
abbrev pub ReadIsOwn : Type 0
ReadIsOwn = (p : Permit) (s : State) (streams : ℕ → Stream) (r : ReaderRow) (row : Row) (size : ℕ) (into : List ℕ) → AreOwn s streams → 0 < r.next
    → live_row_of s (next_piece r) ≡ Some row → IsDocumentOf p s row size into
    → (take size into ≡ piece_of s.geometry.fragment (streams r.put).bytes r.next) ⊎ IsPairOf (IsPlacedAs streams) p s row

-- the payload of the fragment that a reader takes next, written out or in the buffer, has the digest that
-- its table lists, or the writer that it follows has cut; or two documents of one SHA-256 are shown
abbrev pub GivenIsListed : Type 0
GivenIsListed = (p : Permit) (s : State) (streams : ℕ → Stream) (reader : ℕ) (r : ReaderRow) (entry : TableRow) (row : Row) (size : ℕ) (into : List ℕ) → AreOwn s streams → 0 < r.next
    → reader_of s reader ≡ Some r → next_row s r ≡ Some entry → live_row_of s (next_piece r) ≡ Some row
    → IsDocumentOf p s row size into → (digest_of (take size into) ≡ digest_in entry) ⊎ IsPairOf (IsPlacedAs streams) p s row

-- the payload of the fragment that a reader takes next is, as the records tell it, the one that its table lists, or that
-- the writer which it follows has cut
abbrev pub OwnIsAsListed : Type 0
OwnIsAsListed = (s : State) (streams : ℕ → Stream) (reader : ℕ) (r : ReaderRow) (entry : TableRow) (row : Row) → ArePayloadsOwn s streams
    → 0 < r.next → reader_of s reader ≡ Some r → next_row s r ≡ Some entry → live_row_of s (next_piece r) ≡ Some row
    → row.payload ≡ Some entry

-- so no fragment that a reader takes next is unlike the one that is listed
abbrev pub NoneIsUnlike : Type 0
NoneIsUnlike = (s : State) (streams : ℕ → Stream) (reader : ℕ) (r : ReaderRow) (entry : TableRow) (row : Row) (found : Digest)
    → ArePayloadsOwn s streams → 0 < r.next → reader_of s reader ≡ Some r → next_row s r ≡ Some entry
    → live_row_of s (next_piece r) ≡ Some row → IsUnlike row entry found → ⊥

-- a reader that hit something and was given all that its table lists was given all that was put
abbrev pub AllIsGiven : Type 0
AllIsGiven = (s : State) (streams : ℕ → Stream) (reader : ℕ) (r : ReaderRow) (table : List TableRow) → AreOwn s streams → IsQuiet s → 0 < r.next
    → reader_of s reader ≡ Some r → r.table ≡ Some table → next_row s r ≡ None
    → take ((r.next - 1) * s.geometry.fragment) (streams r.put).bytes ≡ (streams r.put).bytes

-- and so was one that follows a writer, once the put is complete
abbrev pub AllIsFollowed : Type 0
AllIsFollowed = (s : State) (streams : ℕ → Stream) (r : ReaderRow) (w : PutRow) → AreOwn s streams → IsQuiet s → 0 < r.next
    → r.table ≡ None → put_of s r.put ≡ Some w → w.writing ≡ Closed → next_row s r ≡ None
    → take ((r.next - 1) * s.geometry.fragment) (streams r.put).bytes ≡ (streams r.put).bytes

-- what a request hits under a key: a complete put of the key, whose lines fit the request
pub record IsPutFor (s : State) (key : Key) (request : List Field) (put : ℕ) : Type 0 where
  pub w : PutRow
  pub found : put_of s put ≡ Some w
  pub key_is : w.key ≡ key
  pub fits : is_match request (alternate_of w) ≡ true
  pub complete : IsComplete s put w

-- a step that begins with a lookup hits such a put alone
abbrev pub HitIsPut : Type 0
HitIsPut = (p : Permit) (s : State) (streams : ℕ → Stream) (actor : ℕ) (key : Key) (request : List Field) (more : List Intent) (added : List Rec) (why : Option Reason) (put : ℕ) → ArePayloadsOwn s streams
    → IsStep p s (Look actor key request ∷ more) added why → lookup_in added ≡ Some (read.Hit put) → IsPutFor s key request put

-- what only reads
abbrev pub is_reading : Intent → Bool
is_reading (Look actor key request) = true
is_reading (ReadOn reader) = true
is_reading (ReadAll reader) = true
is_reading (StopReading reader) = true
is_reading _ = false

-- what stands belongs to what writers took, behind each group of records that only reads as before it
abbrev pub ReadsOwn : Type 0
ReadsOwn = (p : Permit) (s : State) (streams : ℕ → Stream) (i : Intent) (added : List Rec) (e : End) → is_reading i ≡ true → AreOwn s streams
    → Does p s i added e → AreOwn (after_all s added) streams

-- and but for the documents of fragments it stays so too
abbrev pub ReadsKeep : Type 0
ReadsKeep = (p : Permit) (s : State) (streams : ℕ → Stream) (i : Intent) (added : List Rec) (e : End) → is_reading i ≡ true → ArePayloadsOwn s streams
    → Does p s i added e → ArePayloadsOwn (after_all s added) streams
