-- What a session that forgets keeps, and what it answers of what it forgot, in the subject's sentences.
use Rattle.std.specs.Prelude.{ℕ, ◌≡◌, ◌⊎◌, true, false, List, Some, None, ◌<◌, [], ◌∷◌, length, filter, ◌≤◌}
use Rattle.tape_base.specs.declared.keys.Key.{Key}
use Rattle.tape_base.specs.declared.pieces.PieceId.{PieceId}
use Rattle.alternate_vector.specs.Field.{Field}
use Rattle.cache_model.specs.declared.cause.Cause.{Cause}
use Rattle.cache_model.specs.declared.cause.Cause.TheVariants as cause
use Rattle.cache_model.specs.declared.answer.ReadAnswer.TheVariants as read
use Rattle.cache_model.specs.declared.answer.NextAnswer.TheVariants as next
use Rattle.cache_model.specs.State.{State, Mark, Row, PutRow, ReaderRow, LastVector, Open, alternates_of, floor_now, last_abort, last_vector, live_row_of, live_rows, place_now, put_of, reader_of}
use Rattle.cache_model.specs.Verdict.{followed, lookup_verdict, no_record, piece_at, reader_verdict}
use Rattle.cache_model.specs.Permit.{IsAmong}
use Rattle.cache_model.specs.Syncs.{IsAllowed}
use Rattle.cache_model.specs.Tape.{IsSound}
use Rattle.step_laws.specs.VectorLaws.{VectorsAreCounted}
use Rattle.cache_model.specs.Vectors.{AreTold}
use Rattle.cache_model.specs.Forgetting.{forget, is_among_puts, is_dead, is_forgotten, known_puts, put_of_last}

-- ---- what is forgotten

-- numbers that fall below a bound, so that none is there twice
abbrev pub AreFalling : ℕ → List ℕ → Type 0
AreFalling bound [] = Unit {0}
AreFalling bound (n ∷ ns) = (n < bound) × AreFalling n ns

-- the puts of which something is known are there once each, the greatest number first
abbrev pub KnownAreFalling : Type 0
KnownAreFalling = (s : State) → (bound : ℕ) × AreFalling bound (known_puts s)

-- a put that is forgotten is dead
abbrev pub ForgottenIsDead : Type 0
ForgottenIsDead = (cap : ℕ) (s : State) (put : ℕ) → is_forgotten cap s put ≡ true → is_dead s put ≡ true

-- a put that is known and dead and was not forgotten is above each that was
abbrev pub GreatestAreKept : Type 0
GreatestAreKept = (cap : ℕ) (s : State) (kept gone : ℕ) → is_among_puts (known_puts s) kept ≡ true → is_dead s kept ≡ true
    → is_forgotten cap s kept ≡ false → is_forgotten cap s gone ≡ true → gone < kept

-- behind it no more than so many dead puts are known
abbrev pub FewAreDead : Type 0
FewAreDead = (cap : ℕ) (s : State) → length (filter (is_dead (forget cap s)) (known_puts (forget cap s))) ≤ cap

-- no sync that may be found names a piece of a put that is forgotten
abbrev pub NamedIsKept : Type 0
NamedIsKept = (cap : ℕ) (s : State) (m : Mark) (row : Row) → IsAllowed s m → IsAmong row m.rows
    → is_forgotten cap s row.id.put ≡ false

-- a put that is still written stays as it is
abbrev pub WrittenIsKept : Type 0
WrittenIsKept = (cap : ℕ) (s : State) (put : ℕ) (w : PutRow) → put_of s put ≡ Some w → w.writing ≡ Open → put_of (forget cap s) put ≡ Some w

-- ---- what stays

-- nothing that may be read goes: neither pieces, nor alternates, nor writers that may be followed; and the tape, the numbers,
-- the readers and the syncs are as they were
pub record IsLeft (s t : State) : Type 0 where
  pub geometry : t.geometry ≡ s.geometry
  pub floor : floor_now t ≡ floor_now s
  pub cursor : t.cursor ≡ s.cursor
  pub place : place_now t ≡ place_now s
  pub rows : live_rows t ≡ live_rows s
  pub pieces : (id : PieceId) → live_row_of t id ≡ live_row_of s id
  pub lists : (key : Key) → alternates_of t key ≡ alternates_of s key
  pub follows : (key : Key) (request : List Field) → followed t key request ≡ followed s key request
  pub pending : t.pending ≡ s.pending
  pub next_put : t.next_put ≡ s.next_put
  pub readers : t.readers ≡ s.readers
  pub next_reader : t.next_reader ≡ s.next_reader
  pub fault : t.fault ≡ s.fault
  pub marks : t.marks ≡ s.marks
  pub finished : t.finished ≡ s.finished
  pub running : t.running ≡ s.running
  pub marked : t.marked ≡ s.marked

-- so it is behind forgetting, whatever the state
abbrev pub ForgettingLeaves : Type 0
ForgettingLeaves = (cap : ℕ) (s : State) → IsLeft s (forget cap s)

-- a sound tape stays sound, and the live piece at each place is found as before
pub record IsLeftSound (s t : State) : Type 0 where
  pub sound : IsSound t
  pub found : (place : ℕ) → piece_at t place ≡ piece_at s place

abbrev pub ForgettingIsSound : Type 0
ForgettingIsSound = (cap : ℕ) (s : State) → IsSound s → IsLeftSound s (forget cap s)

-- vectors spell their alternates as before, and puts may be kept
abbrev pub ForgettingTells : Type 0
ForgettingTells = (cap : ℕ) (s : State) → AreTold s → AreTold (forget cap s)

-- and where the last vector of a key stands it lists as many alternates as are told of it
abbrev pub ForgettingCounts : Type 0
ForgettingCounts = (cap : ℕ) (s : State) → VectorsAreCounted s → VectorsAreCounted (forget cap s)

-- ---- what is answered

-- the puts by which a miss of the key is told were not forgotten: that of its last vector, and the last that was given up
pub record IsKeyKept (cap : ℕ) (s : State) (key : Key) : Type 0 where
  pub vector : (last : LastVector) → last_vector s key ≡ Some last → is_forgotten cap s (put_of_last last) ≡ false
  pub abort : (put : ℕ) → last_abort s key ≡ Some put → is_forgotten cap s put ≡ false

-- of what nothing is on record it is told how many puts were forgotten; where none ever was, what was told before
pub record IsNoRecord (s t : State) : Type 0 where
  pub some : 0 < t.dropped → no_record t ≡ cause.Unrecorded t.dropped
  pub none : t.dropped ≡ 0 → no_record t ≡ no_record s

abbrev pub NoRecordIsTold : Type 0
NoRecordIsTold = (cap : ℕ) (s : State) → IsNoRecord s (forget cap s)

-- the answer is as before; or nothing was on record before, and nothing is on record now
abbrev pub IsAnsweredAlike : State → State → Key → List Field → Type 0
IsAnsweredAlike s t key request = (lookup_verdict t key request ≡ lookup_verdict s key request)
    ⊎ ((lookup_verdict s key request ≡ read.Miss (no_record s)) × (lookup_verdict t key request ≡ read.Miss (no_record t)))

-- a key of which nothing was forgotten is answered as before
abbrev pub KeptIsAnswered : Type 0
KeptIsAnswered = (cap : ℕ) (s : State) (key : Key) (request : List Field) → IsSound s → IsKeyKept cap s key
    → IsAnsweredAlike s (forget cap s) key request

-- what is hit is hit as before, and who is followed is followed as before, also where puts of the key were forgotten
abbrev pub GivenStays : Type 0
GivenStays = (cap : ℕ) (s : State) (key : Key) (request : List Field)
    → (lookup_verdict (forget cap s) key request ≡ lookup_verdict s key request)
    ⊎ ((why : Cause) × (now : Cause) × (lookup_verdict s key request ≡ read.Miss why)
    × (lookup_verdict (forget cap s) key request ≡ read.Miss now))

-- a key whose last vector's put was forgotten is missed as one of which nothing is on record, where no writer may be followed and
-- no put of it is known that was given up
abbrev pub ForgottenIsUnrecorded : Type 0
ForgottenIsUnrecorded = (cap : ℕ) (s : State) (key : Key) (request : List Field) (last : LastVector) → last_vector s key ≡ Some last
    → is_forgotten cap s (put_of_last last) ≡ true → followed s key request ≡ None → last_abort (forget cap s) key ≡ None
    → lookup_verdict (forget cap s) key request ≡ read.Miss (cause.Unrecorded (forget cap s).dropped)

-- an open reader is answered as before, or breaks at a piece of which nothing was on record
abbrev pub ReaderIsAnswered : Type 0
ReaderIsAnswered = (cap : ℕ) (s : State) (reader : ℕ) (r : ReaderRow) → IsSound s → reader_of s reader ≡ Some r
    → (reader_verdict (forget cap s) r ≡ reader_verdict s r)
    ⊎ ((reader_verdict s r ≡ next.Broke (no_record s)) × (reader_verdict (forget cap s) r ≡ next.Broke (no_record (forget cap s))))

-- forgetting again with the same number forgets nothing
abbrev pub ForgettingTwice : Type 0
ForgettingTwice = (cap : ℕ) (s : State) → forget cap (forget cap s) ≡ forget cap s
