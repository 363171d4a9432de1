-- Which causes there may be, in lines: of a miss, of what is absent, of a break, and of a lost fragment; there are no others.
use Rattle.std.specs.Prelude.{◌≡◌, ◌⊎◌, ◌-◌, ◌<◌, ◌≤◌, ℕ, false, List, length, Option, Some, None, slice_get}
use Rattle.tape_base.specs.declared.digests.Digest.{Digest}
use Rattle.tape_base.specs.declared.keys.Key.{Key}
use Rattle.tape_base.specs.declared.pieces.PieceId.{PieceId}
use Rattle.fragment_table.specs.Table.{TableRow}
use Rattle.alternate_vector.specs.Alternates.{Stored, is_match}
use Rattle.alternate_vector.specs.Field.{Field}
use Rattle.cache_model.specs.declared.cause.Cause.{Cause}
use Rattle.cache_model.specs.declared.cause.Cause.TheVariants as cause
use Rattle.cache_model.specs.State.{State, Row, PutRow, ReaderRow, Complete, GivenUp, TakenOut, after_all, alternates_of, floor_now, fragment_piece, last_abort, last_vector, live_row_of, put_of, row_of, vector_piece}
use Rattle.cache_model.specs.Verdict.{cause_of_loss, cause_of_miss, digest_in, followed, hit, is_unsaved, live_vector_of, may_follow, next_piece, next_row, reader_verdict}
use Rattle.cache_model.specs.declared.answer.NextAnswer.TheVariants as next
use Rattle.cache_model.specs.Permit.{IsAmong, Permit}
use Rattle.cache_model.specs.Given.{IsDamaged, IsRead, IsReadWhereLive}
use Rattle.cache_model.specs.Legal.{AreLiveTo, IsUnlike}
use Rattle.script_grammar.specs.declared.step.Step.{Step}
use Rattle.script_grammar.specs.declared.step.Step.TheVariants as step
use Rattle.script_grammar.specs.declared.answer.Refused.TheVariants as refused
use Rattle.script_grammar.specs.declared.answer.StepAnswer.TheVariants as answer
use Rattle.script_run.specs.Run.{fresh}
use Rattle.script_run.specs.Turn.{Turn}
use Rattle.script_run.specs.Takes.{run_after}
use Rattle.headline.specs.Account.{Account, HistoryTells, RunLogs}
use Rattle.headline.specs.Displacements.{ClosesHere}
use Rattle.headline.specs.Reads.{AreLiveBefore, AsksFor, DidBefore, IsChosenPut, ReadsOnBehind}

-- ---- how pieces and keys stand

-- a piece is not live: the last that was recorded of its loss is that it was displaced, or damaged, or it was not lost and stands
-- below the floor
pub data IsGoneFor (s : State) (id : PieceId) : Cause → Type 0 where
  displaced : (segment live : ℕ) → cause_of_loss s id ≡ Some (cause.Displaced segment live) → IsGoneFor s id (cause.Displaced segment live)
  damaged : (place : ℕ) (kept found : Digest) → cause_of_loss s id ≡ Some (cause.Damaged place kept found) → IsGoneFor s id (cause.Damaged place kept found)
  passed : (row : Row) → cause_of_loss s id ≡ None → row_of s id ≡ Some row → IsGoneFor s id (cause.Passed row.place (floor_now s) (is_unsaved s row.place))

-- a piece cannot be given: it is gone, or no record speaks of it
pub data IsMissingFor (s : State) (id : PieceId) : Cause → Type 0 where
  gone : {why : Cause} → live_row_of s id ≡ None → IsGoneFor s id why → IsMissingFor s id why
  untold : row_of s id ≡ None → cause_of_loss s id ≡ None → IsMissingFor s id cause.NeverPut

-- there is nothing under a key: no put of it was completed, removed or given up; none was completed or removed, and this one was
-- given up last; what was completed last was removed; or its vector is gone
pub data HasNoneFor (s : State) (key : Key) : Cause → Type 0 where
  never_put : last_vector s key ≡ None → last_abort s key ≡ None → HasNoneFor s key cause.NeverPut
  aborted : (put : ℕ) → last_vector s key ≡ None → last_abort s key ≡ Some put → HasNoneFor s key (cause.Aborted put)
  removed : (put : ℕ) → last_vector s key ≡ Some (TakenOut put) → HasNoneFor s key cause.Removed
  gone : {why : Cause} (put : ℕ) → last_vector s key ≡ Some (Complete put) → live_row_of s (vector_piece key put) ≡ None
      → IsGoneFor s (vector_piece key put) why → HasNoneFor s key why

-- nothing under a key answers a request: there is nothing, or its vector is live and lists so many alternates
pub data MissesFor (s : State) (key : Key) : Cause → Type 0 where
  nothing : {why : Cause} → HasNoneFor s key why → MissesFor s key why
  no_match : (put : ℕ) (row : Row) → last_vector s key ≡ Some (Complete put) → live_row_of s (vector_piece key put) ≡ Some row
      → MissesFor s key (cause.NoMatch (length (alternates_of s key)))

-- ---- misses

-- by the records no alternate fits that the key's live vector lists, and no open writer of the key; the cause is how the key stands.
-- The vector, where it is live, is in the buffer or was read in this line
pub record IsAnsweredByNone (p : Permit) (s : State) (key : Key) (request : List Field) (why : Cause) : Type 0 where
  pub read : IsReadWhereLive p s (live_vector_of s key)
  pub none_matches : hit s key request ≡ None
  pub none_fits : (alternate : Stored) → IsAmong alternate (alternates_of s key) → is_match request alternate ≡ false
  pub none_writes : followed s key request ≡ None
  pub none_open : (w : PutRow) → IsAmong w s.puts → may_follow key request w ≡ false
  pub is : cause_of_miss s key ≡ why
  pub one_of : MissesFor s key why

-- for the key's live vector the device gave in this line a document of another digest than the one that was kept
pub record VectorIsDamaged (p : Permit) (s : State) (key : Key) (why : Cause) : Type 0 where
  pub row : Row
  pub live : live_vector_of s key ≡ Some row
  pub found : Digest
  pub damaged : IsDamaged p s row found
  pub is : cause.Damaged row.place row.digest found ≡ why

-- one or the other is so in the state before the line
pub record MissIsCaused (turns : List Turn) (lines : List (List ℕ)) (key : Key) (request : List Field) (why : Cause) : Type 0 where
  pub did : DidBefore turns lines
  pub s : State
  pub state : (run_after fresh lines did.earlier).state ≡ Some s
  pub caused : IsAnsweredByNone did.turn.device s key request why ⊎ VectorIsDamaged did.turn.device s key why

-- where a line that looks for a request is answered with a miss
abbrev pub MissesAreCaused : Type 0
MissesAreCaused = (l : RunLogs) (a : Account l) (lines : List (List ℕ)) (asks : Step) (key : Key) (request : List Field) (why : Cause)
    → AsksFor key request asks → HistoryTells a lines asks (answer.Miss why) → MissIsCaused a.turns lines key request why

-- ---- what is absent

-- in the state before the line the key has no live vector, and the cause is how it stands
pub record AbsenceIsCaused (turns : List Turn) (lines : List (List ℕ)) (key : Key) (why : Cause) : Type 0 where
  pub did : DidBefore turns lines
  pub s : State
  pub state : (run_after fresh lines did.earlier).state ≡ Some s
  pub none : live_vector_of s key ≡ None
  pub is : cause_of_miss s key ≡ why
  pub one_of : HasNoneFor s key why

-- where a removal is answered that there is nothing
abbrev pub AbsencesAreCaused : Type 0
AbsencesAreCaused = (l : RunLogs) (a : Account l) (lines : List (List ℕ)) (key : Key) (why : Cause)
    → HistoryTells a lines (step.Remove key) (answer.Absent why) → AbsenceIsCaused a.turns lines key why

-- ---- breaks

-- a reader cannot go on: the fragment that it takes next was cut, and is missing; or it follows a put that was given up, and was given
-- all that this had cut
pub data BreaksFor (s : State) (r : ReaderRow) : Cause → Type 0 where
  missing : {why : Cause} (entry : TableRow) → next_row s r ≡ Some entry → IsMissingFor s (next_piece r) why → BreaksFor s r why
  aborted : (w : PutRow) → next_row s r ≡ None → r.table ≡ None → put_of s r.put ≡ Some w → w.writing ≡ GivenUp → BreaksFor s r (cause.Aborted w.put)

-- by the records the reader cannot go on, for this cause
pub record IsStopped (s : State) (r : ReaderRow) (why : Cause) : Type 0 where
  pub is : reader_verdict s r ≡ next.Broke why
  pub one_of : BreaksFor s r why

-- a piece was read in this line, and is not what was kept: the device gave another document, or its payload is not the listed one
pub data IsReadOther (p : Permit) (s : State) (row : Row) (entry : TableRow) : Cause → Type 0 where
  damaged : (found : Digest) → IsDamaged p s row found → IsReadOther p s row entry (cause.Damaged row.place row.digest found)
  mismatched : (found : Digest) → IsRead p s row → IsUnlike row entry found → IsReadOther p s row entry (cause.Damaged row.place (digest_in entry) found)

-- so it is of this piece, which is live
pub record PieceIsDamaged (p : Permit) (s : State) (id : PieceId) (entry : TableRow) (why : Cause) : Type 0 where
  pub row : Row
  pub live : live_row_of s id ≡ Some row
  pub other : IsReadOther p s row entry why

-- so it is of the fragment that the reader takes next
pub record FragmentIsDamaged (p : Permit) (s : State) (r : ReaderRow) (why : Cause) : Type 0 where
  pub entry : TableRow
  pub next : next_row s r ≡ Some entry
  pub piece : PieceIsDamaged p s (next_piece r) entry why

-- one or the other is so of the actor's reader, in the state before the line
pub record BreakIsCaused (turns : List Turn) (lines : List (List ℕ)) (name : List ℕ) (why : Cause) : Type 0 where
  pub at : ReadsOnBehind turns lines name
  pub caused : IsStopped at.s at.reader why ⊎ FragmentIsDamaged at.did.turn.device at.s at.reader why

-- where a line that reads on is answered that its reader broke
abbrev pub BreaksAreCaused : Type 0
BreaksAreCaused = (l : RunLogs) (a : Account l) (lines : List (List ℕ)) (name : List ℕ) (why : Cause)
    → HistoryTells a lines (step.Next name) (answer.Broken why) → BreakIsCaused a.turns lines name why

-- a piece that the hit alternate lists is missing by the records of the lines before, or was read in this line, and is damaged;
-- all before it may be read
pub record GetIsCaused (turns : List Turn) (lines : List (List ℕ)) (key : Key) (request : List Field) (why : Cause) : Type 0 where
  pub did : DidBefore turns lines
  pub s : State
  pub state : (run_after fresh lines did.earlier).state ≡ Some s
  pub piece : PieceId
  pub key_is : piece.first ≡ key
  pub chosen : IsChosenPut (run_after fresh lines did.earlier) key request piece.put
  pub entry : TableRow
  pub some : 0 < piece.index
  pub listed : slice_get chosen.alternate.table (piece.index - 1) ≡ Some entry
  pub live : AreLiveBefore s key piece.put piece.index
  pub caused : IsMissingFor s piece why ⊎ PieceIsDamaged did.turn.device s piece entry why

-- where a whole read is answered that it broke
abbrev pub GetsAreCaused : Type 0
GetsAreCaused = (l : RunLogs) (a : Account l) (lines : List (List ℕ)) (key : Key) (request : List Field) (why : Cause)
    → HistoryTells a lines (step.Get key request) (answer.Broken why) → GetIsCaused a.turns lines key request why

-- ---- fragments that are lost to their writer

-- behind the line the fragment of this index is missing, of those that the put has cut the first one
pub record LossIsCaused (turns : List Turn) (lines : List (List ℕ)) (asks : Step) (index : ℕ) (why : Cause) : Type 0 where
  pub at : ClosesHere turns lines asks
  pub some : 0 < index
  pub within : index ≤ length at.w.cuts
  pub before : AreLiveTo (after_all at.s at.did.turn.added) at.w (index - 1)
  pub missing : IsMissingFor (after_all at.s at.did.turn.added) (fragment_piece at.w.key at.put index) why

-- where a line is refused for a lost fragment; it is one that closes a put
abbrev pub LossesAreCaused : Type 0
LossesAreCaused = (l : RunLogs) (a : Account l) (lines : List (List ℕ)) (asks : Step) (index : ℕ) (why : Cause) (took : Option ℕ)
    → HistoryTells a lines asks (answer.Refused (refused.Lost index why) took) → LossIsCaused a.turns lines asks index why
