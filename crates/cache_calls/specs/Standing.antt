-- What is told of the bytes of pieces, and stands before a call and behind it.
use Rattle.std.specs.Prelude.{ℕ, ◌≡◌, ◌+◌, ◌<◌, true, IfOk, IfSome, List, Option, Some, None, Result, Ok, length, take}
use Rattle.std.specs.declared.alloc.AllocError.{AllocError}
use Rattle.logged_disk.specs.Device.{TellsAll}
use Rattle.fragment_table.specs.Table.{total_length}
use Rattle.cache_model.specs.State.{Row, State, fragment_piece}
use Rattle.cache_model.specs.Verdict.{cuts_of}
use Rattle.cache_model.specs.Legal.{live_next}
use Rattle.cache_model.specs.Contents.{Contents, TellsVectors}
use Rattle.call_laws.specs.Moments.{At}
use Rattle.cache_answers.specs.declared.answers.NextPiece.{NextPiece}
use Rattle.cache_answers.specs.declared.answers.NextPiece.TheVariants as piece
use Rattle.cache_answers.specs.declared.answers.Refusal.{Refusal}
use Rattle.cache_calls.specs.Actors.{ReaderSeen, WriterSeen, as_row}
use Rattle.cache_calls.specs.Asked.{fills_fragment, gathered_with}
use Rattle.cache_calls.specs.Keeping.{state_at}

-- ---- what goes on to stand

-- what stands stands behind a call, where this is told of what the call placed
abbrev pub StaysStanding : {S : Type 0} → (S → Contents → Type 0) → (Told : Contents → Type 0) → (old new : S) → Type 0
StaysStanding stands Told old new = (contents : Contents) → Told contents → stands old contents → stands new contents

-- these bytes are told of the fragment that a writer cuts next
abbrev pub IsToldNext : WriterSeen → List ℕ → Contents → Type 0
IsToldNext w payload contents =
    IfSome (contents (fragment_piece w.key w.put (length w.cuts + 1)) None) (λ c. c ≡ record { start = total_length w.cuts; payload = payload })

-- where a write cut one
abbrev pub IsToldWritten : State → WriterSeen → List ℕ → Result ℕ Refusal → Contents → Type 0
IsToldWritten s w bytes result contents =
    IfOk result (λ n. fills_fragment s.geometry w n ≡ true → IsToldNext w (gathered_with w bytes n) contents)

-- where a close cut the rest; and each vector spells its alternates
pub record IsToldClosed (new : State) (w : WriterSeen) (contents : Contents) : Type 0 where
  pub rest : length w.cuts < length (cuts_of new w.put) → IsToldNext w w.gathered contents
  pub vectors : TellsVectors contents

-- ---- what is read

-- the payload that a reader is given is the one that is told of its fragment
abbrev pub GivesPayload : Contents → Option Row → Result NextPiece AllocError → List ℕ → Type 0
GivesPayload contents (Some row) (Ok (piece.Piece index size)) into =
    IfSome (contents row.id row.alternates) (λ c. (size ≡ length c.payload) × (take size into ≡ c.payload))
GivesPayload contents _ result into = Unit {0}

-- so it is where it stood before the call, on a device that told its content up to its end
abbrev pub GivesAsTold : {S : Type 0} → (S → At) → (S → Contents → Type 0) → (old new : S) → ReaderSeen → Result NextPiece AllocError → List ℕ → Type 0
GivesAsTold at stands old new r result into = TellsAll (at new).device → (contents : Contents) → stands old contents
    → GivesPayload contents (live_next (state_at (at old)) (as_row r)) result into
