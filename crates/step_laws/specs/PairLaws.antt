-- What holds of two documents of one SHA-256 that are shown for a piece.
use Rattle.std.specs.Prelude.{ℕ, ◌≡◌, ◌≤◌, false, List, take, Some, None, option_and_then}
use Rattle.hex.specs.Hex.{IsBytes}
use Rattle.device_log.specs.Calls.{Read}
use Rattle.tape_base.specs.declared.keys.Key.{Key}
use Rattle.doc_header.specs.Reading.{extent_of}
use Rattle.alternate_vector.specs.Field.{Field}
use Rattle.tape_base.specs.Place.{block_of}
use Rattle.cache_model.specs.State.{State, Row, reader_of}
use Rattle.cache_model.specs.Verdict.{live_vector_of}
use Rattle.cache_model.specs.Permit.{Intent, IsAmong, Look, Permit, ReadOn}
use Rattle.cache_model.specs.Due.{due_pieces}
use Rattle.cache_model.specs.Legal.{live_next}
use Rattle.cache_model.specs.ToRead.{IsCopied, IsToRead, flushes_first, to_read}
use Rattle.cache_model.specs.Given.{IsWritten}
use Rattle.cache_model.specs.Pair.{Documents, IsPairOf}

-- both sides of a pair are bytes
abbrev pub PairsAreBytes : Documents → Type 0
PairsAreBytes IsPlaced = (p : Permit) (s : State) (row : Row) (pair : IsPairOf IsPlaced p s row)
    → IsBytes (take (extent_of pair.bytes) pair.bytes) × IsBytes pair.document

-- of a piece that was written out no pair is shown in a step in which the device gave nothing from the block of its place on
abbrev pub PairsAreGiven : Documents → Type 0
PairsAreGiven IsPlaced = (p : Permit) (s : State) (row : Row) → IsWritten s row
    → ((bytes : List ℕ) → IsAmong (Read (block_of s.geometry row.place) bytes) p.events → ⊥) → IsPairOf IsPlaced p s row → ⊥

-- where no piece is asked for, and no flush begins what is asked, no piece is read
abbrev pub NothingAskedReadsNone : Type 0
NothingAskedReadsNone = (p : Permit) (s : State) (i : Intent) (row : Row) → to_read s i ≡ None → flushes_first s i ≡ false → IsToRead p s i row → ⊥

-- a lookup reads the vector of its own key, and no other piece
abbrev pub LookupReadsItsKey : Type 0
LookupReadsItsKey = (p : Permit) (s : State) (actor : ℕ) (key : Key) (request : List Field) (row : Row)
    → IsToRead p s (Look actor key request) row → live_vector_of s key ≡ Some row

-- a reader reads the fragment that it takes next, and no other piece
abbrev pub ReaderReadsItsNext : Type 0
ReaderReadsItsNext = (p : Permit) (s : State) (reader : ℕ) (row : Row)
    → IsToRead p s (ReadOn reader) row → option_and_then (live_next s) (reader_of s reader) ≡ Some row

-- a piece to which a flush comes is due, and fits the budget
abbrev pub CopiedIsDueAndFits : Type 0
CopiedIsDueAndFits = (p : Permit) (s : State) (now left : ℕ) (row : Row) → IsCopied p s now left row
    → IsAmong row (due_pieces s now) × (row.blocks ≤ left)
