-- What the calls of one writer or reader leave of all others.
use Rattle.std.specs.Prelude.{ℕ, ◌≡◌}
use Rattle.cache_model.specs.State.{State, put_of, reader_of}
use Rattle.call_laws.specs.Moments.{At}
use Rattle.cache_calls.specs.Actors.{IsOpenReader, IsReaderOf, IsWriterOf, ReaderSeen, WriterSeen}
use Rattle.cache_model.specs.Subjects.{IsOfPut, IsOfReader}
use Rattle.cache_calls.specs.Adds.{AddsOnly}
use Rattle.cache_calls.specs.Keeping.{state_at}

-- ---- writers

-- other puts, all readers, and the geometry are as they were
pub record LeavesOthers (put : ℕ) (s t : State) : Type 0 where
  pub puts : (q : ℕ) → (q ≡ put → ⊥) → put_of t q ≡ put_of s q
  pub readers : t.readers ≡ s.readers
  pub geometry : t.geometry ≡ s.geometry

-- records of one put leave them so
abbrev pub OthersStay : Type 0
OthersStay = (put : ℕ) (old new : At) → AddsOnly (IsOfPut put) old new → LeavesOthers put (state_at old) (state_at new)

-- and so they leave the writers of other puts
abbrev pub WritersStay : Type 0
WritersStay = (put : ℕ) (s t : State) (w : WriterSeen) → LeavesOthers put s t → (w.put ≡ put → ⊥) → IsWriterOf s w → IsWriterOf t w

-- ---- readers

-- other readers, all puts, and the geometry are as they were
pub record LeavesOtherReaders (reader : ℕ) (s t : State) : Type 0 where
  pub readers : (n : ℕ) → (n ≡ reader → ⊥) → reader_of t n ≡ reader_of s n
  pub puts : t.puts ≡ s.puts
  pub geometry : t.geometry ≡ s.geometry

-- records of one reader leave them so
abbrev pub ReadsLeaveOthers : Type 0
ReadsLeaveOthers = (reader : ℕ) (old new : At) → AddsOnly (IsOfReader reader) old new
    → LeavesOtherReaders reader (state_at old) (state_at new)

-- a reader whose row is as it was is open as it was, with the fragments that it had
abbrev pub ReadersStay : Type 0
ReadersStay = (s t : State) (r : ReaderSeen) → reader_of t r.reader ≡ reader_of s r.reader
    → (IsOpenReader s r → IsOpenReader t r) × (IsReaderOf s r → IsReaderOf t r)
