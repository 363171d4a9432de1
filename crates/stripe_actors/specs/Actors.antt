-- What a contract sees of an `Actors`, and when that agrees with what the records say.
use Rattle.std.specs.Prelude.{ℕ, ◌≡◌, ◌+◌, ◌<◌, ◌≤◌, true, false, if◌then◌else◌, List, [], ◌∷◌, ◌++◌, map, Option, Some, None}
use Rattle.open_directory.specs.declared.kept.Writer.{Writer}
use Rattle.open_directory.specs.declared.kept.KeptPut.{KeptPut}
use Rattle.open_directory.specs.declared.kept.Reader.{Reader}
use Rattle.open_directory.specs.declared.kept.Phase.{Phase}
use Rattle.open_directory.specs.declared.kept.Phase.TheVariants as phase
use Rattle.open_directory.specs.Directory.{Held, kept_put, reader_at}
use Rattle.cache_model.specs.State.{State, PutRow, ReaderRow, Writing, Open, Closed, GivenUp, put_of, reader_of}
use Rattle.cache_model.specs.Verdict.{is_open}
use Rattle.cache_model.specs.Room.{limit}

-- who writes and who reads, and the numbers of the next put and of the next reader
pub record ActorsSeen : Type 0 where
  pub held : Held
  pub next_put : ℕ
  pub next_reader : ℕ

-- how many more readers can be opened without taking memory
abbrev pub reader_room_of : ActorsSeen → ℕ
reader_room_of a = a.held.reader_room

-- the numbers of the entries rise, from `low` on and below `high`
abbrev pub RiseWithin : {X : Type 0} → ℕ → ℕ → List (ℕ × X) → Type 0
RiseWithin low high [] = low ≤ high
RiseWithin low high (e ∷ es) = (low ≤ e.0) × RiseWithin (e.0 + 1) high es

-- what is kept has numbers that were given
pub record HasGivenNumbers (a : ActorsSeen) : Type 0 where
  pub puts : RiseWithin 1 a.next_put a.held.puts
  pub readers : RiseWithin 1 a.next_reader a.held.readers
  pub below : a.next_put < limit

-- numbers that fall, from below `high` and down to no less than 1
abbrev pub NumbersFallBelow : ℕ → List ℕ → Type 0
NumbersFallBelow high [] = 1 ≤ high
NumbersFallBelow high (n ∷ ns) = (n < high) × NumbersFallBelow n ns

-- who writes a put
abbrev pub writer_of_row : PutRow → Writer
writer_of_row p = record { put = p.put; key = p.key; request = p.request; response = p.response }

-- a put's writer, as long as it is open
abbrev pub writer_where_open : PutRow → List Writer
writer_where_open p = if is_open p then writer_of_row p ∷ [] else []

-- the writers of the open puts, in the order of opening; the puts are the last first
abbrev pub writers_in : List PutRow → List Writer
writers_in [] = []
writers_in (p ∷ ps) = writers_in ps ++ writer_where_open p

-- the phase that is kept of a put, by how it stands in the records
abbrev pub phase_of_put : Writing → Phase
phase_of_put Open = phase.Writing
phase_of_put Closed = phase.Closed
phase_of_put GivenUp = phase.GivenUp

-- what is kept of a put is what the records say of it
pub record IsPutOf (p : PutRow) (kept : KeptPut) : Type 0 where
  pub standing : kept.phase ≡ phase_of_put p.writing
  pub cuts : kept.cuts.rows ≡ p.cuts

-- a put that is open is kept; one that ended need not be
abbrev pub IsKeptAs : Option PutRow → Option KeptPut → Type 0
IsKeptAs None None = Unit {0}
IsKeptAs None (Some kept) = ⊥
IsKeptAs (Some p) None = is_open p ≡ false
IsKeptAs (Some p) (Some kept) = IsPutOf p kept

-- the reader is the one of the records; one that follows a writer is known to follow
pub record IsReaderOfRow (row : ReaderRow) (reader : Reader) : Type 0 where
  pub put : reader.put ≡ row.put
  pub next : reader.next ≡ row.next
  pub counted : 1 ≤ row.next
  pub follows : row.table ≡ None → reader.follows ≡ true

-- a reader is kept just as long as it is open by the records
abbrev pub IsReaderAs : Option ReaderRow → Option Reader → Type 0
IsReaderAs None None = Unit {0}
IsReaderAs None (Some reader) = ⊥
IsReaderAs (Some row) None = ⊥
IsReaderAs (Some row) (Some reader) = IsReaderOfRow row reader

-- the numbers of the puts as their rows stand, the last opened first
abbrev pub put_numbers : List PutRow → List ℕ
put_numbers puts = map (λ p. p.put) puts

-- the numbers of the readers as their rows stand, the last opened first
abbrev pub reader_numbers : List ReaderRow → List ℕ
reader_numbers readers = map (λ r. r.reader) readers

-- the actors are in step with a state of the records
pub record AreActors (s : State) (a : ActorsSeen) : Type 0 where
  pub next_put : a.next_put ≡ s.next_put
  pub next_reader : a.next_reader ≡ s.next_reader
  pub writers : a.held.writers ≡ writers_in s.puts
  pub puts : (put : ℕ) → IsKeptAs (put_of s put) (kept_put put a.held.puts)
  pub readers : (reader : ℕ) → IsReaderAs (reader_of s reader) (reader_at reader a.held)
  -- a number is given once
  pub puts_fall : NumbersFallBelow s.next_put (put_numbers s.puts)
  pub readers_fall : NumbersFallBelow s.next_reader (reader_numbers s.readers)
