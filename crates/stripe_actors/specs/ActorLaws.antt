-- What actors that are in step with a state tell of it: laws.
use Rattle.std.specs.Prelude.{ℕ, ◌≡◌, ◌<◌, ◌≤◌, ◌&&◌, Bool, true, false, not, List, length, Some, None, option_map, IsSome}
use Rattle.tape_base.specs.declared.keys.Key.{Key}
use Rattle.alternate_vector.specs.Field.{Field}
use Rattle.fragment_table.specs.Table.{total_length}
use Rattle.open_directory.specs.declared.kept.PutState.{PutState}
use Rattle.open_directory.specs.Directory.{IsHeldDirectory, is_kept_open, kept_cuts, put_followed, put_state, put_state_at, row_of_index, table_row}
use Rattle.cache_model.specs.declared.record.Rec.{Rec}
use Rattle.cache_model.specs.declared.record.Rec.TheVariants as rec
use Rattle.cache_model.specs.State.{State, PutRow, ReaderRow, put_of, reader_of, state_after}
use Rattle.cache_model.specs.Verdict.{followed as followed_row, next_row}
use Rattle.cache_model.specs.Legal.{is_writing, open_writers}
use Rattle.cache_model.specs.Subjects.{is_of_actors, subject_of}
use Rattle.stripe_actors.specs.Actors.{ActorsSeen, AreActors, phase_of_put}

-- ---- states that the actors cannot tell apart

-- the puts and the readers of two states are the same
pub record IsAlikeForActors (s t : State) : Type 0 where
  pub puts : t.puts ≡ s.puts
  pub readers : t.readers ≡ s.readers
  pub next_put : t.next_put ≡ s.next_put
  pub next_reader : t.next_reader ≡ s.next_reader

-- actors that are in step with one are in step with the other
abbrev pub AlikeStayInStep : Type 0
AlikeStayInStep = (s t : State) (a : ActorsSeen) → IsAlikeForActors s t → AreActors s a → AreActors t a

-- a reader is answered without a fragment, and stays where it is
abbrev pub answers_alone : Rec → Bool
answers_alone (rec.Ended reader length) = true
answers_alone (rec.Waited reader cut) = true
answers_alone (rec.Broke reader why) = true
answers_alone _ = false

-- a record that changes a put or a reader, or begins a session
abbrev pub speaks_of_actors : Rec → Bool
speaks_of_actors r = is_of_actors (subject_of r) && not (answers_alone r)

-- any other record leaves actors in step, as they are
abbrev pub OthersStayInStep : Type 0
OthersStayInStep = (s : State) (a : ActorsSeen) (r : Rec) → speaks_of_actors r ≡ false → AreActors s a → AreActors (state_after s r) a

-- ---- writers

-- a put is open among the actors just where it is open by the records
abbrev pub OpenIsWriting : Type 0
OpenIsWriting = (s : State) (a : ActorsSeen) → AreActors s a → (put : ℕ) → is_kept_open put a.held.puts ≡ is_writing s put

-- as many writers are open as the records have open puts
abbrev pub WritersAreCounted : Type 0
WritersAreCounted = (s : State) (a : ActorsSeen) → AreActors s a → length a.held.writers ≡ open_writers s

-- a put by its number, as a lookup that follows it is told
abbrev pub number_in : PutRow → ℕ
number_in p = p.put

-- a lookup can follow the same put by the writers as by the records, or by both none
abbrev pub FollowedIsFound : Type 0
FollowedIsFound = (s : State) (a : ActorsSeen) → AreActors s a → (key : Key) (request : List Field)
    → put_followed key request a.held.writers ≡ option_map number_in (followed_row s key request)

-- ---- what is told of a put

-- how a put stands, with its fragments counted and summed up
abbrev pub put_state_in : PutRow → PutState
put_state_in p = put_state_at (phase_of_put p.writing) (length p.cuts) (total_length p.cuts)

-- how a put stands is at hand, and so are its fragments
pub record PutIsTold (s : State) (a : ActorsSeen) (put : ℕ) : Type 0 where
  pub row : PutRow
  pub found : put_of s put ≡ Some row
  pub state : put_state put a.held.puts ≡ Some (put_state_in row)
  pub cuts : kept_cuts put a.held.puts ≡ row.cuts

-- so it is of each put that is kept
abbrev pub KeptIsTold : Type 0
KeptIsTold = (s : State) (a : ActorsSeen) → AreActors s a → (put : ℕ) → IsSome (put_state put a.held.puts) → PutIsTold s a put

-- so it is of each put that is open
abbrev pub WritingIsTold : Type 0
WritingIsTold = (s : State) (a : ActorsSeen) → AreActors s a → (put : ℕ) → is_writing s put ≡ true → PutIsTold s a put

-- so it is of a put that a reader follows, also once it has ended
abbrev pub FollowedIsTold : Type 0
FollowedIsTold = (s : State) (a : ActorsSeen) → AreActors s a → IsHeldDirectory a.held → (reader : ℕ) (r : ReaderRow) → reader_of s reader ≡ Some r → r.table ≡ None → PutIsTold s a r.put

-- the fragment that a reader of a writer takes next
abbrev pub NextIsTold : Type 0
NextIsTold = (s : State) (a : ActorsSeen) → AreActors s a → IsHeldDirectory a.held → (reader : ℕ) (r : ReaderRow) → reader_of s reader ≡ Some r → r.table ≡ None
    → row_of_index r.next (kept_cuts r.put a.held.puts) ≡ option_map table_row (next_row s r)

-- ---- numbers

-- a put of the records has a number from 1 on, below the next put's
abbrev pub PutWasGiven : Type 0
PutWasGiven = (s : State) (a : ActorsSeen) → AreActors s a → (put : ℕ) → IsSome (put_of s put) → (1 ≤ put) × (put < s.next_put)

-- a reader of the records has a number from 1 on, below the next reader's
abbrev pub ReaderWasGiven : Type 0
ReaderWasGiven = (s : State) (a : ActorsSeen) → AreActors s a → (reader : ℕ) → IsSome (reader_of s reader) → (1 ≤ reader) × (reader < s.next_reader)
