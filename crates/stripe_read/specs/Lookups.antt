-- What a lookup answers, and what is recorded.
use Rattle.std.specs.Prelude.{ℕ, ◌≡◌, ◌+◌, ◌≤◌, ◌⊎◌, List, [], ◌∷◌, ◌++◌, Option, Some, None, option_map, unwrap_or, Result, IfOk, IsOk, OnErr}
use Rattle.std.specs.declared.alloc.AllocError.{AllocError}
use Rattle.tape_base.specs.declared.actors.Actor.{Actor}
use Rattle.tape_base.specs.declared.keys.Key.{Key}
use Rattle.fragment_table.specs.Table.{Table, total_length}
use Rattle.alternate_vector.specs.Field.{Field}
use Rattle.alternate_vector.specs.Alternates.{Stored}
use Rattle.logged_disk.specs.Device.{DeviceState as Device}
use Rattle.logged_disk.specs.declared.device.Disk.{Ghosts as DiskGhosts}
use Rattle.dir_table.specs.declared.directory.Directory.{Ghosts as DirectoryGhosts}
use Rattle.cache_chronicle.specs.declared.chronicle.Chronicle.{Ghosts as ChronicleGhosts}
use Rattle.cache_model.specs.declared.answer.ReadAnswer.{ReadAnswer}
use Rattle.cache_model.specs.declared.answer.ReadAnswer.TheVariants as read
use Rattle.cache_model.specs.declared.record.Rec.{Rec}
use Rattle.cache_model.specs.declared.record.Rec.TheVariants as rec
use Rattle.cache_model.specs.State.{Row, State, table_of_hit}
use Rattle.cache_model.specs.Kept.{with_records}
use Rattle.cache_model.specs.Verdict.{cause_of_miss, follow_answer, followed, live_vector_of}
use Rattle.cache_model.specs.Permit.{Done, Look, Permit}
use Rattle.cache_model.specs.Legal.{Does, IsLookup}
use Rattle.cache_model.specs.Pair.{IsKeyPair}
use Rattle.cache_model.specs.Vectors.{AreVectors, IsVectorAs}
use Rattle.call_laws.specs.Untold.{Untold}
use Rattle.piece_answers.specs.Covers.{AllReadIsSeen, Covers}
use Rattle.cache_model.specs.Troubles.{cause_records}
use Rattle.held_pieces.specs.Still.{IsStill, IsUnwritten}
use Rattle.stripe_core.specs.declared.stripe.Stripe.{Stripe}
use Rattle.stripe_answers.specs.Acts.{IsFollowable}
use Rattle.stripe_core.specs.Between.{Continues, Rests}
use Rattle.stripe_core.specs.Stripe.{kept_in, seen_in, state_in, units_in}
use Rattle.stripe_read.specs.declared.reader.Reader.{Reader}
use Rattle.stripe_read.specs.declared.opening.Chosen.{Chosen}
use Rattle.stripe_read.specs.declared.opening.Looked.{Looked}
use Rattle.stripe_read.specs.declared.opening.Looked.TheVariants as looked
use Rattle.cache_answers.specs.declared.answers.Opened.{Opened}
use Rattle.cache_answers.specs.declared.answers.Opened.TheVariants as opened
use Rattle.stripe_read.specs.Troubles.{TroubleIsCounted}
use Rattle.cache_calls.specs.Actors.{IsOpenReader, IsReaderOf}
use Rattle.cache_calls.specs.Readers.{vector_trouble, answer_in, open_adds, IfReader, TellsReader}
use Rattle.stripe_read.specs.Readers.{reading_as}

-- ---- what answers

-- the answer where no alternate is hit
abbrev pub otherwise : State → Key → List Field → ReadAnswer
otherwise s key request = unwrap_or (option_map follow_answer (followed s key request)) (read.Miss (cause_of_miss s key))

-- the answer of what was found
abbrev pub answer_of_looked : Looked → ReadAnswer
answer_of_looked (looked.Hit chosen) = read.Hit chosen.put
answer_of_looked (looked.Follow put) = read.Follow put
answer_of_looked (looked.Miss why) = read.Miss why

-- what was chosen is the put and the fragments of the alternate
abbrev pub IsChosen : Option Stored → Option Chosen → Type 0
IsChosen None None = Unit {0}
IsChosen None (Some chosen) = ⊥
IsChosen (Some a) None = ⊥
IsChosen (Some a) (Some chosen) = (chosen.put ≡ a.put) × (chosen.table.rows ≡ a.table)

-- the record of what kept the key's vector, where it is live, from being read
abbrev pub lookup_adds : State → Key → ReadAnswer → List Rec
lookup_adds s key answer = vector_trouble (live_vector_of s key) answer

-- the fragments of a hit are those of the alternate
abbrev pub HasTable : State → Key → List Field → Looked → Type 0
HasTable s key request (looked.Hit chosen) = chosen.table.rows ≡ table_of_hit s key request
HasTable s key request (looked.Follow put) = Unit {0}
HasTable s key request (looked.Miss why) = Unit {0}

-- this is what the lookup finds
pub record IsFound (p : Permit) (s : State) (key : Key) (request : List Field) (found : Looked) : Type 0 where
  pub right : IsLookup p s key request (lookup_adds s key (answer_of_looked found)) (answer_of_looked found)
  pub table : HasTable s key request found

-- the cause of a miss is that of the records, or the trouble with the key's live vector
abbrev pub MissIsCounted : ℕ → State → Key → ReadAnswer → Type 0
MissIsCounted faults s key (read.Miss why) = (why ≡ cause_of_miss s key) ⊎ TroubleIsCounted faults (live_vector_of s key) why
MissIsCounted faults s key _ = Unit {0}

-- what was read is what is seen, and what came of it in any step that covers the call; or two documents of
-- one SHA-256 are shown, on a device that did not tell its content
pub record LooksUp (s : State) (old new : Device) (key : Key) (request : List Field) (found : Looked) : Type 0 where
  pub seen : AllReadIsSeen old new
  pub answers : (p : Permit) → Covers p old.past new.past → AreVectors s
      → IsFound p s key request found ⊎ IsKeyPair (Untold new IsVectorAs) p s key
  pub counted : MissIsCounted new.faults s key (answer_of_looked found)

-- ---- what opens

-- with the number of its reader
abbrev pub opened_as : ℕ → Key → Looked → Opened Reader
opened_as number key (looked.Hit chosen) =
    opened.Hit (record { reader = number; key = key; put = chosen.put; table = Some chosen.table; next = 1 }) chosen.put (total_length chosen.table.rows)
opened_as number key (looked.Follow put) =
    opened.Follow (record { reader = number; key = key; put = put; table = None; next = 1 }) put
opened_as number key (looked.Miss why) = opened.Miss why

-- what was read is what is seen, and in any step that covers the call: it was looked up as asked, and the
-- reader has the fragments of the alternate; or two documents of one SHA-256 are shown, on a device that did not tell its content
pub record Opens (s t : State) (old new : Device) (who : Actor) (key : Key) (request : List Field) (answer : Opened Reader) : Type 0 where
  pub seen : AllReadIsSeen old new
  pub does : (p : Permit) → Covers p old.past new.past → AreVectors s
      → (Does p s (Look who.0 key request) (open_adds s who key request (answer_in answer)) Done
      × IfReader (λ own. IsReaderOf t (reading_as own)) answer)
      ⊎ IsKeyPair (Untold new IsVectorAs) p s key
  pub counted : MissIsCounted new.faults s key (answer_in answer)

-- ---- what a stripe makes of it

module _ {D R C : Type 0} {d : DiskGhosts D} {r : DirectoryGhosts R} {c : ChronicleGhosts C} where
  -- what looking up a key comes to
  pub record LooksUpKey (key : Key) (request : List Field) (old new : Stripe D R C d r c) (result : Result Looked AllocError) : Type 0 where
    pub continues : Continues old new
    pub adds : IfOk result (λ found. kept_in new ≡ with_records (kept_in old) (lookup_adds (state_in old) key (answer_of_looked found)))
    pub looks : IfOk result (LooksUp (state_in old) (seen_in old).device (seen_in new).device key request)
    pub follows : IfOk result (λ found. IsFollowable (state_in new) (answer_of_looked found))
    pub err : OnErr result (kept_in new ≡ kept_in old)
    pub unwritten : IsUnwritten (seen_in old).device (seen_in new).device
    pub unit : units_in old ≤ units_in new + 1

  -- what recording what was found comes to, and opening its reader; memory for it is there
  pub record BeginsReading (who : Actor) (key : Key) (request : List Field) (found : Looked) (old new : Stripe D R C d r c) (result : Result (Opened Reader) AllocError) : Type 0 where
    pub continues : Continues old new
    pub adds : IfOk result (λ answer. kept_in new
        ≡ with_records (kept_in old) (rec.ReadOpened (state_in old).next_reader who key request (answer_of_looked found) ∷ []))
    pub opens : IfOk result (λ answer. answer ≡ opened_as (state_in old).next_reader key found)
    pub memory : IsOk result
    pub still : IsStill (seen_in old).device (seen_in new).device

  -- what opening a reader comes to
  pub record OpensReaderInStripe (who : Actor) (key : Key) (request : List Field) (old new : Stripe D R C d r c) (result : Result (Opened Reader) AllocError) : Type 0 where
    pub rests : Rests old new
    pub adds : IfOk result (λ answer. kept_in new
        ≡ with_records (kept_in old) (open_adds (state_in old) who key request (answer_in answer)))
    pub opens : IfOk result (Opens (state_in old) (state_in new) (seen_in old).device (seen_in new).device who key request)
    pub reader : IfOk result (IfReader (λ own. IsOpenReader (state_in new) (reading_as own)))
    pub tells : IfOk result (TellsReader reading_as (state_in old).next_reader)
    pub err : OnErr result (kept_in new ≡ kept_in old)
    pub unwritten : IsUnwritten (seen_in old).device (seen_in new).device
