-- What is read of a key's vector, and what that says of the records.
use Rattle.std.specs.Prelude.{ℕ, ◌≡◌, ◌+◌, ◌*◌, ◌≤◌, ◌⊎◌, List, [], length, Option, Some, None, IsSome, Result, Ok, Err, IfOk, OnErr}
use Rattle.std.specs.declared.alloc.AllocError.{AllocError}
use Rattle.hex.specs.Hex.{IsBytes}
use Rattle.tape_base.specs.declared.keys.Key.{Key}
use Rattle.tape_base.specs.declared.pieces.PieceId.{PieceId}
use Rattle.logged_disk.specs.Device.{DeviceState as Device, TellsAll}
use Rattle.logged_disk.specs.declared.device.Disk.{Ghosts as DiskGhosts}
use Rattle.dir_table.specs.declared.directory.Directory.{Ghosts as DirectoryGhosts}
use Rattle.cache_chronicle.specs.declared.chronicle.Chronicle.{Ghosts as ChronicleGhosts}
use Rattle.doc_header.specs.Reading.{document_digest, payload_of}
use Rattle.alternate_vector.specs.declared.fault.VectorFault.{VectorFault}
use Rattle.alternate_vector.specs.Alternates.{Stored}
use Rattle.alternate_vector.specs.Reading.{read_vector}
use Rattle.cache_model.specs.declared.record.Rec.{Rec}
use Rattle.cache_model.specs.Kept.{with_records}
use Rattle.cache_model.specs.State.{Row, State, alternates_of, live_row_of}
use Rattle.cache_model.specs.Verdict.{live_vector_of, vector_of}
use Rattle.cache_model.specs.Permit.{Permit}
use Rattle.cache_model.specs.Given.{IsGiven, IsWritten, Trouble}
use Rattle.cache_model.specs.Pair.{IsKeyPair}
use Rattle.cache_model.specs.Vectors.{AreVectors, IsVectorAs}
use Rattle.piece_answers.specs.Covers.{AllReadIsSeen, Covers}
use Rattle.cache_model.specs.Troubles.{cause_records}
use Rattle.held_pieces.specs.Still.{IsUnwritten}
use Rattle.stripe_core.specs.declared.stripe.Stripe.{Stripe}
use Rattle.stripe_core.specs.Stripe.{kept_in, room_for, seen_in, state_in, units_in}
use Rattle.stripe_core.specs.Between.{Continues}
use Rattle.stripe_vectors.specs.declared.reading.KeyVector.{KeyVector}
use Rattle.stripe_vectors.specs.declared.reading.KeyVector.TheVariants as found

-- the alternates that a payload spells: none, where it is no vector
abbrev pub spelled_in : Result (List Stored) VectorFault → List Stored
spelled_in (Ok list) = list
spelled_in (Err fault) = []

-- the alternates that a payload lists, in their order
abbrev pub alternates_spelled : List ℕ → List Stored
alternates_spelled payload = spelled_in (read_vector payload)

-- the document of a live vector was read, and this is what it lists
pub record VectorIsReadAs (p : Permit) (s : State) (row : Row) (list : List Stored) : Type 0 where
  pub bytes : List ℕ
  pub whole : length bytes ≡ 512 * row.blocks
  pub of_bytes : IsBytes bytes
  pub digest : row.digest ≡ document_digest bytes
  pub given : IsWritten s row → IsGiven p s row bytes
  pub spelled : list ≡ alternates_spelled (payload_of bytes)

-- no vector is live; or it was read; or the trouble with it
abbrev pub IsVectorFound : Permit → State → Option Row → KeyVector → Type 0
IsVectorFound p s None found.Absent = Unit {0}
IsVectorFound p s None (found.Read list) = ⊥
IsVectorFound p s None (found.Trouble why) = ⊥
IsVectorFound p s (Some row) found.Absent = ⊥
IsVectorFound p s (Some row) (found.Read list) = VectorIsReadAs p s row list
IsVectorFound p s (Some row) (found.Trouble why) = Trouble p s row (cause_records row why) why

-- what was read are the key's alternates
abbrev pub HasAlternates : State → Key → KeyVector → Type 0
HasAlternates s key (found.Read list) = list ≡ alternates_of s key
HasAlternates s key _ = Unit {0}

-- what was read is what is seen, and what came of it in any step that covers the call; where the device tells its content, what
-- the key has
pub record FindsVector (s : State) (old new : Device) (key : Key) (answer : KeyVector) : Type 0 where
  pub seen : AllReadIsSeen old new
  pub exact : TellsAll new → HasAlternates s key answer
  pub answers : (p : Permit) → Covers p old.past new.past → IsVectorFound p s (live_vector_of s key) answer

-- the record of what kept a live vector from being read
abbrev pub trouble_records : Option Row → KeyVector → List Rec
trouble_records None answer = []
trouble_records (Some row) found.Absent = []
trouble_records (Some row) (found.Read list) = []
trouble_records (Some row) (found.Trouble why) = cause_records row why

-- the same by the key, whose vector is live or not
abbrev pub vector_adds : State → Key → KeyVector → List Rec
vector_adds s key answer = trouble_records (live_vector_of s key) answer

-- ---- how a live vector is read

-- the piece is the key's vector, and it is live
pub record IsLiveVectorOf (s : State) (key : Key) (id : PieceId) : Type 0 where
  pub vector : vector_of s key ≡ Some id
  pub live : IsSome (live_row_of s id)

module _ {D R C : Type 0} {d : DiskGhosts D} {r : DirectoryGhosts R} {c : ChronicleGhosts C} where
  -- what reading a key's live vector comes to
  pub record ReadsKeyVector (key : Key) (old new : Stripe D R C d r c) (result : Result KeyVector AllocError) : Type 0 where
    pub continues : Continues old new
    pub adds : IfOk result (λ answer. kept_in new ≡ with_records (kept_in old) (vector_adds (state_in old) key answer))
    pub finds : IfOk result (FindsVector (state_in old) (seen_in old).device (seen_in new).device key)
    -- what was read is what is seen, also where memory is wanting for it
    pub seen : AllReadIsSeen (seen_in old).device (seen_in new).device
    pub err : OnErr result (kept_in new ≡ kept_in old)
    pub unwritten : IsUnwritten (seen_in old).device (seen_in new).device
    pub row : (put : ℕ) → room_for put new.actors ≡ room_for put old.actors
    pub unit : units_in old ≤ units_in new + 1

-- ---- the law of what was read

-- what was read is what the key has, or two documents of one SHA-256 are shown
abbrev pub ReadIsListed : Type 0
ReadIsListed = (p : Permit) (s : State) (key : Key) (row : Row) (list : List Stored) → AreVectors s → live_vector_of s key ≡ Some row → VectorIsReadAs p s row list
    → (list ≡ alternates_of s key) ⊎ IsKeyPair IsVectorAs p s key
