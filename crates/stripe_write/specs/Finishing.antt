-- How a put whose fragments are all cut is finished: its vector is placed, and it is committed.
use Rattle.std.specs.Prelude.{ℕ, ◌≡◌, ◌<◌, ◌≤◌, ◌+◌, ◌-◌, Bool, true, false, List, [], ◌∷◌, length, Option, Some, None, IsSome, is_some, unwrap_or, Result, Ok, Err, IfErr, OnErr, OnOk}
use Rattle.fragment_table.specs.Table.{total_length}
use Rattle.device_log.specs.Calls.{Call}
use Rattle.logged_disk.specs.Device.{DeviceState as Device, TellsAll}
use Rattle.logged_disk.specs.declared.device.Disk.{Ghosts as DiskGhosts}
use Rattle.dir_table.specs.declared.directory.Directory.{Ghosts as DirectoryGhosts}
use Rattle.alternate_vector.specs.Alternates.{Stored}
use Rattle.cache_model.specs.declared.record.Rec.{Rec}
use Rattle.cache_model.specs.declared.record.Rec.TheVariants as rec
use Rattle.cache_model.specs.State.{State, fragment_piece, list_of_put, live_row_of}
use Rattle.cache_model.specs.Kept.{Kept, state_of, with_records}
use Rattle.cache_model.specs.Verdict.{cause_of_piece, cuts_of, live_vector_of}
use Rattle.cache_model.specs.Permit.{Commit, Done, End, Exhausted, Fails, Faulted, Finish, Intent, Lost, Permit, Stays}
use Rattle.cache_model.specs.Legal.{vector_length, vector_payload}
use Rattle.cache_model.specs.Room.{greatest_pin, has_room, limit}
use Rattle.cache_chronicle.specs.declared.chronicle.Chronicle.{Ghosts as ChronicleGhosts}
use Rattle.cache_model.specs.Contents.{TellsVectors}
use Rattle.cache_answers.specs.declared.answers.Refusal.{Refusal}
use Rattle.cache_answers.specs.declared.answers.Refusal.TheVariants as refusal
use Rattle.stripe_core.specs.declared.stripe.Stripe.{Stripe}
use Rattle.stripe_answers.specs.Acts.{CommitsAsAsked, committed_record}
use Rattle.stripe_core.specs.Between.{Continues, Rests, RestsWith}
use Rattle.stripe_answers.specs.Counts.{IsCounted}
use Rattle.stripe_core.specs.Stripe.{AnswersOrWants, kept_in, seen_in, state_in, units_in}
use Rattle.piece_answers.specs.Covers.{Covers}
use Rattle.piece_answers.specs.Flush.{StopsWith}
use Rattle.cache_model.specs.Limits.{ReachesLimit}
use Rattle.piece_answers.specs.Place.{RoomsAsAsked}
use Rattle.stripe_vectors.specs.declared.spelling.Spelled.{Spelled}
use Rattle.cache_answers.specs.declared.answers.Receipt.{Receipt}
use Rattle.stripe_write.specs.declared.weighing.Vectors.{Vectors}
use Rattle.stripe_write.specs.declared.writer.Writer.{Writer}
use Rattle.stripe_answers.specs.Faults.{RefusalHasRecord}
use Rattle.stripe_write.specs.Others.{AddsOfPut}
use Rattle.stripe_write.specs.Writers.{HasOpenWriter, written_as}
use Rattle.stripe_write.specs.Closing.{AreSpelled, IsReadFor, SpendsAll}
use Rattle.cache_calls.specs.Actors.{IsWriterOf}

-- ---- which vector is placed

-- the one with what the key's vector lists, while that is live
abbrev pub picked : Vectors → Bool → Spelled
picked v true = unwrap_or v.merged v.alone
picked v false = v.alone

-- that one, by whether the key's vector is live in this state
abbrev pub vector_now : State → Writer → Vectors → Spelled
vector_now s w v = picked v (is_some (live_vector_of s w.key))

-- how many bytes that one has
abbrev pub bytes_now : State → Writer → Vectors → ℕ
bytes_now s w v = length (vector_now s w v).bytes.items

-- it is the vector that the records give the put
pub record IsCurrent (s : State) (w : Writer) (spelled : Spelled) : Type 0 where
  pub payload : spelled.bytes.items ≡ vector_payload s w.put
  pub size : length spelled.bytes.items ≡ vector_length s w.put
  pub pin : spelled.pin ≡ greatest_pin (list_of_put s w.put)
  pub lists : spelled.list ≡ list_of_put s w.put

-- ---- fragments that are not live any more

-- the fragments up to an index are live
abbrev pub AreLive : State → Writer → ℕ → Type 0
AreLive s w last = (index : ℕ) → 0 < index → index ≤ last → IsSome (live_row_of s (fragment_piece w.key w.put index))

-- the first that is not live, where there is one
abbrev pub IsFirstLost : State → Writer → Option ℕ → Type 0
IsFirstLost s w None = AreLive s w (length w.table.rows)
IsFirstLost s w (Some index) = (0 < index) × (index ≤ length w.table.rows) × AreLive s w (index - 1) × (live_row_of s (fragment_piece w.key w.put index) ≡ None)

-- ---- how it ends

-- what is asked once all fragments are cut: to place the vector and to commit
abbrev pub finish_intents : Writer → List Intent
finish_intents w = Finish w.put (length w.table.rows) ∷ Commit w.put ∷ []

-- the end to which each answer brings that; behind any other refusal it is still to be done
abbrev pub finish_end : Writer → Result Receipt Refusal → End
finish_end w (Ok receipt) = Done
finish_end w (Err (refusal.Lost index why)) = Fails (Lost w.put index)
finish_end w (Err (refusal.DeviceFault count)) = Fails (Faulted count)
finish_end w (Err (refusal.Exhausted number)) = Fails Exhausted
finish_end w (Err _) = Stays

-- the put was complete, of so many fragments and bytes
pub record IsReceiptOf (w : Writer) (receipt : Receipt) : Type 0 where
  pub put : receipt.put ≡ w.put
  pub bytes : receipt.length ≡ total_length w.table.rows
  pub fragments : receipt.fragments ≡ length w.table.rows

-- which answers may come: of a lost fragment with the cause that the records have, and of the end of the
-- tape with a number that reaches the limit
abbrev pub FinishesWhere : State → Writer → Result Receipt Refusal → Type 0
FinishesWhere s w (Ok receipt) = IsReceiptOf w receipt
FinishesWhere s w (Err (refusal.Lost index why)) = why ≡ cause_of_piece s (fragment_piece w.key w.put index)
FinishesWhere s w (Err (refusal.DeviceFault count)) = Unit {0}
FinishesWhere s w (Err (refusal.Exhausted number)) = limit ≤ number
FinishesWhere s w (Err _) = ⊥

-- all that the put has is cut, and its vector has no place
abbrev pub VectorStops : State → Writer → Refusal → Type 0
VectorStops t w (refusal.Exhausted number) = (cuts_of t w.put ≡ w.table.rows) × ReachesLimit t (vector_length t w.put) number
VectorStops t w _ = Unit {0}

-- what it makes of the records, and the number that it tells at the end of the tape
pub record Finishes (p : Permit) (old new : Kept) (w : Writer) (result : Result Receipt Refusal) : Type 0 where
  pub added : List Rec
  pub adds : new ≡ with_records old added
  pub does : SpendsAll p (state_of old) (finish_intents w) added (finish_end w result)
  pub number : IfErr result (VectorStops (state_of new) w)

-- what came of it in any step at that moment that covers the call, where no insert goes on and the key's vector is
-- the one that was read
pub record FinishesAsRead (packed : Bool) (now : ℕ) (before after : List Call) (old new : Kept) (w : Writer) (v : Vectors) (result : Result Receipt Refusal) : Type 0 where
  pub does : (p : Permit) → p.packed ≡ packed → p.now ≡ now → Covers p before after → (state_of old).displaced ≡ [] → IsReadFor (state_of old) w v → Finishes p old new w result

-- where the device tells its content, the key's vector is the one that was read
abbrev pub IsReadWhereTold : Device → State → Writer → Vectors → Type 0
IsReadWhereTold device s w v = TellsAll device → IsReadFor s w v

-- ---- what a stripe makes of it

module _ {D R C : Type 0} {d : DiskGhosts D} {r : DirectoryGhosts R} {c : ChronicleGhosts C} where
  -- the writer of a put that is open in a stripe at rest; all that it took is cut
  pub record HasCutWriter (t : Stripe D R C d r c) (w : Writer) : Type 0 where
    pub writing : HasOpenWriter t w
    pub cut : w.gathered.items ≡ []

  -- the vectors that a put is to have, as they were read and spelled
  pub record AreWeighed (t : Stripe D R C d r c) (w : Writer) (v : Vectors) : Type 0 where
    pub read : IsReadWhereTold (seen_in t).device (state_in t) w v
    pub spelled : AreSpelled (state_in t).geometry w v

  -- what finishing comes to
  pub record FinishesInStripe (packed : Bool) (now : ℕ) (old new : Stripe D R C d r c) (w : Writer) (v : Vectors)
      (result : Result Receipt Refusal) : Type 0 where
    pub rests : RestsWith TellsVectors old new
    pub finishes : FinishesWhere (state_in new) w result
    pub does : FinishesAsRead packed now (seen_in old).device.past (seen_in new).device.past (kept_in old) (kept_in new) w v result
    pub counts : IfErr result (IsCounted (seen_in new).device.faults)
    pub writer : IsWriterOf (state_in new) (written_as w)
    pub own : AddsOfPut w.put (kept_in old) (kept_in new)
    pub recorded : IfErr result (RefusalHasRecord (kept_in old) (kept_in new))

  -- what making room for the vector comes to; memory is not wanting
  pub record MakesRoomForVector (now : ℕ) (old new : Stripe D R C d r c) (w : Writer) (v : Vectors)
      (result : Result (Unit {0}) Refusal) : Type 0 where
    pub continues : Continues old new
    pub full : OnErr result (has_room (state_in old) (bytes_now (state_in old) w v) ≡ false)
    pub does : AnswersOrWants result
        (RoomsAsAsked now (kept_in old) (kept_in new) (seen_in old).device.past (seen_in new).device (bytes_now (state_in old) w v)) ⊥
    pub stops : AnswersOrWants result (λ r. IfErr r (StopsWith (state_in old) (seen_in new).device.faults)) ⊥
    pub counts : IfErr result (IsCounted (seen_in new).device.faults)
    pub room : OnOk result (has_room (state_in new) (bytes_now (state_in old) w v) ≡ true)
    pub unit : units_in old ≤ units_in new + 1

  -- what giving a put up comes to whose fragment is lost; the device is not asked
  pub record LosesInStripe (index : ℕ) (old new : Stripe D R C d r c) (w : Writer) (why : Refusal) : Type 0 where
    pub rests : Rests old new
    pub lost : why ≡ refusal.Lost index (cause_of_piece (state_in new) (fragment_piece w.key w.put index))
    pub adds : kept_in new ≡ with_records (kept_in old) (rec.Aborted w.put w.key ∷ [])
    pub still : (seen_in new).device ≡ (seen_in old).device
    pub writer : IsWriterOf (state_in new) (written_as w)

  -- what committing comes to, with these alternates; the device is not asked
  pub record CommitsInStripe (list : List Stored) (old new : Stripe D R C d r c) (w : Writer) (answer : Receipt) : Type 0 where
    pub rests : Rests old new
    pub adds : kept_in new ≡ with_records (kept_in old) (committed_record (state_in old) w.put w.key list ∷ [])
    pub does : CommitsAsAsked (state_in old) w.put w.key list
    pub receipt : IsReceiptOf w answer
    pub still : (seen_in new).device ≡ (seen_in old).device
    pub writer : IsWriterOf (state_in new) (written_as w)
