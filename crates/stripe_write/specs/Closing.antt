-- What closing a put does: it weighs the vector, cuts the rest, places the vector and commits.
use Rattle.std.specs.Prelude.{ℕ, ◌≡◌, ◌+◌, ◌<◌, ◌≤◌, List, [], ◌∷◌, ◌++◌, length, filter, Option, Some, Result, Ok, Err, IfErr, IfOk, OnOk, ◌⊎◌}
use Rattle.tape_base.specs.declared.geometries.Geometry.{Geometry}
use Rattle.tape_base.specs.Blocks.{blocks_of}
use Rattle.tape_base.specs.Digest.{digest_of}
use Rattle.tape_base.specs.Geometry.{budget_of}
use Rattle.logged_disk.specs.Device.{DeviceState as Device, TellsAll}
use Rattle.logged_disk.specs.declared.device.Disk.{Ghosts as DiskGhosts}
use Rattle.dir_table.specs.declared.directory.Directory.{Ghosts as DirectoryGhosts}
use Rattle.fragment_table.specs.Table.{TableRow, made_row, total_length}
use Rattle.alternate_vector.specs.Alternates.{Stored, vector_size}
use Rattle.cache_model.specs.declared.record.Rec.{Rec}
use Rattle.cache_model.specs.State.{Row, State, alternates_of}
use Rattle.cache_model.specs.Kept.{Kept, state_of, with_records}
use Rattle.cache_model.specs.Verdict.{live_vector_of}
use Rattle.cache_model.specs.Permit.{Commit, Done, End, Fails, Faulted, Finish, Fragment, Intent, Permit, Reason, Stays, TooLarge, Weigh, Work, is_cleanup}
use Rattle.cache_model.specs.Vectors.{AreVectors, IsVectorAs}
use Rattle.cache_model.specs.Legal.{MayGrow}
use Rattle.cache_chronicle.specs.declared.chronicle.Chronicle.{Ghosts as ChronicleGhosts}
use Rattle.call_laws.specs.Untold.{Untold}
use Rattle.cache_answers.specs.declared.answers.Refusal.{Refusal}
use Rattle.cache_answers.specs.declared.answers.Refusal.TheVariants as refusal
use Rattle.stripe_core.specs.declared.stripe.Stripe.{Stripe}
use Rattle.stripe_core.specs.Between.{Rests}
use Rattle.stripe_answers.specs.Counts.{IsCounted}
use Rattle.stripe_core.specs.Stripe.{Wanting, kept_in, room_for, seen_in, state_in, units_in}
use Rattle.piece_answers.specs.Covers.{AllReadIsSeen, Covers, SpendsFirst}
use Rattle.held_pieces.specs.Still.{IsUnwritten}
use Rattle.stripe_vectors.specs.declared.spelling.Spelled.{Spelled}
use Rattle.cache_model.specs.Pair.{IsKeyPair}
use Rattle.stripe_vectors.specs.Spelled.{IsSpelled}
use Rattle.stripe_write.specs.declared.weighing.Vectors.{Vectors}
use Rattle.stripe_write.specs.declared.writer.Writer.{Writer}
use Rattle.stripe_write.specs.Others.{AddsOfPut}
use Rattle.cache_calls.specs.Actors.{IsWriterOf}
use Rattle.cache_calls.specs.Writers.{alternate_at_close, size_at_close}
use Rattle.stripe_write.specs.Writers.{written_as}

-- ---- several things that are asked, one behind the other

-- what is left behind them when the last came to this end, or an earlier one failed
abbrev pub work_behind : List Intent → Option Reason → End → Work
work_behind rest why Stays = record { intents = rest; refused = why }
work_behind rest why Done = record { intents = rest; refused = why }
work_behind rest why (Fails reason) = record { intents = filter is_cleanup rest; refused = Some reason }

-- all of what is asked first is done, or fails
abbrev pub SpendsAll : Permit → State → List Intent → List Rec → End → Type 0
SpendsAll p s asked added e = (rest : List Intent) (why : Option Reason) → MayGrow p s (record { intents = asked ++ rest; refused = why }) added (work_behind rest why e)

-- ---- what is gathered and in no fragment

-- ---- the vector that the put is to have

-- it is spelled from some list, and alone
pub record AreSpelled (g : Geometry) (w : Writer) (v : Vectors) : Type 0 where
  pub fits : blocks_of (size_at_close (written_as w)) ≤ budget_of g
  pub alone : IsSpelled g [] (alternate_at_close (written_as w)) v.alone
  pub merged : (m : Spelled) → v.merged ≡ Some m → blocks_of (length m.bytes.items) ≤ budget_of g

-- while the key's vector is live, what it lists was read and spelled
abbrev pub IsReadFor : State → Writer → Vectors → Type 0
IsReadFor s w v = (row : Row) → live_vector_of s w.key ≡ Some row
    → (m : Spelled) × (v.merged ≡ Some m) × IsSpelled s.geometry (alternates_of s w.key) (alternate_at_close (written_as w)) m

-- ---- how weighing ends

-- the end to which each answer brings weighing; where memory is wanting it is still to be done
abbrev pub weigh_end : Writer → Result Vectors Refusal → End
weigh_end w (Ok vectors) = Done
weigh_end w (Err (refusal.VectorTooLarge bytes)) = Fails (TooLarge w.put bytes)
weigh_end w (Err (refusal.DeviceFault count)) = Fails (Faulted count)
weigh_end w (Err _) = Stays

-- the vector of the new alternate is a piece; or is none; or the device refused to give the earlier
-- one; or memory is wanting
abbrev pub WeighsWhere : State → Writer → Result Vectors Refusal → Type 0
WeighsWhere s w (Ok vectors) = AreSpelled s.geometry w vectors
WeighsWhere s w (Err (refusal.VectorTooLarge bytes)) = (bytes ≡ size_at_close (written_as w)) × (budget_of s.geometry < blocks_of bytes)
WeighsWhere s w (Err (refusal.DeviceFault count)) = Unit {0}
WeighsWhere s w (Err (refusal.Memory e)) = Unit {0}
WeighsWhere s w (Err _) = ⊥

-- what it makes of the records, of which the last state is known
pub record Weighs (p : Permit) (after : Device) (old new : Kept) (w : Writer) (result : Result Vectors Refusal) : Type 0 where
  pub added : List Rec
  pub adds : new ≡ with_records old added
  pub does : SpendsFirst p (state_of old) (Weigh w.put (length w.gathered.items)) added (weigh_end w result)
  pub told : IfOk result (λ v. AreVectors (state_of old) → IsReadFor (state_of new) w v
      ⊎ IsKeyPair (Untold after IsVectorAs) p (state_of old) w.key)

-- what was read is what is seen, and what came of it in any step that covers the call; where the device tells its content, what
-- the key has
pub record WeighsAsAsked (before after : Device) (old new : Kept) (w : Writer) (result : Result Vectors Refusal) : Type 0 where
  pub seen : AllReadIsSeen before after
  pub exact : TellsAll after → IfOk result (IsReadFor (state_of new) w)
  pub does : (p : Permit) → Covers p before.past after.past → Weighs p after old new w result

-- ---- what a stripe makes of it

module _ {D R C : Type 0} {d : DiskGhosts D} {r : DirectoryGhosts R} {c : ChronicleGhosts C} where
  -- what weighing a put's vector comes to
  pub record WeighsInStripe (old new : Stripe D R C d r c) (w : Writer) (result : Result Vectors Refusal) : Type 0 where
    pub rests : Rests old new
    pub weighs : WeighsWhere (state_in old) w result
    pub does : WeighsAsAsked (seen_in old).device (seen_in new).device (kept_in old) (kept_in new) w result
    pub unwritten : IsUnwritten (seen_in old).device (seen_in new).device
    pub counts : IfErr result (IsCounted (seen_in new).device.faults)
    pub wanting : Wanting result (kept_in new ≡ kept_in old)
    pub writer : IsWriterOf (state_in new) (written_as w)
    pub puts : OnOk result ((state_in new).puts ≡ (state_in old).puts)
    pub geometry : OnOk result ((state_in new).geometry ≡ (state_in old).geometry)
    pub displaced : OnOk result ((state_in new).displaced ≡ (state_in old).displaced)
    pub row : OnOk result (room_for w.put new.actors ≡ room_for w.put old.actors)
    pub unit : OnOk result (units_in old ≤ units_in new + 1)
    pub own : AddsOfPut w.put (kept_in old) (kept_in new)
