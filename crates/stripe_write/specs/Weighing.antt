-- What a put's vector is spelled from: what was read of the key's vector, and the put's own alternate.
use Rattle.std.specs.Prelude.{ℕ, ◌≡◌, ◌<◌, ◌≤◌, List, [], ◌∷◌, Option, Some, None, IsSome, Result, Ok, Err, OnOk}
use Rattle.tape_base.specs.declared.geometries.Geometry.{Geometry}
use Rattle.tape_base.specs.Blocks.{blocks_of}
use Rattle.tape_base.specs.Geometry.{budget_of}
use Rattle.logged_disk.specs.declared.device.Disk.{Ghosts as DiskGhosts}
use Rattle.dir_table.specs.declared.directory.Directory.{Ghosts as DirectoryGhosts}
use Rattle.fragment_table.specs.Table.{total_length}
use Rattle.alternate_vector.specs.Alternates.{Stored, stored_of, vector_size}
use Rattle.cache_model.specs.declared.cause.Cause.TheVariants as cause
use Rattle.cache_model.specs.declared.record.Rec.{Rec}
use Rattle.cache_model.specs.declared.record.Rec.TheVariants as rec
use Rattle.cache_model.specs.State.{State}
use Rattle.cache_model.specs.Kept.{with_records}
use Rattle.cache_chronicle.specs.declared.chronicle.Chronicle.{Ghosts as ChronicleGhosts}
use Rattle.cache_answers.specs.declared.answers.Refusal.{Refusal}
use Rattle.cache_answers.specs.declared.answers.Refusal.TheVariants as refusal
use Rattle.stripe_core.specs.declared.stripe.Stripe.{Stripe}
use Rattle.stripe_core.specs.Between.{Rests}
use Rattle.stripe_core.specs.Stripe.{kept_in, seen_in, state_in}
use Rattle.stripe_vectors.specs.declared.reading.KeyVector.{KeyVector}
use Rattle.stripe_vectors.specs.declared.reading.KeyVector.TheVariants as found
use Rattle.stripe_vectors.specs.declared.spelling.Spelled.{Spelled}
use Rattle.stripe_vectors.specs.Spelled.{IsSpelled}
use Rattle.stripe_write.specs.declared.weighing.Own.{Own}
use Rattle.stripe_write.specs.declared.weighing.Vectors.{Vectors}
use Rattle.stripe_write.specs.declared.writer.Writer.{Writer}
use Rattle.cache_calls.specs.Actors.{IsWriterOf}
use Rattle.cache_calls.specs.Writers.{alternate_at_close, size_at_close}
use Rattle.stripe_write.specs.Writers.{written_as}

-- the device's count of faults, where it refused to give the vector
abbrev pub fault_in : KeyVector → Option ℕ
fault_in (found.Trouble (cause.DeviceFault count)) = Some count
fault_in _ = None

-- what the vector lists, where it was read
abbrev pub list_in : KeyVector → Option (List Stored)
list_in (found.Read list) = Some list
list_in _ = None

-- a new alternate is spelled with what a vector lists, where that was read
abbrev pub IsSpelledWith : Geometry → Option (List Stored) → Stored → Option Spelled → Type 0
IsSpelledWith g (Some list) new (Some spelled) = IsSpelled g list new spelled
IsSpelledWith g (Some list) new None = ⊥
IsSpelledWith g None new (Some spelled) = ⊥
IsSpelledWith g None new None = Unit {0}

-- a new alternate is spelled alone, where that is a piece
abbrev pub IsSpelledAlone : Geometry → Stored → Option Spelled → Type 0
IsSpelledAlone g new (Some spelled) = (blocks_of (vector_size (new ∷ [])) ≤ budget_of g) × IsSpelled g [] new spelled
IsSpelledAlone g new None = budget_of g < blocks_of (vector_size (new ∷ []))

-- what a put is to list of its own, and its vector alone
pub record IsOwnAlternateOf (g : Geometry) (w : Writer) (own : Own) : Type 0 where
  pub stored : stored_of own.alternate ≡ alternate_at_close (written_as w)
  pub length : own.alternate.length ≡ total_length own.alternate.table.rows
  pub alone : IsSpelledAlone g (alternate_at_close (written_as w)) own.alone

-- the put's alternate alone is a piece; it is spelled, and with what was read
pub record AreSpelledFrom (g : Geometry) (list : Option (List Stored)) (w : Writer) (v : Vectors) : Type 0 where
  pub fits : blocks_of (size_at_close (written_as w)) ≤ budget_of g
  pub alone : IsSpelled g [] (alternate_at_close (written_as w)) v.alone
  pub merged : IsSpelledWith g list (alternate_at_close (written_as w)) v.merged

-- it is a piece; or is none; or memory is wanting for what was read
abbrev pub FitsWhere : State → Option (List Stored) → Writer → Result Vectors Refusal → Type 0
FitsWhere s list w (Ok vectors) = AreSpelledFrom s.geometry list w vectors
FitsWhere s list w (Err (refusal.VectorTooLarge bytes)) = (bytes ≡ size_at_close (written_as w)) × (budget_of s.geometry < blocks_of bytes)
FitsWhere s list w (Err (refusal.Memory e)) = IsSome list
FitsWhere s list w (Err _) = ⊥

-- the put is given up where it is none
abbrev pub fit_adds : Writer → Result Vectors Refusal → List Rec
fit_adds w (Err (refusal.VectorTooLarge bytes)) = rec.Aborted w.put w.key ∷ []
fit_adds w _ = []

-- ---- what a stripe makes of it

module _ {D R C : Type 0} {d : DiskGhosts D} {r : DirectoryGhosts R} {c : ChronicleGhosts C} where
  -- what spelling a put's vector comes to, with what was read; the device is not asked
  pub record FitsInStripe (list : Option (List Stored)) (old new : Stripe D R C d r c) (w : Writer)
      (result : Result Vectors Refusal) : Type 0 where
    pub rests : Rests old new
    pub fits : FitsWhere (state_in old) list w result
    pub adds : kept_in new ≡ with_records (kept_in old) (fit_adds w result)
    pub writer : IsWriterOf (state_in new) (written_as w)
    pub same : OnOk result (new ≡ old)
    pub still : (seen_in new).device ≡ (seen_in old).device
