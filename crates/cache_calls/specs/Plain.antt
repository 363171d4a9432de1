-- What a removal and a flush answer, and what then stands in the records.
use Rattle.std.specs.Prelude.{◌≡◌, ◌≤◌, true, false, [], ◌∷◌, Result, Ok, Err, is_some}
use Rattle.std.specs.declared.alloc.AllocError.{AllocError}
use Rattle.tape_base.specs.declared.keys.Key.{Key}
use Rattle.tape_base.specs.Geometry.{budget_of}
use Rattle.cache_model.specs.declared.record.Rec.TheVariants as rec
use Rattle.cache_model.specs.State.{State, floor_now}
use Rattle.cache_model.specs.Verdict.{cause_of_miss, live_vector_of}
use Rattle.cache_model.specs.Room.{copies_end, is_flush_exhausted, limit}
use Rattle.call_laws.specs.Moments.{At}
use Rattle.cache_answers.specs.declared.answers.Flushed.{Flushed}
use Rattle.cache_answers.specs.declared.answers.Refusal.{Refusal}
use Rattle.cache_answers.specs.declared.answers.Refusal.TheVariants as refusal
use Rattle.cache_answers.specs.declared.answers.Removal.{Removal}
use Rattle.cache_answers.specs.declared.answers.Removal.TheVariants as removal
use Rattle.cache_calls.specs.Adds.{AddsAll, IsAsItWas}
use Rattle.cache_calls.specs.Keeping.{IsIdle, state_at}
use Rattle.cache_model.specs.Live.{LiveBefore}
use Rattle.cache_calls.specs.Writers.{StopsByFault}

-- ---- a removal

-- an object is removed where its vector is live; else the cause is that of a lookup
abbrev pub Removes : (old new : At) → Key → Result Removal AllocError → Type 0
Removes old new key (Ok (removal.Removed put)) = (is_some (live_vector_of (state_at old) key) ≡ true) × AddsAll (rec.Removed put key ∷ []) old new
Removes old new key (Ok (removal.Absent why)) =
    (is_some (live_vector_of (state_at old) key) ≡ false) × (why ≡ cause_of_miss (state_at old) key) × IsAsItWas old new
Removes old new key (Err e) = IsAsItWas old new

-- ---- a flush

-- the blocks that were written, and the buffer that stands then, which has what may be copied into it at most
pub record TellsFlushed (s t : State) (flushed : Flushed) : Type 0 where
  pub blocks : flushed.blocks ≡ s.filled
  pub cursor : flushed.cursor ≡ t.cursor
  pub floor : flushed.floor ≡ floor_now t
  pub room : t.filled ≤ budget_of t.geometry

-- it is done; or the device refused a call; or its copies would end there at most; or memory was wanting, and nothing was done
abbrev pub FlushesAs : (old new : At) → Result Flushed Refusal → Type 0
FlushesAs old new (Ok flushed) = TellsFlushed (state_at old) (state_at new) flushed × LiveBefore (state_at old) (state_at new)
FlushesAs old new (Err (refusal.DeviceFault count)) = StopsByFault count old new
FlushesAs old new (Err (refusal.Exhausted number)) =
    (number ≡ copies_end (state_at old)) × (limit ≤ number) × LiveBefore (state_at old) (state_at new)
FlushesAs old new (Err (refusal.Memory e)) = IsAsItWas old new × IsIdle old new
FlushesAs old new (Err _) = ⊥

-- the device is asked for nothing where the buffer is empty, or where the copies would end at the limit
pub record Flushes (old new : At) (result : Result Flushed Refusal) : Type 0 where
  pub answers : FlushesAs old new result
  pub still : (state_at old).filled ≡ 0 → IsIdle old new
  pub ended : is_flush_exhausted (state_at old) ≡ true → IsIdle old new
