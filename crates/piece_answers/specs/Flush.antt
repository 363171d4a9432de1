-- What a flush adds to the records, and what it answers.
use Rattle.std.specs.Prelude.{ℕ, ◌≡◌, ◌≤◌, ◌⊎◌, true, List, Result, Ok, Err, IfErr, IfOk, OnOk}
use Rattle.std.specs.List.{AllByRecursion}
use Rattle.tape_base.specs.Geometry.{budget_of}
use Rattle.device_log.specs.Calls.{Call}
use Rattle.logged_disk.specs.Device.{DeviceState as Device, TellsAll}
use Rattle.cache_model.specs.declared.record.Rec.{Rec}
use Rattle.cache_model.specs.State.{State, floor_now}
use Rattle.cache_model.specs.Kept.{Kept, state_of, with_records}
use Rattle.cache_model.specs.Permit.{Permit, End, Done, Fails, Exhausted, Faulted, Flush}
use Rattle.cache_model.specs.Room.{copies_end, is_flush_exhausted, limit}
use Rattle.cache_model.specs.Given.{effects_told}
use Rattle.cache_model.specs.Legal.{Does}
use Rattle.cache_answers.specs.declared.answers.Flushed.{Flushed}
use Rattle.piece_answers.specs.declared.answer.Stop.{Stop}
use Rattle.piece_answers.specs.declared.answer.Stop.TheVariants as stop
use Rattle.piece_answers.specs.Faults.{HasEffects}
use Rattle.piece_answers.specs.Covers.{Covers}
use Rattle.cache_model.specs.Damage.{TellNoDamage}
use Rattle.cache_model.specs.Subjects.{IsOfFlush}
use Rattle.cache_model.specs.Live.{LiveBefore}

-- ---- its records

-- each of them may be one of a flush
abbrev pub AreOfFlush : List Rec → Type 0
AreOfFlush recs = AllByRecursion IsOfFlush recs

-- ---- its answer

-- what the tape stops fails: by the device, whose count is told, or by the limit of places
abbrev pub stop_end : Stop → End
stop_end (stop.DeviceFault count) = Fails (Faulted count)
stop_end (stop.Exhausted number) = Fails Exhausted

-- a flush is done, or the tape stopped it
abbrev pub flush_end : Result Flushed Stop → End
flush_end (Ok flushed) = Done
flush_end (Err why) = stop_end why

-- what a finished flush tells: the blocks that were written, and the buffer that stands then
pub record TellsFlush (s t : State) (flushed : Flushed) : Type 0 where
  pub blocks : flushed.blocks ≡ s.filled
  pub cursor : flushed.cursor ≡ t.cursor
  pub floor : flushed.floor ≡ floor_now t

-- why it stops, with its number: at the limit that is where its copies end at the latest
abbrev pub StopsWith : State → ℕ → Stop → Type 0
StopsWith s faults (stop.DeviceFault count) = count ≡ faults
StopsWith s faults (stop.Exhausted number) = (number ≡ copies_end s) × (limit ≤ number)

-- what a flush answers between these two states, over a device that counts so many faults then
pub record AnswersFlush (s t : State) (faults : ℕ) (result : Result Flushed Stop) : Type 0 where
  pub tells : IfOk result (TellsFlush s t)
  pub stops : IfErr result (StopsWith s faults)
  -- half of the buffer at least is free then
  pub room : OnOk result (t.filled ≤ budget_of t.geometry)

-- a flush writes nothing: the buffer is empty, or its copies might reach the end of the tape
abbrev pub WritesNothing : State → Type 0
WritesNothing s = (s.filled ≡ 0) ⊎ (is_flush_exhausted s ≡ true)

-- a flush at a moment, over a device that had made these calls before, and that stands so then: the records that it
-- added, and that in any step at that moment that covers it these are the records of a flush
pub record FlushesAsAsked (now : ℕ) (old new : Kept) (before : List Call) (after : Device) (result : Result Flushed Stop) : Type 0 where
  pub added : List Rec
  pub adds : new ≡ with_records old added
  pub kinds : AreOfFlush added
  pub live : LiveBefore (state_of old) (state_of new)
  -- a device that tells its content shows each piece as it was placed
  pub unharmed : TellsAll after → TellNoDamage added
  pub faults : HasEffects before after.past (effects_told added)
  pub does : (p : Permit) → p.now ≡ now → Covers p before after.past → Does p (state_of old) Flush added (flush_end result)
