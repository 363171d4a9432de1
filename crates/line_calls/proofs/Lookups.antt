-- What a lookup records: its answer, and what it found of the document that was there.
use Rattle.std.proofs.Common.{◌≡◌, List, [], ◌∷◌, ◌++◌, refl, ◌∙◌, ap}
use Rattle.std.specs.Prelude.{Option, Some, None}
use Rattle.tape_base.specs.declared.actors.Actor.{Actor}
use Rattle.tape_base.specs.declared.keys.Key.{Key}
use Rattle.alternate_vector.specs.Field.{Field}
use Rattle.cache_model.specs.declared.cause.Cause.{Cause}
use Rattle.cache_model.specs.declared.cause.Cause.TheVariants as cause
use Rattle.cache_model.specs.declared.answer.ReadAnswer.{ReadAnswer}
use Rattle.cache_model.specs.declared.answer.ReadAnswer.TheVariants as read
use Rattle.cache_model.specs.declared.record.Rec.{Rec}
use Rattle.cache_model.specs.declared.record.Rec.TheVariants as rec
use Rattle.cache_model.specs.State.{Row, State, after_all}
use Rattle.cache_model.specs.Verdict.{live_vector_of}
use Rattle.cache_model.proofs.Steps.{after_all-append}
use Rattle.cache_model.specs.Troubles.{cause_records}
use Rattle.cache_calls.specs.Readers.{open_adds, vector_trouble}
use Rattle.script_run.specs.Turn.{lookup_in, told_in}

-- ---- the lookup that the records tell is the one that it answers

cause_finds : (row : Row) (why : Cause) (last : List Rec) → lookup_in (cause_records row why ++ last) ≡ lookup_in last
cause_finds row (cause.DeviceFault count) last = refl
cause_finds row (cause.Damaged place kept other) last = refl
cause_finds row _ last = refl

trouble_finds : (o : Option Row) (a : ReadAnswer) (last : List Rec) → lookup_in (vector_trouble o a ++ last) ≡ lookup_in last
trouble_finds None a last = refl
trouble_finds (Some row) (read.Hit put) last = refl
trouble_finds (Some row) (read.Follow put) last = refl
trouble_finds (Some row) (read.Miss why) last = cause_finds row why last

pub open_finds : (s : State) (who : Actor) (key : Key) (request : List Field) (a : ReadAnswer)
    → lookup_in (open_adds s who key request a) ≡ Some a
open_finds s who key request a = trouble_finds (live_vector_of s key) a (rec.ReadOpened s.next_reader who key request a ∷ [])

-- ---- no end of a read is told

cause_tells : (row : Row) (why : Cause) (last : List Rec) → told_in last ≡ None → told_in (cause_records row why ++ last) ≡ None
cause_tells row (cause.DeviceFault count) last none = rw none refl
cause_tells row (cause.Damaged place kept other) last none = rw none refl
cause_tells row _ last none = none

trouble_tells : (o : Option Row) (a : ReadAnswer) (last : List Rec) → told_in last ≡ None → told_in (vector_trouble o a ++ last) ≡ None
trouble_tells None a last none = none
trouble_tells (Some row) (read.Hit put) last none = none
trouble_tells (Some row) (read.Follow put) last none = none
trouble_tells (Some row) (read.Miss why) last none = cause_tells row why last none

pub open_tells : (s : State) (who : Actor) (key : Key) (request : List Field) (a : ReadAnswer)
    → told_in (open_adds s who key request a) ≡ None
open_tells s who key request a = trouble_tells (live_vector_of s key) a (rec.ReadOpened s.next_reader who key request a ∷ []) refl

-- ---- where there is a miss no reader opens

cause_reads : (s : State) (row : Row) (why : Cause) → (after_all s (cause_records row why)).readers ≡ s.readers
cause_reads s row (cause.DeviceFault count) = refl
cause_reads s row (cause.Damaged place kept other) = refl
cause_reads s row _ = refl

trouble_reads : (s : State) (o : Option Row) (why : Cause) → (after_all s (vector_trouble o (read.Miss why))).readers ≡ s.readers
trouble_reads s None why = refl
trouble_reads s (Some row) why = cause_reads s row why

pub miss_reads : (s : State) (who : Actor) (key : Key) (request : List Field) (why : Cause)
    → (after_all s (open_adds s who key request (read.Miss why))).readers ≡ s.readers
miss_reads s who key request why =
    ap (λ (t : State). t.readers)
    (after_all-append s (vector_trouble (live_vector_of s key) (read.Miss why)) (rec.ReadOpened s.next_reader who key request (read.Miss why) ∷ []))
    ∙ trouble_reads s (live_vector_of s key) why
