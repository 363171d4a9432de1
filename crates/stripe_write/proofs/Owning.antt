-- What the calls of one writer leave of others.
use Rattle.std.proofs.Common.{◌≡◌, ℕ, List, [], ◌∷◌, ◌++◌, refl, sym, ◌∙◌, ap, subst, Bool, true, false, cond, Result, Ok, Err}
use Rattle.std.specs.Prelude.{Option, Some, None, option_map, find, ◌==◌}
use Rattle.device_log.specs.Calls.{Call}
use Rattle.logged_disk.specs.Device.{DeviceState as Device}
use Rattle.std.specs.List.{AllByRecursion}
use Rattle.std.proofs.lemmas.Bool.{eqb-true}
use Rattle.tape_base.specs.declared.keys.Key.{Key}
use Rattle.cache_model.specs.declared.cause.Cause.{Cause}
use Rattle.cache_model.specs.declared.cause.Cause.TheVariants as cause
use Rattle.cache_model.specs.declared.record.Rec.{Rec}
use Rattle.cache_model.specs.declared.record.Rec.TheVariants as rec
use Rattle.cache_model.specs.State.{PutRow, Row, State, after_all, change_put, state_after, vector_piece}
use Rattle.cache_model.specs.Kept.{Kept, state_of, with_records}
use Rattle.cache_model.specs.Verdict.{live_vector_of}
use Rattle.cache_model.proofs.Steps.{all_append}
use Rattle.cache_model.proofs.ByNumber.{find-changed}
use Rattle.piece_answers.specs.declared.answer.Placed.{Placed}
use Rattle.cache_answers.specs.declared.answers.Refusal.{Refusal}
use Rattle.cache_answers.specs.declared.answers.Refusal.TheVariants as refusal
use Rattle.piece_answers.specs.declared.answer.Stop.{Stop}
use Rattle.cache_model.specs.Troubles.{cause_records}
use Rattle.piece_answers.specs.Place.{PlacesIn, RoomsAsAsked}
use Rattle.stripe_vectors.specs.declared.reading.KeyVector.{KeyVector}
use Rattle.stripe_vectors.specs.declared.reading.KeyVector.TheVariants as found
use Rattle.stripe_vectors.specs.Reading.{trouble_records, vector_adds}
use Rattle.stripe_write.specs.declared.weighing.Vectors.{Vectors}
use Rattle.stripe_write.specs.declared.writer.Writer.{Writer}
use Rattle.stripe_write.specs.Weighing.{fit_adds}
use Rattle.cache_model.specs.Subjects.{IsOfPut}
use Rattle.stripe_write.specs.Others.{AddsOfPut}
use Rattle.stripe_write.proofs.Pushed.{pushed_by, pushed_is_own}
use Rattle.stripe_write.proofs.Spending.{nothing_more, then_more}
use Rattle.stripe_write.proofs.Flushed.{flush_is_own}

-- ---- one record, and several

pub owns_none : (put : ℕ) (old new : Kept) → new ≡ old → AddsOfPut put old new
owns_none put old new h = record { added = []; adds = h ∙ sym (nothing_more old); own = tt }

pub owns : (put : ℕ) (old new : Kept) (added : List Rec) → new ≡ with_records old added → AllByRecursion (IsOfPut put) added → AddsOfPut put old new
owns put old new added adds own = record { added = added; adds = adds; own = own }

pub then_owns : (put : ℕ) (old mid new : Kept) → AddsOfPut put old mid → AddsOfPut put mid new → AddsOfPut put old new
then_owns put old mid new a b = record {
  added = a.added ++ b.added;
  adds = then_more old mid new a.added b.added a.adds b.adds;
  own = all_append (IsOfPut put) a.added b.added a.own b.own;
}

-- ---- the records of each

own_cause : (put : ℕ) (row : Row) (why : Cause) → AllByRecursion (IsOfPut put) (cause_records row why)
own_cause put row (cause.DeviceFault count) = (tt, tt)
own_cause put row (cause.Damaged place kept other) = (tt, tt)
own_cause put row _ = tt

own_trouble : (put : ℕ) (o : Option Row) (answer : KeyVector) → AllByRecursion (IsOfPut put) (trouble_records o answer)
own_trouble put None answer = tt
own_trouble put (Some row) found.Absent = tt
own_trouble put (Some row) (found.Read list) = tt
own_trouble put (Some row) (found.Trouble why) = own_cause put row why

pub owns_read : (put : ℕ) (old new : Kept) (key : Key) (answer : KeyVector) → new ≡ with_records old (vector_adds (state_of old) key answer) → AddsOfPut put old new
owns_read put old new key answer adds = owns put old new _ adds (own_trouble put (live_vector_of (state_of old) key) answer)

-- room that is made, or is not
pub owns_room : (put : ℕ) (now : ℕ) (old new : Kept) (before : List Call) (after : Device) (bytes : ℕ) (result : Result (Unit {0}) Stop) → RoomsAsAsked now old new before after bytes result → AddsOfPut put old new
owns_room put now old new before after bytes result h = owns put old new h.added h.adds (flush_is_own put h.added h.kinds)

-- a vector that is placed, behind what its entry displaces
pub owns_vector : {packed : Bool} (put : ℕ) (old new : Kept) (key : Key) (pin : ℕ) (payload : List ℕ) (placed : Placed) → PlacesIn packed old new (vector_piece key put) pin 0 payload (Ok placed) → AddsOfPut put old new
owns_vector put old new key pin payload placed h =
    let pushed = pushed_is_own put h.are.displaced (pushed_by (state_of old) (vector_piece key put) pin 0 payload h.added h.are) in
    owns put old new h.added h.adds (subst (AllByRecursion (IsOfPut put)) (sym h.are.is) (all_append (IsOfPut put) h.are.displaced _ pushed (tt, tt)))

-- a put that is weighed
own_fit : (w : Writer) (result : Result Vectors Refusal) → AllByRecursion (IsOfPut w.put) (fit_adds w result)
own_fit w (Ok vectors) = tt
own_fit w (Err (refusal.VectorTooLarge size)) = (refl, tt)
own_fit w (Err (refusal.DeviceFault count)) = tt
own_fit w (Err (refusal.Exhausted number)) = tt
own_fit w (Err (refusal.Memory e)) = tt
own_fit w (Err refusal.TooManyWriters) = tt
own_fit w (Err refusal.TooManyFragments) = tt
own_fit w (Err (refusal.Lost index why)) = tt
own_fit w (Err refusal.Sealed) = tt
own_fit w (Err refusal.NoSuchWriter) = tt

pub owns_fit : (old new : Kept) (w : Writer) (result : Result Vectors Refusal) → new ≡ with_records old (fit_adds w result) → AddsOfPut w.put old new
owns_fit old new w result adds = owns w.put old new _ adds (own_fit w result)
