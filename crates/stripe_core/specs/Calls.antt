-- What the calls of a stripe come to: a record for each kind of call.
use Rattle.std.specs.Prelude.{ℕ, ◌≡◌, ◌+◌, ◌<◌, ◌≤◌, Bool, true, false, List, [], ◌∷◌, length, Option, Some, Result, IfErr, IfOk, IfSome, IsOk, OnErr, OnOk}
use Rattle.std.specs.declared.alloc.AllocError.{AllocError}
use Rattle.std.specs.declared.alloc.Global.{Global}
use Rattle.tape_base.specs.declared.actors.Actor.{Actor}
use Rattle.tape_base.specs.declared.digests.Digest.{Digest}
use Rattle.tape_base.specs.declared.geometries.Geometry.{Geometry}
use Rattle.tape_base.specs.declared.keys.Key.{Key}
use Rattle.tape_base.specs.declared.pieces.PieceId.{PieceId}
use Rattle.tape_base.specs.Geometry.{budget_of}
use Rattle.logged_disk.specs.Device.{DeviceState as Device}
use Rattle.logged_disk.specs.declared.device.Disk.{Ghosts as DiskGhosts}
use Rattle.dir_table.specs.declared.directory.Directory.{Ghosts as DirectoryGhosts}
use Rattle.alternate_vector.specs.Field.{Field}
use Rattle.cache_model.specs.declared.answer.ReadAnswer.{ReadAnswer}
use Rattle.cache_model.specs.declared.record.Rec.{Rec}
use Rattle.cache_model.specs.declared.record.Rec.TheVariants as rec
use Rattle.cache_model.specs.Kept.{all_of, with_records}
use Rattle.cache_model.specs.Legal.{format_records}
use Rattle.cache_model.specs.Room.{has_room, is_flush_exhausted}
use Rattle.stripe_copies.specs.Format.{IsLaidOut}
use Rattle.cache_chronicle.specs.declared.chronicle.Chronicle.{Ghosts as ChronicleGhosts}
use Rattle.cache_model.specs.Contents.{AnyContents, Contents}
use Rattle.stripe_actors.specs.Actors.{reader_room_of}
use Rattle.stripe_actors.specs.Calls.{with_room_of_readers}
use Rattle.cache_answers.specs.declared.answers.Flushed.{Flushed}
use Rattle.piece_answers.specs.declared.answer.Found.{Found}
use Rattle.piece_answers.specs.declared.answer.Placed.{Placed}
use Rattle.piece_answers.specs.Find.{Finds, find_adds}
use Rattle.piece_answers.specs.Flush.{FlushesAsAsked, StopsWith, TellsFlush}
use Rattle.held_pieces.specs.Whereabouts.{live_place_of}
use Rattle.piece_answers.specs.Place.{CutsAsAsked, PlacesAsAsked, PlacesVector, RoomsAsAsked}
use Rattle.piece_answers.specs.Standing.{IsToldPlaced}
use Rattle.held_pieces.specs.Still.{IsStill, IsUnwritten}
use Rattle.cache_answers.specs.declared.answers.Refusal.{Refusal}
use Rattle.stripe_core.specs.declared.stripe.Stripe.{Stripe}
use Rattle.stripe_answers.specs.Acts.{LooksAsAsked, MarksAsAsked, OpensAsAsked, write_opened_record}
use Rattle.stripe_core.specs.Between.{Continues, ContinuesWith, StandIn, StayStanding}
use Rattle.stripe_core.specs.Stripe.{alloc_in, AnswersOrWants, flushes_in, HasMemory, IsSpared, IsStripe, kept_in, room_for, RowIsMade, seen_in, state_in, units_in, Wanting}

module _ {D R C : Type 0} {d : DiskGhosts D} {r : DirectoryGhosts R} {c : ChronicleGhosts C} where
  -- ---- a stripe begins

  -- a session has begun on a device that was laid out for it
  pub record IsFormattedStripe (source : Global) (g : Geometry) (before : Device) (t : Stripe D R C d r c) : Type 0 where
    pub stripe : IsStripe t
    pub records : kept_in t ≡ all_of (format_records g)
    pub contents : (contents : Contents) → StandIn contents t
    pub device : IsLaidOut g before (seen_in t).device
    pub alloc : alloc_in t ≡ source

  -- ---- what makes memory

  -- of a call that makes memory for so many calls, where there is less
  pub record MakesUnits (calls : ℕ) (old new : Stripe D R C d r c) (result : Result (Unit {0}) AllocError) : Type 0 where
    pub continues : Continues old new
    pub records : kept_in new ≡ kept_in old
    pub units : OnOk result (calls ≤ units_in new)
    pub actors : new.actors ≡ with_room_of_readers (reader_room_of new.actors) old.actors
    pub memory : calls ≤ units_in old → IsOk result
    pub more : units_in old ≤ units_in new
    pub still : IsStill (seen_in old).device (seen_in new).device

  -- of a call that uses up the memory of one call, and makes it where there is none
  pub record TakesUnit (old new : Stripe D R C d r c) (result : Result (Unit {0}) AllocError) : Type 0 where
    pub continues : Continues old new
    pub records : kept_in new ≡ kept_in old
    pub spared : OnOk result (IsSpared (units_in new + 1) (flushes_in new) (c.room new.pieces.chronicle) (seen_in new))
    pub actors : new.actors ≡ with_room_of_readers (reader_room_of new.actors) old.actors
    pub readers : OnOk result (units_in new + 1 ≤ reader_room_of new.actors)
    pub memory : 0 < units_in old → IsOk result
    pub unit : units_in old ≤ units_in new + 1
    pub still : IsStill (seen_in old).device (seen_in new).device

  -- of a call that makes memory for the next fragment of a put, where one is named
  pub record MakesRow (put : Option ℕ) (old new : Stripe D R C d r c) (result : Result (Unit {0}) AllocError) : Type 0 where
    pub continues : Continues old new
    pub records : kept_in new ≡ kept_in old
    pub row : OnOk result (IfSome put (λ n. 0 < room_for n new.actors))
    pub units : units_in new ≡ units_in old
    pub still : seen_in new ≡ seen_in old

  -- of a call that makes memory for both
  pub record PreparesStripe (put : Option ℕ) (calls : ℕ) (old new : Stripe D R C d r c)
      (result : Result (Unit {0}) AllocError) : Type 0 where
    pub continues : Continues old new
    pub records : kept_in new ≡ kept_in old
    pub units : OnOk result (calls ≤ units_in new)
    pub row : OnOk result (IfSome put (λ n. 0 < room_for n new.actors))
    pub more : units_in old ≤ units_in new
    pub still : IsStill (seen_in old).device (seen_in new).device

  -- ---- what reads

  -- of a call that looks for a piece, and brings what it finds into these bytes
  pub record FindsInStripe (id : PieceId) (old new : Stripe D R C d r c) (result : Result Found AllocError) (into : List ℕ) : Type 0 where
    pub continues : Continues old new
    pub adds : IfOk result (λ found. kept_in new ≡ with_records (kept_in old) (find_adds (state_in old) id found))
    pub finds : IfOk result (λ found. Finds (state_in old) (seen_in old) (seen_in new) id found into)
    pub err : OnErr result (kept_in new ≡ kept_in old)
    -- the device shows what it showed, whatever it answers
    pub unwritten : IsUnwritten (seen_in old).device (seen_in new).device
    pub untouched : OnErr result (IsStill (seen_in old).device (seen_in new).device)
    pub row : (put : ℕ) → room_for put new.actors ≡ room_for put old.actors
    pub memory : 0 < units_in old → IsOk result
    pub unit : units_in old ≤ units_in new + 1

  -- ---- what flushes and places

  -- of a flush
  pub record FlushesInStripe (now : ℕ) (old new : Stripe D R C d r c) (result : Result Flushed Refusal) : Type 0 where
    pub continues : Continues old new
    pub does : AnswersOrWants result (FlushesAsAsked now (kept_in old) (kept_in new) (seen_in old).device.past (seen_in new).device)
        (kept_in new ≡ kept_in old)
    pub row : (put : ℕ) → room_for put new.actors ≡ room_for put old.actors
    pub tells : IfOk result (TellsFlush (state_in old) (state_in new))
    pub room : OnOk result ((state_in new).filled ≤ budget_of (state_in new).geometry)
    pub stops : AnswersOrWants result (λ answer. IfErr answer (StopsWith (state_in old) (seen_in new).device.faults)) (Unit {0})
    -- where nothing is written the device stays as it is, but for the memory of its calls
    pub still : (state_in old).filled ≡ 0 → IsStill (seen_in old).device (seen_in new).device
    pub ended : is_flush_exhausted (state_in old) ≡ true → IsStill (seen_in old).device (seen_in new).device
    -- memory comes before the device is asked
    pub untouched : Wanting result (IsStill (seen_in old).device (seen_in new).device)
    pub memory : 0 < units_in old → HasMemory result
    pub unit : units_in old ≤ units_in new + 1

  -- of a call that flushes where a piece of so many bytes has no room
  pub record RoomsInStripe (bytes now : ℕ) (old new : Stripe D R C d r c) (result : Result (Unit {0}) Refusal) : Type 0 where
    pub continues : Continues old new
    pub does : AnswersOrWants result (RoomsAsAsked now (kept_in old) (kept_in new) (seen_in old).device.past (seen_in new).device bytes)
        (kept_in new ≡ kept_in old)
    pub room : OnOk result (has_room (state_in new) bytes ≡ true)
    pub full : OnErr result (has_room (state_in old) bytes ≡ false)
    pub stops : AnswersOrWants result (λ answer. IfErr answer (StopsWith (state_in old) (seen_in new).device.faults)) (Unit {0})
    pub row : (put : ℕ) → room_for put new.actors ≡ room_for put old.actors
    -- with room the device is not asked
    pub still : has_room (state_in old) bytes ≡ true → IsStill (seen_in old).device (seen_in new).device
    pub untouched : Wanting result (IsStill (seen_in old).device (seen_in new).device)
    pub memory : 0 < units_in old → HasMemory result
    pub unit : units_in old ≤ units_in new + 1

  -- of a call that places a piece of either kind
  pub record PlacesInStripe (packed : Bool) (id : PieceId) (pin start : ℕ) (payload : List ℕ) (now : ℕ)
      (old new : Stripe D R C d r c) (result : Result Placed Refusal) : Type 0 where
    pub continues : ContinuesWith (λ contents. OnOk result
        (IsToldPlaced (seen_in new).device (state_in old) id start payload contents)) old new
    pub does : AnswersOrWants result
        (PlacesAsAsked packed now (kept_in old) (kept_in new) (seen_in old).device.past (seen_in new).device id pin start payload)
        (kept_in new ≡ kept_in old)
    -- without a flush the device stays as it is, but for the memory of its calls
    pub still : has_room (state_in old) (length payload) ≡ true → IsStill (seen_in old).device (seen_in new).device
    pub untouched : Wanting result (IsStill (seen_in old).device (seen_in new).device)
    -- of a fragment, memory of a row is made too
    pub memory : 0 < units_in old → RowIsMade id old.actors → HasMemory result
    pub unit : units_in old ≤ units_in new + 1

  -- a stripe from which a call has taken its unit of memory
  pub record HasTakenUnit (t : Stripe D R C d r c) : Type 0 where
    pub stripe : IsStripe t
    pub spared : IsSpared (units_in t + 1) (flushes_in t) (c.room t.pieces.chronicle) (seen_in t)

  -- of a call that places a vector, over memory that is made
  pub record PlacesVectorInStripe (packed : Bool) (id : PieceId) (pin start : ℕ) (payload : List ℕ) (old new : Stripe D R C d r c)
      (result : Result Placed Refusal) : Type 0 where
    pub continues : ContinuesWith (λ contents. OnOk result
        (IsToldPlaced (seen_in new).device (state_in old) id start payload contents)) old new
    pub does : AnswersOrWants result
        (PlacesVector packed (kept_in old) (kept_in new) (seen_in old).device.past (seen_in new).device.past id pin start payload) ⊥
    pub still : (seen_in new).device ≡ (seen_in old).device
    pub unit : units_in new ≡ units_in old

  -- of a call that places a fragment, over memory that is made but for the fragment's row
  pub record PlacesFragmentInStripe (packed : Bool) (id : PieceId) (pin start : ℕ) (payload : List ℕ) (now : ℕ)
      (old new : Stripe D R C d r c) (result : Result Placed Refusal) : Type 0 where
    pub continues : ContinuesWith (λ contents. OnOk result
        (IsToldPlaced (seen_in new).device (state_in old) id start payload contents)) old new
    pub does : AnswersOrWants result
        (CutsAsAsked packed now (kept_in old) (kept_in new) (seen_in old).device.past (seen_in new).device id pin start payload)
        (kept_in new ≡ kept_in old)
    pub still : has_room (state_in old) (length payload) ≡ true → (seen_in new).device ≡ (seen_in old).device
    pub untouched : Wanting result ((seen_in new).device ≡ (seen_in old).device)
    pub memory : 0 < room_for id.put old.actors → HasMemory result
    pub unit : units_in new ≡ units_in old

  -- ---- who comes and goes

  -- of a call that adds these records over memory that is made, and asks no device: they do what was asked, as this says
  pub record AddsInStripe (recs : List Rec) (Asked : Type 0) (old new : Stripe D R C d r c) : Type 0 where
    pub continues : Continues old new
    pub adds : kept_in new ≡ with_records (kept_in old) recs
    pub does : Asked
    pub still : (seen_in new).device ≡ (seen_in old).device
    pub unit : units_in new + 1 ≡ units_in old

  -- of a call that tells of a live piece that its payload is another than the one that is listed
  pub record MarksInStripe (id : PieceId) (kept found : Digest) (old new : Stripe D R C d r c) : Type 0 where
    pub stripe : IsStripe new
    pub adds : (place : ℕ) → live_place_of (state_in old) id ≡ Some place
        → kept_in new ≡ with_records (kept_in old) (rec.Damaged id place kept found ∷ [])
    pub contents : StayStanding AnyContents old new
    pub does : MarksAsAsked (state_in old) id kept found
    pub still : (seen_in new).device ≡ (seen_in old).device
    pub unit : units_in new + 1 ≡ units_in old

  -- of a call that records the answer of a lookup, under the number of the reader that it opens or uses up
  pub record StartsReadInStripe (who : Actor) (key : Key) (request : List Field) (answer : ReadAnswer) (old new : Stripe D R C d r c)
      (result : Result ℕ AllocError) : Type 0 where
    pub continues : Continues old new
    pub adds : IfOk result (λ reader. kept_in new ≡ with_records (kept_in old) (rec.ReadOpened reader who key request answer ∷ []))
    pub reader : IfOk result (λ reader. reader ≡ (state_in old).next_reader)
    pub does : OnOk result (LooksAsAsked (state_in old) who key request answer)
    pub err : OnErr result (kept_in new ≡ kept_in old)
    pub still : IsStill (seen_in old).device (seen_in new).device
    pub memory : 0 < units_in old → IsOk result
    pub unit : units_in old ≤ units_in new + 1

  -- of a call that opens the writer of a new put
  pub record OpensPutInStripe (who : Actor) (key : Key) (request response : List Field) (pin : ℕ) (old new : Stripe D R C d r c)
      (result : Result ℕ Refusal) : Type 0 where
    pub continues : Continues old new
    pub adds : OnOk result
        (kept_in new ≡ with_records (kept_in old) (write_opened_record (state_in old) who key request response pin ∷ []))
    pub err : OnErr result (kept_in new ≡ kept_in old)
    pub does : OpensAsAsked (state_in old) who key request response pin result
    pub still : (seen_in new).device ≡ (seen_in old).device
    pub unit : units_in new ≡ units_in old
