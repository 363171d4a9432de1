-- A flush that is asked for where a piece has no room is the one that makes room for it.
use Rattle.std.proofs.Common.{◌≡◌, ℕ, ◌+◌, ◌<◌, ◌≤◌, List, [], refl, sym, ap, arith, true, false, Ok, Err}
use Rattle.std.proofs.lemmas.Bool.{le-leb, leb-false}
use Rattle.std.proofs.lemmas.List.{append-nil}
use Rattle.tape_base.specs.declared.geometries.Geometry.{Geometry}
use Rattle.tape_base.specs.Blocks.{blocks_of}
use Rattle.tape_base.specs.Geometry.{budget_of}
use Rattle.device_log.specs.Calls.{Call}
use Rattle.logged_disk.specs.Device.{DeviceState as Device}
use Rattle.cache_model.specs.declared.record.Rec.{Rec}
use Rattle.cache_model.specs.State.{State}
use Rattle.cache_model.specs.Kept.{Kept, state_of, with_records}
use Rattle.cache_model.specs.Permit.{Done, Fails, Permit, Reason, Stays}
use Rattle.cache_model.specs.Room.{has_room}
use Rattle.cache_model.specs.Legal.{DoesFlush, MakesRoom}
use Rattle.cache_answers.specs.declared.answers.Flushed.{Flushed}
use Rattle.piece_answers.specs.declared.answer.Stop.{Stop}
use Rattle.piece_answers.specs.declared.answer.Stop.TheVariants as stop
use Rattle.cache_model.specs.Live.{LiveBefore}
use Rattle.piece_answers.specs.Flush.{FlushesAsAsked, stop_end}
use Rattle.piece_answers.specs.Place.{RoomsAsAsked}
use Rattle.piece_answers.proofs.Effects.{effects_none}

-- ---- none is needed

live_still : (s : State) → LiveBefore s s
live_still s = λ id row h. (row, h, record { id = refl; blocks = refl; payload = refl; pin = refl; alternates = refl })

none_added : (k : Kept) → k ≡ with_records k []
none_added k = ap (λ recs. record k { since = recs }) (sym (append-nil k.since))

pub room_stands : (now : ℕ) (k : Kept) (device : Device) (bytes : ℕ) (u : Unit {0}) → has_room (state_of k) bytes ≡ true → RoomsAsAsked now k k device.past device bytes (Ok u)
room_stands now k device bytes u some = record {
  added = [];
  adds = none_added k;
  kinds = tt;
  live = live_still (state_of k);
  unharmed = λ told. tt;
  faults = effects_none device.past device.past refl;
  does = λ p at covers. rw some refl;
}

-- half of a buffer takes any piece
pub room_behind : (s t : State) (bytes : ℕ) → t.geometry ≡ s.geometry → t.filled ≤ budget_of t.geometry → blocks_of bytes ≤ budget_of s.geometry → has_room t bytes ≡ true
room_behind s t bytes same few small =
    let agg : t.geometry.agg ≡ s.geometry.agg = ap (λ (g : Geometry). g.agg) same in
    le-leb (t.filled + blocks_of bytes) t.geometry.agg (omega (arith, agg, few, small))

-- ---- it makes room, or stops

-- where a piece has no room, the buffer is not empty, so a flush begins the next one
done_makes : (p : Permit) (s : State) (bytes : ℕ) (added : List Rec) → has_room s bytes ≡ false → blocks_of bytes ≤ budget_of s.geometry → DoesFlush p s added Done → MakesRoom p s bytes added Stays
done_makes p s bytes added none small (DoesFlush.empty quiet nothing is) =
    let above : s.geometry.agg < s.filled + blocks_of bytes = leb-false (s.filled + blocks_of bytes) s.geometry.agg none in
    absurd (omega (arith, above, small, nothing))
done_makes p s bytes added none small (DoesFlush.flushes m) = MakesRoom.flushes none m
done_makes p s bytes added none small (DoesFlush.syncs sync) = MakesRoom.syncs Done none sync refl

fails_makes : (p : Permit) (s : State) (bytes : ℕ) (added : List Rec) (why : Reason) → has_room s bytes ≡ false → DoesFlush p s added (Fails why) → MakesRoom p s bytes added (Fails why)
fails_makes p s bytes added why none (DoesFlush.stops count m) = MakesRoom.stops count none m
fails_makes p s bytes added why none (DoesFlush.exhausted quiet some above is) = MakesRoom.exhausted none above is
fails_makes p s bytes added why none (DoesFlush.syncs sync) = MakesRoom.syncs (Fails why) none sync refl

stop_makes : (p : Permit) (s : State) (bytes : ℕ) (added : List Rec) (why : Stop) → has_room s bytes ≡ false → DoesFlush p s added (stop_end why) → MakesRoom p s bytes added (stop_end why)
stop_makes p s bytes added (stop.DeviceFault count) none does = fails_makes p s bytes added _ none does
stop_makes p s bytes added (stop.Exhausted number) none does = fails_makes p s bytes added _ none does

module _ (now : ℕ) (old new : Kept) (before : List Call) (after : Device) (bytes : ℕ) (none : has_room (state_of old) bytes ≡ false) where
  pub flush_makes : (flushed : Flushed) (u : Unit {0}) → blocks_of bytes ≤ budget_of (state_of old).geometry
      → FlushesAsAsked now old new before after (Ok flushed) → RoomsAsAsked now old new before after bytes (Ok u)
  flush_makes flushed u small h = record {
    added = h.added;
    adds = h.adds;
    kinds = h.kinds;
    live = h.live;
    unharmed = h.unharmed;
    faults = h.faults;
    does = λ p at covers. rw none (done_makes p (state_of old) bytes h.added none small (h.does p at covers));
  }

  pub stop_makes_none : (why : Stop) → FlushesAsAsked now old new before after (Err why) → RoomsAsAsked now old new before after bytes (Err why)
  stop_makes_none why h = record {
    added = h.added;
    adds = h.adds;
    kinds = h.kinds;
    live = h.live;
    unharmed = h.unharmed;
    faults = h.faults;
    does = λ p at covers. stop_makes p (state_of old) bytes h.added why none (h.does p at covers);
  }
