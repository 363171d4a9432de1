-- What a stripe holds behind what its device's switch was told.
use Rattle.std.proofs.Common.{◌≡◌, ℕ, ◌+◌, ◌-◌, ◌*◌, ◌≤◌, Bool, true, false, List, [], ◌∷◌, ◌++◌, refl, sym, ◌∙◌, ap, subst, arith, max, min}
use Rattle.std.specs.List.{AllByRecursion}
use Rattle.tape_base.specs.declared.geometries.Geometry.{Geometry}
use Rattle.tape_base.specs.Place.{block_of, device_blocks_of}
use Rattle.device_log.specs.Image.{Image}
use Rattle.device_log.specs.Calls.{Act, Call, Fail, Flipped, StopAfter, Told}
use Rattle.device_log.specs.Seen.{seen_of}
use Rattle.logged_disk.specs.Device.{Adds, DeviceState as Device, Keeps, TellsAll, has_flip, seen as content_of}
use Rattle.cache_answers.specs.declared.answers.SwitchOrder.{SwitchOrder}
use Rattle.cache_answers.specs.declared.answers.SwitchOrder.TheVariants as order
use Rattle.cache_answers.specs.Orders.{HasMade, call_of_order}
use Rattle.cache_model.specs.State.{State}
use Rattle.cache_model.specs.Contents.{Contents}
use Rattle.cache_model.proofs.Found.{no_truth}
use Rattle.cyclone.specs.Cyclone.{Seen}
use Rattle.cyclone.specs.Switch.{IsSwitched}
use Rattle.held_pieces.specs.Held.{IsHeld, IsIntactWhereWritten}
use Rattle.held_pieces.specs.Still.{IsStill}
use Rattle.stripe_pieces.specs.Units.{entries_of_unit, records_of_unit}
use Rattle.stripe_core.specs.Stripe.{IsSpared}
use Rattle.piece_answers.specs.Standing.{AreStanding, StandsOnDevice}

-- ---- what the device tells

told_shows : (first : Image) (act : Act) (older : List Call) → seen_of first (Told act ∷ older) ≡ seen_of first older
unfolding seen_of
told_shows first act older = refl

told_turns : (act : Act) (older : List Call) → has_flip (Told act ∷ older) ≡ has_flip older
unfolding has_flip
told_turns act older = refl

flip_turns : (at byte : ℕ) (older : List Call) → has_flip (Flipped at byte ∷ older) ≡ true
unfolding has_flip
flip_turns at byte older = refl

-- a device that tells its content did so before, and shows what it showed
pub record StillTells (old new : Device) : Type 0 where
  pub tells : TellsAll old
  pub shows : content_of old ≡ content_of new

told_still : (act : Act) (old new : Device) → new.past ≡ Told act ∷ old.past → new.first ≡ old.first → new.trust ≤ old.trust → TellsAll new → StillTells old new
told_still act old new past first trust tells = record {
  tells = record {
    trusted = omega (arith, trust, tells.trusted);
    unturned = sym (told_turns act old.past) ∙ (ap has_flip (sym past) ∙ tells.unturned);
  };
  shows = sym (told_shows old.first act old.past) ∙ (ap (λ i. seen_of i (Told act ∷ old.past)) (sym first) ∙ ap (seen_of new.first) (sym past));
}

-- so it is behind an order; behind a flip no device tells its content
pub order_still : (g : Geometry) (o : SwitchOrder) (old new : Device) → new.past ≡ call_of_order g o ∷ old.past → new.first ≡ old.first → new.trust ≤ old.trust
    → TellsAll new → StillTells old new
order_still g (order.Fail nth) old new past first trust tells = told_still (Fail (max 1 nth)) old new past first trust tells
order_still g (order.StopAfter calls) old new past first trust tells = told_still (StopAfter calls) old new past first trust tells
order_still g (order.Flip place byte) old new past first trust tells =
    no_truth (sym (flip_turns (block_of g place) (min byte 511) old.past) ∙ (ap has_flip (sym past) ∙ tells.unturned))

-- ---- what is held

module _ (s : State) (c : Seen) (device : Device) (still : TellsAll device → StillTells c.device device) where
  abbrev Then : Seen
  Then = record c { device = device }

  pub held_still : device.size ≡ c.device.size → c.device.faults ≤ device.faults → IsHeld s c → IsHeld s Then
  held_still size later held = record {
    turning = record {
      geometry = held.turning.geometry;
      cursor = held.turning.cursor;
      floor = held.turning.floor;
      end = held.turning.end;
      reserved = held.turning.reserved;
      few = held.turning.few;
      from = held.turning.from;
      least = held.turning.least;
      below = held.turning.below;
      lap = held.turning.lap;
      sized = subst (λ n. device_blocks_of c.geometry ≤ n) (sym size) held.turning.sized;
      entered = held.turning.entered;
    };
    sound = held.sound;
    geometry = held.geometry;
    cursor = held.cursor;
    filled = held.filled;
    entered = held.entered;
    buffered = held.buffered;
    intact = λ tells. subst (λ i. AllByRecursion (IsIntactWhereWritten s i) s.rows) (still tells).shows (held.intact (still tells).tells);
    laps = held.laps;
    faults = omega (arith, held.faults, later);
    least = held.least;
  }

  pub standing_still : (contents : Contents) → AreStanding contents s c → AreStanding contents s Then
  standing_still contents h = record {
    buffered = λ tells. h.buffered (still tells).tells;
    written = λ tells. subst (λ i. AllByRecursion (StandsOnDevice contents s i) s.rows) (still tells).shows (h.written (still tells).tells);
    recorded = λ tells. h.recorded (still tells).tells;
  }

-- ---- the stripe

-- the device made one call, behind room for more
pub made_one : (call : Call) (old mid new : Device) → IsStill old mid → Keeps 1 1 mid new → Adds call mid new → HasMade (call ∷ []) old new
made_one call old mid new still keeps adds = record {
  size = keeps.size ∙ still.goes.size;
  trust = omega (arith, keeps.trust, still.goes.trust);
  number = keeps.number ∙ still.goes.number;
  switch = keeps.switch ∙ still.goes.switch;
  settled = keeps.settled ∙ still.goes.settled;
  first = keeps.first ∙ still.goes.first;
  past = adds.past ∙ ap (λ past. call ∷ past) still.past;
  faults = adds.faults ∙ still.faults;
}

-- one flush less, for a call of one block
pub one_flush_less : (units flushes room : ℕ) (c : Seen) (device : Device) → IsSpared (units + 1) flushes room c → 8 ≤ c.geometry.agg → Keeps 1 1 c.device device
    → IsSpared units (flushes - 1) room (record c { device = device })
one_flush_less units flushes room c device spared agg keeps = record {
  for_records = let split : records_of_unit c.geometry * (units + 1) ≡ records_of_unit c.geometry * units + records_of_unit c.geometry = omega arith in omega (arith, split, spared.for_records);
  entries = let split : entries_of_unit c.geometry * (units + 1) ≡ entries_of_unit c.geometry * units + entries_of_unit c.geometry = omega arith in omega (arith, split, spared.entries);
  one_each = omega (arith, spared.one_each);
  calls = omega (arith, spared.one_each, spared.calls, keeps.calls);
  blocks = fewer flushes c.geometry.agg c.device.blocks device.blocks (omega (arith, spared.one_each)) (omega (arith, agg)) spared.blocks keeps.blocks;
}
  where
    fewer : (flushes agg before after : ℕ) → 1 ≤ flushes → 1 ≤ agg → flushes * agg ≤ before → before ≤ after + 1 → (flushes - 1) * agg ≤ after
    fewer flushes agg before after some big h k =
        let split : flushes ≡ flushes - 1 + 1 = omega (arith, some) in
        let more : (flushes - 1 + 1) * agg ≡ (flushes - 1) * agg + agg = omega arith in
        let product : flushes * agg ≡ (flushes - 1) * agg + agg = ap (λ n. n * agg) split ∙ more in
        omega (arith, product, big, h, k)

-- what is held goes on to be, and what stands to stand, behind an order
pub record StaysHeld (s : State) (old new : Seen) : Type 0 where
  pub held : IsHeld s new
  pub stands : (contents : Contents) → AreStanding contents s old → AreStanding contents s new

pub switched_stays : (o : SwitchOrder) (s : State) (old new : Seen) → IsHeld s old → IsSwitched (call_of_order old.geometry o) old new → StaysHeld s old new
switched_stays o s old new held switched =
    let still : TellsAll new.device → StillTells old.device new.device =
    λ tells. order_still old.geometry o old.device new.device switched.adds.past switched.keeps.first switched.keeps.trust tells in
    record {
      held = subst (IsHeld s) (sym switched.same) (held_still s old new.device still switched.keeps.size (omega (arith, switched.adds.faults)) held);
      stands = λ contents h. subst (AreStanding contents s) (sym switched.same) (standing_still s old new.device still contents h);
    }

-- and the memory of one flush less is left
pub switched_spared : (call : Call) (units flushes room : ℕ) (old new : Seen) → IsSpared (units + 1) flushes room old → IsSwitched call old new
    → IsSpared units (flushes - 1) room new
switched_spared call units flushes room old new spared switched =
    subst (IsSpared units (flushes - 1) room) (sym switched.same)
    (one_flush_less units flushes room old new.device spared old.geometry.accepted.agg_fits.0 switched.keeps)

-- the order is the one of the session's geometry
pub told_order : (o : SwitchOrder) (g h : Geometry) (old new : Device) (made : HasMade (call_of_order g o ∷ []) old new) → g ≡ h → HasMade (call_of_order h o ∷ []) old new
told_order o g h old new made same = subst (λ x. HasMade (call_of_order x o ∷ []) old new) same made
