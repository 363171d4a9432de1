-- What every call of a stripe keeps: the stripe, how its device went on, and that what the device took and refused is told.
use Rattle.std.specs.Prelude.{◌≤◌}
use Rattle.logged_disk.specs.Device.{DeviceState as Device, IsAfter}
use Rattle.logged_disk.specs.declared.device.Disk.{Ghosts as DiskGhosts}
use Rattle.dir_table.specs.declared.directory.Directory.{Ghosts as DirectoryGhosts}
use Rattle.cache_chronicle.specs.declared.chronicle.Chronicle.{Ghosts as ChronicleGhosts}
use Rattle.power_cuts.specs.Surviving.{Survives}
use Rattle.cache_model.specs.Kept.{Kept, state_of}
use Rattle.cache_model.specs.Legal.{IsQuiet}
use Rattle.cache_model.specs.Contents.{AnyContents, Contents}
use Rattle.stripe_core.specs.declared.stripe.Stripe.{Stripe}
use Rattle.piece_answers.specs.Faults.{IsAccounted}
use Rattle.stripe_core.specs.Stripe.{IsStripe, kept_in, seen_in, state_in}
use Rattle.piece_answers.specs.Standing.{AreStanding}
use Rattle.stripe_answers.specs.Unharmed.{StripeIsUnharmed}

-- what a call keeps: the device goes on, what it took and refused is told, where it tells its content no more pieces are told as
-- damaged, and behind each of its calls all that a power cut may leave opens to a sync of the session
pub record IsBetween (old_device new_device : Device) (old new : Kept) : Type 0 where
  pub goes : IsAfter old_device new_device
  pub accounted : IsAccounted old_device.past new_device.past old new
  pub unharmed : StripeIsUnharmed old_device (state_of old) → StripeIsUnharmed new_device (state_of new)
  pub survives : Survives old_device new_device (state_of old) (state_of new)

-- so it is of a stripe before a call and behind it
module _ {D R C : Type 0} {d : DiskGhosts D} {r : DirectoryGhosts R} {c : ChronicleGhosts C} where
  abbrev pub Between : (old new : Stripe D R C d r c) → Type 0
  Between old new = IsBetween (seen_in old).device (seen_in new).device (kept_in old) (kept_in new)

  -- what is told of its pieces stands
  abbrev pub StandIn : Contents → Stripe D R C d r c → Type 0
  StandIn contents t = AreStanding contents (state_in t) (seen_in t)

  -- and goes on to stand, where it tells this of what is placed
  abbrev pub StayStanding : (Contents → Type 0) → (old new : Stripe D R C d r c) → Type 0
  StayStanding Told old new = (contents : Contents) → Told contents → StandIn contents old → StandIn contents new

  -- a stripe at rest: no vector waits for the commit of its put
  pub record IsResting (t : Stripe D R C d r c) : Type 0 where
    pub stripe : IsStripe t
    pub quiet : IsQuiet (state_in t)

  -- what every call keeps, also one in the midst of another, that places what is told so
  pub record ContinuesWith (Told : Contents → Type 0) (old new : Stripe D R C d r c) : Type 0 where
    pub stripe : IsStripe new
    pub between : Between old new
    pub contents : StayStanding Told old new
    pub later : (seen_in old).device.faults ≤ (seen_in new).device.faults

  -- of one that places nothing
  abbrev pub Continues : (old new : Stripe D R C d r c) → Type 0
  Continues old new = ContinuesWith AnyContents old new

  -- what a call keeps that leaves the stripe at rest
  pub record RestsWith (Told : Contents → Type 0) (old new : Stripe D R C d r c) : Type 0 where
    pub resting : IsResting new
    pub between : Between old new
    pub contents : StayStanding Told old new
    pub later : (seen_in old).device.faults ≤ (seen_in new).device.faults

  abbrev pub Rests : (old new : Stripe D R C d r c) → Type 0
  Rests old new = RestsWith AnyContents old new

  -- what a call keeps that may tell a piece as damaged, whatever its device tells of its content
  pub record Proceeds (old new : Stripe D R C d r c) : Type 0 where
    pub goes : IsAfter (seen_in old).device (seen_in new).device
    pub accounted : IsAccounted (seen_in old).device.past (seen_in new).device.past (kept_in old) (kept_in new)
    pub survives : Survives (seen_in old).device (seen_in new).device (state_in old) (state_in new)
    pub contents : StayStanding AnyContents old new
    pub later : (seen_in old).device.faults ≤ (seen_in new).device.faults
