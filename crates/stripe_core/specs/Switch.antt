-- What a call comes to that tells the switch of a stripe's device.
use Rattle.std.specs.Prelude.{◌≡◌, Bool, Result}
use Rattle.std.specs.declared.alloc.AllocError.{AllocError}
use Rattle.logged_disk.specs.declared.device.Disk.{Ghosts as DiskGhosts}
use Rattle.dir_table.specs.declared.directory.Directory.{Ghosts as DirectoryGhosts}
use Rattle.cache_chronicle.specs.declared.chronicle.Chronicle.{Ghosts as ChronicleGhosts}
use Rattle.cache_answers.specs.declared.answers.SwitchOrder.{SwitchOrder}
use Rattle.cache_answers.specs.Orders.{TellsSwitch, call_of_order}
use Rattle.cache_model.specs.Contents.{AnyContents}
use Rattle.stripe_core.specs.declared.stripe.Stripe.{Stripe}
use Rattle.stripe_core.specs.Between.{IsResting, StayStanding}
use Rattle.stripe_core.specs.Stripe.{kept_in, seen_in, state_in}

-- the stripe rests on, with the same records, and what stands goes on to stand: a flip ends what the device tells
pub record TellsInStripe {D R C : Type 0} {d : DiskGhosts D} {r : DirectoryGhosts R} {c : ChronicleGhosts C} (order : SwitchOrder)
    (old new : Stripe D R C d r c) (result : Result Bool AllocError) : Type 0 where
  pub resting : IsResting new
  pub records : kept_in new ≡ kept_in old
  pub contents : StayStanding AnyContents old new
  pub tells : TellsSwitch (call_of_order (state_in old).geometry order) (seen_in old).device (seen_in new).device result
