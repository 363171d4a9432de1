-- The stripe of a cache.
use Rattle.logged_disk.specs.declared.device.Disk.{Ghosts as DiskGhosts}
use Rattle.dir_table.specs.declared.directory.Directory.{Ghosts as DirectoryGhosts}
use Rattle.cache_chronicle.specs.declared.chronicle.Chronicle.{Ghosts as ChronicleGhosts}
use Rattle.cache_model.specs.Contents.{Contents}
use Rattle.call_laws.specs.Moments.{At}
use Rattle.stripe_core.specs.Between.{IsResting, StandIn}
use Rattle.stripe_calls.specs.declared.cache.StripeCache.{StripeCache}
use Rattle.stripe_calls.specs.Seen.{at_of_stripe}

module _ {D R C : Type 0} {d : DiskGhosts D} {r : DirectoryGhosts R} {c : ChronicleGhosts C} where
  -- its records and its device
  abbrev pub at_of : StripeCache D R C d r c → At
  at_of cache = at_of_stripe cache.stripe

  -- what holds of it between calls
  abbrev pub IsCache : StripeCache D R C d r c → Type 0
  IsCache cache = IsResting cache.stripe

  -- what is told of its pieces stands
  abbrev pub StandsIn : StripeCache D R C d r c → Contents → Type 0
  StandsIn cache contents = StandIn contents cache.stripe
