-- What every call keeps.
use Rattle.std.proofs.Common.{refl}
use Rattle.logged_disk.specs.declared.device.Disk.{Ghosts as DiskGhosts}
use Rattle.dir_table.specs.declared.directory.Directory.{Ghosts as DirectoryGhosts}
use Rattle.cache_chronicle.specs.declared.chronicle.Chronicle.{Ghosts as ChronicleGhosts}
use Rattle.cache_model.specs.Contents.{Contents}
use Rattle.stripe_core.specs.Between.{IsResting, Proceeds, RestsWith}
use Rattle.cache_calls.specs.Keeping.{Goes, KeepsUnharmed}
use Rattle.stripe_calls.specs.declared.cache.StripeCache.{StripeCache}
use Rattle.stripe_calls.specs.Cache.{IsCache, at_of}
use Rattle.stripe_calls.proofs.Words.{stays_unharmed}

module _ {D R C : Type 0} {d : DiskGhosts D} {r : DirectoryGhosts R} {c : ChronicleGhosts C} (old new : StripeCache D R C d r c) where
  pub cache_goes : IsResting new.stripe → Proceeds old.stripe new.stripe → Goes at_of IsCache old new
  cache_goes resting proceeds = record { holds_then = resting; setting = refl; goes = proceeds.goes; survives = proceeds.survives; later = proceeds.later }

  pub cache_keeps : {Told : Contents → Type 0} → RestsWith Told old.stripe new.stripe → KeepsUnharmed at_of IsCache old new
  cache_keeps rests = record {
    goes_on = record { holds_then = rests.resting; setting = refl; goes = rests.between.goes; survives = rests.between.survives; later = rests.later };
    unharmed = stays_unharmed rests.between;
  }
