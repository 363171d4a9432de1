-- What a stripe is as a cache.
use Rattle.std.specs.Prelude.{Bool}
use Rattle.logged_disk.specs.Device.{DeviceState as Device}
use Rattle.logged_disk.specs.declared.device.Disk.{Ghosts as DiskGhosts}
use Rattle.dir_table.specs.declared.directory.Directory.{Ghosts as DirectoryGhosts}
use Rattle.cache_chronicle.specs.declared.chronicle.Chronicle.{Ghosts as ChronicleGhosts}
use Rattle.cache_model.specs.Kept.{Kept}
use Rattle.stripe_core.specs.declared.stripe.Stripe.{Stripe}
use Rattle.stripe_core.specs.Stripe.{kept_in, seen_in}
use Rattle.call_laws.specs.Moments.{At}
use Rattle.cache_calls.specs.Keeping.{unsynced_setting}

-- these records and this device at a moment of a cache whose directory displaces (`packed`) or not
abbrev pub at_by : Bool → Kept → Device → At
at_by packed kept device = record { kept = kept; device = device; setting = unsynced_setting packed }

-- those of a stripe
abbrev pub at_of_stripe : {D R C : Type 0} {d : DiskGhosts D} {r : DirectoryGhosts R} {c : ChronicleGhosts C} → Stripe D R C d r c → At
at_of_stripe {r = r} t = at_by r.purges (kept_in t) (seen_in t).device
