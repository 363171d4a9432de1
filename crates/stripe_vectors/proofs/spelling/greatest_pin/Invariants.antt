use Rattle.std.proofs.Common.{◌≡◌, take}
use Rattle.cache_model.specs.Room.{greatest_pin}
use Rattle.stripe_vectors.proofs.spelling.greatest_pin.Given as goal

abbrev pub invariant-alternates : goal.invariant-alternates
invariant-alternates l = l.pin ≡ greatest_pin (take l.i l.fn.list)
