-- What a cache that rests tells of its records and of its setting: the law of the trait, whose proof stands here since an impl
-- names it.
use Rattle.std.specs.Prelude.{ℕ, List, [], ◌∷◌, refl}
use Rattle.logged_disk.specs.Device.{TellsAll}
use Rattle.logged_disk.specs.declared.device.Disk.{Ghosts as DiskGhosts}
use Rattle.dir_table.specs.declared.directory.Directory.{Ghosts as DirectoryGhosts}
use Rattle.cache_chronicle.specs.declared.chronicle.Chronicle.{Ghosts as ChronicleGhosts}
use Rattle.cache_model.specs.Vectors.{AreVectors}
use Rattle.cache_model.specs.Contents.{AreRecordedAs, Contents}
use Rattle.stripe_actors.specs.Actors as actors
use Rattle.stripe_core.specs.Stripe.{seen_in, state_in}
use Rattle.stripe_pieces.proofs.VectorsListed.{are_listed}
use Rattle.cache_calls.specs.Keeping.{FallBelow, IsAtRest, state_at}
use Rattle.stripe_calls.specs.declared.cache.StripeCache.{StripeCache}
use Rattle.stripe_calls.specs.Cache.{IsCache, StandsIn, at_of}

falls : (high : ℕ) (numbers : List ℕ) → actors.NumbersFallBelow high numbers → FallBelow high numbers
falls high [] h = h
falls high (n ∷ numbers) h = (h.0, falls n numbers h.1)

pub is_at_rest : {D R C : Type 0} {d : DiskGhosts D} {r : DirectoryGhosts R} {c : ChronicleGhosts C} (cache : StripeCache D R C d r c)
    → IsCache cache → IsAtRest (at_of cache)
is_at_rest cache h = record {
  quiet = h.quiet;
  none = h.stripe.none;
  sound = h.stripe.pieces.sound;
  counted = h.stripe.pieces.faults;
  puts = falls _ _ h.stripe.actors.puts_fall;
  readers = falls _ _ h.stripe.actors.readers_fall;
  plain = record { syncs = refl };
}

-- ---- what is told of the bytes of pieces

-- on a device that tells its content each vector lists what the records say
pub vectors_listed : {D R C : Type 0} {d : DiskGhosts D} {r : DirectoryGhosts R} {c : ChronicleGhosts C} (cache : StripeCache D R C d r c)
    → IsCache cache → TellsAll (at_of cache).device → AreVectors (state_at (at_of cache))
vectors_listed cache h tells = are_listed (state_in cache.stripe) (seen_in cache.stripe) h.stripe.pieces h.stripe.vectors tells

-- what stands is recorded as its document
pub is_recorded : {D R C : Type 0} {d : DiskGhosts D} {r : DirectoryGhosts R} {c : ChronicleGhosts C} (cache : StripeCache D R C d r c) (contents : Contents)
    → IsCache cache → StandsIn cache contents → TellsAll (at_of cache).device → AreRecordedAs contents (state_at (at_of cache))
is_recorded cache contents h stands tells = stands.recorded tells

-- on a device that does not tell its content all stands
pub where_told : {D R C : Type 0} {d : DiskGhosts D} {r : DirectoryGhosts R} {c : ChronicleGhosts C} (cache : StripeCache D R C d r c) (contents : Contents)
    → (TellsAll (at_of cache).device → StandsIn cache contents) → StandsIn cache contents
where_told cache contents h = record {
  buffered = λ tells. (h tells).buffered tells;
  written = λ tells. (h tells).written tells;
  recorded = λ tells. (h tells).recorded tells;
}
