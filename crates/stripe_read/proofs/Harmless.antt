-- Calls one behind the other, where one of them may tell a piece as damaged.
use Rattle.std.proofs.Common.{◌⊎◌, inl, inr}
use Rattle.logged_disk.specs.Device.{DeviceState as Device}
use Rattle.cache_model.specs.Kept.{Kept}
use Rattle.stripe_core.specs.Between.{IsBetween}
use Rattle.stripe_core.proofs.Between.{between-trans}

-- what is shown else, said otherwise
pub or_else : {X Y Z : Type 0} → (X → Y) → Z ⊎ X → Z ⊎ Y
or_else then (inl z) = inl z
or_else then (inr x) = inr (then x)

module _ {X Y : Type 0} (a b c : Device) (k l m : Kept) (then : X → Y) where
  -- the second may
  pub behind_unharmed : IsBetween a b k l → IsBetween b c l m ⊎ X → IsBetween a c k m ⊎ Y
  behind_unharmed first (inl next) = inl (between-trans a b c k l m first next)
  behind_unharmed first (inr x) = inr (then x)

  -- the first may
  pub unharmed_behind : IsBetween a b k l ⊎ X → IsBetween b c l m → IsBetween a c k m ⊎ Y
  unharmed_behind (inl first) next = inl (between-trans a b c k l m first next)
  unharmed_behind (inr x) next = inr (then x)
