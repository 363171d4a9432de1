-- What is asked of a device without a switch.
use Rattle.std.specs.Prelude.{◌≡◌, Bool, true, false}
use Rattle.std.specs.Bool.{OnTrue}
use Rattle.std.proofs.Common.{subst}

-- nothing
pub asks_none : (P : Type 0) → false ≡ true → P
asks_none P has = subst (λ (b : Bool). OnTrue b P) has tt
