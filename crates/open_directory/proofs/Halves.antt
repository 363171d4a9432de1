-- A number's half has a bit less.
use Rattle.std.proofs.Common.{◌≡◌, ℕ, zero, suc, ◌*◌, ◌-◌, ◌/◌, ◌^◌, ◌<◌, ◌≢◌, subst, sym, arith}
use Rattle.std.proofs.Math.Nat.{pow-succ'}

pub half_fits : (bits a b : ℕ) → a ≢ b → a < 2 ^ bits → b < 2 ^ bits → a / 2 < 2 ^ (bits - 1)
half_fits zero a b two h k = let p : a < 1 = h in let q : b < 1 = k in absurd (two (omega (arith, p, q)))
half_fits (suc n) a b two h k =
    let twice : 2 ^ suc n ≡ 2 * 2 ^ n = pow-succ' 2 n in
    let half : a / 2 < 2 ^ n = omega (arith, h, twice) in
    let same : suc n - 1 ≡ n = omega arith in
    subst (λ m. a / 2 < 2 ^ m) (sym same) half
