-- The least class of blocks in each of the upper three ranges.
use Rattle.std.proofs.Common.{ℕ, zero, suc, ◌≡◌, ◌-◌, ◌/◌, ◌<◌, ◌≤◌, refl, arith, inl, inr}
use Rattle.std.specs.Prelude.{◌⊎◌}
use Rattle.dir_entry.specs.Sizes.{IsLeastClass, class_blocks}

abbrev Least : ℕ → ℕ → ℕ → ℕ → ℕ → Type 0
Least n big size b s = (big < b) ⊎ ((big ≡ b) × (size ≤ s))

least_of_8 : (n b s : ℕ) → 65 ≤ n → s < 64 → n ≤ class_blocks b s → Least n 1 ((n - 1) / 8) b s
least_of_8 n zero s l h fits = absurd (omega arith)
least_of_8 n (suc zero) s l h fits = inr (refl, omega arith)
least_of_8 n (suc (suc b)) s l h fits = inl (omega arith)

pub class_of_8 : (n : ℕ) → 65 ≤ n → n ≤ 512 → IsLeastClass n 1 ((n - 1) / 8)
class_of_8 n l h = record { big_fits = omega arith; size_fits = omega arith; holds = omega arith; least = λ b s. least_of_8 n b s l }

least_of_64 : (n b s : ℕ) → 513 ≤ n → s < 64 → n ≤ class_blocks b s → Least n 2 ((n - 1) / 64) b s
least_of_64 n zero s l h fits = absurd (omega arith)
least_of_64 n (suc zero) s l h fits = absurd (omega arith)
least_of_64 n (suc (suc zero)) s l h fits = inr (refl, omega arith)
least_of_64 n (suc (suc (suc b))) s l h fits = inl (omega arith)

pub class_of_64 : (n : ℕ) → 513 ≤ n → n ≤ 4096 → IsLeastClass n 2 ((n - 1) / 64)
class_of_64 n l h = record { big_fits = omega arith; size_fits = omega arith; holds = omega arith; least = λ b s. least_of_64 n b s l }

least_of_512 : (n b s : ℕ) → 4097 ≤ n → s < 64 → n ≤ class_blocks b s → Least n 3 ((n - 1) / 512) b s
least_of_512 n zero s l h fits = absurd (omega arith)
least_of_512 n (suc zero) s l h fits = absurd (omega arith)
least_of_512 n (suc (suc zero)) s l h fits = absurd (omega arith)
least_of_512 n (suc (suc (suc zero))) s l h fits = inr (refl, omega arith)
least_of_512 n (suc (suc (suc (suc b)))) s l h fits = inl (omega arith)

pub class_of_512 : (n : ℕ) → 4097 ≤ n → n ≤ 32768 → IsLeastClass n 3 ((n - 1) / 512)
class_of_512 n l h = record { big_fits = omega arith; size_fits = omega arith; holds = omega arith; least = λ b s. least_of_512 n b s l }
