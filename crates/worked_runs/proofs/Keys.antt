-- What holds whatever number a key has.
use Rattle.std.proofs.Common.{◌≡◌, ℕ, zero, suc, ◌+◌, ◌*◌, ◌<◌, ◌≤◌, List, [], ◌∷◌, length, refl, arith, lit<, lit≤, Bool, true, false}
use Rattle.std.specs.Prelude.{◌==◌, ◌&&◌, filter}
use Rattle.std.proofs.lemmas.Bool.{eqb-true}
use Rattle.hex.specs.Hex.{IsBytes}
use Rattle.cache_model.specs.Room.{is_bucket_used, is_full_with, used_buckets}
use Rattle.cache_model.specs.State.{Row, State}

-- a segment of few pieces has a slot for an entry, whatever bucket that is of
pub not_full : (s : State) (bucket : ℕ) (rows : List Row) → length rows < 3 * s.geometry.buckets → is_full_with s bucket rows ≡ false
not_full s bucket rows less = by (is_bucket_used s rows bucket) (length rows == 3 * s.geometry.buckets + used_buckets s rows) refl
  where
    by : (b c : Bool) → (length rows == 3 * s.geometry.buckets + used_buckets s rows) ≡ c → (b && c) ≡ false
    by false c e = refl
    by true false e = refl
    by true true e =
        let same : length rows ≡ 3 * s.geometry.buckets + used_buckets s rows =
        eqb-true (length rows) (3 * s.geometry.buckets + used_buckets s rows) e in
        absurd (omega (arith, less, same))

pub one_at_most : {X : Type 0} (test : X → Bool) (x : X) → length (filter test (x ∷ [])) ≤ 1
one_at_most test x = by (test x) refl
  where
    by : (b : Bool) → test x ≡ b → length (filter test (x ∷ [])) ≤ 1
    by true e = rw e (lit≤ tt)
    by false e = rw e (lit≤ tt)

pub one_byte : IsBytes (97 ∷ [])
one_byte zero = lit< tt
one_byte (suc i) = lit< tt

pub only_one : (index : ℕ) → 0 < index → index ≤ 1 → index ≡ 1
only_one index some most = omega arith
