-- Which lists are bytes: parts and joins of bytes, numbers that are written as bytes, and digests.
use Rattle.std.proofs.Common.{ℕ, zero, suc, ◌+◌, ◌<◌, List, [], ◌∷◌, ◌++◌, take, drop, replicate, arith, inl, inr}
use Rattle.std.specs.Int.{Width, byte_at, byte_len, bytes_high_first, bytes_low_first, to_be_bytes, to_le_bytes, w32}
use Rattle.std.specs.Prelude.{◌≡◌, nat_lt, slice_index, true}
use Rattle.std.specs.List.{list_all}
use Rattle.std.proofs.lemmas.Bool.{and_parts, cases_lt, ltb-true}
use Rattle.std.proofs.lemmas.List.{get_or-drop, get_or-take, get_or_past, length-take}
use Rattle.hex.specs.Hex.{IsBytes}
use Rattle.sha2.specs.Sha256.{digest_bytes, final_hash, initial_hash_256, sha256}
use Rattle.tape_base.specs.declared.keys.Key.{Key}
use Rattle.tape_base.specs.Key.{key_bytes}

pub IsBytes-nil : IsBytes []
IsBytes-nil i = omega arith

pub IsBytes-cons : (b : ℕ) (rest : List ℕ) → b < 256 → IsBytes rest → IsBytes (b ∷ rest)
IsBytes-cons b rest small fits zero = small
IsBytes-cons b rest small fits (suc i) = fits i

pub IsBytes-append : (a b : List ℕ) → IsBytes a → IsBytes b → IsBytes (a ++ b)
IsBytes-append [] b one other = other
IsBytes-append (x ∷ a) b one other = IsBytes-cons x (a ++ b) (one 0) (IsBytes-append a b (λ i. one (suc i)) other)

pub IsBytes-drop : (n : ℕ) (bytes : List ℕ) → IsBytes bytes → IsBytes (drop n bytes)
IsBytes-drop n bytes h i = rw get_or-drop (h (n + i))

pub IsBytes-take : (n : ℕ) (bytes : List ℕ) → IsBytes bytes → IsBytes (take n bytes)
IsBytes-take n bytes h i =
    elim (cases_lt i n) [
      | inl lt ↦ rw (get_or-take n bytes i 0 lt) (h i)
      | inr le ↦ rw (get_or_past (take n bytes) i 0 (omega (arith, length-take n bytes))) (omega arith)
    ]

-- a list whose numbers are known is tested
pub bytes_by_test : (bytes : List ℕ) → list_all (λ b. nat_lt b 256) bytes ≡ true → IsBytes bytes
bytes_by_test [] h = IsBytes-nil
bytes_by_test (b ∷ bytes) h =
    let parts = and_parts (nat_lt b 256) (list_all (λ b. nat_lt b 256) bytes) h in
    IsBytes-cons b bytes (ltb-true b 256 parts.0) (bytes_by_test bytes parts.1)

pub zeros_are_bytes : (n : ℕ) → IsBytes (replicate n 0)
zeros_are_bytes zero = IsBytes-nil
zeros_are_bytes (suc n) = IsBytes-cons 0 (replicate n 0) (omega arith) (zeros_are_bytes n)

byte_at-small : (i n : ℕ) → byte_at i n < 256
byte_at-small zero n = omega arith
byte_at-small (suc i) n = omega arith

pub low_bytes-small : (i k n : ℕ) → IsBytes (bytes_low_first i k n)
low_bytes-small i zero n = IsBytes-nil
low_bytes-small i (suc k) n = IsBytes-cons (byte_at i n) (bytes_low_first (suc i) k n) (byte_at-small i n) (low_bytes-small (suc i) k n)

high_bytes-small : (k n : ℕ) → IsBytes (bytes_high_first k n)
high_bytes-small zero n = IsBytes-nil
high_bytes-small (suc k) n = IsBytes-cons (byte_at k n) (bytes_high_first k n) (byte_at-small k n) (high_bytes-small k n)

pub le_bytes-small : (w : Width) (n : ℕ) → IsBytes (to_le_bytes w n)
le_bytes-small w n = low_bytes-small 0 (byte_len w) n

pub key_bytes-small : (key : Key) → IsBytes (key_bytes key)
unfolding key_bytes
key_bytes-small key = low_bytes-small 0 16 key.number

digest_bytes-small : (h : List ℕ) (n : ℕ) → IsBytes (digest_bytes h n)
unfolding digest_bytes
digest_bytes-small h zero = IsBytes-nil
digest_bytes-small h (suc n) =
    IsBytes-append (digest_bytes h n) (to_be_bytes w32 (slice_index h n)) (digest_bytes-small h n) (high_bytes-small 4 (slice_index h n))

-- a digest is bytes, whatever was digested
pub sha256-small : (m : List ℕ) → IsBytes (sha256 m)
unfolding sha256
sha256-small m = digest_bytes-small (final_hash initial_hash_256 m) 8
