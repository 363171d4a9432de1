-- A payload that is brought to the front of the bytes that it stands in.
use Rattle.std.proofs.Common.{◌≡◌, ℕ, ◌+◌, ◌-◌, ◌≤◌, List, [], ◌∷◌, ◌++◌, length, take, drop, refl, sym, ◌∙◌, ap, arith, zero, suc}
use Rattle.std.specs.List.{copy_within}
use Rattle.std.proofs.lemmas.List.{drop-take, length-drop, take-append-le, take-take, length-take-le}
use Rattle.doc_header.specs.Reading.{length_of, payload_of, slice_at}

-- the front of a front, by its length
front_of_front : (xs : List ℕ) (n m : ℕ) → take (length (take n (take m xs))) xs ≡ take n (take m xs)
front_of_front xs zero m = refl
front_of_front xs (suc n) zero = refl
front_of_front [] (suc n) (suc m) = refl
front_of_front (x ∷ xs) (suc n) (suc m) = ap (λ ys. x ∷ ys) (front_of_front xs n m)

front_fits : (xs : List ℕ) (n m : ℕ) → length (take n (take m xs)) ≤ length (take m xs)
front_fits xs zero m = omega arith
front_fits xs (suc n) zero = omega arith
front_fits [] (suc n) (suc m) = omega arith
front_fits (x ∷ xs) (suc n) (suc m) = let less : length (take n (take m xs)) ≤ length (take m xs) = front_fits xs n m in omega (arith, less)

-- the payload is a front of what stands behind the header
payload_is : (bytes : List ℕ) (size : ℕ) → 128 ≤ size → payload_of (take size bytes) ≡ take (length_of (take size bytes)) (take (size - 128) (drop 128 bytes))
unfolding slice_at
payload_is bytes size h =
    let split : size ≡ 128 + (size - 128) = omega arith in
    ap (λ ys. take (length_of (take size bytes)) ys) (ap (λ k. drop 128 (take k bytes)) split ∙ drop-take 128 (size - 128) bytes)

pub payload_fits : (bytes xs : List ℕ) (size : ℕ) → xs ≡ payload_of (take size bytes) → 128 ≤ size → size ≤ length bytes → 128 + length xs ≤ size
payload_fits bytes xs size is h within =
    let behind : length (drop 128 bytes) ≡ length bytes - 128 = length-drop 128 bytes in
    let cut : length (take (size - 128) (drop 128 bytes)) ≡ size - 128 = length-take-le (size - 128) (drop 128 bytes) (omega (arith, behind)) in
    let less = front_fits (drop 128 bytes) (length_of (take size bytes)) (size - 128) in
    let same : length xs ≡ length (take (length_of (take size bytes)) (take (size - 128) (drop 128 bytes))) = ap length (is ∙ payload_is bytes size h) in
    omega (arith, cut, less, same)

copied : (bytes behind : List ℕ) (n k : ℕ) → k ≡ n → n ≤ length behind → take n (take 0 bytes ++ take k behind ++ drop (0 + k) bytes) ≡ take n behind
copied bytes behind n k same fits =
    let cut : length (take n behind) ≡ n = length-take-le n behind fits in
    ap (λ i. take n (take 0 bytes ++ take i behind ++ drop (0 + i) bytes)) same
    ∙ (take-append-le n (take n behind) (drop (0 + n) bytes) (omega (arith, cut)) ∙ take-take n n behind (omega arith))

pub payload_in_front : (bytes xs : List ℕ) (size : ℕ) → xs ≡ payload_of (take size bytes) → 128 ≤ size → size ≤ length bytes
    → take (length xs) (copy_within bytes 128 (128 + length xs) 0) ≡ payload_of (take size bytes)
payload_in_front bytes xs size is h within =
    let fits : 128 + length xs ≤ size = payload_fits bytes xs size is h within in
    let behind : length (drop 128 bytes) ≡ length bytes - 128 = length-drop 128 bytes in
    let n : ℕ = length_of (take size bytes) in
    let front : xs ≡ take n (take (size - 128) (drop 128 bytes)) = is ∙ payload_is bytes size h in
    copied bytes (drop 128 bytes) (length xs) (128 + length xs - 128) (omega arith) (omega (arith, fits, behind))
    ∙ (ap (λ (ys : List ℕ). take (length ys) (drop 128 bytes)) front ∙ (front_of_front (drop 128 bytes) n (size - 128) ∙ sym (payload_is bytes size h)))
