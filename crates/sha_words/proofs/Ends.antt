-- How the blocks of a message follow one another, and what ends it.
use Rattle.std.proofs.Common.{◌≡◌, ℕ, suc, ◌+◌, ◌-◌, ◌*◌, ◌/◌, ◌%◌, ◌^◌, ◌<◌, ◌≤◌, List, ◌∷◌, ◌++◌, length, take, drop, replicate, slice_set, refl, sym, ap, ◌∙◌, arith, length-append, add-zero}
use Rattle.std.proofs.lemmas.List.{append_assoc, drop-append-le, drop-drop, drop-take, length-replicate, replicate-append-replicate, set-append_right, take-take, take_at}
use Rattle.std.proofs.lemmas.Slice.{take-put_mid}
use Rattle.std.specs.Int.{w64, to_be_bytes}
use Rattle.sha2.proofs.Absorbing256.{hash_after-append, hash_after_next}
use Rattle.sha2.specs.Sha256.{compress, hash_after, padded_message, padding}
use borrow.Rule.Slice.PartMut.{put_mid}

pub one_block_more : (start m h x next : List ℕ) (i : ℕ) → h ≡ hash_after start m i → x ≡ take 64 (drop (i * 64) m)
    → next ≡ compress h x → next ≡ hash_after start m (i + 1)
one_block_more start m h x next i before block after = rw (after, before, block) (sym (hash_after_next start m i))

-- the whole blocks of a message are those of the padded one
pub whole_blocks : (start m h : List ℕ) (i : ℕ) → h ≡ hash_after start m i → i ≡ length m / 64
    → h ≡ hash_after start (padded_message m) (length m / 64 + 0)
whole_blocks start m h i before all =
    rw (add-zero, ← all) (before ∙ sym (hash_after-append start m (padding (length m)) i (omega arith)))

last_block : (m tail : List ℕ) (count i : ℕ) → take (64 * count) tail ≡ drop (length m / 64 * 64) (padded_message m) → i < count
    → take 64 (drop (i * 64) tail) ≡ take 64 (drop ((length m / 64 + i) * 64) (padded_message m))
last_block m tail count i is low =
    let padded : List ℕ = padded_message m in
    let left : ℕ = 64 * count - i * 64 in
    let sum : i * 64 + left ≡ 64 * count = omega arith in
    let front : drop (i * 64) (take (64 * count) tail) ≡ take left (drop (i * 64) tail) = rw sum at (drop-take (i * 64) left tail) in
    let there : drop (i * 64) (drop (length m / 64 * 64) padded) ≡ drop ((length m / 64 + i) * 64) padded =
    drop-drop (i * 64) (length m / 64 * 64) padded ∙ ap (λ (k : ℕ). drop k padded) (omega arith) in
    sym (take-take 64 left (drop (i * 64) tail) (omega arith)) ∙ ap (take 64) (sym front ∙ ap (drop (i * 64)) is ∙ there)

-- one block more of those with the padding
pub one_last_block_more : (start m tail h x next : List ℕ) (count i : ℕ)
    → take (64 * count) tail ≡ drop (length m / 64 * 64) (padded_message m) → i < count
    → h ≡ hash_after start (padded_message m) (length m / 64 + i) → x ≡ take 64 (drop (i * 64) tail) → next ≡ compress h x
    → next ≡ hash_after start (padded_message m) (length m / 64 + (i + 1))
one_last_block_more start m tail h x next count i is low before block after =
    let padded : List ℕ = padded_message m in
    one_block_more start padded h x next (length m / 64 + i) before (block ∙ last_block m tail count i is low) after
    ∙ ap (hash_after start padded) (omega arith)

length-padded : (m : List ℕ) → length (padded_message m) ≡ length m + (1 + (119 - length m % 64) % 64 + 8)
length-padded m =
    let zeros : List ℕ = replicate ((119 - length m % 64) % 64) 0 in
    let count : List ℕ = to_be_bytes w64 (length m * 8 % 2 ^ 64) in
    let eight : length count ≡ 8 = refl in
    length-append m (padding (length m))
    ∙ omega (arith, eight, length-replicate {A = ℕ} ((119 - length m % 64) % 64) 0, length-append {A = ℕ} zeros count)

pub blocks_of_padded : (m : List ℕ) → length (padded_message m) / 64 ≡ length m / 64 + (length m % 64 + 72) / 64
blocks_of_padded m = omega (arith, length-padded m)

-- a byte over the first of the zeros behind some bytes
marked : (rest : List ℕ) (z c : ℕ) → length rest + (1 + z + c) ≡ 128
    → slice_set (rest ++ replicate (128 - length rest) 0) (length rest) 0x80 ≡ (rest ++ 0x80 ∷ replicate z 0) ++ replicate c 0
marked rest z c all =
    let zeros : List ℕ = replicate (128 - length rest) 0 in
    let count : 128 - length rest ≡ suc (z + c) = omega arith in
    let split : zeros ≡ 0 ∷ replicate z 0 ++ replicate c 0 = rw (count, replicate-append-replicate {A = ℕ} z c 0) refl in
    let zeroth : length rest - length rest ≡ 0 = omega arith in
    let first : slice_set zeros (length rest - length rest) 0x80 ≡ 0x80 ∷ replicate z 0 ++ replicate c 0 = rw (zeroth, split) refl in
    set-append_right rest zeros (length rest) (length rest) 0x80 refl (omega arith)
    ∙ ap (λ (x : List ℕ). rest ++ x) first ∙ sym (append_assoc rest (0x80 ∷ replicate z 0) (replicate c 0))

-- the bytes behind the whole blocks with the padding, as they are written over zeros
pub tail_is : (m rest start b : List ℕ) (r k e : ℕ) → r ≡ length m % 64 → rest ≡ drop (length m / 64 * 64) m → length rest ≡ r
    → start ≡ rest ++ replicate (128 - length rest) 0 → b ≡ to_be_bytes w64 (length m * 8 % 2 ^ 64) → e + 8 ≡ 64 * ((r + 72) / 64)
    → take (64 * ((r + 72) / 64)) (put_mid e k (slice_set start (length rest) 0x80) b) ≡ drop (length m / 64 * 64) (padded_message m)
tail_is m rest start b r k e r_is rest_is size start_is b_is end =
    let z : ℕ = (119 - r) % 64 in
    let c : ℕ = 127 - r - z in
    let front : List ℕ = rest ++ 0x80 ∷ replicate z 0 in
    let eight : length b ≡ 8 = rw b_is refl in
    let front_size : length front ≡ e = length-append rest (0x80 ∷ replicate z 0) ∙ omega (arith, length-replicate {A = ℕ} z 0) in
    let room : e ≤ length (front ++ replicate c 0) = omega (arith, length-append front (replicate c 0)) in
    let padding_is : padding (length m) ≡ 0x80 ∷ replicate z 0 ++ b = rw (b_is, r_is) refl in
    let behind : drop (length m / 64 * 64) (padded_message m) ≡ rest ++ padding (length m) =
    rw rest_is (drop-append-le (length m / 64 * 64) m (padding (length m)) (omega arith)) in
    let written : slice_set start (length rest) 0x80 ≡ front ++ replicate c 0 = rw start_is (marked rest z c (omega arith)) in
    ap (λ (x : List ℕ). take (64 * ((r + 72) / 64)) (put_mid e k x b)) written
    ∙ take-put_mid e k (front ++ replicate c 0) b (64 * ((r + 72) / 64)) (omega arith) room
    ∙ ap (λ (x : List ℕ). x ++ b) (take_at front (replicate c 0) e front_size)
    ∙ append_assoc rest (0x80 ∷ replicate z 0) b ∙ ap (λ (x : List ℕ). rest ++ x) (sym padding_is) ∙ sym behind
