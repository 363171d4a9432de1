-- What is packed is unpacked again, and what is unpacked is packed again.
use Rattle.std.proofs.Common.{◌≡◌, ℕ, zero, suc, ◌+◌, ◌*◌, ◌/◌, ◌%◌, ◌^◌, ◌<◌, Bool, true, false, eqb, List, [], ◌∷◌, length, get_or, refl, sym, ap, ◌∙◌, arith}
use Rattle.std.proofs.lemmas.Nat.{shr-shr, shr_split, mod_below}
use Rattle.dir_entry.specs.declared.entry.Entry.{Entry}
use Rattle.dir_entry.specs.Layout.{field, number_of_bytes, bytes_of_number, bit_of, entry_of_word, word_of_entry, entry_of_bytes, bytes_of_entry, EntryFits}

number_of-bytes_of : (count n : ℕ) → n < 256 ^ count → number_of_bytes (bytes_of_number count n) ≡ n
number_of-bytes_of zero n small = omega arith
number_of-bytes_of (suc count) n small =
    let rest : n / 256 < 256 ^ count = omega (arith, small) in
    omega (arith, number_of-bytes_of count (n / 256) rest)

abbrev AreBytes : List ℕ → Type 0
AreBytes bytes = (i : ℕ) → get_or bytes i 0 < 256

bytes_of-number_of : (bytes : List ℕ) → AreBytes bytes → bytes_of_number (length bytes) (number_of_bytes bytes) ≡ bytes
bytes_of-number_of [] fits = refl
bytes_of-number_of (b ∷ bytes) fits =
    let small : b < 256 = fits 0 in
    let front : (b + 256 * number_of_bytes bytes) % 256 ≡ b = omega arith in
    let rest : (b + 256 * number_of_bytes bytes) / 256 ≡ number_of_bytes bytes = omega arith in
    let again : bytes_of_number (length bytes) (number_of_bytes bytes) ≡ bytes = bytes_of-number_of bytes (λ i. fits (suc i)) in
    rw (front, rest, again) refl

is_set : (b : Bool) → eqb (bit_of b) 1 ≡ b
is_set true = refl
is_set false = refl

bit_below : (b : Bool) → bit_of b < 2
bit_below true = omega arith
bit_below false = omega arith

bit_of-is_set : (n : ℕ) → n < 2 → bit_of (eqb n 1) ≡ n
bit_of-is_set zero h = refl
bit_of-is_set (suc zero) h = refl
bit_of-is_set (suc (suc n)) h = absurd (omega arith)

-- the part of a word from bit `lo` up is a field and the part above it
above : (lo w n : ℕ) → n / 2 ^ lo ≡ field lo w n + 2 ^ w * (n / 2 ^ (lo + w))
above lo w n = rw (← shr-shr n lo w) (omega (arith, shr_split (n / 2 ^ lo) w))

pub word-again : (n : ℕ) → n < 2 ^ 80 → word_of_entry (entry_of_word n) ≡ n
word-again n small =
    let phase = bit_of-is_set (field 44 1 n) (mod_below (n / 2 ^ 44) 2 (omega arith)) in
    let head = bit_of-is_set (field 45 1 n) (mod_below (n / 2 ^ 45) 2 (omega arith)) in
    let pinned = bit_of-is_set (field 46 1 n) (mod_below (n / 2 ^ 46) 2 (omega arith)) in
    let token = bit_of-is_set (field 47 1 n) (mod_below (n / 2 ^ 47) 2 (omega arith)) in
    let top : field 64 16 n ≡ n / 2 ^ 64 = omega arith in
    let low : (field 0 24 n + 2 ^ 24 * field 64 16 n) % 2 ^ 24 ≡ field 0 24 n = omega arith in
    let high : (field 0 24 n + 2 ^ 24 * field 64 16 n) / 2 ^ 24 ≡ field 64 16 n = omega arith in
    rw (phase, head, pinned, token, low, high)
    (omega (arith, top, above 0 24 n, above 24 2 n, above 26 6 n, above 32 12 n, above 44 1 n, above 45 1 n, above 46 1 n, above 47 1 n, above 48 16 n))

pub entry-again : (e : Entry) → EntryFits e → entry_of_word (word_of_entry e) ≡ e
entry-again e fits =
    let w = word_of_entry e in
    let p = bit_below e.phase in
    let h = bit_below e.head in
    let i = bit_below e.pinned in
    let t = bit_below e.token in
    let offset : field 0 24 w + 2 ^ 24 * field 64 16 w ≡ e.offset = omega (arith, p, h, i, t, fits) in
    let big : field 24 2 w ≡ e.big = omega (arith, p, h, i, t, fits) in
    let size : field 26 6 w ≡ e.size = omega (arith, p, h, i, t, fits) in
    let tag : field 32 12 w ≡ e.tag = omega (arith, p, h, i, t, fits) in
    let phase : field 44 1 w ≡ bit_of e.phase = omega (arith, p, h, i, t, fits) in
    let head : field 45 1 w ≡ bit_of e.head = omega (arith, p, h, i, t, fits) in
    let pinned : field 46 1 w ≡ bit_of e.pinned = omega (arith, p, h, i, t, fits) in
    let token : field 47 1 w ≡ bit_of e.token = omega (arith, p, h, i, t, fits) in
    let next : field 48 16 w ≡ e.next = omega (arith, p, h, i, t, fits) in
    let flag : (m : ℕ) (b : Bool) → m ≡ bit_of b → eqb m 1 ≡ b = λ m b q. ap (λ x. eqb x 1) q ∙ is_set b in
    λ k. record {
      offset = offset k;
      big = big k;
      size = size k;
      tag = tag k;
      phase = flag (field 44 1 w) e.phase phase k;
      head = flag (field 45 1 w) e.head head k;
      pinned = flag (field 46 1 w) e.pinned pinned k;
      token = flag (field 47 1 w) e.token token k;
      next = next k;
    }

word-below : (e : Entry) → EntryFits e → word_of_entry e < 256 ^ 10
word-below e fits = omega (arith, fits, bit_below e.phase, bit_below e.head, bit_below e.pinned, bit_below e.token)

pub encoded-again : (e : Entry) → EntryFits e → entry_of_bytes (bytes_of_entry e) ≡ e
unfolding entry_of_bytes bytes_of_entry
encoded-again e fits = rw (number_of-bytes_of 10 (word_of_entry e) (word-below e fits)) (entry-again e fits)

pub decoded-again : (bytes : List ℕ) → length bytes ≡ 10 → AreBytes bytes → number_of_bytes bytes < 2 ^ 80 → bytes_of_entry (entry_of_bytes bytes) ≡ bytes
unfolding entry_of_bytes bytes_of_entry
decoded-again bytes ten fits small =
    rw (word-again (number_of_bytes bytes) small)
    (ap (λ count. bytes_of_number count (number_of_bytes bytes)) (sym ten) ∙ bytes_of-number_of bytes fits)
