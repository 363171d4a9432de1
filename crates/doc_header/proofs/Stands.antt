-- Fields that stand one behind the other, and the bytes of all of them.
use Rattle.std.proofs.Common.{◌≡◌, ◌≤◌, ◌<◌, ◌+◌, ◌^◌, ℕ, List, [], ◌∷◌, ◌++◌, length, take, drop, refl, sym, ap, ◌∙◌, append_assoc, arith}
use Rattle.std.specs.List.{AllByRecursion}
use Rattle.std.specs.Int.{w32, w64, to_le_bytes, from_le_bytes}
use Rattle.std.proofs.Math.Seq.{take-add}
use Rattle.std.proofs.lemmas.List.{take_all, take_at, take-take, drop-take, drop_at, append-nil, length-append, length-take, length-drop}
use Rattle.std.proofs.lemmas.Nat.{le_bytes_4, le_bytes_8, from_le_bytes-to_le_bytes_4, from_le_bytes-to_le_bytes_8}
use Rattle.hex.specs.Hex.{IsBytes}
use Rattle.tape_base.proofs.Bytes.{IsBytes-drop, IsBytes-take}
use Rattle.doc_header.specs.Reading.{doc_number, slice_at}

-- all bytes, where no more than these are looked at
pub few_bytes : (bytes : List ℕ) (n : ℕ) → length bytes ≤ n → bytes ≡ take n bytes
few_bytes bytes n h = sym (take_all n bytes h)

-- these fields, each with its width, stand from a place on
abbrev pub Stands : ℕ → List (ℕ × List ℕ) → List ℕ → Type 0
Stands at [] bytes = Unit {0}
Stands at (f ∷ fs) bytes = (slice_at at f.0 bytes ≡ f.1) × Stands (at + f.0) fs bytes

abbrev pub joined : List ℕ → List (ℕ × List ℕ) → List ℕ
joined front [] = front
joined front (f ∷ fs) = joined (front ++ f.1) fs

abbrev pub end_of : ℕ → List (ℕ × List ℕ) → ℕ
end_of at [] = at
end_of at (f ∷ fs) = end_of (at + f.0) fs

abbrev pub AreWide : List (ℕ × List ℕ) → Type 0
AreWide = AllByRecursion (λ f. length f.1 ≡ f.0)

pub take-field : (at n : ℕ) (bytes : List ℕ) → take (at + n) bytes ≡ take at bytes ++ slice_at at n bytes
unfolding slice_at
take-field at n bytes = take-add at n bytes

-- what stands is what the fields join to
pub joined_as_they_stand : (at : ℕ) (fs : List (ℕ × List ℕ)) (bytes front : List ℕ) → take at bytes ≡ front → Stands at fs bytes → take (end_of at fs) bytes ≡ joined front fs
joined_as_they_stand at [] bytes front h stands = h
joined_as_they_stand at (f ∷ fs) bytes front h stands =
    let longer : take (at + f.0) bytes ≡ front ++ f.1 = take-field at f.0 bytes ∙ (ap (λ l. l ++ slice_at at f.0 bytes) h ∙ ap (λ l. front ++ l) stands.0) in
    joined_as_they_stand (at + f.0) fs bytes (front ++ f.1) longer stands.1

pub joined-front : (front : List ℕ) (fs : List (ℕ × List ℕ)) → joined front fs ≡ front ++ joined [] fs
joined-front front [] = sym (append-nil front)
joined-front front (f ∷ fs) = joined-front (front ++ f.1) fs ∙ (append_assoc front f.1 (joined [] fs) ∙ ap (λ l. front ++ l) (sym (joined-front f.1 fs)))

pub length-joined : (front : List ℕ) (fs : List (ℕ × List ℕ)) (at : ℕ) → length front ≡ at → AreWide fs → length (joined front fs) ≡ end_of at fs
length-joined front [] at before wide = before
length-joined front (f ∷ fs) at before wide = length-joined (front ++ f.1) fs (at + f.0) (omega (arith, length-append front f.1, before, wide.0)) wide.1

-- the field behind a front
pub field_behind : (front field rest : List ℕ) (at n : ℕ) → length front ≡ at → length field ≡ n → slice_at at n (front ++ (field ++ rest)) ≡ field
unfolding slice_at
field_behind front field rest at n before wide = ap (take n) (drop_at front (field ++ rest) at before) ∙ take_at field rest n wide

-- joined fields stand where they were joined
pub stand_as_joined : (at : ℕ) (fs : List (ℕ × List ℕ)) (bytes front rest : List ℕ) → length front ≡ at → AreWide fs → bytes ≡ joined front fs ++ rest → Stands at fs bytes
stand_as_joined at [] bytes front rest before wide h = tt
stand_as_joined at (f ∷ fs) bytes front rest before wide h =
    let apart : joined (front ++ f.1) fs ≡ front ++ (f.1 ++ joined [] fs) = joined-front (front ++ f.1) fs ∙ append_assoc front f.1 (joined [] fs) in
    let parts : bytes ≡ front ++ (f.1 ++ (joined [] fs ++ rest)) = h ∙ (ap (λ l. l ++ rest) apart ∙ (append_assoc front (f.1 ++ joined [] fs) rest ∙ ap (λ l. front ++ l) (append_assoc f.1 (joined [] fs) rest))) in
    let after : length (front ++ f.1) ≡ at + f.0 = omega (arith, length-append front f.1, before, wide.0) in
    (ap (slice_at at f.0) parts ∙ field_behind front f.1 (joined [] fs ++ rest) at f.0 before wide.0, stand_as_joined (at + f.0) fs bytes (front ++ f.1) rest after wide.1 h)

field_small : (at n : ℕ) (bytes : List ℕ) → IsBytes bytes → IsBytes (slice_at at n bytes)
unfolding slice_at
field_small at n bytes small = IsBytes-take n (drop at bytes) (IsBytes-drop at bytes small)

pub length-field : (at n : ℕ) (bytes : List ℕ) → at + n ≤ length bytes → length (slice_at at n bytes) ≡ n
unfolding slice_at
length-field at n bytes there = omega (arith, length-take n (drop at bytes), length-drop at bytes)

-- a number that is read is spelled so, and is as wide as its field
pub spelled_32 : (at : ℕ) (bytes : List ℕ) → IsBytes bytes → at + 4 ≤ length bytes → slice_at at 4 bytes ≡ to_le_bytes w32 (doc_number w32 at bytes)
unfolding doc_number
spelled_32 at bytes small there = sym (le_bytes_4 (slice_at at 4 bytes) _ (length-field at 4 bytes there) (field_small at 4 bytes small) refl)

pub spelled_64 : (at : ℕ) (bytes : List ℕ) → IsBytes bytes → at + 8 ≤ length bytes → slice_at at 8 bytes ≡ to_le_bytes w64 (doc_number w64 at bytes)
unfolding doc_number
spelled_64 at bytes small there = sym (le_bytes_8 (slice_at at 8 bytes) _ (length-field at 8 bytes there) (field_small at 8 bytes small) refl)

pub below_32 : (at : ℕ) (bytes : List ℕ) → IsBytes bytes → doc_number w32 at bytes < 2 ^ 32
unfolding doc_number
below_32 at bytes small =
    let fits = field_small at 4 bytes small in
    omega (arith, fits 0, fits 1, fits 2, fits 3)

pub below_64 : (at : ℕ) (bytes : List ℕ) → IsBytes bytes → doc_number w64 at bytes < 2 ^ 64
unfolding doc_number
below_64 at bytes small =
    let fits = field_small at 8 bytes small in
    omega (arith, fits 0, fits 1, fits 2, fits 3, fits 4, fits 5, fits 6, fits 7)

-- a number that was written is read
pub number_32_again : (at n : ℕ) (bytes : List ℕ) → n < 2 ^ 32 → slice_at at 4 bytes ≡ to_le_bytes w32 n → doc_number w32 at bytes ≡ n
unfolding doc_number
number_32_again at n bytes fits h = ap (from_le_bytes w32) h ∙ from_le_bytes-to_le_bytes_4 n fits

pub number_64_again : (at n : ℕ) (bytes : List ℕ) → n < 2 ^ 64 → slice_at at 8 bytes ≡ to_le_bytes w64 n → doc_number w64 at bytes ≡ n
unfolding doc_number
number_64_again at n bytes fits h = ap (from_le_bytes w64) h ∙ from_le_bytes-to_le_bytes_8 n fits

-- bytes that are the same in front have the same parts there
pub part_in_front : (extent at n : ℕ) (a b : List ℕ) → at + n ≤ extent → take extent a ≡ take extent b → take n (drop at a) ≡ take n (drop at b)
part_in_front extent at n a b within same =
    let front : take (at + n) a ≡ take (at + n) b = sym (take-take (at + n) extent a within) ∙ (ap (take (at + n)) same ∙ take-take (at + n) extent b within) in
    sym (drop-take at n a) ∙ (ap (drop at) front ∙ drop-take at n b)

pub field_in_front : (extent at n m : ℕ) (a b : List ℕ) → extent ≡ at + m → n ≤ m → take extent a ≡ take extent b → slice_at at n a ≡ slice_at at n b
unfolding slice_at
field_in_front extent at n m a b width fits same = part_in_front extent at n a b (omega (arith, width, fits)) same

pub number_32_in_front : (extent at m : ℕ) (a b : List ℕ) → extent ≡ at + m → 4 ≤ m → take extent a ≡ take extent b → doc_number w32 at a ≡ doc_number w32 at b
unfolding doc_number
number_32_in_front extent at m a b width fits same = ap (from_le_bytes w32) (field_in_front extent at 4 m a b width fits same)

pub number_64_in_front : (extent at m : ℕ) (a b : List ℕ) → extent ≡ at + m → 8 ≤ m → take extent a ≡ take extent b → doc_number w64 at a ≡ doc_number w64 at b
unfolding doc_number
number_64_in_front extent at m a b width fits same = ap (from_le_bytes w64) (field_in_front extent at 8 m a b width fits same)
