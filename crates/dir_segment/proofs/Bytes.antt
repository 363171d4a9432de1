-- The entries that bytes spell, ten bytes each.
use Rattle.std.proofs.Common.{◌≡◌, ℕ, zero, suc, ◌+◌, ◌-◌, ◌*◌, ◌/◌, ◌^◌, ◌<◌, List, [], ◌∷◌, ◌++◌, length, get_or, map, take, drop, refl, sym, ap, ◌∙◌, arith, length-append, append_assoc}
use Rattle.std.specs.List.{flat_map}
use Rattle.std.specs.Int.{w16, from_le_bytes, to_le_bytes}
use Rattle.std.proofs.lemmas.Nat.{from_le_bytes-to_le_bytes_2}
use Rattle.std.proofs.lemmas.Slice.{take-put_mid}
use borrow.Rule.Slice.PartMut.{put_mid, post_of}
use Rattle.std.proofs.lemmas.List.{take_at, drop_at, map_push, append-nil, drop_all, length-drop, take_all}
use Rattle.dir_entry.specs.declared.entry.Entry.{Entry}
use Rattle.dir_entry.specs.Layout.{entry_of_bytes, bytes_of_entry}
use Rattle.dir_segment.specs.Image.{entries_in_bytes, image_head, image_count, image_slots, image_lists, image_walk, walk_all}
use Rattle.dir_segment.specs.Links.{lists_of}

pub one_read : (packed : List (List ℕ)) (ten : List ℕ) (packed' : List (List ℕ)) (rest after : List ℕ) (whole : List Entry)
    → packed' ≡ packed ++ ten ∷ [] → ten ≡ take 10 rest → after ≡ drop 10 rest → length after + 10 ≡ length rest
    → map entry_of_bytes packed ++ entries_in_bytes (length rest / 10) rest ≡ whole
    → map entry_of_bytes packed' ++ entries_in_bytes (length after / 10) after ≡ whole
one_read packed ten packed' rest after whole pushed front back long so_far =
    let count : length rest / 10 ≡ suc (length after / 10) = omega arith in
    let step : entries_in_bytes (length rest / 10) rest ≡ entry_of_bytes ten ∷ entries_in_bytes (length after / 10) after =
    ap (λ k. entries_in_bytes k rest) count ∙ (λ i. entry_of_bytes (sym front i) ∷ entries_in_bytes (length after / 10) (sym back i)) in
    let more : map entry_of_bytes packed' ≡ map entry_of_bytes packed ++ entry_of_bytes ten ∷ [] = ap (map entry_of_bytes) pushed ∙ map_push entry_of_bytes packed ten in
    ap (λ (q : List Entry). q ++ entries_in_bytes (length after / 10) after) more
    ∙ append_assoc (map entry_of_bytes packed) (entry_of_bytes ten ∷ []) (entries_in_bytes (length after / 10) after)
    ∙ ap (λ (q : List Entry). map entry_of_bytes packed ++ q) (sym step) ∙ so_far

pub flattened : (packed : List (List ℕ)) → ((i : ℕ) → i < length packed → length (get_or packed i []) ≡ 10) → entries_in_bytes (length packed) (flat_map (λ x. x) packed) ≡ map entry_of_bytes packed
flattened [] tens = refl
flattened (p ∷ packed) tens =
    let ten : length p ≡ 10 = tens 0 (omega arith) in
    let rest : entries_in_bytes (length packed) (flat_map (λ x. x) packed) ≡ map entry_of_bytes packed = flattened packed (λ i lt. tens (suc i) (omega arith)) in
    λ j. entry_of_bytes (take_at p (flat_map (λ x. x) packed) 10 ten j) ∷ (ap (entries_in_bytes (length packed)) (drop_at p (flat_map (λ x. x) packed) 10 ten) ∙ rest) j

pub ten_bytes : (e : Entry) → length (bytes_of_entry e) ≡ 10
unfolding bytes_of_entry
ten_bytes e = refl

-- the two numbers and the entries, written one after another
pub joined : (into front middle rest : List ℕ) (n k : ℕ) → length into ≡ 4 + n → length front ≡ 2 → length middle ≡ 2 → length rest ≡ n
    → k ≡ length (put_mid 2 2 (front ++ post_of 0 2 into) middle) - 4
    → put_mid 4 k (put_mid 2 2 (front ++ post_of 0 2 into) middle) rest ≡ front ++ (middle ++ rest)
joined into front middle rest n k whole two two' long k-is =
    let first : List ℕ = front ++ post_of 0 2 into in
    let second : List ℕ = put_mid 2 2 first middle in
    let front-is : take 2 first ≡ front = take_at front (post_of 0 2 into) 2 two in
    let long1 : length first ≡ 2 + length (post_of 0 2 into) = omega (arith, length-append front (post_of 0 2 into), two) in
    let upto : take 4 second ≡ take 2 first ++ middle = take-put_mid 2 2 first middle 4 (omega (arith, two')) (omega (arith, long1)) in
    let nothing : post_of 4 k second ≡ [] = drop_all k (drop 4 second) (omega (arith, length-drop 4 second, k-is)) in
    let parts : put_mid 4 k second rest ≡ (take 2 first ++ middle) ++ (rest ++ []) = λ i. upto i ++ (rest ++ nothing i) in
    parts ∙ (λ i. (front-is i ++ middle) ++ append-nil rest i) ∙ append_assoc front middle rest

pub written : (front middle rest : List ℕ) (head buckets : ℕ) (slots : List Entry) → front ≡ to_le_bytes w16 head → head < 2 ^ 16 → length front ≡ 2 → length middle ≡ 2
    → entries_in_bytes (4 * buckets) rest ≡ slots → image_lists buckets (front ++ (middle ++ rest)) ≡ lists_of slots head buckets
written front middle rest head buckets slots front-is small two two' spelled =
    let head-is : image_head (front ++ (middle ++ rest)) ≡ head =
    ap (from_le_bytes w16) (take_at front (middle ++ rest) 2 two) ∙ ap (from_le_bytes w16) front-is ∙ from_le_bytes-to_le_bytes_2 head small in
    let long : length (front ++ middle) ≡ 4 = omega (arith, length-append front middle, two, two') in
    let behind : drop 4 (front ++ (middle ++ rest)) ≡ rest = ap (drop 4) (sym (append_assoc front middle rest)) ∙ drop_at (front ++ middle) rest 4 long in
    let slots-are : image_slots buckets (front ++ (middle ++ rest)) ≡ slots = ap (entries_in_bytes (4 * buckets)) behind ∙ spelled in
    λ i. lists_of (slots-are i) (head-is i) buckets

pub read_head : (bytes : List ℕ) → get_or bytes 0 0 + get_or bytes 1 0 * 256 ≡ image_head bytes
read_head [] = refl
read_head (a ∷ []) = refl
read_head (a ∷ b ∷ bytes) = refl

pub read_count : (bytes : List ℕ) → get_or bytes 2 0 + get_or bytes 3 0 * 256 ≡ image_count bytes
read_count [] = refl
read_count (a ∷ []) = refl
read_count (a ∷ b ∷ []) = refl
read_count (a ∷ b ∷ c ∷ []) = refl
read_count (a ∷ b ∷ c ∷ d ∷ bytes) = refl

length-entries_of : (count : ℕ) (bytes : List ℕ) → length (entries_in_bytes count bytes) ≡ count
length-entries_of zero bytes = refl
length-entries_of (suc count) bytes = ap suc (length-entries_of count (drop 10 bytes))

pub read_slots : (bytes part : List ℕ) (buckets : ℕ) → length bytes ≡ 4 + 40 * buckets → part ≡ take (length bytes - 4) (drop 4 bytes)
    → entries_in_bytes (length part / 10) part ≡ image_slots buckets bytes
read_slots bytes part buckets len is =
    let all : part ≡ drop 4 bytes = is ∙ take_all (length bytes - 4) (drop 4 bytes) (omega (arith, length-drop 4 bytes)) in
    let long : length part ≡ 40 * buckets = ap (λ (q : List ℕ). length q) all ∙ omega (arith, length-drop 4 bytes, len) in
    let count : length part / 10 ≡ 4 * buckets = omega (arith, long) in
    λ i. entries_in_bytes (count i) (all i)

pub length-image : (buckets : ℕ) (bytes : List ℕ) → length (image_slots buckets bytes) ≡ 4 * buckets
length-image buckets bytes = length-entries_of (4 * buckets) (drop 4 bytes)

pub same_walk : (slots : List Entry) (head count buckets : ℕ) (bytes : List ℕ) → slots ≡ image_slots buckets bytes → head ≡ image_head bytes → count ≡ image_count bytes
    → walk_all slots head count buckets ≡ image_walk buckets bytes
unfolding image_walk
same_walk slots head count buckets bytes slots-are head-is count-is = λ i. walk_all (slots-are i) (head-is i) (count-is i) buckets

pub written_walk : (front middle rest : List ℕ) (head count buckets : ℕ) (slots : List Entry) → front ≡ to_le_bytes w16 head → head < 2 ^ 16 → middle ≡ to_le_bytes w16 count → count < 2 ^ 16
    → length front ≡ 2 → length middle ≡ 2 → entries_in_bytes (4 * buckets) rest ≡ slots → walk_all slots head count buckets ≡ image_walk buckets (front ++ (middle ++ rest))
written_walk front middle rest head count buckets slots front-is small middle-is small' two two' spelled =
    let bytes : List ℕ = front ++ (middle ++ rest) in
    let head-is : image_head bytes ≡ head =
    ap (from_le_bytes w16) (take_at front (middle ++ rest) 2 two) ∙ ap (from_le_bytes w16) front-is ∙ from_le_bytes-to_le_bytes_2 head small in
    let count-is : image_count bytes ≡ count =
    ap (λ (q : List ℕ). from_le_bytes w16 (take 2 q)) (drop_at front (middle ++ rest) 2 two) ∙ ap (from_le_bytes w16) (take_at middle rest 2 two') ∙ ap (from_le_bytes w16) middle-is ∙ from_le_bytes-to_le_bytes_2 count small' in
    let long : length (front ++ middle) ≡ 4 = omega (arith, length-append front middle, two, two') in
    let behind : drop 4 bytes ≡ rest = ap (drop 4) (sym (append_assoc front middle rest)) ∙ drop_at (front ++ middle) rest 4 long in
    let slots-are : image_slots buckets bytes ≡ slots = ap (entries_in_bytes (4 * buckets)) behind ∙ spelled in
    same_walk slots head count buckets bytes (sym slots-are) (sym head-is) (sym count-is)
