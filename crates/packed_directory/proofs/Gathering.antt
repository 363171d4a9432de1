-- The entries of all buckets where those of one bucket change.
use Rattle.std.proofs.Common.{◌≡◌, ◌≢◌, ℕ, zero, suc, ◌+◌, ◌<◌, List, [], ◌∷◌, ◌++◌, length, get_or, map, refl, sym, ap, subst, ◌∙◌, arith}
use Rattle.std.specs.List.Sorted.{IsPermutation}
use Rattle.std.proofs.lemmas.List.Sorted.{IsPermutation-refl, IsPermutation-sym, IsPermutation-trans, IsPermutation-middle, IsPermutation-append_left, IsPermutation-append_right, IsPermutation-map}
use Rattle.dir_entry.specs.declared.entry.Entry.{Entry}
use Rattle.dir_segment.specs.Lists.{SlotRow, Lists}
use Rattle.dir_segment.specs.Entries.{Housed, housed, with_entry_behind_root, SetsEntries, bucket_entries}
use Rattle.packed_directory.specs.Entering.{BucketEntry, entries_from}

abbrev pub entries_of : List SlotRow → List Entry
entries_of = map (λ (r : SlotRow). r.entry)

abbrev pub in_bucket : ℕ → Entry → BucketEntry
in_bucket b e = record { bucket = b; entry = e }

abbrev entry_of : Housed → BucketEntry
entry_of h = record { bucket = h.bucket; entry = h.row.entry }

pub entries-cons : (b : ℕ) (c : List SlotRow) (cs : List (List SlotRow)) → entries_from b (c ∷ cs) ≡ map (in_bucket b) (entries_of c) ++ entries_from (suc b) cs
entries-cons b c cs = go c where
  go : (rows : List SlotRow) → map entry_of (map (λ (r : SlotRow). record { bucket = b; row = r }) rows ++ housed (suc b) cs) ≡ map (in_bucket b) (entries_of rows) ++ entries_from (suc b) cs
  go [] = refl
  go (r ∷ rows) = ap (λ (q : List BucketEntry). in_bucket b r.entry ∷ q) (go rows)

-- chains with the same entries
pub entries_same : (b : ℕ) (cs ds : List (List SlotRow)) → length ds ≡ length cs → ((j : ℕ) → entries_of (get_or ds j []) ≡ entries_of (get_or cs j [])) → entries_from b cs ≡ entries_from b ds
entries_same b [] [] long each = refl
entries_same b [] (d ∷ ds) long each = absurd (omega (arith, long))
entries_same b (c ∷ cs) [] long each = absurd (omega (arith, long))
entries_same b (c ∷ cs) (d ∷ ds) long each =
    entries-cons b c cs
    ∙ (λ i. map (in_bucket b) (sym (each 0) i) ++ entries_same (suc b) cs ds (omega (arith, long)) (λ j. each (suc j)) i)
    ∙ sym (entries-cons b d ds)

-- one bucket has one entry more
pub one_more : (b k : ℕ) (e : Entry) (cs ds : List (List SlotRow)) → length ds ≡ length cs → k < length cs
    → IsPermutation (e ∷ entries_of (get_or cs k [])) (entries_of (get_or ds k []))
    → ((j : ℕ) → j ≢ k → entries_of (get_or ds j []) ≡ entries_of (get_or cs j []))
    → IsPermutation (in_bucket (b + k) e ∷ entries_from b cs) (entries_from b ds)
one_more b k e [] ds long lt more others = absurd (omega (arith, lt))
one_more b k e (c ∷ cs) [] long lt more others = absurd (omega (arith, long))
one_more b zero e (c ∷ cs) (d ∷ ds) long lt more others =
    let rest : entries_from (suc b) cs ≡ entries_from (suc b) ds = entries_same (suc b) cs ds (omega (arith, long)) (λ j. others (suc j) (omega arith)) in
    let here : IsPermutation (map (in_bucket b) (e ∷ entries_of c)) (map (in_bucket b) (entries_of d)) = IsPermutation-map (in_bucket b) (e ∷ entries_of c) (entries_of d) more in
    let both : IsPermutation (in_bucket b e ∷ (map (in_bucket b) (entries_of c) ++ entries_from (suc b) cs)) (map (in_bucket b) (entries_of d) ++ entries_from (suc b) cs) =
    IsPermutation-append_left (entries_from (suc b) cs) (map (in_bucket b) (e ∷ entries_of c)) (map (in_bucket b) (entries_of d)) here in
    let place : b ≡ b + 0 = omega arith in
    let made : IsPermutation (in_bucket b e ∷ entries_from b (c ∷ cs)) (entries_from b (d ∷ ds)) =
    subst (λ (q : List BucketEntry). IsPermutation (in_bucket b e ∷ q) (entries_from b (d ∷ ds))) (sym (entries-cons b c cs))
    (subst (λ (q : List BucketEntry). IsPermutation (in_bucket b e ∷ (map (in_bucket b) (entries_of c) ++ entries_from (suc b) cs)) q) (sym (entries-cons b d ds))
    (subst (λ (q : List BucketEntry). IsPermutation (in_bucket b e ∷ (map (in_bucket b) (entries_of c) ++ entries_from (suc b) cs)) (map (in_bucket b) (entries_of d) ++ q)) rest both)) in
    subst (λ n. IsPermutation (in_bucket n e ∷ entries_from b (c ∷ cs)) (entries_from b (d ∷ ds))) place made
one_more b (suc k) e (c ∷ cs) (d ∷ ds) long lt more others =
    let same : entries_of d ≡ entries_of c = others 0 (omega arith) in
    let rest : IsPermutation (in_bucket (suc b + k) e ∷ entries_from (suc b) cs) (entries_from (suc b) ds) =
    one_more (suc b) k e cs ds (omega (arith, long)) (omega (arith, lt)) more (λ j ne. others (suc j) (λ q. ne (let p : j ≡ k = omega (arith, q) in p))) in
    let place : suc b + k ≡ b + suc k = omega arith in
    let it : BucketEntry = in_bucket (suc b + k) e in
    let front : List BucketEntry = map (in_bucket b) (entries_of c) in
    let all : IsPermutation (it ∷ (front ++ entries_from (suc b) cs)) (front ++ entries_from (suc b) ds) =
    IsPermutation-trans (it ∷ (front ++ entries_from (suc b) cs)) (front ++ it ∷ entries_from (suc b) cs) (front ++ entries_from (suc b) ds)
    (IsPermutation-sym (front ++ it ∷ entries_from (suc b) cs) (it ∷ (front ++ entries_from (suc b) cs)) (IsPermutation-middle front it (entries_from (suc b) cs)))
    (IsPermutation-append_right front (it ∷ entries_from (suc b) cs) (entries_from (suc b) ds) rest) in
    let right : front ++ entries_from (suc b) ds ≡ entries_from b (d ∷ ds) = (λ i. map (in_bucket b) (sym same i) ++ entries_from (suc b) ds) ∙ sym (entries-cons b d ds) in
    let made : IsPermutation (it ∷ entries_from b (c ∷ cs)) (entries_from b (d ∷ ds)) =
    subst (λ (q : List BucketEntry). IsPermutation (it ∷ q) (entries_from b (d ∷ ds))) (sym (entries-cons b c cs))
    (subst (λ (q : List BucketEntry). IsPermutation (it ∷ (front ++ entries_from (suc b) cs)) q) right all) in
    subst (λ n. IsPermutation (in_bucket n e ∷ entries_from b (c ∷ cs)) (entries_from b (d ∷ ds))) place made

with_entry_more : (e : Entry) (entries : List Entry) → IsPermutation (e ∷ entries) (with_entry_behind_root e entries)
with_entry_more e [] = IsPermutation-refl (e ∷ [])
with_entry_more e (root ∷ rest) = IsPermutation-sym (root ∷ e ∷ rest) (e ∷ root ∷ rest) (IsPermutation-middle (root ∷ []) e rest)

pub entered_more : (lists new : Lists) (b : ℕ) (e : Entry) → b < length lists.chains → SetsEntries b (with_entry_behind_root e (bucket_entries lists b)) lists new
    → IsPermutation (in_bucket b e ∷ entries_from 0 lists.chains) (entries_from 0 new.chains)
entered_more lists new b e lt set =
    let place : 0 + b ≡ b = omega arith in
    subst (λ n. IsPermutation (in_bucket n e ∷ entries_from 0 lists.chains) (entries_from 0 new.chains)) place
    (one_more 0 b e lists.chains new.chains set.width lt
    (subst (λ (q : List Entry). IsPermutation (e ∷ bucket_entries lists b) q) (sym set.here) (with_entry_more e (bucket_entries lists b)))
    set.others)
