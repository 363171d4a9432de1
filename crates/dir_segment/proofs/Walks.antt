-- A walk along the links gives the lists that the slots hold.
use Rattle.std.proofs.Common.{◌≡◌, ◌≢◌, ℕ, zero, suc, ◌+◌, ◌*◌, ◌<◌, ◌≤◌, false, eqb, List, [], ◌∷◌, length, get_or, refl, sym, ap, subst, ◌∙◌, arith, length-append}
use Rattle.std.proofs.lemmas.List.{length-map}
use Rattle.std.proofs.lemmas.Bool.{ne_eqb}
use Rattle.dir_entry.specs.declared.entry.Entry.{Entry}
use Rattle.dir_segment.specs.Lists.{SlotRow, Lists}
use Rattle.dir_segment.specs.Links.{at, IsChain, IsBucket, IsFreeList, IsSegment, followers, lines, rows_linked_from, bucket_rows, chains_from, free_from, lists_of}
use Rattle.dir_segment.proofs.Counts.{length-line_le}

positive : (s : ℕ) → 0 < s → eqb s 0 ≡ false
positive s h = ne_eqb s 0 (let ne : s ≢ 0 = omega arith in ne)

pub rows_from-is : (slots : List Entry) (most s : ℕ) (rows : List SlotRow) → IsChain slots s rows → length rows ≤ most → rows_linked_from slots most s ≡ rows
rows_from-is slots zero s [] h le = refl
rows_from-is slots (suc most) s [] h le = rw h refl
rows_from-is slots zero s (r ∷ rows) h le = absurd (omega arith)
rows_from-is slots (suc most) s (r ∷ rows) h le =
    rw (positive s h.0) (ap (λ (q : SlotRow). q ∷ rows_linked_from slots most (at slots s).next) (sym h.2) ∙ ap (λ qs. r ∷ qs) (rows_from-is slots most _ rows h.3 (omega arith)))

free_from-is : (slots : List Entry) (most s : ℕ) (free : List ℕ) → IsFreeList slots s free → length free ≤ most → free_from slots most s ≡ free
free_from-is slots zero s [] h le = refl
free_from-is slots (suc most) s [] h le = rw h refl
free_from-is slots zero s (f ∷ free) h le = absurd (omega arith)
free_from-is slots (suc most) s (f ∷ free) h le =
    rw (positive s h.0) (ap (λ q. q ∷ free_from slots most (at slots s).next) (sym h.2) ∙ ap (λ qs. f ∷ qs) (free_from-is slots most _ free h.3 (omega arith)))

bucket_rows-is : (slots : List Entry) (b : ℕ) (rows : List SlotRow) → IsBucket slots b rows → length (followers rows) ≤ length slots → bucket_rows slots b ≡ rows
bucket_rows-is slots b [] h le = rw h.0 refl
bucket_rows-is slots b (r ∷ rows) h le =
    rw (positive (at slots (4 * b)).offset h.0)
    (ap (λ (q : SlotRow). q ∷ rows_linked_from slots (length slots) (at slots (4 * b)).next) (sym h.1) ∙ ap (λ qs. r ∷ qs) (rows_from-is slots (length slots) _ rows h.2 (omega (arith, le, length-map rows (λ (q : SlotRow). q.slot)))))

chains_from-is : (slots : List Entry) (b : ℕ) (chains : List (List SlotRow)) (n : ℕ) → length chains ≡ n
    → ((j : ℕ) → j < n → bucket_rows slots (b + j) ≡ get_or chains j []) → chains_from slots b n ≡ chains
chains_from-is slots b [] zero len each = refl
chains_from-is slots b [] (suc n) len each = absurd (omega arith)
chains_from-is slots b (c ∷ chains) zero len each = absurd (omega arith)
chains_from-is slots b (c ∷ chains) (suc n) len each =
    let first : bucket_rows slots b ≡ c = subst (λ k. bucket_rows slots k ≡ c) (let e : b + 0 ≡ b = omega arith in e) (each 0 (omega arith)) in
    let rest : chains_from slots (suc b) n ≡ chains =
    chains_from-is slots (suc b) chains n (omega arith)
    (λ j lt. subst (λ k. bucket_rows slots k ≡ get_or chains j []) (let e : b + suc j ≡ suc b + j = omega arith in e) (each (suc j) (omega arith))) in
    ap (λ (q : List SlotRow). q ∷ chains_from slots (suc b) n) first ∙ ap (λ (qs : List (List SlotRow)). c ∷ qs) rest

pub lists_of-is : (slots : List Entry) (head spare taken buckets : ℕ) (lists : Lists) → IsSegment slots head spare taken buckets lists → lists_of slots head buckets ≡ lists
unfolding lists_of
lists_of-is slots head spare taken buckets lists h =
    let all = length-append lists.free (lines 0 lists.chains) in
    let chains : chains_from slots 0 buckets ≡ lists.chains =
    chains_from-is slots 0 lists.chains buckets h.width
    (λ j lt. let e : 0 + j ≡ j = omega arith in
    subst (λ k. bucket_rows slots k ≡ get_or lists.chains j []) (sym e)
    (bucket_rows-is slots j (get_or lists.chains j []) (h.chains j lt)
    (omega (arith, h.size, h.total, h.width, all, length-line_le 0 lists.chains j (let l : j < length lists.chains = omega (arith, h.width) in l))))) in
    let free : free_from slots (length slots) head ≡ lists.free = free_from-is slots (length slots) head lists.free h.free (omega (arith, h.size, h.total, all)) in
    λ i. record { chains = chains i; free = free i }

pub own_lists : (slots : List Entry) (head spare taken buckets : ℕ) (lists : Lists) → IsSegment slots head spare taken buckets lists
    → IsSegment slots head spare taken buckets (lists_of slots head buckets)
own_lists slots head spare taken buckets lists h =
    subst (λ (l : Lists). IsSegment slots head spare taken buckets l) (sym (lists_of-is slots head spare taken buckets lists h)) h

pub seen : (slots : List Entry) (head spare taken buckets : ℕ) (lists : Lists) → lists_of slots head buckets ≡ lists
    → IsSegment slots head spare taken buckets (lists_of slots head buckets) → IsSegment slots head spare taken buckets lists
seen slots head spare taken buckets lists e h = subst (λ (l : Lists). IsSegment slots head spare taken buckets l) e h

length-chains_from : (slots : List Entry) (bucket buckets : ℕ) → length (chains_from slots bucket buckets) ≡ buckets
length-chains_from slots bucket zero = refl
length-chains_from slots bucket (suc buckets) = ap suc (length-chains_from slots (suc bucket) buckets)

pub length-lists_of : (slots : List Entry) (head buckets : ℕ) → length (lists_of slots head buckets).chains ≡ buckets
unfolding lists_of
length-lists_of slots head buckets = length-chains_from slots 0 buckets
