-- A new segment: each slot that is no root is free.
use Rattle.std.proofs.Common.{◌≡◌, ℕ, zero, suc, ◌+◌, ◌*◌, ◌%◌, ◌<◌, ◌≤◌, true, false, cond, ltb, List, [], ◌∷◌, length, get_or, refl, sym, ap, subst, ◌∙◌, arith, length-append}
use Rattle.std.proofs.lemmas.Bool.{lt-ltb, le-ltb}
use Rattle.std.proofs.lemmas.Bool.Decides.{nat_tests}
use Rattle.dir_entry.specs.declared.entry.Entry.{Entry}
use Rattle.dir_segment.specs.Lists.{SlotRow, entry_count, empty_chains, slots_behind_roots, new_lists}
use Rattle.dir_segment.specs.Links.{empty, at, IsBucket, IsFreeList, IsSegment, lines, slot_hits, occurrences, fresh_link}
use Rattle.dir_segment.proofs.Counts.{occurrences-append}

-- the entry of a slot of a new segment
abbrev pub fresh : ℕ → ℕ → Entry
fresh end slot = record empty { next = fresh_link end slot }

abbrev below : ℕ → ℕ → ℕ
below x s = cond (ltb s x) 1 0

one_more : (x s : ℕ) → slot_hits x s + below x s ≡ below (x + 1) s
one_more x s = grind (arith, nat_tests)

next_below : (x y s : ℕ) → y ≡ x + 1 → slot_hits x s + below x s ≡ below y s
next_below x y s e = one_more x s ∙ ap (λ k. below k s) (sym e)

link_root : (end b : ℕ) → fresh_link end (4 * b) ≡ 0
link_root end b = let e : 4 * b % 4 ≡ 0 = omega arith in rw e refl

link_first : (end b : ℕ) → fresh_link end (4 * b + 1) ≡ 4 * b + 2
link_first end b = let e : (4 * b + 1) % 4 ≡ 1 = omega arith in let f : 4 * b + 1 + 1 ≡ 4 * b + 2 = omega arith in rw e f

link_second : (end b : ℕ) → fresh_link end (4 * b + 2) ≡ 4 * b + 3
link_second end b = let e : (4 * b + 2) % 4 ≡ 2 = omega arith in let f : 4 * b + 2 + 1 ≡ 4 * b + 3 = omega arith in rw e f

abbrev start : ℕ → ℕ → ℕ
start b zero = 0
start b (suc n) = 4 * b + 1

link_third : (b n : ℕ) → fresh_link (4 * (b + suc n)) (4 * b + 3) ≡ start (suc b) n
link_third b zero =
    let e : (4 * b + 3) % 4 ≡ 3 = omega arith in
    let f : ltb (4 * b + 3 + 2) (4 * (b + 1)) ≡ false = le-ltb (4 * b + 3 + 2) (4 * (b + 1)) (omega arith) in
    rw (e, f) refl
link_third b (suc n) =
    let e : (4 * b + 3) % 4 ≡ 3 = omega arith in
    let f : ltb (4 * b + 3 + 2) (4 * (b + suc (suc n))) ≡ true = lt-ltb (4 * b + 3 + 2) (4 * (b + suc (suc n))) (omega arith) in
    let g : 4 * b + 3 + 2 ≡ 4 * suc b + 1 = omega arith in
    rw (e, f) g

counted : (b n s : ℕ) → occurrences s (slots_behind_roots b n) + occurrences s (lines b (empty_chains n)) + below (4 * b) s ≡ below (4 * (b + n)) s
counted b zero s = let e : 4 * b ≡ 4 * (b + 0) = omega arith in let same : below (4 * b) s ≡ below (4 * (b + 0)) s = ap (λ k. below k s) e in omega (arith, same)
counted b (suc n) s =
    let e : 4 * (suc b + n) ≡ 4 * (b + suc n) = omega arith in
    let rest : occurrences s (slots_behind_roots (suc b) n) + occurrences s (lines (suc b) (empty_chains n)) + below (4 * suc b) s ≡ below (4 * (b + suc n)) s = counted (suc b) n s ∙ ap (λ k. below k s) e in
    let root : slot_hits (4 * b) s + below (4 * b) s ≡ below (4 * b + 1) s = next_below (4 * b) (4 * b + 1) s refl in
    let first : slot_hits (4 * b + 1) s + below (4 * b + 1) s ≡ below (4 * b + 2) s = next_below (4 * b + 1) (4 * b + 2) s (omega arith) in
    let second : slot_hits (4 * b + 2) s + below (4 * b + 2) s ≡ below (4 * b + 3) s = next_below (4 * b + 2) (4 * b + 3) s (omega arith) in
    let third : slot_hits (4 * b + 3) s + below (4 * b + 3) s ≡ below (4 * suc b) s = next_below (4 * b + 3) (4 * suc b) s (omega arith) in
    omega (arith, rest, root, first, second, third)

free_length : (b n : ℕ) → length (slots_behind_roots b n) ≡ 3 * n
free_length b zero = refl
free_length b (suc n) = omega (arith, free_length (suc b) n)

lines_length : (b n : ℕ) → length (lines b (empty_chains n)) ≡ n
lines_length b zero = refl
lines_length b (suc n) = ap suc (lines_length (suc b) n)

no_entries : (n : ℕ) → entry_count (empty_chains n) ≡ 0
no_entries zero = refl
no_entries (suc n) = omega (arith, no_entries n)

chains_length : (n : ℕ) → length (empty_chains n) ≡ n
chains_length zero = refl
chains_length (suc n) = ap suc (chains_length n)

chain_empty : (n b : ℕ) → get_or (empty_chains n) b [] ≡ []
chain_empty zero b = refl
chain_empty (suc n) zero = refl
chain_empty (suc n) (suc b) = chain_empty n b

module _ (slots : List Entry) (buckets : ℕ) (filled : (k : ℕ) → k < 4 * buckets → at slots k ≡ fresh (4 * buckets) k) where
  free_links : (b n : ℕ) → b + n ≡ buckets → IsFreeList slots (start b n) (slots_behind_roots b n)
  free_links b zero e = refl
  free_links b (suc n) e =
      let end : ℕ = 4 * buckets in
      let later : IsFreeList slots (start (suc b) n) (slots_behind_roots (suc b) n) = free_links (suc b) n (omega arith) in
      let e' : 4 * (b + suc n) ≡ end = ap (λ k. 4 * k) e in
      let link : fresh_link end (4 * b + 3) ≡ start (suc b) n = subst (λ k. fresh_link k (4 * b + 3) ≡ start (suc b) n) e' (link_third b n) in
      let third : IsFreeList slots (4 * b + 3) ((4 * b + 3) ∷ slots_behind_roots (suc b) n) =
      subst (λ (a : Entry). (0 < 4 * b + 3) × (a.offset ≡ 0) × (4 * b + 3 ≡ 4 * b + 3) × IsFreeList slots a.next (slots_behind_roots (suc b) n))
      (sym (filled (4 * b + 3) (omega arith))) (omega arith, refl, refl, subst (λ k. IsFreeList slots k (slots_behind_roots (suc b) n)) (sym link) later) in
      let second : IsFreeList slots (4 * b + 2) ((4 * b + 2) ∷ (4 * b + 3) ∷ slots_behind_roots (suc b) n) =
      subst (λ (a : Entry). (0 < 4 * b + 2) × (a.offset ≡ 0) × (4 * b + 2 ≡ 4 * b + 2) × IsFreeList slots a.next ((4 * b + 3) ∷ slots_behind_roots (suc b) n))
      (sym (filled (4 * b + 2) (omega arith))) (omega arith, refl, refl, subst (λ k. IsFreeList slots k ((4 * b + 3) ∷ slots_behind_roots (suc b) n)) (sym (link_second end b)) third) in
      subst (λ (a : Entry). (0 < 4 * b + 1) × (a.offset ≡ 0) × (4 * b + 1 ≡ 4 * b + 1) × IsFreeList slots a.next ((4 * b + 2) ∷ (4 * b + 3) ∷ slots_behind_roots (suc b) n))
      (sym (filled (4 * b + 1) (omega arith))) (omega arith, refl, refl, subst (λ k. IsFreeList slots k ((4 * b + 2) ∷ (4 * b + 3) ∷ slots_behind_roots (suc b) n)) (sym (link_first end b)) second)

  pub fresh_segment : 0 < buckets → buckets ≤ 16383 → length slots ≡ 4 * buckets → IsSegment slots 1 (3 * buckets) 0 buckets (new_lists buckets)
  fresh_segment some few size = record {
    some = some;
    few = few;
    size = size;
    width = chains_length buckets;
    chains = λ b lt.
        let found : at slots (4 * b) ≡ fresh (4 * buckets) (4 * b) = filled (4 * b) (omega arith) in
        subst (λ (d : List SlotRow). IsBucket slots b d) (sym (chain_empty buckets b))
        (subst (λ (a : Entry). (a.offset ≡ 0) × (a.next ≡ 0)) (sym found) (refl, link_root (4 * buckets) b));
    free = first buckets some (free_links 0 buckets (omega arith));
    once = λ s.
        let e : 4 * (0 + buckets) ≡ 4 * buckets = omega arith in
        let none : below (4 * 0) s ≡ 0 = ap (λ t. cond t 1 0) (le-ltb s 0 (omega arith)) in
        let all = counted 0 buckets s in
        let both : occurrences s (slots_behind_roots 0 buckets) + occurrences s (lines 0 (empty_chains buckets)) ≡ below (4 * (0 + buckets)) s = omega (arith, all, none) in
        occurrences-append s (slots_behind_roots 0 buckets) (lines 0 (empty_chains buckets)) ∙ both ∙ ap (λ k. below k s) e;
    total = omega (arith, length-append (slots_behind_roots 0 buckets) (lines 0 (empty_chains buckets)), free_length 0 buckets, lines_length 0 buckets);
    free_count = sym (free_length 0 buckets);
    used_count = sym (no_entries buckets);
  } where
    first : (n : ℕ) → 0 < n → IsFreeList slots (start 0 n) (slots_behind_roots 0 n) → IsFreeList slots 1 (slots_behind_roots 0 n)
    first zero some' h = absurd (omega arith)
    first (suc n) some' h = h
