-- A segment where one chain and the free list are replaced by lists of the same slots.
use Rattle.std.proofs.Common.{◌≡◌, ◌≢◌, ℕ, ◌+◌, ◌*◌, ◌<◌, ◌≤◌, cond, ltb, List, [], length, get_or, set, refl, sym, ap, subst, ◌∙◌, arith, length-append, length-set, get_or-set_other, get_or-set_same, inl, inr}
use Rattle.std.proofs.lemmas.Bool.{cases_eq, lt-ltb, eq-eqb}
use Rattle.dir_entry.specs.declared.entry.Entry.{Entry}
use Rattle.dir_segment.specs.Lists.{SlotRow, Lists, with_chain}
use Rattle.dir_segment.specs.Links.{IsBucket, IsFreeList, IsSegment, followers, lines, slot_hits, occurrences}
use Rattle.dir_segment.proofs.Counts.{occurrences-append, line_le, lines_le, lines-set, length-lines-set, entry_count-set, entry_count_le, entry_count_at}

pub hit_same : (x : ℕ) → slot_hits x x ≡ 1
hit_same x = rw (eq-eqb x x refl) refl

-- What the new slots and lists must meet.
pub record Moves (slots : List Entry) (head spare taken : ℕ) (buckets : ℕ) (lists : Lists) (b : ℕ) (old : ℕ) (chain : List SlotRow) (free : List ℕ) : Type 0 where
  pub size : length slots ≡ 4 * buckets
  pub bucket : IsBucket slots b chain
  pub others : (k : ℕ) → k ≢ b → k < buckets → IsBucket slots k (get_or lists.chains k [])
  pub links : IsFreeList slots head free
  pub moved : (s : ℕ) → occurrences s free + occurrences s (followers chain) ≡ occurrences s lists.free + occurrences s (followers (get_or lists.chains b []))
  pub as_many : length free + length (followers chain) ≡ length lists.free + length (followers (get_or lists.chains b []))
  pub free_count : spare ≡ length free
  pub used_count : taken + length (get_or lists.chains b []) ≡ old + length chain

module _ (slots : List Entry) (head spare taken buckets : ℕ) (lists : Lists) (h : IsSegment slots head spare taken buckets lists) where
  -- each slot stands in one list
  pub once_at : (x : ℕ) → x < 4 * buckets → occurrences x lists.free + occurrences x (lines 0 lists.chains) ≡ 1
  once_at x lt = sym (occurrences-append x lists.free (lines 0 lists.chains)) ∙ h.once x ∙ ap (λ t. cond t 1 0) (lt-ltb x (4 * buckets) lt)

  at_most : (x : ℕ) → occurrences x lists.free + occurrences x (lines 0 lists.chains) ≤ 1
  at_most x =
      let e : occurrences x lists.free + occurrences x (lines 0 lists.chains) ≡ cond (ltb x (4 * buckets)) 1 0 = sym (occurrences-append x lists.free (lines 0 lists.chains)) ∙ h.once x in
      grind (arith, e)

  -- a slot stands once in a chain and the free list together
  pub own : (x b : ℕ) → b < buckets
      → slot_hits (4 * b) x + occurrences x (followers (get_or lists.chains b [])) + occurrences x lists.free ≤ 1
  own x b lt =
      let e : 0 + b ≡ b = omega arith in
      let le : slot_hits (4 * b) x + occurrences x (followers (get_or lists.chains b [])) ≤ occurrences x (lines 0 lists.chains) =
      subst (λ k. slot_hits (4 * k) x + occurrences x (followers (get_or lists.chains b [])) ≤ occurrences x (lines 0 lists.chains)) e
      (line_le x 0 lists.chains b (omega (arith, h.width))) in
      omega (arith, le, at_most x)

  -- and once in two chains and the free list
  pub pair : (x b k : ℕ) → k ≢ b → b < buckets → k < buckets
      → slot_hits (4 * k) x + occurrences x (followers (get_or lists.chains k [])) + (slot_hits (4 * b) x + occurrences x (followers (get_or lists.chains b []))) + occurrences x lists.free ≤ 1
  pair x b k ne lt lt' =
      let e : 0 + b ≡ b = omega arith in
      let e' : 0 + k ≡ k = omega arith in
      let le = lines_le x 0 lists.chains k b ne (omega (arith, h.width)) (omega (arith, h.width)) in
      let first : slot_hits (4 * (0 + k)) x ≡ slot_hits (4 * k) x = ap (λ n. slot_hits (4 * n) x) e' in
      let second : slot_hits (4 * (0 + b)) x ≡ slot_hits (4 * b) x = ap (λ n. slot_hits (4 * n) x) e in
      omega (arith, le, first, second, at_most x)

  pub taken_le : taken ≤ 4 * buckets
  taken_le = omega (arith, h.used_count, entry_count_le 0 lists.chains, h.total, length-append lists.free (lines 0 lists.chains))

  pub free_le : spare ≤ 4 * buckets
  free_le = omega (arith, h.free_count, h.total, length-append lists.free (lines 0 lists.chains))

  pub chain_le : (b : ℕ) → b < buckets → length (get_or lists.chains b []) ≤ taken
  chain_le b lt = omega (arith, h.used_count, entry_count_at lists.chains b (let l : b < length lists.chains = omega (arith, h.width) in l))

  -- a slot of the free list is in range
  pub free_within : (x : ℕ) → 0 < occurrences x lists.free → x < 4 * buckets
  free_within x some =
      let e : occurrences x lists.free + occurrences x (lines 0 lists.chains) ≡ cond (ltb x (4 * buckets)) 1 0 = sym (occurrences-append x lists.free (lines 0 lists.chains)) ∙ h.once x in
      grind (arith, e)

  -- and so is one of a chain
  pub chain_within : (x b : ℕ) → b < buckets → 0 < occurrences x (followers (get_or lists.chains b [])) → x < 4 * buckets
  chain_within x b lt some =
      let e : occurrences x lists.free + occurrences x (lines 0 lists.chains) ≡ cond (ltb x (4 * buckets)) 1 0 = sym (occurrences-append x lists.free (lines 0 lists.chains)) ∙ h.once x in
      let le = line_le x 0 lists.chains b (let l : b < length lists.chains = omega (arith, h.width) in l) in
      grind (arith, e, le)

  pub moved : (b : ℕ) → b < buckets → (slots' : List Entry) (head' spare' taken' : ℕ) (chain : List SlotRow) (free : List ℕ)
      → Moves slots' head' spare' taken' buckets lists b taken chain free
      → IsSegment slots' head' spare' taken' buckets (with_chain lists b chain free)
  moved b lt slots' head' spare' taken' chain free m =
      let lt' : b < length lists.chains = omega (arith, h.width) in
      record {
        some = h.some;
        few = h.few;
        size = m.size;
        width = length-set lists.chains b chain ∙ h.width;
        chains = λ k below. elim (cases_eq k b) [
          | inl e ↦ subst (λ n. IsBucket slots' n (get_or (set lists.chains b chain) n [])) (sym e) (rw (get_or-set_same lists.chains b chain [] lt') m.bucket)
          | inr ne ↦ rw (get_or-set_other lists.chains b k chain [] ne) (m.others k ne below)
        ];
        free = m.links;
        once = λ s.
            let before : occurrences s lists.free + occurrences s (lines 0 lists.chains) ≡ cond (ltb s (4 * buckets)) 1 0 = sym (occurrences-append s lists.free (lines 0 lists.chains)) ∙ h.once s in
            let after = occurrences-append s free (lines 0 (set lists.chains b chain)) in
            let change = lines-set s 0 lists.chains b chain lt' in
            let both : occurrences s free + occurrences s (lines 0 (set lists.chains b chain)) ≡ occurrences s lists.free + occurrences s (lines 0 lists.chains) = omega (arith, change, m.moved s) in
            after ∙ both ∙ before;
        total = omega (arith, h.total, m.as_many, length-lines-set 0 lists.chains b chain lt', length-append free (lines 0 (set lists.chains b chain)), length-append lists.free (lines 0 lists.chains));
        free_count = m.free_count;
        used_count = omega (arith, m.used_count, h.used_count, entry_count-set lists.chains b chain lt');
      }
