-- What an insert leaves.
use Rattle.std.proofs.Common.{◌≡◌, ◌≢◌, ℕ, ◌+◌, ◌-◌, ◌*◌, ◌^◌, ◌<◌, ◌≤◌, inl, inr, List, [], ◌∷◌, length, get_or, set, map, refl, sym, ap, subst, ◌∙◌, arith, length-set, get_or-set_other, get_or-set_same}
use Rattle.std.proofs.lemmas.Bool.{cases_lt}
use Rattle.dir_entry.specs.declared.entry.Entry.{Entry}
use Rattle.dir_segment.specs.Lists.{SlotRow, Lists, row, with_chain, inserted, insert_at, IsFull}
use Rattle.dir_segment.specs.Links.{empty, at, IsChain, IsBucket, IsFreeList, IsSegment, slot_hits, occurrences}
use Rattle.dir_segment.proofs.Counts.{missed}
use Rattle.dir_segment.proofs.Frames.{frame_chain, frame_bucket, frame_free}
use Rattle.dir_segment.proofs.Moves.{hit_same, own, pair, free_within, moved}

module _ (slots : List Entry) (head spare taken buckets : ℕ) (lists : Lists) (h : IsSegment slots head spare taken buckets lists) (b : ℕ) (lt : b < buckets) where
  -- an empty root is an empty chain
  pub chain_empty : (at slots (4 * b)).offset ≡ 0 → get_or lists.chains b [] ≡ []
  chain_empty none = go (get_or lists.chains b []) (h.chains b lt) where
    go : (c : List SlotRow) → IsBucket slots b c → c ≡ []
    go [] k = refl
    go (r ∷ rows) k = absurd (omega (arith, k.0, none))

  pub chain_used : 0 < (at slots (4 * b)).offset
      → (rows : List SlotRow) × (get_or lists.chains b [] ≡ row (4 * b) (at slots (4 * b)) ∷ rows)
      × IsChain slots (at slots (4 * b)).next rows
  chain_used some = go (get_or lists.chains b []) (h.chains b lt) where
    go : (c : List SlotRow) → IsBucket slots b c → (rows : List SlotRow) × (c ≡ row (4 * b) (at slots (4 * b)) ∷ rows) × IsChain slots (at slots (4 * b)).next rows
    go [] k = absurd (omega (arith, k.0, some))
    go (r ∷ rows) k = (rows, ap (λ (q : SlotRow). q ∷ rows) k.1, k.2)

  root_within : 4 * b < length slots
  root_within = omega (arith, h.size)

  insert_empty : (e : Entry) → 0 < e.offset → get_or lists.chains b [] ≡ []
      → IsSegment (set slots (4 * b) (record e { next = 0 })) head spare (taken + 1) buckets (with_chain lists b (row (4 * b) e ∷ []) lists.free)
  insert_empty e some none =
      let new : Entry = record e { next = 0 } in
      let same : at (set slots (4 * b) new) (4 * b) ≡ new = get_or-set_same slots (4 * b) new empty root_within in
      let hits = hit_same (4 * b) in
      let alone = own slots head spare taken buckets lists h (4 * b) b lt in
      moved slots head spare taken buckets lists h b lt (set slots (4 * b) new) head spare (taken + 1) (row (4 * b) e ∷ []) lists.free (record {
        size = length-set slots (4 * b) new ∙ h.size;
        bucket = subst (λ (a : Entry). (0 < a.offset) × (row (4 * b) e ≡ row (4 * b) a) × (a.next ≡ 0)) (sym same) (some, refl, refl);
        others = λ k ne below. frame_bucket slots (4 * b) new k (get_or lists.chains k []) (h.chains k below)
            (omega (arith, hits, pair slots head spare taken buckets lists h (4 * b) b k ne lt below));
        links = frame_free slots (4 * b) new head lists.free h.free (omega (arith, hits, alone));
        moved = λ s. rw none refl;
        as_many = rw none refl;
        free_count = h.free_count;
        used_count = rw none (omega arith);
      })

  insert_behind : (e : Entry) → 0 < e.offset → (rows : List SlotRow) → get_or lists.chains b [] ≡ row (4 * b) (at slots (4 * b)) ∷ rows
      → 0 < (at slots (4 * b)).offset → IsChain slots (at slots (4 * b)).next rows → (f : ℕ) (free : List ℕ) → lists.free ≡ f ∷ free
      → IsSegment (set (set slots f (record e { next = (at slots (4 * b)).next })) (4 * b) (record (at slots (4 * b)) { next = f }))
      (at slots f).next (spare - 1) (taken + 1) buckets (with_chain lists b (row (4 * b) (at slots (4 * b)) ∷ row f e ∷ rows) free)
  insert_behind e some rows is used chain f free left =
      let root : Entry = at slots (4 * b) in
      let new : Entry = record e { next = root.next } in
      let head' : Entry = record root { next = f } in
      let half : List Entry = set slots f new in
      let slots' : List Entry = set half (4 * b) head' in
      let links : IsFreeList slots head (f ∷ free) = subst (λ (l : List ℕ). IsFreeList slots head l) left h.free in
      let f-is : f ≡ head = links.2 in
      let hits = hit_same (4 * b) in
      let hits' = hit_same f in
      let root_own : slot_hits (4 * b) (4 * b) + occurrences (4 * b) (map (λ (q : SlotRow). q.slot) rows) + (slot_hits f (4 * b) + occurrences (4 * b) free) ≤ 1 =
      rw (is, left) at (own slots head spare taken buckets lists h (4 * b) b lt) in
      let free_own : slot_hits (4 * b) f + occurrences f (map (λ (q : SlotRow). q.slot) rows) + (slot_hits f f + occurrences f free) ≤ 1 =
      rw (is, left) at (own slots head spare taken buckets lists h f b lt) in
      let within : f < 4 * buckets = free_within slots head spare taken buckets lists h f (rw left (omega (arith, hits'))) in
      let apart : slot_hits (4 * b) f ≡ 0 = omega (arith, hits', free_own) in
      let ne : 4 * b ≢ f = missed (4 * b) f apart in
      let ne' : f ≢ 4 * b = λ q. ne (sym q) in
      let in-half : 4 * b < length half = omega (arith, length-set slots f new, root_within) in
      let at-root : at slots' (4 * b) ≡ head' = get_or-set_same half (4 * b) head' empty in-half in
      let at-new : at slots' f ≡ new =
      get_or-set_other half (4 * b) f head' empty ne' ∙ get_or-set_same slots f new empty (omega (arith, within, h.size)) in
      let at-next : at slots' f ≡ at slots' f = refl in
      let rest : IsChain slots' root.next rows =
      frame_chain half (4 * b) head' root.next rows (frame_chain slots f new root.next rows chain (omega (arith, hits', free_own))) (omega (arith, hits, root_own)) in
      let second : IsChain slots' f (row f e ∷ rows) =
      subst (λ (a : Entry). (0 < f) × (0 < a.offset) × (row f e ≡ row f a) × IsChain slots' a.next rows) (sym at-new) ((rw f-is links.0), some, refl, rest) in
      moved slots head spare taken buckets lists h b lt slots' (at slots f).next (spare - 1) (taken + 1) (row (4 * b) root ∷ row f e ∷ rows) free (record {
        size = length-set half (4 * b) head' ∙ length-set slots f new ∙ h.size;
        bucket = subst (λ (a : Entry). (0 < a.offset) × (row (4 * b) root ≡ row (4 * b) a) × IsChain slots' a.next (row f e ∷ rows)) (sym at-root) (used, refl, second);
        others = λ k other below.
            let two = pair slots head spare taken buckets lists h (4 * b) b k other lt below in
            let two' = pair slots head spare taken buckets lists h f b k other lt below in
            let some' : 0 < occurrences f lists.free = rw left (omega (arith, hits')) in
            frame_bucket half (4 * b) head' k (get_or lists.chains k []) (frame_bucket slots f new k (get_or lists.chains k []) (h.chains k below) (omega (arith, two', some')))
            (omega (arith, hits, two));
        links = frame_free half (4 * b) head' (at slots f).next free (frame_free slots f new (at slots f).next free (rw f-is links.3) (omega (arith, hits', free_own))) (omega (arith, hits, root_own));
        moved = λ s. rw (is, left) (omega arith);
        as_many = rw (is, left) (omega arith);
        free_count = omega (arith, h.free_count, ap (λ (l : List ℕ). length l) left);
        used_count = rw is (omega arith);
      })

  -- the same, by what the calls gave
  pub inserted_root : (e : Entry) → 0 < e.offset → (p : ℕ) → p ≡ 4 * b → (root : Entry) → root ≡ at slots p → root.offset ≡ 0
      → (slots' : List Entry) → slots' ≡ set slots p (record e { next = 0 })
      → IsSegment slots' head spare (taken + 1) buckets (inserted lists b e)
  inserted_root e some p place root found none slots' written =
      let empty_root : (at slots (4 * b)).offset ≡ 0 = rw (← place, ← found) none in
      let no_chain = chain_empty empty_root in
      rw (written, place) (subst (λ (c : List SlotRow). IsSegment (set slots (4 * b) (record e { next = 0 })) head spare (taken + 1) buckets (insert_at lists b e c lists.free)) (sym no_chain) (insert_empty e some no_chain))

  free_head : 0 < head → (free : List ℕ) × (lists.free ≡ head ∷ free)
  free_head some = go lists.free h.free where
    go : (l : List ℕ) → IsFreeList slots head l → (free : List ℕ) × (l ≡ head ∷ free)
    go [] k = absurd (omega (arith, k, some))
    go (f ∷ free) k = (free, ap (λ (x : ℕ). x ∷ free) k.2)

  pub head_within : 0 < head → head < length slots
  head_within some =
      let left = free_head some in
      let hits = hit_same head in
      let one : 0 < occurrences head lists.free = rw left.1 (omega (arith, hits)) in
      omega (arith, free_within slots head spare taken buckets lists h head one, h.size)

  pub inserted_behind : (e : Entry) → 0 < e.offset → (p : ℕ) → p ≡ 4 * b → (root : Entry) → root ≡ at slots p → root.offset ≢ 0 → head ≢ 0
      → (old : Entry) → old ≡ at slots head → (half : List Entry) → half ≡ set slots head (record e { next = root.next })
      → (slots' : List Entry) → slots' ≡ set half p (record root { next = head })
      → IsSegment slots' old.next (spare - 1) (taken + 1) buckets (inserted lists b e)
  inserted_behind e some p place root found used left old taken_from half first slots' second =
      let root-is : root ≡ at slots (4 * b) = found ∙ ap (at slots) place in
      let used' : 0 < (at slots (4 * b)).offset = rw (← root-is) (omega (arith, used)) in
      let some_left : 0 < head = omega (arith, left) in
      let chain = chain_used used' in
      let free = free_head some_left in
      let there = insert_behind e some chain.0 chain.1 used' chain.2 head free.0 free.1 in
      let root' : Entry = at slots (4 * b) in
      let new : List Entry = set (set slots head (record e { next = root'.next })) (4 * b) (record root' { next = head }) in
      let made : (c : List SlotRow) (f : List ℕ) → Lists = λ c f. insert_at lists b e c f in
      let by_free = subst (λ (f : List ℕ). IsSegment new (at slots head).next (spare - 1) (taken + 1) buckets (made (row (4 * b) root' ∷ chain.0) f)) (sym free.1) there in
      let by_chain = subst (λ (c : List SlotRow). IsSegment new (at slots head).next (spare - 1) (taken + 1) buckets (made c lists.free)) (sym chain.1) by_free in
      rw (taken_from, second, first, place, root-is) by_chain

  pub is_full : (p : ℕ) → p ≡ 4 * b → (root : Entry) → root ≡ at slots p → root.offset ≢ 0 → head ≡ 0 → IsFull lists b
  is_full p place root found used none =
      let root-is : root ≡ at slots (4 * b) = found ∙ ap (at slots) place in
      let used' : 0 < (at slots (4 * b)).offset = rw (← root-is) (omega (arith, used)) in
      let chain = chain_used used' in
      ((λ q. let e : row (4 * b) (at slots (4 * b)) ∷ chain.0 ≡ [] = sym chain.1 ∙ q in cc e), go lists.free h.free) where
        go : (l : List ℕ) → IsFreeList slots head l → l ≡ []
        go [] k = refl
        go (f ∷ free) k = absurd (omega (arith, k.0, none))

pub head_small : (slots : List Entry) (head spare taken buckets : ℕ) (lists : Lists) → IsSegment slots head spare taken buckets lists → head < 2 ^ 16
head_small slots head spare taken buckets lists h =
    elim (cases_lt 0 head) [
      | inl some ↦
          let within = head_within slots head spare taken buckets lists h 0 h.some some in
          omega (arith, within, h.size, h.few)
      | inr none ↦ omega arith
    ]
