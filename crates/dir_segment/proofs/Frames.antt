-- A list stays as it is where a slot is written that is not among its own.
use Rattle.std.proofs.Common.{◌≡◌, ◌≢◌, ℕ, ◌+◌, ◌*◌, ◌<◌, List, [], ◌∷◌, set, map, sym, ap, subst, arith, get_or-set_other}
use Rattle.dir_entry.specs.declared.entry.Entry.{Entry}
use Rattle.dir_segment.specs.Lists.{SlotRow, row}
use Rattle.dir_segment.specs.Links.{empty, at, IsChain, IsBucket, IsFreeList, followers, slot_hits, occurrences}
use Rattle.dir_segment.proofs.Counts.{missed}

pub frame_chain : (slots : List Entry) (x : ℕ) (e : Entry) (s : ℕ) (rows : List SlotRow) → IsChain slots s rows
    → occurrences x (map (λ r. r.slot) rows) ≡ 0 → IsChain (set slots x e) s rows
frame_chain slots x e s [] h none = h
frame_chain slots x e s (r ∷ rows) h none =
    let slot : r.slot ≡ s = ap (λ (q : SlotRow). q.slot) h.2 in
    let apart : slot_hits r.slot x ≡ 0 = omega arith in
    let ne : s ≢ x = λ q. missed r.slot x apart (rw slot q) in
    let same : at (set slots x e) s ≡ at slots s = get_or-set_other slots x s e empty ne in
    subst (λ a. (0 < s) × (0 < a.offset) × (r ≡ row s a) × IsChain (set slots x e) a.next rows) (sym same)
    (h.0, h.1, h.2, frame_chain slots x e _ rows h.3 (omega arith))

pub frame_bucket : (slots : List Entry) (x : ℕ) (e : Entry) (b : ℕ) (rows : List SlotRow) → IsBucket slots b rows
    → slot_hits (4 * b) x + occurrences x (followers rows) ≡ 0 → IsBucket (set slots x e) b rows
frame_bucket slots x e b [] h none =
    let apart : slot_hits (4 * b) x ≡ 0 = omega arith in
    let same : at (set slots x e) (4 * b) ≡ at slots (4 * b) = get_or-set_other slots x (4 * b) e empty (missed (4 * b) x apart) in
    subst (λ (a : Entry). (a.offset ≡ 0) × (a.next ≡ 0)) (sym same) h
frame_bucket slots x e b (r ∷ rows) h none =
    let apart : slot_hits (4 * b) x ≡ 0 = omega arith in
    let same : at (set slots x e) (4 * b) ≡ at slots (4 * b) = get_or-set_other slots x (4 * b) e empty (missed (4 * b) x apart) in
    subst (λ (a : Entry). (0 < a.offset) × (r ≡ row (4 * b) a) × IsChain (set slots x e) a.next rows) (sym same)
    (h.0, h.1, frame_chain slots x e _ rows h.2 (omega arith))

pub frame_free : (slots : List Entry) (x : ℕ) (e : Entry) (s : ℕ) (free : List ℕ) → IsFreeList slots s free
    → occurrences x free ≡ 0 → IsFreeList (set slots x e) s free
frame_free slots x e s [] h none = h
frame_free slots x e s (f ∷ free) h none =
    let apart : slot_hits f x ≡ 0 = omega arith in
    let ne : s ≢ x = λ q. missed f x apart (rw h.2 q) in
    let same : at (set slots x e) s ≡ at slots s = get_or-set_other slots x s e empty ne in
    subst (λ (a : Entry). (0 < s) × (a.offset ≡ 0) × (f ≡ s) × IsFreeList (set slots x e) a.next free) (sym same)
    (h.0, h.1, h.2, frame_free slots x e _ free h.3 (omega arith))
