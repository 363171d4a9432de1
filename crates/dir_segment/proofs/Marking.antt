-- What the marks say when a walk has ended.
use Rattle.std.proofs.Common.{◌≡◌, ◌≢◌, ℕ, zero, suc, ◌+◌, ◌-◌, ◌*◌, ◌%◌, ◌<◌, ◌≤◌, Bool, true, false, cond, eqb, ltb, List, [], ◌∷◌, ◌++◌, length, get_or, set, map, Result, Ok, Err, refl, sym, ap, subst, ◌∙◌, arith, length-append, length-set, get_or-set_other, get_or-set_same, inl, inr}
use Rattle.std.specs.Prelude.{not}
use Rattle.std.proofs.lemmas.Bool.{cases_eq, cases_lt as cases_le, eqb-true, eqb-false, ne_eqb, ltb-true, lt-ltb}
use Rattle.std.proofs.lemmas.List.{get_or_past, length-map}
use Rattle.dir_entry.specs.declared.entry.Entry.{Entry}
use Rattle.dir_segment.specs.declared.fault.SegmentFault.{SegmentFault}
use Rattle.dir_segment.specs.declared.fault.SegmentFault.TheVariants.{BadLink, Loop, FreeListCount, Memory}
use Rattle.dir_segment.specs.Lists.{SlotRow, Lists, row, entry_count}
use Rattle.dir_segment.specs.Links.{at, IsChain, IsBucket, IsFreeList, IsSegment, followers, lines, slot_hits, occurrences}
use Rattle.dir_segment.specs.Image.{Marks, unmarked, marked, ◌>>=◌, is_bad_link, walk, walk_bucket, walk_buckets, counts, walk_all, empty_roots, IsFault}
use Rattle.dir_segment.proofs.Counts.{occurrences-append}
use Rattle.dir_segment.proofs.Moves.{hit_same}

-- ---- marks

abbrev pub bit : Bool → ℕ
bit b = cond b 1 0

abbrev pub mark_at : Marks → ℕ → ℕ
mark_at marks s = bit (get_or marks s false)

pub set_mark : (marks : Marks) (x : ℕ) → x < length marks → get_or marks x false ≡ false → (s : ℕ) → mark_at (set marks x true) s ≡ mark_at marks s + slot_hits x s
set_mark marks x lt none s = elim (cases_eq s x) [
  | inl e ↦ subst (λ k. mark_at (set marks x true) k ≡ mark_at marks k + slot_hits x k) (sym e)
      (let one : get_or (set marks x true) x false ≡ true = get_or-set_same marks x true false lt in rw (one, none) (omega (arith, hit_same x)))
  | inr ne ↦
      let stays : get_or (set marks x true) s false ≡ get_or marks s false = get_or-set_other marks x s true false ne in
      let apart : eqb x s ≡ false = ne_eqb x s (λ q. ne (sym q)) in
      rw (stays, apart) (omega arith)
]

pub marked_set : (marks : Marks) (x : ℕ) → x < length marks → get_or marks x false ≡ false → marked (set marks x true) ≡ marked marks + 1
marked_set [] x lt none = absurd (omega arith)
marked_set (m ∷ marks) zero lt none = let none' : m ≡ false = none in rw none' (omega arith)
marked_set (m ∷ marks) (suc x) lt none = omega (arith, marked_set marks x (omega arith) none)

pub mark_again : (marks : Marks) (x : ℕ) → get_or marks x false ≡ true → set marks x true ≡ marks
mark_again [] x has = refl
mark_again (m ∷ marks) zero has = let has' : m ≡ true = has in ap (λ (t : Bool). t ∷ marks) (sym has')
mark_again (m ∷ marks) (suc x) has = ap (λ (q : Marks). m ∷ q) (mark_again marks x has)

pub marked_le : (marks : Marks) → marked marks ≤ length marks
marked_le [] = omega arith
marked_le (true ∷ marks) = omega (arith, marked_le marks)
marked_le (false ∷ marks) = omega (arith, marked_le marks)

all_marked : (marks : Marks) → marked marks ≡ length marks → (s : ℕ) → s < length marks → mark_at marks s ≡ 1
all_marked [] all s lt = absurd (omega arith)
all_marked (true ∷ marks) all zero lt = refl
all_marked (false ∷ marks) all s lt = absurd (omega (arith, all, marked_le marks))
all_marked (true ∷ marks) all (suc s) lt = all_marked marks (omega (arith, all)) s (omega arith)

pub mark_unmarked : (n s : ℕ) → mark_at (unmarked n) s ≡ 0
mark_unmarked zero s = refl
mark_unmarked (suc n) zero = refl
mark_unmarked (suc n) (suc s) = mark_unmarked n s

pub marked_unmarked : (n : ℕ) → marked (unmarked n) ≡ 0
marked_unmarked zero = refl
marked_unmarked (suc n) = omega (arith, marked_unmarked n)

pub length-unmarked : (n : ℕ) → length (unmarked n) ≡ n
length-unmarked zero = refl
length-unmarked (suc n) = ap suc (length-unmarked n)

pub unmarked_push : (n : ℕ) → unmarked n ++ false ∷ [] ≡ unmarked (n + 1)
unmarked_push n = go n ∙ ap unmarked (let e : suc n ≡ n + 1 = omega arith in e) where
  go : (k : ℕ) → unmarked k ++ false ∷ [] ≡ unmarked (suc k)
  go zero = refl
  go (suc k) = ap (λ (q : Marks). false ∷ q) (go k)

pub no_mark : (marks : Marks) (s : ℕ) → mark_at marks s ≡ 0 → get_or marks s false ≡ false
no_mark marks s h = elim (get_or marks s false) as (λ t. bit t ≡ 0 → t ≡ false) [ true ↦ λ q. absurd (omega (arith, q)) | false ↦ λ q. refl ] h

-- ---- walks that end

abbrev pub Fits : Bool → ℕ → Type 0
Fits true offset = 0 < offset
Fits false offset = offset ≡ 0

-- the slots that links lead through, all used or all empty
abbrev pub Path : Bool → List Entry → ℕ → List ℕ → Type 0
Path used slots slot [] = slot ≡ 0
Path used slots slot (x ∷ xs) = (0 < slot) × (x ≡ slot) × Fits used (at slots slot).offset × Path used slots (at slots slot).next xs

pub path_free : (slots : List Entry) (slot : ℕ) (xs : List ℕ) → Path false slots slot xs → IsFreeList slots slot xs
path_free slots slot [] h = h
path_free slots slot (x ∷ xs) h = (h.0, h.2, h.1, path_free slots _ xs h.3)

abbrev pub rows_at : List Entry → List ℕ → List SlotRow
rows_at slots = map (λ x. row x (at slots x))

abbrev pub slots_of : List SlotRow → List ℕ
slots_of = map (λ (q : SlotRow). q.slot)

path_chain : (slots : List Entry) (slot : ℕ) (xs : List ℕ) → Path true slots slot xs → IsChain slots slot (rows_at slots xs)
path_chain slots slot [] h = h
path_chain slots slot (x ∷ xs) h = (h.0, h.2, ap (λ k. row k (at slots k)) h.1, path_chain slots _ xs h.3)

slots_of-rows_at : (slots : List Entry) (xs : List ℕ) → slots_of (rows_at slots xs) ≡ xs
slots_of-rows_at slots [] = refl
slots_of-rows_at slots (x ∷ xs) = ap (λ (q : List ℕ). x ∷ q) (slots_of-rows_at slots xs)

-- a walk from a slot that ended
pub record Walked (used : Bool) (slots : List Entry) (slot : ℕ) (marks after : Marks) : Type 0 where
  pub xs : List ℕ
  pub path : Path used slots slot xs
  pub each : (s : ℕ) → mark_at after s ≡ mark_at marks s + occurrences s xs
  pub total : marked after ≡ marked marks + length xs
  pub size : length after ≡ length marks
  pub behind : (k : ℕ) → occurrences (4 * k) xs ≡ 0

walked_none : (used : Bool) (slots : List Entry) (slot : ℕ) (marks after : Marks) → slot ≡ 0 → marks ≡ after → Walked used slots slot marks after
walked_none used slots slot marks after end same = record {
  xs = [];
  path = end;
  each = λ s. let e : mark_at after s ≡ mark_at marks s = ap (λ (m : Marks). mark_at m s) (sym same) in omega (arith, e);
  total = let e : marked after ≡ marked marks = ap (λ (m : Marks). marked m) (sym same) in omega (arith, e);
  size = ap (λ (m : Marks). length m) (sym same);
  behind = λ k. refl;
}

abbrev good : Marks → Result Marks SegmentFault
good marks = Ok marks

abbrev bad : SegmentFault → Result Marks SegmentFault
bad fault = Err fault

ok_same : (a b : Marks) → good a ≡ good b → a ≡ b
ok_same a b e = cc e

not_ok : (f : SegmentFault) (b : Marks) → bad f ≡ good b → ⊥
not_ok f b e = cc e

-- a link that is not bad
pub record IsGoodLink (used : Bool) (slots : List Entry) (slot : ℕ) : Type 0 where
  pub within : slot < length slots
  pub behind : slot % 4 ≢ 0
  pub fits : Fits used (at slots slot).offset

offset_fits : (used : Bool) (offset : ℕ) → cond used (eqb offset 0) (not (eqb offset 0)) ≡ false → Fits used offset
offset_fits true offset h = let ne : offset ≢ 0 = eqb-false offset 0 h in omega (arith, ne)
offset_fits false offset h = elim (eqb offset 0) as (λ t. eqb offset 0 ≡ t → not t ≡ false → offset ≡ 0) [ true ↦ λ e q. eqb-true offset 0 e | false ↦ λ e q. absurd (cc q) ] refl h

good_link : (used : Bool) (slots : List Entry) (slot : ℕ) → is_bad_link used slots slot ≡ false → IsGoodLink used slots slot
good_link used slots slot h =
    elim (ltb slot (length slots)) as (λ t. ltb slot (length slots) ≡ t → cond t (cond (eqb (slot % 4) 0) true (cond used (eqb (at slots slot).offset 0) (not (eqb (at slots slot).offset 0)))) true ≡ false → IsGoodLink used slots slot) [
      | true ↦ λ within h'.
          elim (eqb (slot % 4) 0) as (λ t. eqb (slot % 4) 0 ≡ t → cond t true (cond used (eqb (at slots slot).offset 0) (not (eqb (at slots slot).offset 0))) ≡ false → IsGoodLink used slots slot) [
            | true ↦ λ e h''. absurd (cc h'')
            | false ↦ λ e h''. record { within = ltb-true slot (length slots) within; behind = eqb-false (slot % 4) 0 e; fits = offset_fits used (at slots slot).offset h'' }
          ] refl h'
      | false ↦ λ within h'. absurd (cc h')
    ] refl h

no_root : (k slot : ℕ) → slot % 4 ≢ 0 → slot_hits slot (4 * k) ≡ 0
no_root k slot ne = let apart : slot ≢ 4 * k = λ q. ne (omega (arith, q)) in rw (ne_eqb slot (4 * k) apart) refl

pub walked : (used : Bool) (slots : List Entry) (most slot : ℕ) (marks after : Marks) → length marks ≡ length slots → walk used slots most slot marks ≡ Ok after → Walked used slots slot marks after
walked used slots zero slot marks after size e =
    elim (eqb slot 0) as (λ t. eqb slot 0 ≡ t → cond t (good marks) (bad (Loop slot)) ≡ good after → Walked used slots slot marks after) [
      | true ↦ λ end e'. walked_none used slots slot marks after (eqb-true slot 0 end) (ok_same marks after e')
      | false ↦ λ end e'. absurd (not_ok (Loop slot) after e')
    ] refl e
walked used slots (suc most) slot marks after size e =
    elim (eqb slot 0) as (λ t. eqb slot 0 ≡ t → cond t (good marks) (cond (is_bad_link used slots slot) (bad (BadLink slot)) (cond (get_or marks slot false) (bad (Loop slot)) (walk used slots most (at slots slot).next (set marks slot true)))) ≡ good after → Walked used slots slot marks after) [
      | true ↦ λ end e1. walked_none used slots slot marks after (eqb-true slot 0 end) (ok_same marks after e1)
      | false ↦ λ end e1.
          elim (is_bad_link used slots slot) as (λ t. is_bad_link used slots slot ≡ t → cond t (bad (BadLink slot)) (cond (get_or marks slot false) (bad (Loop slot)) (walk used slots most (at slots slot).next (set marks slot true))) ≡ good after → Walked used slots slot marks after) [
            | true ↦ λ link e2. absurd (not_ok (BadLink slot) after e2)
            | false ↦ λ link e2.
                elim (get_or marks slot false) as (λ t. get_or marks slot false ≡ t → cond t (bad (Loop slot)) (walk used slots most (at slots slot).next (set marks slot true)) ≡ good after → Walked used slots slot marks after) [
                  | true ↦ λ free e3. absurd (not_ok (Loop slot) after e3)
                  | false ↦ λ free e3.
                      let fine = good_link used slots slot link in
                      let within : slot < length marks = omega (arith, fine.within, size) in
                      let rest = walked used slots most (at slots slot).next (set marks slot true) after (length-set marks slot true ∙ size) e3 in
                      let some : slot ≢ 0 = eqb-false slot 0 end in
                      record {
                        xs = slot ∷ rest.xs;
                        path = (omega (arith, some), refl, fine.fits, rest.path);
                        each = λ s. omega (arith, rest.each s, set_mark marks slot within free s);
                        total = omega (arith, rest.total, marked_set marks slot within free);
                        size = rest.size ∙ length-set marks slot true;
                        behind = λ k. omega (arith, rest.behind k, no_root k slot fine.behind);
                      }
                ] refl e2
          ] refl e1
    ] refl e

pub record WalkedBucket (slots : List Entry) (b : ℕ) (marks after : Marks) : Type 0 where
  pub rows : List SlotRow
  pub bucket : IsBucket slots b rows
  pub each : (s : ℕ) → mark_at after s ≡ mark_at marks s + (slot_hits (4 * b) s + occurrences s (followers rows))
  pub total : marked after ≡ marked marks + suc (length (followers rows))
  pub size : length after ≡ length marks
  pub behind : (k : ℕ) → occurrences (4 * k) (followers rows) ≡ 0

pub walked_bucket : (slots : List Entry) (b : ℕ) (marks after : Marks) → length marks ≡ length slots → 4 * b < length slots → get_or marks (4 * b) false ≡ false
    → walk_bucket slots b marks ≡ Ok after → WalkedBucket slots b marks after
walked_bucket slots b marks after size lt none e =
    let within : 4 * b < length marks = omega (arith, lt, size) in
    elim (eqb (at slots (4 * b)).offset 0) as (λ t. eqb (at slots (4 * b)).offset 0 ≡ t → cond t (cond (eqb (at slots (4 * b)).next 0) (good (set marks (4 * b) true)) (bad (BadLink (4 * b)))) (walk true slots (length slots) (at slots (4 * b)).next (set marks (4 * b) true)) ≡ good after → WalkedBucket slots b marks after) [
      | true ↦ λ unused e1.
          elim (eqb (at slots (4 * b)).next 0) as (λ t. eqb (at slots (4 * b)).next 0 ≡ t → cond t (good (set marks (4 * b) true)) (bad (BadLink (4 * b))) ≡ good after → WalkedBucket slots b marks after) [
            | true ↦ λ end e2.
                let same : set marks (4 * b) true ≡ after = ok_same (set marks (4 * b) true) after e2 in
                record {
                  rows = [];
                  bucket = (eqb-true (at slots (4 * b)).offset 0 unused, eqb-true (at slots (4 * b)).next 0 end);
                  each = λ s. let m : mark_at after s ≡ mark_at (set marks (4 * b) true) s = ap (λ (q : Marks). mark_at q s) (sym same) in omega (arith, m, set_mark marks (4 * b) within none s);
                  total = let m : marked after ≡ marked (set marks (4 * b) true) = ap (λ (q : Marks). marked q) (sym same) in omega (arith, m, marked_set marks (4 * b) within none);
                  size = ap (λ (q : Marks). length q) (sym same) ∙ length-set marks (4 * b) true;
                  behind = λ k. refl;
                }
            | false ↦ λ end e2. absurd (not_ok (BadLink (4 * b)) after e2)
          ] refl e1
      | false ↦ λ used e1.
          let rest = walked true slots (length slots) (at slots (4 * b)).next (set marks (4 * b) true) after (length-set marks (4 * b) true ∙ size) e1 in
          let some : (at slots (4 * b)).offset ≢ 0 = eqb-false (at slots (4 * b)).offset 0 used in
          let slots-are : slots_of (rows_at slots rest.xs) ≡ rest.xs = slots_of-rows_at slots rest.xs in
          record {
            rows = row (4 * b) (at slots (4 * b)) ∷ rows_at slots rest.xs;
            bucket = (omega (arith, some), refl, path_chain slots _ rest.xs rest.path);
            each = λ s. rw slots-are (omega (arith, rest.each s, set_mark marks (4 * b) within none s));
            total = rw slots-are (omega (arith, rest.total, marked_set marks (4 * b) within none));
            size = rest.size ∙ length-set marks (4 * b) true;
            behind = λ k. rw slots-are (rest.behind k);
          }
    ] refl e

bind_ok : (r : Result Marks SegmentFault) (next : Marks → Result Marks SegmentFault) (after : Marks) → (r >>= next) ≡ good after → (mid : Marks) × (r ≡ Ok mid) × (next mid ≡ Ok after)
bind_ok (Ok mid) next after e = (mid, refl, e)
bind_ok (Err f) next after e = absurd (not_ok f after e)

pub record WalkedBuckets (slots : List Entry) (b n : ℕ) (marks after : Marks) : Type 0 where
  pub chains : List (List SlotRow)
  pub width : length chains ≡ n
  pub buckets : (j : ℕ) → j < n → IsBucket slots (b + j) (get_or chains j [])
  pub each : (s : ℕ) → mark_at after s ≡ mark_at marks s + occurrences s (lines b chains)
  pub total : marked after ≡ marked marks + length (lines b chains)
  pub size : length after ≡ length marks
  pub empties : entry_count chains + empty_roots slots b n ≡ length (lines b chains)

one_empty : (slots : List Entry) (b : ℕ) (rows : List SlotRow) → IsBucket slots b rows → length rows + cond (eqb (at slots (4 * b)).offset 0) 1 0 ≡ suc (length (followers rows))
one_empty slots b [] h = rw h.0 refl
one_empty slots b (r ∷ rows) h =
    let ne : (at slots (4 * b)).offset ≢ 0 = omega (arith, h.0) in
    rw (ne_eqb (at slots (4 * b)).offset 0 ne) (omega (arith, length-map rows (λ (q : SlotRow). q.slot)))

pub walked_buckets : (slots : List Entry) (b n : ℕ) (marks after : Marks) → length marks ≡ length slots → 4 * (b + n) ≤ length slots
    → ((k : ℕ) → b ≤ k → mark_at marks (4 * k) ≡ 0) → walk_buckets slots b n marks ≡ Ok after → WalkedBuckets slots b n marks after
walked_buckets slots b zero marks after size fit none e =
    let same : marks ≡ after = ok_same marks after e in
    record {
      chains = [];
      width = refl;
      buckets = λ j lt. absurd (omega arith);
      each = λ s. let m : mark_at after s ≡ mark_at marks s = ap (λ (q : Marks). mark_at q s) (sym same) in omega (arith, m);
      total = let m : marked after ≡ marked marks = ap (λ (q : Marks). marked q) (sym same) in omega (arith, m);
      size = ap (λ (q : Marks). length q) (sym same);
      empties = refl;
    }
walked_buckets slots b (suc n) marks after size fit none e =
    let step = bind_ok (walk_bucket slots b marks) (walk_buckets slots (suc b) n) after e in
    let mid = step.0 in
    let first = walked_bucket slots b marks mid size (omega (arith, fit)) (no_mark marks (4 * b) (none b (omega arith))) step.1 in
    let none' : (k : ℕ) → suc b ≤ k → mark_at mid (4 * k) ≡ 0 = λ k le.
    let ne : 4 * b ≢ 4 * k = omega arith in
    let apart : slot_hits (4 * b) (4 * k) ≡ 0 = rw (ne_eqb (4 * b) (4 * k) ne) refl in
    omega (arith, first.each (4 * k), first.behind (4 * k), first.behind k, none k (omega arith), apart) in
    let rest = walked_buckets slots (suc b) n mid after (first.size ∙ size) (omega (arith, fit)) none' step.2 in
    record {
      chains = first.rows ∷ rest.chains;
      width = ap suc rest.width;
      buckets = λ j. elim j as (λ i. i < suc n → IsBucket slots (b + i) (get_or (first.rows ∷ rest.chains) i [])) [
        | zero ↦ λ lt. subst (λ k. IsBucket slots k first.rows) (let q : b ≡ b + 0 = omega arith in q) first.bucket
        | suc i ↦ λ lt. subst (λ k. IsBucket slots k (get_or rest.chains i [])) (let q : suc b + i ≡ b + suc i = omega arith in q) (rest.buckets i (omega arith))
      ];
      each = λ s. omega (arith, rest.each s, first.each s, occurrences-append s (followers first.rows) (lines (suc b) rest.chains));
      total = omega (arith, rest.total, first.total, length-append (followers first.rows) (lines (suc b) rest.chains));
      size = rest.size ∙ first.size;
      empties = omega (arith, rest.empties, one_empty slots b first.rows first.bucket, length-append (followers first.rows) (lines (suc b) rest.chains));
    }

counts_ok : (kept slots : ℕ) (before after end : Marks) → counts kept slots before after ≡ Ok end → (kept ≡ marked after - marked before) × (marked after ≡ slots)
counts_ok kept slots before after end e =
    elim (eqb kept (marked after - marked before)) as (λ t. eqb kept (marked after - marked before) ≡ t → cond t (cond (eqb (marked after) slots) (good after) (bad (FreeListCount slots (marked after)))) (bad (FreeListCount kept (marked after - marked before))) ≡ good end → (kept ≡ marked after - marked before) × (marked after ≡ slots)) [
      | true ↦ λ same e1.
          elim (eqb (marked after) slots) as (λ t. eqb (marked after) slots ≡ t → cond t (good after) (bad (FreeListCount slots (marked after))) ≡ good end → (kept ≡ marked after - marked before) × (marked after ≡ slots)) [
            | true ↦ λ all e2. (eqb-true kept (marked after - marked before) same, eqb-true (marked after) slots all)
            | false ↦ λ all e2. absurd (not_ok (FreeListCount slots (marked after)) end e2)
          ] refl e1
      | false ↦ λ same e1. absurd (not_ok (FreeListCount kept (marked after - marked before)) end e1)
    ] refl e

-- what a whole walk without a fault shows
pub record Accepted (slots : List Entry) (head kept buckets : ℕ) : Type 0 where
  pub lists : Lists
  pub segment : IsSegment slots head kept (4 * buckets - kept - empty_roots slots 0 buckets) buckets lists
  pub enough : kept + empty_roots slots 0 buckets ≤ 4 * buckets

pub accepted : (slots : List Entry) (head kept buckets : ℕ) (after : Marks) → 0 < buckets → buckets ≤ 16383 → length slots ≡ 4 * buckets
    → walk_all slots head kept buckets ≡ Ok after → Accepted slots head kept buckets
accepted slots head kept buckets after some few size e =
    let first = bind_ok (walk_buckets slots 0 buckets (unmarked (4 * buckets))) (λ chains. walk false slots (length slots) head chains >>= counts kept (4 * buckets) chains) after e in
    let mid = first.0 in
    let second = bind_ok (walk false slots (length slots) head mid) (counts kept (4 * buckets) mid) after first.2 in
    let end = second.0 in
    let sum = counts_ok kept (4 * buckets) mid end after second.2 in
    let start : length (unmarked (4 * buckets)) ≡ length slots = length-unmarked (4 * buckets) ∙ sym size in
    let chains = walked_buckets slots 0 buckets (unmarked (4 * buckets)) mid start (omega (arith, size)) (λ k le. mark_unmarked (4 * buckets) (4 * k)) first.1 in
    let free = walked false slots (length slots) head mid end (chains.size ∙ start) second.1 in
    let none = marked_unmarked (4 * buckets) in
    let long : length end ≡ 4 * buckets = free.size ∙ chains.size ∙ length-unmarked (4 * buckets) in
    let all : marked end ≡ length end = sum.1 ∙ sym long in
    record {
      lists = record { chains = chains.chains; free = free.xs };
      segment = record {
        some = some;
        few = few;
        size = size;
        width = chains.width;
        chains = λ b lt. subst (λ k. IsBucket slots k (get_or chains.chains b [])) (let q : 0 + b ≡ b = omega arith in q) (chains.buckets b lt);
        free = path_free slots head free.xs free.path;
        once = λ s.
            let joined = occurrences-append s free.xs (lines 0 chains.chains) in
            let marks : occurrences s (free.xs ++ lines 0 chains.chains) ≡ mark_at end s = omega (arith, joined, free.each s, chains.each s, mark_unmarked (4 * buckets) s) in
            marks ∙ (elim (ltb s (4 * buckets)) as (λ t. ltb s (4 * buckets) ≡ t → mark_at end s ≡ cond t 1 0) [
              | true ↦ λ q. all_marked end all s (omega (arith, ltb-true s (4 * buckets) q, long))
              | false ↦ λ q. ap bit (get_or_past end s false (omega (arith, ltb_past s (4 * buckets) q, long)))
            ] refl);
        total = omega (arith, length-append free.xs (lines 0 chains.chains), free.total, chains.total, none, sum.1);
        free_count = omega (arith, sum.0, free.total);
        used_count = omega (arith, chains.empties, sum.0, sum.1, free.total, chains.total, none);
      };
      enough = omega (arith, chains.empties, sum.0, sum.1, free.total, chains.total, none);
    } where
      ltb_past : (a b : ℕ) → ltb a b ≡ false → b ≤ a
      ltb_past a b q = elim (cases_le a b) [ inl lt ↦ absurd (let t : true ≡ false = sym (lt-ltb a b lt) ∙ q in cc t) | inr le ↦ le ]

-- a step of a walk that goes on
pub walk_on : (used : Bool) (slots : List Entry) (count i slot : ℕ) (marks : Marks) (whole : Result Marks SegmentFault) → i < count → slot ≢ 0 → is_bad_link used slots slot ≡ false
    → get_or marks slot false ≡ false → walk used slots (count - i) slot marks ≡ whole → walk used slots (count - (i + 1)) (at slots slot).next (set marks slot true) ≡ whole
walk_on used slots count i slot marks whole lt some fine new so_far =
    let k : count - i ≡ suc (count - (i + 1)) = omega arith in
    let go_on : eqb slot 0 ≡ false = ne_eqb slot 0 some in
    let one : walk used slots (count - i) slot marks ≡ walk used slots (count - (i + 1)) (at slots slot).next (set marks slot true) = rw (k, go_on, fine, new) refl in
    sym one ∙ so_far

pub roots_on : (slots : List Entry) (buckets i count next : ℕ) (root : Entry) (whole : ℕ) → i < buckets → root ≡ at slots (4 * i) → next ≡ count + cond (eqb root.offset 0) 1 0
    → count + empty_roots slots i (buckets - i) ≡ whole → next + empty_roots slots (i + 1) (buckets - (i + 1)) ≡ whole
roots_on slots buckets i count next root whole lt found step so_far =
    let k : buckets - i ≡ suc (buckets - (i + 1)) = omega arith in
    let e : suc i ≡ i + 1 = omega arith in
    let one : empty_roots slots i (buckets - i) ≡ cond (eqb root.offset 0) 1 0 + empty_roots slots (i + 1) (buckets - (i + 1)) =
    ap (empty_roots slots i) k ∙ (λ j. cond (eqb (sym found j).offset 0) 1 0 + empty_roots slots (e j) (buckets - (i + 1))) in
    omega (arith, one, step, so_far)

pub fault_on : (fault : SegmentFault) (found : Result Marks SegmentFault) (next : Marks → Result Marks SegmentFault) → IsFault fault found → IsFault fault (found >>= next)
fault_on (Memory e) found next h = tt
fault_on (BadLink s) found next h = rw h refl
fault_on (Loop s) found next h = rw h refl
fault_on (FreeListCount k f) found next h = rw h refl

pub buckets_fault : (slots : List Entry) (buckets i : ℕ) (marks : Marks) (whole : Result Marks SegmentFault) (fault : SegmentFault) → i < buckets
    → walk_buckets slots i (buckets - i) marks ≡ whole → IsFault fault (walk_bucket slots i marks) → IsFault fault whole
buckets_fault slots buckets i marks whole fault lt so_far h =
    let k : buckets - i ≡ suc (buckets - (i + 1)) = omega arith in
    subst (λ (r : Result Marks SegmentFault). IsFault fault r) (sym (ap (λ n. walk_buckets slots i n marks) k) ∙ so_far) (fault_on fault (walk_bucket slots i marks) (walk_buckets slots (suc i) (buckets - (i + 1))) h)

pub buckets_on : (slots : List Entry) (buckets i : ℕ) (marks mid : Marks) (whole : Result Marks SegmentFault) → i < buckets
    → walk_buckets slots i (buckets - i) marks ≡ whole → walk_bucket slots i marks ≡ Ok mid → walk_buckets slots (i + 1) (buckets - (i + 1)) mid ≡ whole
buckets_on slots buckets i marks mid whole lt so_far h =
    let k : buckets - i ≡ suc (buckets - (i + 1)) = omega arith in
    let e : i + 1 ≡ suc i = omega arith in
    let one : walk_buckets slots i (buckets - i) marks ≡ walk_buckets slots (suc i) (buckets - (i + 1)) mid = ap (λ n. walk_buckets slots i n marks) k ∙ ap (λ (r : Result Marks SegmentFault). r >>= walk_buckets slots (suc i) (buckets - (i + 1))) h in
    ap (λ n. walk_buckets slots n (buckets - (i + 1)) mid) e ∙ sym one ∙ so_far
