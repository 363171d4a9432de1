-- Which entries a purge is offered, and which it takes.
use Rattle.std.proofs.Common.{◌≡◌, ◌≢◌, ℕ, zero, suc, ◌+◌, ◌-◌, ◌*◌, ◌/◌, ◌%◌, ◌<◌, ◌≤◌, Bool, true, false, cond, eqb, List, [], ◌∷◌, ◌++◌, drop, length, get_or, set, map, refl, sym, ap, subst, ◌∙◌, arith, append_assoc, length-set, get_or-set_same, get_or-set_other, inl, inr}
use Rattle.std.specs.Prelude.{filter, ◌||◌, not, Some, None}
use Rattle.std.proofs.lemmas.Bool.{cases_eq, eqb-true, ne_eqb, eq-eqb}
use Rattle.std.proofs.lemmas.List.{append-nil}
use Rattle.std.proofs.Math.Bool.{or-false, or-true}
use Rattle.dir_entry.specs.declared.entry.Entry.{Entry}
use Rattle.dir_segment.specs.Lists.{SlotRow, Lists, row, has_slot, slots_behind_roots}
use Rattle.dir_segment.specs.Links.{at, IsChain, IsBucket, IsFreeList, IsSegment, followers, lines, slot_hits, occurrences}
use Rattle.dir_segment.specs.Cleaning.{freed_by, each_bucket}
use Rattle.dir_segment.specs.Purging.{thin_chain, thin_bucket, after_purge, Purge, behind_roots, find_slot, onto, rows_of_slots, tenths, purged, tenth_of, is_left, is_unmarked, offer, offer_found, offer_slots}
use Rattle.dir_segment.proofs.Counts.{missed, occurrences-append}
use Rattle.dir_segment.proofs.Moves.{once_at}

abbrev slots_of : List SlotRow → List ℕ
slots_of = map (λ (q : SlotRow). q.slot)

-- ---- the rows behind the roots are the used slots behind them

-- each row is that of its slot, which is used
abbrev Held : List Entry → List SlotRow → Type 0
Held slots [] = Unit
Held slots (r ∷ rows) = (0 < (at slots r.slot).offset) × (r ≡ row r.slot (at slots r.slot)) × Held slots rows

chain_held : (slots : List Entry) (s : ℕ) (rows : List SlotRow) → IsChain slots s rows → Held slots rows
chain_held slots s [] h = tt
chain_held slots s (r ∷ rows) h =
    let place : s ≡ r.slot = sym (ap (λ (q : SlotRow). q.slot) h.2) in
    (subst (λ k. 0 < (at slots k).offset) place h.1, subst (λ k. r ≡ row k (at slots k)) place h.2, chain_held slots (at slots s).next rows h.3)

bucket_held : (slots : List Entry) (b : ℕ) (rows : List SlotRow) → IsBucket slots b rows → Held slots (drop 1 rows)
bucket_held slots b [] h = tt
bucket_held slots b (r ∷ rows) h = chain_held slots (at slots (4 * b)).next rows h.2

held_append : (slots : List Entry) (xs ys : List SlotRow) → Held slots xs → Held slots ys → Held slots (xs ++ ys)
held_append slots [] ys h k = k
held_append slots (x ∷ xs) ys h k = (h.0, h.1, held_append slots xs ys h.2 k)

all_held : (slots : List Entry) (b : ℕ) (chains : List (List SlotRow)) → ((j : ℕ) → j < length chains → IsBucket slots (b + j) (get_or chains j [])) → Held slots (behind_roots chains)
all_held slots b [] each = tt
all_held slots b (c ∷ chains) each =
    held_append slots (drop 1 c) (behind_roots chains)
    (bucket_held slots (b + 0) c (each 0 (omega arith)))
    (all_held slots (suc b) chains (λ j lt. subst (λ k. IsBucket slots k (get_or chains j [])) (let e : b + suc j ≡ suc b + j = omega arith in e) (each (suc j) (omega arith))))

find_none : (s : ℕ) (rows : List SlotRow) → occurrences s (slots_of rows) ≡ 0 → find_slot s rows ≡ None
find_none s [] none = refl
find_none s (r ∷ rows) none =
    let apart : eqb r.slot s ≡ false = ne_eqb r.slot s (missed r.slot s (omega (arith, none))) in
    rw apart (find_none s rows (omega (arith, none)))

find_some : (slots : List Entry) (s : ℕ) (rows : List SlotRow) → Held slots rows → 0 < occurrences s (slots_of rows)
    → (find_slot s rows ≡ Some (row s (at slots s))) × (0 < (at slots s).offset)
find_some slots s [] h some = absurd (omega (arith, some))
find_some slots s (r ∷ rows) h some =
    elim (eqb r.slot s) as (λ t. eqb r.slot s ≡ t → 0 < cond t 1 0 + occurrences s (slots_of rows) → (cond t (Some r) (find_slot s rows) ≡ Some (row s (at slots s))) × (0 < (at slots s).offset)) [
      | true ↦ λ e some'.
          let same : r.slot ≡ s = eqb-true r.slot s e in
          (ap Some (h.1 ∙ ap (λ k. row k (at slots k)) same), subst (λ k. 0 < (at slots k).offset) same h.0)
      | false ↦ λ e some'. find_some slots s rows h.2 (omega (arith, some'))
    ] refl some

free_empty : (slots : List Entry) (head s : ℕ) (free : List ℕ) → IsFreeList slots head free → 0 < occurrences s free → (at slots s).offset ≡ 0
free_empty slots head s [] h some = absurd (omega (arith, some))
free_empty slots head s (f ∷ free) h some =
    elim (eqb f s) as (λ t. eqb f s ≡ t → 0 < cond t 1 0 + occurrences s free → (at slots s).offset ≡ 0) [
      | true ↦ λ e some'. subst (λ k. (at slots k).offset ≡ 0) (sym h.2 ∙ eqb-true f s e) h.1
      | false ↦ λ e some'. free_empty slots (at slots head).next s free h.3 (omega (arith, some'))
    ] refl some

slots-append : (s : ℕ) (xs ys : List SlotRow)
    → occurrences s (slots_of (xs ++ ys)) ≡ occurrences s (slots_of xs) + occurrences s (slots_of ys)
slots-append s [] ys = omega arith
slots-append s (x ∷ xs) ys = omega (arith, slots-append s xs ys)

followers-drop : (s : ℕ) (c : List SlotRow) → occurrences s (followers c) ≡ occurrences s (slots_of (drop 1 c))
followers-drop s [] = refl
followers-drop s (r ∷ rows) = refl

-- a slot that is no root stands in the chains behind a root
lines_behind : (s b : ℕ) (chains : List (List SlotRow)) → s % 4 ≢ 0 → occurrences s (lines b chains) ≡ occurrences s (slots_of (behind_roots chains))
lines_behind s b [] other = refl
lines_behind s b (c ∷ chains) other =
    let no_root : 4 * b ≢ s = omega (arith, other) in
    let apart : eqb (4 * b) s ≡ false = ne_eqb (4 * b) s no_root in
    let none : slot_hits (4 * b) s ≡ 0 = ap (λ (t : Bool). cond t 1 0) apart in
    omega (arith, none, lines_behind s (suc b) chains other, occurrences-append s (followers c) (lines (suc b) chains), slots-append s (drop 1 c) (behind_roots chains), followers-drop s c)

module _ (slots : List Entry) (head spare taken buckets : ℕ) (lists : Lists) (h : IsSegment slots head spare taken buckets lists) (s : ℕ) (lt : s < 4 * buckets) (other : s % 4 ≢ 0) where
  held : Held slots (behind_roots lists.chains)
  held = all_held slots 0 lists.chains (λ j below. subst (λ k. IsBucket slots k (get_or lists.chains j [])) (let e : j ≡ 0 + j = omega arith in e) (h.chains j (omega (arith, below, h.width))))

  one : occurrences s lists.free + occurrences s (slots_of (behind_roots lists.chains)) ≡ 1
  one = omega (arith, once_at slots head spare taken buckets lists h s lt, lines_behind s 0 lists.chains other)

  pub none_behind : (at slots s).offset ≡ 0 → find_slot s (behind_roots lists.chains) ≡ None
  none_behind empty = elim (cases_eq (occurrences s (slots_of (behind_roots lists.chains))) 0) [
    | inl none ↦ find_none s (behind_roots lists.chains) none
    | inr some ↦
        let found = find_some slots s (behind_roots lists.chains) held (omega (arith, some)) in
        absurd (omega (arith, found.1, empty))
  ]

  pub one_behind : (at slots s).offset ≢ 0 → find_slot s (behind_roots lists.chains) ≡ Some (row s (at slots s))
  one_behind used = elim (cases_eq (occurrences s (slots_of (behind_roots lists.chains))) 0) [
    | inl none ↦ absurd (used (free_empty slots head s lists.free h.free (omega (arith, one, none))))
    | inr some ↦ (find_some slots s (behind_roots lists.chains) held (omega (arith, some))).0
  ]

has_of_occurs : (s : ℕ) (rows : List SlotRow) → 0 < occurrences s (slots_of rows) → has_slot s rows ≡ true
has_of_occurs s [] some = absurd (omega (arith, some))
has_of_occurs s (r ∷ rows) some =
    elim (eqb r.slot s) as (λ t. 0 < cond t 1 0 + occurrences s (slots_of rows) → (t || has_slot s rows) ≡ true)
    [ true ↦ λ some'. refl | false ↦ λ some'. has_of_occurs s rows (omega (arith, some')) ] some

find_has : (s : ℕ) (rows : List SlotRow) → has_slot s rows ≡ true → (r : SlotRow) × (find_slot s rows ≡ Some r) × (r.slot ≡ s)
find_has s [] has = absurd (cc has)
find_has s (r ∷ rows) has =
    elim (eqb r.slot s) as (λ t. eqb r.slot s ≡ t → (t || has_slot s rows) ≡ true → (q : SlotRow) × (cond t (Some r) (find_slot s rows) ≡ Some q) × (q.slot ≡ s)) [
      | true ↦ λ e has'. (r, refl, eqb-true r.slot s e)
      | false ↦ λ e has'. find_has s rows has'
    ] refl has

-- where no slot is free, each slot behind a root is used
slot_behind : (slots : List Entry) (head spare taken buckets : ℕ) (lists : Lists) → IsSegment slots head spare taken buckets lists → lists.free ≡ []
    → (s : ℕ) → s < 4 * buckets → s % 4 ≢ 0 → (r : SlotRow) × (find_slot s (behind_roots lists.chains) ≡ Some r)
slot_behind slots head spare taken buckets lists h none s lt other =
    let free : occurrences s lists.free ≡ 0 = ap (occurrences s) none in
    let all = one slots head spare taken buckets lists h s lt other in
    let found = find_has s (behind_roots lists.chains) (has_of_occurs s (behind_roots lists.chains) (omega (arith, all, free))) in
    (found.0, found.1)

rows_behind : (rows : List SlotRow) (end : ℕ) → ((s : ℕ) → s < 4 * end → s % 4 ≢ 0 → (r : SlotRow) × (find_slot s rows ≡ Some r))
    → (b n : ℕ) → b + n ≤ end → length (rows_of_slots (slots_behind_roots b n) rows) ≡ 3 * n
rows_behind rows end each b zero le = refl
rows_behind rows end each b (suc n) le =
    let first = each (4 * b + 1) (omega (arith, le)) (omega arith) in
    let second = each (4 * b + 2) (omega (arith, le)) (omega arith) in
    let third = each (4 * b + 3) (omega (arith, le)) (omega arith) in
    rw (first.1, second.1, third.1) (omega (arith, rows_behind rows end each (suc b) n (omega (arith, le))))

tenths-length : (skip rest : ℕ) (rows : List SlotRow) → skip + rest ≡ 9 → length (tenths skip rows) ≡ (length rows + rest) / 10
tenths-length skip rest [] all = omega (arith, all)
tenths-length zero rest (r ∷ rows) all = omega (arith, all, tenths-length 9 0 rows refl)
tenths-length (suc skip) rest (r ∷ rows) all = omega (arith, tenths-length skip (suc rest) rows (omega (arith, all)))

-- where no slot is free, a purge takes a tenth of the slots behind the roots
pub tenth_purged : (slots : List Entry) (head spare taken buckets : ℕ) (lists : Lists) → IsSegment slots head spare taken buckets lists → lists.free ≡ []
    → length (purged lists) ≡ tenth_of (length lists.chains)
tenth_purged slots head spare taken buckets lists h none =
    let behind = rows_behind (behind_roots lists.chains) buckets (slot_behind slots head spare taken buckets lists h none) 0 (length lists.chains) (omega (arith, h.width)) in
    omega (arith, behind, tenths-length 0 9 (rows_of_slots (slots_behind_roots 0 (length lists.chains)) (behind_roots lists.chains)) refl)

-- where no slot is free, the first slot behind a root is used
pub full_behind : (slots : List Entry) (head spare taken buckets : ℕ) (lists : Lists) → IsSegment slots head spare taken buckets lists → lists.free ≡ []
    → has_slot 1 (behind_roots lists.chains) ≡ true
full_behind slots head spare taken buckets lists h none =
    let lt : 1 < 4 * buckets = omega (arith, h.some) in
    let other : 1 % 4 ≢ 0 = omega arith in
    let free : occurrences 1 lists.free ≡ 0 = ap (occurrences 1) none in
    let all = one slots head spare taken buckets lists h 1 lt other in
    has_of_occurs 1 (behind_roots lists.chains) (omega (arith, all, free))

-- ---- what the list takes of the rows that come by

abbrev entries_of : List SlotRow → List Entry
entries_of = map (λ (q : SlotRow). q.entry)

entries_taken : (skip : ℕ) (out : Purge) → out.skip ≡ skip → (r : SlotRow) (rows : List SlotRow)
    → (offer out r).entries ++ entries_of (tenths (offer out r).skip rows) ≡ out.entries ++ entries_of (tenths skip (r ∷ rows))
entries_taken zero out is r rows =
    let here : eqb out.skip 0 ≡ true = eq-eqb out.skip 0 is in
    rw here (append_assoc out.entries (r.entry ∷ []) (entries_of (tenths 9 rows)))
entries_taken (suc skip) out is r rows =
    let no : out.skip ≢ 0 = omega (arith, is) in
    let there : eqb out.skip 0 ≡ false = ne_eqb out.skip 0 no in
    let less : out.skip - 1 ≡ skip = omega (arith, is) in
    rw there (ap (λ k. out.entries ++ entries_of (tenths k rows)) less)

entries_offered : (slots : List ℕ) (rows : List SlotRow) (out : Purge)
    → (offer_slots slots rows out).entries ≡ out.entries ++ entries_of (tenths out.skip (rows_of_slots slots rows))
entries_offered [] rows out = sym (append-nil out.entries)
entries_offered (s ∷ slots) rows out =
    elim (find_slot s rows) as (λ f. (offer_slots slots rows (offer_found f out)).entries ≡ out.entries ++ entries_of (tenths out.skip (onto f (rows_of_slots slots rows)))) [
      | None ↦ entries_offered slots rows out
      | Some r ↦ entries_offered slots rows (offer out r) ∙ entries_taken out.skip out refl r (rows_of_slots slots rows)
    ]

mark_set : (marks : List Bool) (x s : ℕ) → x < length marks → get_or (set marks x true) s false ≡ (get_or marks s false || eqb x s)
mark_set marks x s lt = elim (cases_eq s x) [
  | inl e ↦ subst (λ k. get_or (set marks x true) k false ≡ (get_or marks k false || eqb x k)) (sym e)
      (get_or-set_same marks x true false lt ∙ sym (rw (eq-eqb x x refl) (or-true (get_or marks x false))))
  | inr ne ↦
      let apart : eqb x s ≡ false = ne_eqb x s (λ q. ne (sym q)) in
      get_or-set_other marks x s true false ne ∙ sym (rw apart (or-false (get_or marks s false)))
]

or_assoc : (a b c : Bool) → ((a || b) || c) ≡ (a || (b || c))
or_assoc true b c = refl
or_assoc false b c = refl

marks_taken : (s skip : ℕ) (out : Purge) → out.skip ≡ skip → (r : SlotRow) (rows : List SlotRow) → r.slot < length out.marks
    → (get_or (offer out r).marks s false || has_slot s (tenths (offer out r).skip rows)) ≡ (get_or out.marks s false || has_slot s (tenths skip (r ∷ rows)))
marks_taken s zero out is r rows lt =
    let here : eqb out.skip 0 ≡ true = eq-eqb out.skip 0 is in
    rw here (ap (λ (t : Bool). t || has_slot s (tenths 9 rows)) (mark_set out.marks r.slot s lt) ∙ or_assoc (get_or out.marks s false) (eqb r.slot s) (has_slot s (tenths 9 rows)))
marks_taken s (suc skip) out is r rows lt =
    let no : out.skip ≢ 0 = omega (arith, is) in
    let there : eqb out.skip 0 ≡ false = ne_eqb out.skip 0 no in
    let less : out.skip - 1 ≡ skip = omega (arith, is) in
    rw there (ap (λ k. get_or out.marks s false || has_slot s (tenths k rows)) less)

pub find_slot-is : (s : ℕ) (rows : List SlotRow) (r : SlotRow) → find_slot s rows ≡ Some r → r.slot ≡ s
find_slot-is s [] r is = absurd (cc is)
find_slot-is s (q ∷ rows) r is =
    elim (eqb q.slot s) as (λ t. eqb q.slot s ≡ t → cond t (Some q) (find_slot s rows) ≡ Some r → r.slot ≡ s) [
      | true ↦ λ e is'. let same : q ≡ r = cc is' in ap (λ (k : SlotRow). k.slot) (sym same) ∙ eqb-true q.slot s e
      | false ↦ λ e is'. find_slot-is s rows r is'
    ] refl is

offer-marks : (out : Purge) (r : SlotRow) → length (offer out r).marks ≡ length out.marks
offer-marks out r =
    elim (eqb out.skip 0) as (λ t. length (cond {A = Purge} t (record { buckets = out.buckets; skip = 9; entries = out.entries ++ r.entry ∷ []; marks = set out.marks r.slot true }) (record { buckets = out.buckets; skip = out.skip - 1; entries = out.entries; marks = out.marks })).marks ≡ length out.marks)
    [ true ↦ length-set out.marks r.slot true | false ↦ refl ]

abbrev AllBelow : ℕ → List ℕ → Type 0
AllBelow end [] = Unit
AllBelow end (s ∷ slots) = (s < end) × AllBelow end slots

roots_below : (end b n : ℕ) → 4 * (b + n) ≤ end → AllBelow end (slots_behind_roots b n)
roots_below end b zero le = tt
roots_below end b (suc n) le = (omega (arith, le), (omega (arith, le), (omega (arith, le), roots_below end (suc b) n (omega (arith, le)))))

marks_offered : (s end : ℕ) (slots : List ℕ) (rows : List SlotRow) (out : Purge) → AllBelow end slots → length out.marks ≡ end
    → get_or (offer_slots slots rows out).marks s false
    ≡ (get_or out.marks s false || has_slot s (tenths out.skip (rows_of_slots slots rows)))
marks_offered s end [] rows out below long = sym (or-false (get_or out.marks s false))
marks_offered s end (slot ∷ slots) rows out below long =
    elim (find_slot slot rows) as (λ f. find_slot slot rows ≡ f → get_or (offer_slots slots rows (offer_found f out)).marks s false ≡ (get_or out.marks s false || has_slot s (tenths out.skip (onto f (rows_of_slots slots rows))))) [
      | None ↦ λ is. marks_offered s end slots rows out below.1 long
      | Some r ↦ λ is.
          let lt : r.slot < length out.marks = omega (arith, find_slot-is slot rows r is, below.0, long) in
          marks_offered s end slots rows (offer out r) below.1 (offer-marks out r ∙ long) ∙ marks_taken s out.skip out refl r (rows_of_slots slots rows) lt
    ] refl

-- ---- a list that was empty, after all rows have come by

module _ (lists : Lists) (out new : Purge) (none : out.entries ≡ []) (skip : out.skip ≡ 0) (all : new ≡ offer_slots (slots_behind_roots 0 (length lists.chains)) (behind_roots lists.chains) out) where
  pub purge_entries : new.entries ≡ entries_of (purged lists)
  purge_entries =
      ap (λ (q : Purge). q.entries) all ∙ entries_offered (slots_behind_roots 0 (length lists.chains)) (behind_roots lists.chains) out
      ∙ (λ i. none i
      ++ entries_of (tenths (skip i) (rows_of_slots (slots_behind_roots 0 (length lists.chains)) (behind_roots lists.chains))))

  pub purge_left : length out.marks ≡ 4 * length lists.chains → ((s : ℕ) → get_or out.marks s false ≡ false) → is_unmarked new.marks ≡ is_left (purged lists)
  purge_left long unmarked = λ i r. not (same r.slot i) where
    same : (s : ℕ) → get_or new.marks s false ≡ has_slot s (purged lists)
    same s =
        ap (λ (q : Purge). get_or q.marks s false) all
        ∙ marks_offered s (4 * length lists.chains) (slots_behind_roots 0 (length lists.chains)) (behind_roots lists.chains) out (roots_below (4 * length lists.chains) 0 (length lists.chains) (omega arith)) long
        ∙ (λ i. unmarked s i || has_slot s (tenths (skip i) (rows_of_slots (slots_behind_roots 0 (length lists.chains)) (behind_roots lists.chains))))

-- the three slots behind a root
pub bucket_offered : (rows : List SlotRow) (b n root : ℕ) (out first second third whole : Purge) → b < n → root ≡ 4 * b
    → first ≡ offer_found (find_slot (root + 1) rows) out → second ≡ offer_found (find_slot (root + 2) rows) first → third ≡ offer_found (find_slot (root + 3) rows) second
    → offer_slots (slots_behind_roots b (n - b)) rows out ≡ whole → offer_slots (slots_behind_roots (b + 1) (n - (b + 1))) rows third ≡ whole
bucket_offered rows b n root out first second third whole lt place one two three so_far =
    let k : n - b ≡ suc (n - (b + 1)) = omega arith in
    let e : b + 1 ≡ suc b = omega arith in
    let all : third ≡ offer_found (find_slot (4 * b + 3) rows) (offer_found (find_slot (4 * b + 2) rows) (offer_found (find_slot (4 * b + 1) rows) out)) =
    three ∙ (λ i. offer_found (find_slot (place i + 3) rows) (two i))
    ∙ (λ i. offer_found (find_slot (4 * b + 3) rows) (offer_found (find_slot (place i + 2) rows) (one i)))
    ∙ (λ i. offer_found (find_slot (4 * b + 3) rows) (offer_found (find_slot (4 * b + 2) rows) (offer_found (find_slot (place i + 1) rows) out))) in
    (λ i. offer_slots (slots_behind_roots (e i) (n - (b + 1))) rows (all i)) ∙ sym (ap (λ m. offer_slots (slots_behind_roots b m) rows out) k) ∙ so_far

-- ---- a slot is free again

purged_first : (chains : List (List SlotRow)) → has_slot 1 (behind_roots chains) ≡ true → has_slot 1 (tenths 0 (rows_of_slots (slots_behind_roots 0 (length chains)) (behind_roots chains))) ≡ true
purged_first [] has = absurd (cc has)
purged_first (c ∷ chains) has =
    let found = find_has 1 (behind_roots (c ∷ chains)) has in
    rw found.1 (rw (eq-eqb found.0.slot 1 found.2) refl)

has_append : (s : ℕ) (xs ys : List SlotRow) → has_slot s (xs ++ ys) ≡ (has_slot s xs || has_slot s ys)
has_append s [] ys = refl
has_append s (x ∷ xs) ys = ap (λ (t : Bool). eqb x.slot s || t) (has_append s xs ys) ∙ sym (or_assoc (eqb x.slot s) (has_slot s xs) (has_slot s ys))

chain_behind : (s : ℕ) (chains : List (List SlotRow)) → has_slot s (behind_roots chains) ≡ true → (j : ℕ) × (j < length chains) × (has_slot s (drop 1 (get_or chains j [])) ≡ true)
chain_behind s [] has = absurd (cc has)
chain_behind s (c ∷ chains) has =
    elim (has_slot s (drop 1 c)) as (λ t. has_slot s (drop 1 c) ≡ t → (t || has_slot s (behind_roots chains)) ≡ true → (j : ℕ) × (j < suc (length chains)) × (has_slot s (drop 1 (get_or (c ∷ chains) j [])) ≡ true)) [
      | true ↦ λ e has'. (0, omega arith, e)
      | false ↦ λ e has'. let rest = chain_behind s chains has' in (suc rest.0, omega (arith, rest.1), rest.2)
    ] refl (sym (has_append s (drop 1 c) (behind_roots chains)) ∙ has)

module _ (test : SlotRow → Bool) where
  freed_grows : (rows : List SlotRow) (free : List ℕ) → length free ≤ length (freed_by test rows free)
  freed_grows [] free = omega arith
  freed_grows (r ∷ rows) free =
      elim (test r) as (λ t. length free ≤ length (freed_by test rows (cond t free (r.slot ∷ free))))
      [ true ↦ freed_grows rows free | false ↦ omega (arith, freed_grows rows (r.slot ∷ free)) ]

  chain_grows : (lists : Lists) (b : ℕ) (c : List SlotRow) → length lists.free ≤ length (thin_chain test lists b c).free
  chain_grows lists b [] = omega arith
  chain_grows lists b (root ∷ rows) = freed_grows rows lists.free

  chain_other : (lists : Lists) (b : ℕ) (c : List SlotRow) (k : ℕ) → k ≢ b → get_or (thin_chain test lists b c).chains k [] ≡ get_or lists.chains k []
  chain_other lists b [] k ne = refl
  chain_other lists b (root ∷ rows) k ne = get_or-set_other lists.chains b k (root ∷ filter test rows) [] ne

  thin_grows : (lists : Lists) (b : ℕ) → length lists.free ≤ length (thin_bucket test lists b).free
  unfolding thin_bucket
  thin_grows lists b = chain_grows lists b (get_or lists.chains b [])

  pub thin_other : (lists : Lists) (b k : ℕ) → k ≢ b → get_or (thin_bucket test lists b).chains k [] ≡ get_or lists.chains k []
  unfolding thin_bucket
  thin_other lists b k ne = chain_other lists b (get_or lists.chains b []) k ne

  each_grows : (n b : ℕ) (lists : Lists) → length lists.free ≤ length (each_bucket (thin_bucket test) b n lists).free
  each_grows zero b lists = omega arith
  each_grows (suc n) b lists = omega (arith, thin_grows lists b, each_grows n (suc b) (thin_bucket test lists b))

module _ (test : SlotRow → Bool) (s : ℕ) (fails : (r : SlotRow) → r.slot ≡ s → test r ≡ false) where
  freed_more : (rows : List SlotRow) (free : List ℕ) → has_slot s rows ≡ true → length free < length (freed_by test rows free)
  freed_more [] free has = absurd (cc has)
  freed_more (r ∷ rows) free has =
      elim (eqb r.slot s) as (λ t. eqb r.slot s ≡ t → (t || has_slot s rows) ≡ true → length free < length (freed_by test rows (cond (test r) free (r.slot ∷ free)))) [
        | true ↦ λ e has'. let gone : test r ≡ false = fails r (eqb-true r.slot s e) in rw gone (omega (arith, freed_grows test rows (r.slot ∷ free)))
        | false ↦ λ e has'.
            elim (test r) as (λ t. length free < length (freed_by test rows (cond t free (r.slot ∷ free))))
            [ true ↦ freed_more rows free has' | false ↦ omega (arith, freed_grows test rows (r.slot ∷ free)) ]
      ] refl has

  chain_more : (lists : Lists) (b : ℕ) (c : List SlotRow) → has_slot s (drop 1 c) ≡ true → length lists.free < length (thin_chain test lists b c).free
  chain_more lists b [] has = absurd (cc has)
  chain_more lists b (root ∷ rows) has = freed_more rows lists.free has

  thin_more : (lists : Lists) (b : ℕ) → has_slot s (drop 1 (get_or lists.chains b [])) ≡ true → length lists.free < length (thin_bucket test lists b).free
  unfolding thin_bucket
  thin_more lists b has = chain_more lists b (get_or lists.chains b []) has

  each_more : (n b j : ℕ) (lists : Lists) → b ≤ j → j < b + n → has_slot s (drop 1 (get_or lists.chains j [])) ≡ true
      → length lists.free < length (each_bucket (thin_bucket test) b n lists).free
  each_more zero b j lists le lt has = absurd (omega (arith, le, lt))
  each_more (suc n) b j lists le lt has = elim (cases_eq j b) [
    | inl e ↦ omega (arith, thin_more lists b (subst (λ k. has_slot s (drop 1 (get_or lists.chains k [])) ≡ true) e has), each_grows test n (suc b) (thin_bucket test lists b))
    | inr ne ↦
        let has' : has_slot s (drop 1 (get_or (thin_bucket test lists b).chains j [])) ≡ true = ap (λ (c : List SlotRow). has_slot s (drop 1 c)) (thin_other test lists b j ne) ∙ has in
        omega (arith, thin_grows test lists b, each_more n (suc b) j (thin_bucket test lists b) (omega (arith, le, ne)) (omega (arith, lt)) has')
  ]

pub purge_frees : (lists : Lists) → has_slot 1 (behind_roots lists.chains) ≡ true → length lists.free < length (after_purge lists).free
purge_frees lists has =
    let gone : has_slot 1 (purged lists) ≡ true = purged_first lists.chains has in
    let place = chain_behind 1 lists.chains has in
    each_more (is_left (purged lists)) 1 (λ r is. ap (λ k. not (has_slot k (purged lists))) is ∙ ap not gone)
    (length lists.chains) 0 place.0 lists (omega arith) (omega (arith, place.1)) place.2
