-- A purge takes rows out of their chains and leaves the others, each in its bucket.
use Rattle.std.proofs.Common.{◌≡◌, ◌≢◌, ℕ, zero, suc, ◌+◌, ◌*◌, ◌%◌, ◌<◌, ◌≤◌, Bool, true, false, cond, eqb, List, [], ◌∷◌, ◌++◌, drop, length, get_or, map, refl, sym, ap, subst, ◌∙◌, arith, length-set, get_or-set_same}
use Rattle.std.specs.Prelude.{filter, ◌||◌, not, Some, None}
use Rattle.std.specs.List.Sorted.{IsPermutation}
use Rattle.std.proofs.lemmas.Bool.{eqb-true, ne_eqb, eq-eqb, or_parts, or_from}
use Rattle.std.proofs.lemmas.List.Elements.{filter-append}
use Rattle.std.proofs.lemmas.List.Sorted.{IsPermutation-refl, IsPermutation-trans, IsPermutation-cons, IsPermutation-middle}
use Rattle.dir_entry.specs.declared.entry.Entry.{Entry}
use Rattle.dir_segment.specs.Lists.{SlotRow, Lists, has_slot, slots_behind_roots}
use Rattle.dir_segment.specs.Links.{IsBucket, IsSegment, followers, lines, slot_hits, occurrences}
use Rattle.dir_segment.specs.Purging.{thin_chain, thin_bucket, after_purge, behind_roots, find_slot, onto, rows_of_slots, tenths, purged, is_left}
use Rattle.dir_segment.specs.Entries.{kept_behind, Housed, housed, PurgeTakes}
use Rattle.dir_segment.proofs.Counts.{occurrences-append, missed}
use Rattle.dir_segment.proofs.Entering.{each_chain, each_wide}
use Rattle.dir_segment.proofs.Purging.{find_slot-is, thin_other}

abbrev slots_of : List SlotRow → List ℕ
slots_of = map (λ (q : SlotRow). q.slot)

abbrev rows_in : List Housed → List SlotRow
rows_in = map (λ (h : Housed). h.row)

abbrev house : ℕ → SlotRow → Housed
house b r = record { bucket = b; row = r }

-- ---- the purged rows stand in different slots, none of which is a root

-- a slot is none of these
abbrev Misses : ℕ → List ℕ → Type 0
Misses x [] = Unit
Misses x (s ∷ slots) = (x ≢ s) × Misses x slots

abbrev AreApart : List ℕ → Type 0
AreApart [] = Unit
AreApart (s ∷ slots) = Misses s slots × AreApart slots

lower_misses : (x b n : ℕ) → x ≤ 4 * b → Misses x (slots_behind_roots b n)
lower_misses x b zero le = tt
lower_misses x b (suc n) le = (omega (arith, le), (omega (arith, le), (omega (arith, le), lower_misses x (suc b) n (omega (arith, le)))))

root_misses : (x b n : ℕ) → x % 4 ≡ 0 → Misses x (slots_behind_roots b n)
root_misses x b zero root = tt
root_misses x b (suc n) root = (omega (arith, root), (omega (arith, root), (omega (arith, root), root_misses x (suc b) n root)))

roots_apart : (b n : ℕ) → AreApart (slots_behind_roots b n)
roots_apart b zero = tt
roots_apart b (suc n) = (
  (omega arith, (omega arith, lower_misses (4 * b + 1) (suc b) n (omega arith))),
  (
    (omega arith, lower_misses (4 * b + 2) (suc b) n (omega arith)),
    (lower_misses (4 * b + 3) (suc b) n (omega arith), roots_apart (suc b) n),
  ),
)

rows_miss : (x : ℕ) (slots : List ℕ) (rows : List SlotRow) → Misses x slots → has_slot x (rows_of_slots slots rows) ≡ false
rows_miss x [] rows m = refl
rows_miss x (s ∷ slots) rows m =
    elim (find_slot s rows) as (λ f. find_slot s rows ≡ f → has_slot x (onto f (rows_of_slots slots rows)) ≡ false) [
      | None ↦ λ is. rows_miss x slots rows m.1
      | Some r ↦ λ is.
          let ne : r.slot ≢ x = λ q. m.0 (sym q ∙ find_slot-is s rows r is) in
          or_from (eqb r.slot x) (has_slot x (rows_of_slots slots rows)) (ne_eqb r.slot x ne) (rows_miss x slots rows m.1)
    ] refl

-- each row stands in a slot of its own
abbrev AreOwn : List SlotRow → Type 0
AreOwn [] = Unit
AreOwn (p ∷ ps) = (has_slot p.slot ps ≡ false) × AreOwn ps

rows_own : (slots : List ℕ) (rows : List SlotRow) → AreApart slots → AreOwn (rows_of_slots slots rows)
rows_own [] rows apart = tt
rows_own (s ∷ slots) rows apart =
    elim (find_slot s rows) as (λ f. find_slot s rows ≡ f → AreOwn (onto f (rows_of_slots slots rows))) [
      | None ↦ λ is. rows_own slots rows apart.1
      | Some r ↦ λ is. (subst (λ k. has_slot k (rows_of_slots slots rows) ≡ false) (sym (find_slot-is s rows r is)) (rows_miss s slots rows apart.0), rows_own slots rows apart.1)
    ] refl

tenths_miss : (x skip : ℕ) (rows : List SlotRow) → has_slot x rows ≡ false → has_slot x (tenths skip rows) ≡ false
tenths_miss x skip [] none = refl
tenths_miss x zero (r ∷ rows) none =
    let both = or_parts (eqb r.slot x) (has_slot x rows) none in
    or_from (eqb r.slot x) (has_slot x (tenths 9 rows)) both.0 (tenths_miss x 9 rows both.1)
tenths_miss x (suc skip) (r ∷ rows) none = tenths_miss x skip rows (or_parts (eqb r.slot x) (has_slot x rows) none).1

tenths_own : (skip : ℕ) (rows : List SlotRow) → AreOwn rows → AreOwn (tenths skip rows)
tenths_own skip [] own = tt
tenths_own zero (r ∷ rows) own = (tenths_miss r.slot 9 rows own.0, tenths_own 9 rows own.1)
tenths_own (suc skip) (r ∷ rows) own = tenths_own skip rows own.1

-- ---- each of them is the row that the chains have in its slot

abbrev AreFound : List SlotRow → List SlotRow → Type 0
AreFound rows [] = Unit
AreFound rows (p ∷ ps) = (find_slot p.slot rows ≡ Some p) × AreFound rows ps

-- the row of a slot is the same in both
abbrev AreAlike : List SlotRow → List SlotRow → List ℕ → Type 0
AreAlike rows all [] = Unit
AreAlike rows all (s ∷ slots) = (find_slot s rows ≡ find_slot s all) × AreAlike rows all slots

roots_alike : (rows all : List SlotRow) → ((s : ℕ) → s % 4 ≢ 0 → find_slot s rows ≡ find_slot s all) → (b n : ℕ) → AreAlike rows all (slots_behind_roots b n)
roots_alike rows all same b zero = tt
roots_alike rows all same b (suc n) =
    (same (4 * b + 1) (omega arith), (same (4 * b + 2) (omega arith), (same (4 * b + 3) (omega arith), roots_alike rows all same (suc b) n)))

rows_found : (slots : List ℕ) (rows all : List SlotRow) → AreAlike rows all slots → AreFound all (rows_of_slots slots rows)
rows_found [] rows all alike = tt
rows_found (s ∷ slots) rows all alike =
    elim (find_slot s rows) as (λ f. find_slot s rows ≡ f → AreFound all (onto f (rows_of_slots slots rows))) [
      | None ↦ λ is. rows_found slots rows all alike.1
      | Some r ↦ λ is. (subst (λ k. find_slot k all ≡ Some r) (sym (find_slot-is s rows r is)) (sym alike.0 ∙ is), rows_found slots rows all alike.1)
    ] refl

tenths_found : (skip : ℕ) (all rows : List SlotRow) → AreFound all rows → AreFound all (tenths skip rows)
tenths_found skip all [] found = tt
tenths_found zero all (r ∷ rows) found = (found.0, tenths_found 9 all rows found.1)
tenths_found (suc skip) all (r ∷ rows) found = tenths_found skip all rows found.1

-- a chain begins in the root of its bucket
abbrev IsRooted : ℕ → List SlotRow → Type 0
IsRooted b [] = Unit
IsRooted b (root ∷ rows) = root.slot ≡ 4 * b

abbrev AreRooted : ℕ → List (List SlotRow) → Type 0
AreRooted b [] = Unit
AreRooted b (c ∷ chains) = IsRooted b c × AreRooted (suc b) chains

rooted : (slots : List Entry) (b : ℕ) (c : List SlotRow) → IsBucket slots b c → IsRooted b c
rooted slots b [] h = tt
rooted slots b (root ∷ rows) h = ap (λ (q : SlotRow). q.slot) h.1

all_rooted : (slots : List Entry) (b : ℕ) (chains : List (List SlotRow)) → ((j : ℕ) → j < length chains → IsBucket slots (b + j) (get_or chains j [])) → AreRooted b chains
all_rooted slots b [] each = tt
all_rooted slots b (c ∷ chains) each = (
  rooted slots b c (subst (λ k. IsBucket slots k c) (let e : b + 0 ≡ b = omega arith in e) (each 0 (omega arith))),
  all_rooted slots (suc b) chains (λ j lt. subst (λ k. IsBucket slots k (get_or chains j [])) (let e : b + suc j ≡ suc b + j = omega arith in e) (each (suc j) (omega arith))),
)

housed-rows : (b : ℕ) (c : List SlotRow) (rest : List Housed) → rows_in (map (house b) c ++ rest) ≡ c ++ rows_in rest
housed-rows b [] rest = refl
housed-rows b (r ∷ rows) rest = ap (λ (q : List SlotRow). r ∷ q) (housed-rows b rows rest)

find_past : (s : ℕ) (xs ys zs : List SlotRow) → find_slot s ys ≡ find_slot s zs → find_slot s (xs ++ ys) ≡ find_slot s (xs ++ zs)
find_past s [] ys zs same = same
find_past s (x ∷ xs) ys zs same = ap (λ f. cond (eqb x.slot s) (Some x) f) (find_past s xs ys zs same)

find_behind : (s b : ℕ) (c : List SlotRow) → s % 4 ≢ 0 → IsRooted b c → (rest : List SlotRow) → find_slot s (drop 1 c ++ rest) ≡ find_slot s (c ++ rest)
find_behind s b [] other h rest = refl
find_behind s b (root ∷ rows) other h rest =
    let ne : root.slot ≢ s = λ q. other (ap (λ k. k % 4) (sym q ∙ h) ∙ (let e : (4 * b) % 4 ≡ 0 = omega arith in e)) in
    let apart : eqb root.slot s ≡ false = ne_eqb root.slot s ne in
    rw apart refl

find_housed : (s b : ℕ) (chains : List (List SlotRow)) → s % 4 ≢ 0 → AreRooted b chains → find_slot s (behind_roots chains) ≡ find_slot s (rows_in (housed b chains))
find_housed s b [] other h = refl
find_housed s b (c ∷ chains) other h =
    find_past s (drop 1 c) (behind_roots chains) (rows_in (housed (suc b) chains)) (find_housed s (suc b) chains other h.1)
    ∙ find_behind s b c other h.0 (rows_in (housed (suc b) chains))
    ∙ ap (find_slot s) (sym (housed-rows b c (housed (suc b) chains)))

occurs_at_most : (s b : ℕ) (chains : List (List SlotRow)) → AreRooted b chains → occurrences s (slots_of (rows_in (housed b chains))) ≤ occurrences s (lines b chains)
occurs_at_most s b [] h = omega arith
occurs_at_most s b (c ∷ chains) h =
    subst (λ (q : List SlotRow). occurrences s (slots_of q) ≤ occurrences s (lines b (c ∷ chains))) (sym (housed-rows b c (housed (suc b) chains)))
    (go c h.0 (rows_in (housed (suc b) chains)) (occurs_at_most s (suc b) chains h.1)) where
      past : (xs ys : List SlotRow) → occurrences s (slots_of (xs ++ ys)) ≡ occurrences s (slots_of xs) + occurrences s (slots_of ys)
      past [] ys = omega arith
      past (x ∷ xs) ys = omega (arith, past xs ys)

      go : (d : List SlotRow) → IsRooted b d → (rest : List SlotRow) → occurrences s (slots_of rest) ≤ occurrences s (lines (suc b) chains)
          → occurrences s (slots_of (d ++ rest)) ≤ slot_hits (4 * b) s + occurrences s (followers d ++ lines (suc b) chains)
      go [] h' rest le = omega (arith, le)
      go (root ∷ rows) h' rest le =
          let same : slot_hits root.slot s ≡ slot_hits (4 * b) s = ap (λ k. slot_hits k s) h' in
          omega (arith, le, same, past rows rest, occurrences-append s (map (λ (q : SlotRow). q.slot) rows) (lines (suc b) chains))

-- ---- rows go out one after another

abbrev is_else : SlotRow → Housed → Bool
is_else p h = not (eqb p.slot h.row.slot)

all_else : (p : SlotRow) (hs : List Housed) → occurrences p.slot (slots_of (rows_in hs)) ≡ 0 → filter (is_else p) hs ≡ hs
all_else p [] none = refl
all_else p (h ∷ hs) none =
    let ne : h.row.slot ≢ p.slot = missed h.row.slot p.slot (omega (arith, none)) in
    let apart : eqb p.slot h.row.slot ≡ false = ne_eqb p.slot h.row.slot (λ q. ne (sym q)) in
    rw apart (ap (λ (q : List Housed). h ∷ q) (all_else p hs (omega (arith, none))))

one_out : (p : SlotRow) (hs : List Housed) → find_slot p.slot (rows_in hs) ≡ Some p → occurrences p.slot (slots_of (rows_in hs)) ≤ 1
    → (h : Housed) × (h.row ≡ p) × IsPermutation hs (h ∷ filter (is_else p) hs)
one_out p [] found once = absurd (cc found)
one_out p (h ∷ hs) found once =
    elim (eqb h.row.slot p.slot) as (λ t. eqb h.row.slot p.slot ≡ t → cond t (Some h.row) (find_slot p.slot (rows_in hs)) ≡ Some p → cond t 1 0 + occurrences p.slot (slots_of (rows_in hs)) ≤ 1
    → (k : Housed) × (k.row ≡ p) × IsPermutation (h ∷ hs) (k ∷ filter (is_else p) (h ∷ hs))) [
      | true ↦ λ e is le.
          let same : p.slot ≡ h.row.slot = sym (eqb-true h.row.slot p.slot e) in
          let here : eqb p.slot h.row.slot ≡ true = eq-eqb p.slot h.row.slot same in
          let rest : filter (is_else p) (h ∷ hs) ≡ hs = rw here (all_else p hs (omega (arith, le))) in
          (h, (let q : h.row ≡ p = cc is in q), subst (λ (q : List Housed). IsPermutation (h ∷ hs) (h ∷ q)) (sym rest) (IsPermutation-refl (h ∷ hs)))
      | false ↦ λ e is le.
          let more = one_out p hs is (omega (arith, le)) in
          let apart : eqb p.slot h.row.slot ≡ false = ne_eqb p.slot h.row.slot (λ q. let no : eqb h.row.slot p.slot ≡ true = eq-eqb h.row.slot p.slot (sym q) in let not_so : true ≡ false = sym no ∙ e in cc not_so) in
          let rest : filter (is_else p) (h ∷ hs) ≡ h ∷ filter (is_else p) hs = rw apart refl in (
            more.0,
            more.1,
            subst (λ (q : List Housed). IsPermutation (h ∷ hs) (more.0 ∷ q)) (sym rest)
                (IsPermutation-trans (h ∷ hs) (h ∷ more.0 ∷ filter (is_else p) hs) (more.0 ∷ h ∷ filter (is_else p) hs)
                (IsPermutation-cons h hs (more.0 ∷ filter (is_else p) hs) more.2)
                (IsPermutation-middle (h ∷ []) more.0 (filter (is_else p) hs))),
          )
    ] refl found once

abbrev stays : List SlotRow → Housed → Bool
stays ps h = is_left ps h.row

else-stays : (p : SlotRow) (ps : List SlotRow) (hs : List Housed) → filter (stays ps) (filter (is_else p) hs) ≡ filter (stays (p ∷ ps)) hs
else-stays p ps [] = refl
else-stays p ps (h ∷ hs) =
    elim (eqb p.slot h.row.slot) as (λ t. filter (stays ps) (cond (not t) (h ∷ filter (is_else p) hs) (filter (is_else p) hs)) ≡ cond (not (t || has_slot h.row.slot ps)) (h ∷ filter (stays (p ∷ ps)) hs) (filter (stays (p ∷ ps)) hs)) [
      | true ↦ else-stays p ps hs
      | false ↦
          elim (has_slot h.row.slot ps) as (λ t. cond (not t) (h ∷ filter (stays ps) (filter (is_else p) hs)) (filter (stays ps) (filter (is_else p) hs)) ≡ cond (not t) (h ∷ filter (stays (p ∷ ps)) hs) (filter (stays (p ∷ ps)) hs))
          [ true ↦ else-stays p ps hs | false ↦ ap (λ (q : List Housed). h ∷ q) (else-stays p ps hs) ]
    ]

fewer_else : (p : SlotRow) (s : ℕ) (hs : List Housed) → occurrences s (slots_of (rows_in (filter (is_else p) hs))) ≤ occurrences s (slots_of (rows_in hs))
fewer_else p s [] = omega arith
fewer_else p s (h ∷ hs) =
    elim (not (eqb p.slot h.row.slot)) as (λ t. occurrences s (slots_of (rows_in (cond t (h ∷ filter (is_else p) hs) (filter (is_else p) hs)))) ≤ slot_hits h.row.slot s + occurrences s (slots_of (rows_in hs)))
    [ true ↦ omega (arith, fewer_else p s hs) | false ↦ omega (arith, fewer_else p s hs) ]

find_else : (p : SlotRow) (s : ℕ) (hs : List Housed) → p.slot ≢ s → find_slot s (rows_in (filter (is_else p) hs)) ≡ find_slot s (rows_in hs)
find_else p s [] ne = refl
find_else p s (h ∷ hs) ne =
    elim (eqb p.slot h.row.slot) as (λ t. eqb p.slot h.row.slot ≡ t → find_slot s (rows_in (cond (not t) (h ∷ filter (is_else p) hs) (filter (is_else p) hs))) ≡ cond (eqb h.row.slot s) (Some h.row) (find_slot s (rows_in hs))) [
      | true ↦ λ e.
          let apart : eqb h.row.slot s ≡ false = ne_eqb h.row.slot s (λ q. ne (eqb-true p.slot h.row.slot e ∙ q)) in
          rw apart (find_else p s hs ne)
      | false ↦ λ e. ap (λ f. cond (eqb h.row.slot s) (Some h.row) f) (find_else p s hs ne)
    ] refl

found_else : (p : SlotRow) (ps : List SlotRow) (hs : List Housed) → has_slot p.slot ps ≡ false → AreFound (rows_in hs) ps → AreFound (rows_in (filter (is_else p) hs)) ps
found_else p [] hs none found = tt
found_else p (q ∷ ps) hs none found =
    let both = or_parts (eqb q.slot p.slot) (has_slot p.slot ps) none in
    let ne : p.slot ≢ q.slot = λ e. let yes : eqb q.slot p.slot ≡ true = eq-eqb q.slot p.slot (sym e) in let no : true ≡ false = sym yes ∙ both.0 in cc no in
    (find_else p q.slot hs ne ∙ found.0, found_else p ps hs both.1 found.1)

all_stay : (hs : List Housed) → filter (stays []) hs ≡ hs
all_stay [] = refl
all_stay (h ∷ hs) = ap (λ (q : List Housed). h ∷ q) (all_stay hs)

all_out : (ps : List SlotRow) (hs : List Housed) → ((s : ℕ) → occurrences s (slots_of (rows_in hs)) ≤ 1) → AreOwn ps
    → AreFound (rows_in hs) ps
    → (gone : List Housed) × (rows_in gone ≡ ps) × IsPermutation hs (gone ++ filter (stays ps) hs)
all_out [] hs once own found = ([], refl, subst (λ (q : List Housed). IsPermutation hs q) (sym (all_stay hs)) (IsPermutation-refl hs))
all_out (p ∷ ps) hs once own found =
    let first = one_out p hs found.0 (once p.slot) in
    let rest = all_out ps (filter (is_else p) hs) (λ s. omega (arith, once s, fewer_else p s hs)) own.1 (found_else p ps hs own.0 found.1) in
    let left : IsPermutation (filter (is_else p) hs) (rest.0 ++ filter (stays (p ∷ ps)) hs) =
    subst (λ (q : List Housed). IsPermutation (filter (is_else p) hs) (rest.0 ++ q)) (else-stays p ps hs) rest.2 in (
      first.0 ∷ rest.0,
      (λ i. first.1 i ∷ rest.1 i),
      IsPermutation-trans hs (first.0 ∷ filter (is_else p) hs) (first.0 ∷ (rest.0 ++ filter (stays (p ∷ ps)) hs)) first.2
          (IsPermutation-cons first.0 (filter (is_else p) hs) (rest.0 ++ filter (stays (p ∷ ps)) hs) left),
    )

-- ---- the chains that are left

module _ (test : SlotRow → Bool) where
  thinned_at : (lists : Lists) (b : ℕ) (c : List SlotRow) → get_or lists.chains b [] ≡ c → b < length lists.chains → get_or (thin_chain test lists b c).chains b [] ≡ kept_behind test c
  thinned_at lists b [] is lt = is
  thinned_at lists b (root ∷ rows) is lt = get_or-set_same lists.chains b (root ∷ filter test rows) [] lt

  thinned : (lists : Lists) (b : ℕ) → b < length lists.chains → get_or (thin_bucket test lists b).chains b [] ≡ kept_behind test (get_or lists.chains b [])
  unfolding thin_bucket
  thinned lists b lt = thinned_at lists b (get_or lists.chains b []) refl lt

  chain_wide : (lists : Lists) (b : ℕ) (c : List SlotRow) → length (thin_chain test lists b c).chains ≡ length lists.chains
  chain_wide lists b [] = refl
  chain_wide lists b (root ∷ rows) = length-set lists.chains b (root ∷ filter test rows)

  thin_wide : (lists : Lists) (b : ℕ) → length (thin_bucket test lists b).chains ≡ length lists.chains
  unfolding thin_bucket
  thin_wide lists b = chain_wide lists b (get_or lists.chains b [])

  chain_left : (b : ℕ) (c : List SlotRow) → ((r : SlotRow) → r.slot ≡ 4 * b → test r ≡ true) → IsRooted b c → map (house b) (kept_behind test c) ≡ filter (λ (h : Housed). test h.row) (map (house b) c)
  chain_left b [] passes h = refl
  chain_left b (root ∷ rows) passes h =
      let first : test root ≡ true = passes root h in
      rw first (ap (λ (q : List Housed). house b root ∷ q) (behind rows)) where
        behind : (qs : List SlotRow) → map (house b) (filter test qs) ≡ filter (λ (h : Housed). test h.row) (map (house b) qs)
        behind [] = refl
        behind (q ∷ qs) =
            elim (test q) as (λ t. map (house b) (cond t (q ∷ filter test qs) (filter test qs)) ≡ cond t (house b q ∷ filter (λ (h : Housed). test h.row) (map (house b) qs)) (filter (λ (h : Housed). test h.row) (map (house b) qs)))
            [ true ↦ ap (λ (p : List Housed). house b q ∷ p) (behind qs) | false ↦ behind qs ]

  housed_left : (b : ℕ) (cs ds : List (List SlotRow)) → length ds ≡ length cs
      → ((k : ℕ) → get_or ds k [] ≡ kept_behind test (get_or cs k []))
      → ((r : SlotRow) → r.slot % 4 ≡ 0 → test r ≡ true) → AreRooted b cs → housed b ds ≡ filter (λ (h : Housed). test h.row) (housed b cs)
  housed_left b [] [] long each passes h = refl
  housed_left b [] (d ∷ ds) long each passes h = absurd (omega (arith, long))
  housed_left b (c ∷ cs) [] long each passes h = absurd (omega (arith, long))
  housed_left b (c ∷ cs) (d ∷ ds) long each passes h =
      let first : d ≡ kept_behind test c = each 0 in
      let rest = housed_left (suc b) cs ds (omega (arith, long)) (λ k. each (suc k)) passes h.1 in
      let at-root : (r : SlotRow) → r.slot ≡ 4 * b → test r ≡ true = λ r is. passes r (ap (λ k. k % 4) is ∙ (let e : (4 * b) % 4 ≡ 0 = omega arith in e)) in
      (λ i. map (house b) (first i) ++ rest i)
      ∙ ap (λ (q : List Housed). q ++ filter (λ (k : Housed). test k.row) (housed (suc b) cs)) (chain_left b c at-root h.0)
      ∙ sym (filter-append (λ (k : Housed). test k.row) (map (house b) c) (housed (suc b) cs))

pub purge_takes_lem : (slots : List Entry) (head spare taken buckets : ℕ) (lists : Lists) → IsSegment slots head spare taken buckets lists → PurgeTakes lists
purge_takes_lem slots head spare taken buckets lists h =
    let n : ℕ = length lists.chains in
    let test : SlotRow → Bool = is_left (purged lists) in
    let bucket_of : (j : ℕ) → j < n → IsBucket slots (0 + j) (get_or lists.chains j []) =
    λ j lt. subst (λ k. IsBucket slots k (get_or lists.chains j [])) (let e : j ≡ 0 + j = omega arith in e) (h.chains j (omega (arith, lt, h.width))) in
    let at-roots : AreRooted 0 lists.chains = all_rooted slots 0 lists.chains bucket_of in
    let behind : List SlotRow = behind_roots lists.chains in
    let all : List SlotRow = rows_in (housed 0 lists.chains) in
    let found : AreFound all (purged lists) =
    tenths_found 0 all (rows_of_slots (slots_behind_roots 0 n) behind) (rows_found (slots_behind_roots 0 n) behind all (roots_alike behind all (λ s other. find_housed s 0 lists.chains other at-roots) 0 n)) in
    let own : AreOwn (purged lists) = tenths_own 0 (rows_of_slots (slots_behind_roots 0 n) behind) (rows_own (slots_behind_roots 0 n) behind (roots_apart 0 n)) in
    let once : (s : ℕ) → occurrences s (slots_of all) ≤ 1 = λ s.
    let e = sym (occurrences-append s lists.free (lines 0 lists.chains)) ∙ h.once s in
    grind (arith, e, occurs_at_most s 0 lists.chains at-roots) in
    let out = all_out (purged lists) (housed 0 lists.chains) once own found in
    let each = each_chain (thin_bucket test) (kept_behind test) refl (thinned test) (thin_other test) (thin_wide test) lists in
    let wide = each_wide (thin_bucket test) (kept_behind test) refl (thinned test) (thin_other test) (thin_wide test) n 0 lists in
    let passes : (r : SlotRow) → r.slot % 4 ≡ 0 → test r ≡ true =
    λ r root. ap not (tenths_miss r.slot 0 (rows_of_slots (slots_behind_roots 0 n) behind) (rows_miss r.slot (slots_behind_roots 0 n) behind (root_misses r.slot 0 n root))) in
    record {
      left = each;
      width = wide;
      gone = out.0;
      taken = out.1;
      all = subst (λ (q : List Housed). IsPermutation (housed 0 lists.chains) (out.0 ++ q)) (sym (housed_left test 0 lists.chains (after_purge lists).chains wide each passes at-roots)) out.2;
    }
