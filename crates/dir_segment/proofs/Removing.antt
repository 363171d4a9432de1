-- What a removal leaves.
use Rattle.std.proofs.Common.{◌≡◌, ◌≢◌, ℕ, suc, ◌+◌, ◌-◌, ◌*◌, ◌<◌, ◌≤◌, Bool, true, false, cond, eqb, List, [], ◌∷◌, length, get_or, set, map, drop, refl, sym, ap, subst, ◌∙◌, arith, length-set, get_or-set_other, get_or-set_same}
use Rattle.std.proofs.lemmas.Bool.{eqb-true, eqb-false}
use Rattle.std.proofs.lemmas.List.{length-map}
use Rattle.dir_entry.specs.declared.entry.Entry.{Entry}
use Rattle.dir_segment.specs.Lists.{SlotRow, Lists, row, with_chain, has_slot, behind_slot, without_next, with_first_free, take_root, take_next}
use Rattle.dir_segment.specs.Links.{empty, at, IsChain, IsBucket, IsFreeList, IsSegment, followers, slot_hits, occurrences}
use Rattle.dir_segment.proofs.Counts.{missed}
use Rattle.dir_segment.proofs.Frames.{frame_chain, frame_bucket, frame_free}
use Rattle.dir_segment.proofs.Moves.{hit_same, own, pair, chain_within, chain_le, moved}
use Rattle.dir_segment.proofs.Chains.{has_behind, has_occurs, has_first, slot_within, bucket_behind, next_row, last_row}

abbrev slots_of : List SlotRow → List ℕ
slots_of = map (λ (q : SlotRow). q.slot)

-- ---- the lists alone

abbrev rest_from : Bool → ℕ → List SlotRow → List SlotRow
rest_from t before rows = cond t rows (behind_slot before rows)

abbrev kept_from : Bool → ℕ → List SlotRow → List SlotRow
kept_from t before rows = cond t (drop 1 rows) (without_next before rows)

next_moved : (t : Bool) (before s : ℕ) (free : List ℕ) (rows : List SlotRow)
    → occurrences s (with_first_free (rest_from t before rows) free) + occurrences s (slots_of (kept_from t before rows)) ≡ occurrences s free + occurrences s (slots_of rows)
next_moved true before s free [] = refl
next_moved false before s free [] = refl
next_moved true before s free (r ∷ rows) = omega arith
next_moved false before s free (r ∷ rows) = omega (arith, next_moved (eqb r.slot before) before s free rows)

next_as_many : (t : Bool) (before : ℕ) (free : List ℕ) (rows : List SlotRow)
    → length (with_first_free (rest_from t before rows) free) + length (kept_from t before rows) ≡ length free + length rows
next_as_many true before free [] = refl
next_as_many false before free [] = refl
next_as_many true before free (r ∷ rows) = omega arith
next_as_many false before free (r ∷ rows) = omega (arith, next_as_many (eqb r.slot before) before free rows)

first_occurs : (t : Bool) (before : ℕ) (rows : List SlotRow) (r : SlotRow) (rest : List SlotRow) → rest_from t before rows ≡ r ∷ rest → 0 < occurrences r.slot (slots_of rows)
first_occurs true before rows r rest e = rw e (omega (arith, hit_same r.slot))
first_occurs false before rows r rest e =
    let here : has_slot r.slot (behind_slot before rows) ≡ true = rw e (has_first r.slot r.entry rest) in
    has_occurs r.slot rows (has_behind before r.slot rows here)

-- ---- the links

module _ (slots : List Entry) (before x head : ℕ) (in-before : before < length slots) (in-x : x < length slots) where
  short : Entry
  short = record (at slots before) { next = (at slots x).next }

  abbrev pub cut : List Entry
  cut = set (set slots before (record (at slots before) { next = (at slots x).next })) x (record empty { next = head })

  cut_other : (y : ℕ) → y ≢ before → y ≢ x → at cut y ≡ at slots y
  cut_other y ne ne' =
      get_or-set_other (set slots before (record (at slots before) { next = (at slots x).next })) x y (record empty { next = head }) empty ne'
      ∙ get_or-set_other slots before y (record (at slots before) { next = (at slots x).next }) empty ne

  cut_before : before ≢ x → at cut before ≡ record (at slots before) { next = (at slots x).next }
  cut_before ne =
      get_or-set_other (set slots before (record (at slots before) { next = (at slots x).next })) x before (record empty { next = head }) empty ne
      ∙ get_or-set_same slots before (record (at slots before) { next = (at slots x).next }) empty in-before

  pub cut_x : at cut x ≡ record empty { next = head }
  cut_x = get_or-set_same (set slots before (record (at slots before) { next = (at slots x).next })) x (record empty { next = head }) empty
      (omega (arith, in-x, length-set slots before (record (at slots before) { next = (at slots x).next })))

  pub cut_chain : (s : ℕ) (rows : List SlotRow) → IsChain slots s rows → occurrences before (slots_of rows) ≡ 0 → occurrences x (slots_of rows) ≡ 0 → IsChain cut s rows
  cut_chain s rows h none none' = frame_chain _ x _ s rows (frame_chain slots before _ s rows h none) none'

  -- a chain from behind a slot on, with the slot's own entry
  pub record IsCut (p : ℕ) (kept : List SlotRow) : Type 0 where
    pub used : (at slots p).offset ≡ (at cut p).offset
    pub same : row p (at slots p) ≡ row p (at cut p)
    pub rest : IsChain cut (at cut p).next kept

  cut_here : (p : ℕ) (rows : List SlotRow) (r : SlotRow) (rest : List SlotRow) → IsChain slots (at slots p).next rows → r.slot ≡ x
      → p ≡ before → rows ≡ r ∷ rest → ((y : ℕ) → slot_hits p y + occurrences y (slots_of rows) ≤ 1) → IsCut p (drop 1 rows)
  cut_here p rows r rest chain place is next apart =
      let chain' : IsChain slots (at slots before).next (r ∷ rest) = subst (λ k. IsChain slots (at slots k).next (r ∷ rest)) is (subst (λ rs. IsChain slots (at slots p).next rs) next chain) in
      let from : (at slots before).next ≡ x = sym (ap (λ (q : SlotRow). q.slot) chain'.2) ∙ place in
      let apart' : (y : ℕ) → slot_hits p y + (slot_hits r.slot y + occurrences y (slots_of rest)) ≤ 1 = λ y. subst (λ rs. slot_hits p y + occurrences y (slots_of rs) ≤ 1) next (apart y) in
      let one : slot_hits p before ≡ 1 = rw is (hit_same before) in
      let two : slot_hits r.slot x ≡ 1 = rw place (hit_same x) in
      let no_before = apart' before in
      let no_x = apart' x in
      let ne : p ≢ x = missed p x (omega (arith, no_x, two)) in
      let here : at cut p ≡ record (at slots p) { next = (at slots x).next } =
      subst (λ k. at cut k ≡ record (at slots k) { next = (at slots x).next }) (sym is) (cut_before (λ q. ne (is ∙ q))) in
      let rest' : IsChain cut (at slots x).next rest =
      cut_chain (at slots x).next rest (subst (λ k. IsChain slots (at slots k).next rest) from chain'.3) (omega (arith, no_before, one)) (omega (arith, no_x, two)) in
      record {
        used = sym (ap (λ (a : Entry). a.offset) here);
        same = ap (λ (a : Entry). row p a) (sym here);
        rest = rw (here, next) rest';
      }

  pub cut_from : (p : ℕ) (rows : List SlotRow) (r : SlotRow) (rest : List SlotRow) → IsChain slots (at slots p).next rows → r.slot ≡ x
      → rest_from (eqb p before) before rows ≡ r ∷ rest → ((y : ℕ) → slot_hits p y + occurrences y (slots_of rows) ≤ 1) → IsCut p (kept_from (eqb p before) before rows)
  cut_from p [] r rest chain place next apart =
      elim (eqb p before) as (λ t. rest_from t before [] ≡ r ∷ rest → IsCut p (kept_from t before [])) [ true ↦ λ e. absurd cc | false ↦ λ e. absurd cc ] next
  cut_from p (r0 ∷ rows0) r rest chain place next apart =
      elim (eqb p before) as (λ t. eqb p before ≡ t → rest_from t before (r0 ∷ rows0) ≡ r ∷ rest → IsCut p (kept_from t before (r0 ∷ rows0))) [
        | true ↦ λ e next'. cut_here p (r0 ∷ rows0) r rest chain place (eqb-true p before e) next' apart
        | false ↦ λ e next'.
            let s0 : ℕ = (at slots p).next in
            let is : r0.slot ≡ s0 = ap (λ (q : SlotRow). q.slot) chain.2 in
            let next0 : rest_from (eqb s0 before) before rows0 ≡ r ∷ rest = subst (λ k. rest_from (eqb k before) before rows0 ≡ r ∷ rest) is next' in
            let apart0 : (y : ℕ) → slot_hits s0 y + occurrences y (slots_of rows0) ≤ 1 = λ y. subst (λ k. slot_hits k y + occurrences y (slots_of rows0) ≤ 1) is (omega (arith, apart y)) in
            let later : IsCut s0 (kept_from (eqb s0 before) before rows0) = cut_from s0 rows0 r rest chain.3 place next0 apart0 in
            let occurs : 0 < occurrences r.slot (slots_of (r0 ∷ rows0)) = first_occurs false before (r0 ∷ rows0) r rest next' in
            let occurs' : 0 < occurrences x (slots_of (r0 ∷ rows0)) = subst (λ k. 0 < occurrences k (slots_of (r0 ∷ rows0))) place occurs in
            let alone = apart x in
            let stays : at cut p ≡ at slots p = cut_other p (eqb-false p before e) (missed p x (omega (arith, alone, occurs'))) in
            let used0 : 0 < (at cut s0).offset = omega (arith, chain.1, later.used) in
            let rest0 : IsChain cut (at cut s0).next (kept_from (eqb r0.slot before) before rows0) =
            subst (λ k. IsChain cut (at cut s0).next (kept_from (eqb k before) before rows0)) (sym is) later.rest in
            record {
              used = ap (λ (a : Entry). a.offset) (sym stays);
              same = ap (λ (a : Entry). row p a) (sym stays);
              rest = rw stays (chain.0, used0, chain.2 ∙ later.same, rest0);
            }
      ] refl next

-- ---- the segment

module _ (slots : List Entry) (head spare taken buckets : ℕ) (lists : Lists) (h : IsSegment slots head spare taken buckets lists) (b : ℕ) (lt : b < buckets) where
  -- the row behind `before` goes out
  next_taken : (before x : ℕ) → x ≡ (at slots before).next → (root : SlotRow) (rows : List SlotRow) → get_or lists.chains b [] ≡ root ∷ rows
      → has_slot before (get_or lists.chains b []) ≡ true → (r : SlotRow) (rest : List SlotRow) → behind_slot before (get_or lists.chains b []) ≡ r ∷ rest
      → (in-before : before < length slots) (in-x : x < length slots)
      → IsSegment (cut slots before x head in-before in-x) x (spare + 1) (taken - 1) buckets (take_next lists b before (get_or lists.chains b []))
  next_taken before x x-is root rows is has r rest next in-before in-x =
      let c : List SlotRow = get_or lists.chains b [] in
      let slots' : List Entry = cut slots before x head in-before in-x in
      let bucket : IsBucket slots b (root ∷ rows) = subst (λ (d : List SlotRow). IsBucket slots b d) is (h.chains b lt) in
      let root-is : root.slot ≡ 4 * b = ap (λ (q : SlotRow). q.slot) bucket.1 in
      let links : IsChain slots (at slots before).next (r ∷ rest) = subst (λ (d : List SlotRow). IsChain slots (at slots before).next d) next (bucket_behind slots b before c (h.chains b lt) has) in
      let place : r.slot ≡ x = ap (λ (q : SlotRow). q.slot) links.2 ∙ sym x-is in
      let next' : rest_from (eqb root.slot before) before rows ≡ r ∷ rest = subst (λ (d : List SlotRow). behind_slot before d ≡ r ∷ rest) is next in
      let next'' : rest_from (eqb (4 * b) before) before rows ≡ r ∷ rest = subst (λ k. rest_from (eqb k before) before rows ≡ r ∷ rest) root-is next' in
      let has' : has_slot before (root ∷ rows) ≡ true = subst (λ (d : List SlotRow). has_slot before d ≡ true) is has in
      let followed : (y : ℕ) → occurrences y (followers c) ≡ occurrences y (slots_of rows) = λ y. ap (λ (d : List SlotRow). occurrences y (followers d)) is in
      let apart : (y : ℕ) → slot_hits (4 * b) y + occurrences y (slots_of rows) ≤ 1 = λ y. omega (arith, own slots head spare taken buckets lists h y b lt, followed y) in
      let part = cut_from slots before x head in-before in-x (4 * b) rows r rest bucket.2 place next'' apart in
      let some_x : 0 < occurrences x (slots_of rows) = subst (λ k. 0 < occurrences k (slots_of rows)) place (first_occurs (eqb root.slot before) before rows r rest next') in
      let some_before : 0 < slot_hits (4 * b) before + occurrences before (slots_of rows) = subst (λ k. 0 < slot_hits k before + occurrences before (slots_of rows)) root-is (has_occurs before (root ∷ rows) has') in
      let own_x = own slots head spare taken buckets lists h x b lt in
      let own_before = own slots head spare taken buckets lists h before b lt in
      let f_x = followed x in
      let f_before = followed before in
      let freed : at slots' x ≡ record empty { next = head } = cut_x slots before x head in-before in-x in
      let some : 0 < x = omega (arith, links.0, x-is) in
      let free' : IsFreeList slots' head lists.free =
      frame_free _ x _ head lists.free (frame_free slots before _ head lists.free h.free (omega (arith, own_before, some_before, f_before))) (omega (arith, own_x, some_x, f_x)) in
      let free'' : IsFreeList slots' x (r.slot ∷ lists.free) =
      subst (λ (a : Entry). (0 < x) × (a.offset ≡ 0) × (r.slot ≡ x) × IsFreeList slots' a.next lists.free) (sym freed) (some, refl, place, free') in
      let kept : List SlotRow = kept_from (eqb root.slot before) before rows in
      let bucket' : IsBucket slots' b (root ∷ kept) =
      (omega (arith, part.used, bucket.0), bucket.1 ∙ part.same, subst (λ k. IsChain slots' (at slots' (4 * b)).next (kept_from (eqb k before) before rows)) (sym root-is) part.rest) in
      let as_many = next_as_many (eqb root.slot before) before lists.free rows in
      let one_free : length (with_first_free (rest_from (eqb root.slot before) before rows) lists.free) ≡ suc (length lists.free) = ap (λ (d : List SlotRow). length (with_first_free d lists.free)) next' in
      let long : length c ≡ suc (length rows) = ap (λ (d : List SlotRow). length d) is in
      let long' : length (without_next before c) ≡ suc (length kept) = ap (λ (d : List SlotRow). length (without_next before d)) is in
      let at_least = chain_le slots head spare taken buckets lists h b lt in
      moved slots head spare taken buckets lists h b lt slots' x (spare + 1) (taken - 1) (without_next before c) (with_first_free (behind_slot before c) lists.free) (record {
        size = length-set _ x _ ∙ length-set slots before _ ∙ h.size;
        bucket = subst (λ (d : List SlotRow). IsBucket slots' b (without_next before d)) (sym is) bucket';
        others = λ k ne below.
            let two = pair slots head spare taken buckets lists h before b k ne lt below in
            let two' = pair slots head spare taken buckets lists h x b k ne lt below in
            frame_bucket _ x _ k (get_or lists.chains k []) (frame_bucket slots before _ k (get_or lists.chains k []) (h.chains k below) (omega (arith, two, some_before, f_before)))
            (omega (arith, two', some_x, f_x));
        links = subst (λ (d : List SlotRow). IsFreeList slots' x (with_first_free d lists.free)) (sym next) free'';
        moved = λ s. subst (λ (d : List SlotRow). occurrences s (with_first_free (behind_slot before d) lists.free) + occurrences s (followers (without_next before d)) ≡ occurrences s lists.free + occurrences s (followers d)) (sym is)
            (next_moved (eqb root.slot before) before s lists.free rows);
        as_many = subst (λ (d : List SlotRow). length (with_first_free (behind_slot before d) lists.free) + length (followers (without_next before d)) ≡ length lists.free + length (followers d)) (sym is)
            (omega (arith, as_many, length-map kept (λ (q : SlotRow). q.slot), length-map rows (λ (q : SlotRow). q.slot)));
        free_count =
            subst (λ (d : List SlotRow). spare + 1 ≡ length (with_first_free d lists.free)) (sym next) (omega (arith, h.free_count));
        used_count = omega (arith, long, long', as_many, one_free, at_least);
      })

  -- the root of a chain of one goes out
  root_taken_alone : (root : SlotRow) → get_or lists.chains b [] ≡ root ∷ []
      → IsSegment (set slots (4 * b) empty) head spare (taken - 1) buckets (with_chain lists b [] lists.free)
  root_taken_alone root is =
      let within : 4 * b < length slots = omega (arith, h.size) in
      let same : at (set slots (4 * b) empty) (4 * b) ≡ empty = get_or-set_same slots (4 * b) empty empty within in
      let hits = hit_same (4 * b) in
      let alone = own slots head spare taken buckets lists h (4 * b) b lt in
      let at_least = chain_le slots head spare taken buckets lists h b lt in
      let long : length (get_or lists.chains b []) ≡ 1 = ap (λ (d : List SlotRow). length d) is in
      moved slots head spare taken buckets lists h b lt (set slots (4 * b) empty) head spare (taken - 1) [] lists.free (record {
        size = length-set slots (4 * b) empty ∙ h.size;
        bucket = subst (λ (a : Entry). (a.offset ≡ 0) × (a.next ≡ 0)) (sym same) (refl, refl);
        others = λ k ne below. frame_bucket slots (4 * b) empty k (get_or lists.chains k []) (h.chains k below)
            (omega (arith, hits, pair slots head spare taken buckets lists h (4 * b) b k ne lt below));
        links = frame_free slots (4 * b) empty head lists.free h.free (omega (arith, hits, alone));
        moved = λ s. rw is refl;
        as_many = rw is refl;
        free_count = h.free_count;
        used_count = omega (arith, long, at_least);
      })

  -- the second entry moves into the root
  root_taken_moved : (root r : SlotRow) (rows : List SlotRow) → get_or lists.chains b [] ≡ root ∷ r ∷ rows → (x : ℕ)
      → x ≡ (at slots (4 * b)).next
      → IsSegment (set (set slots (4 * b) (at slots x)) x (record empty { next = head })) x (spare + 1) (taken - 1) buckets
      (with_chain lists b (row root.slot r.entry ∷ rows) (r.slot ∷ lists.free))
  root_taken_moved root r rows is x x-is =
      let c : List SlotRow = get_or lists.chains b [] in
      let bucket : IsBucket slots b (root ∷ r ∷ rows) = subst (λ (d : List SlotRow). IsBucket slots b d) is (h.chains b lt) in
      let links : IsChain slots x (r ∷ rows) = subst (λ k. IsChain slots k (r ∷ rows)) (sym x-is) bucket.2 in
      let place : r.slot ≡ x = ap (λ (q : SlotRow). q.slot) links.2 in
      let second : Entry = at slots x in
      let half : List Entry = set slots (4 * b) second in
      let none : Entry = record empty { next = head } in
      let slots' : List Entry = set half x none in
      let hits = hit_same (4 * b) in
      let hit_x : slot_hits r.slot x ≡ 1 = rw place (hit_same x) in
      let followed : (y : ℕ) → occurrences y (followers c) ≡ slot_hits r.slot y + occurrences y (slots_of rows) = λ y. ap (λ (d : List SlotRow). occurrences y (followers d)) is in
      let own_root = own slots head spare taken buckets lists h (4 * b) b lt in
      let own_x = own slots head spare taken buckets lists h x b lt in
      let f_root = followed (4 * b) in
      let f_x = followed x in
      let within : 4 * b < length slots = omega (arith, h.size) in
      let within' : x < length slots = omega (arith, chain_within slots head spare taken buckets lists h x b lt (omega (arith, f_x, hit_x)), h.size) in
      let ne : 4 * b ≢ x = missed (4 * b) x (omega (arith, own_x, f_x, hit_x)) in
      let at-root : at slots' (4 * b) ≡ second = get_or-set_other half x (4 * b) none empty ne ∙ get_or-set_same slots (4 * b) second empty within in
      let at-x : at slots' x ≡ none = get_or-set_same half x none empty (omega (arith, within', length-set slots (4 * b) second)) in
      let rest : IsChain slots' second.next rows =
      frame_chain half x none second.next rows (frame_chain slots (4 * b) second second.next rows links.3 (omega (arith, own_root, f_root, hits))) (omega (arith, own_x, f_x, hit_x)) in
      let entry-is : row root.slot r.entry ≡ row (4 * b) second = λ i. row (bucket.1 i).slot (links.2 i).entry in
      let free' : IsFreeList slots' head lists.free =
      frame_free half x none head lists.free (frame_free slots (4 * b) second head lists.free h.free (omega (arith, own_root, hits))) (omega (arith, own_x, f_x, hit_x)) in
      let at_least = chain_le slots head spare taken buckets lists h b lt in
      let long : length c ≡ suc (suc (length rows)) = ap (λ (d : List SlotRow). length d) is in
      moved slots head spare taken buckets lists h b lt slots' x (spare + 1) (taken - 1) (row root.slot r.entry ∷ rows) (r.slot ∷ lists.free) (record {
        size = length-set half x none ∙ length-set slots (4 * b) second ∙ h.size;
        bucket = subst (λ (a : Entry). (0 < a.offset) × (row root.slot r.entry ≡ row (4 * b) a) × IsChain slots' a.next rows) (sym at-root) (links.1, entry-is, rest);
        others = λ k ne' below.
            let two = pair slots head spare taken buckets lists h (4 * b) b k ne' lt below in
            let two' = pair slots head spare taken buckets lists h x b k ne' lt below in
            frame_bucket half x none k (get_or lists.chains k []) (frame_bucket slots (4 * b) second k (get_or lists.chains k []) (h.chains k below) (omega (arith, two, hits)))
            (omega (arith, two', f_x, hit_x));
        links = subst (λ (a : Entry). (0 < x) × (a.offset ≡ 0) × (r.slot ≡ x) × IsFreeList slots' a.next lists.free) (sym at-x) (links.0, refl, place, free');
        moved = λ s. rw is (omega arith);
        as_many = rw is (omega arith);
        free_count = omega (arith, h.free_count);
        used_count = omega (arith, long, at_least);
      })

  -- ---- the same, by what the calls gave

  pub root_held : get_or lists.chains b [] ≢ [] → has_slot (4 * b) (get_or lists.chains b []) ≡ true
  root_held some = go (get_or lists.chains b []) (h.chains b lt) some where
    go : (c : List SlotRow) → IsBucket slots b c → c ≢ [] → has_slot (4 * b) c ≡ true
    go [] k some' = absurd (some' refl)
    go (r ∷ rows) k some' =
        subst (λ (q : SlotRow). has_slot (4 * b) (q ∷ rows) ≡ true) (sym k.1) (has_first (4 * b) (at slots (4 * b)) rows)

  pub some_taken : get_or lists.chains b [] ≢ [] → 0 < taken
  some_taken some = go (get_or lists.chains b []) (chain_le slots head spare taken buckets lists h b lt) some where
    go : (c : List SlotRow) → length c ≤ taken → c ≢ [] → 0 < taken
    go [] le some' = absurd (some' refl)
    go (r ∷ rows) le some' = omega arith

  pub next_within : (before : ℕ) → has_slot before (get_or lists.chains b []) ≡ true → (x : ℕ) → x ≡ (at slots before).next → x ≢ 0 → x < length slots
  next_within before has x is some =
      slot_within slots head spare taken buckets lists h b lt x (next_row slots head spare taken buckets lists h b lt before has x is some).1

  pub root_taken_last : get_or lists.chains b [] ≢ [] → (p : ℕ) → p ≡ 4 * b → (e : Entry) → e ≡ at slots p → e.next ≡ 0
      → (slots' : List Entry) → slots' ≡ set slots p empty → IsSegment slots' head spare (taken - 1) buckets (take_root lists b (get_or lists.chains b []))
  root_taken_last some p place e found none slots' written =
      let last : (at slots (4 * b)).next ≡ 0 = sym (ap (λ (a : Entry). a.next) (found ∙ ap (at slots) place)) ∙ none in
      let new : slots' ≡ set slots (4 * b) empty = written ∙ ap (λ k. set slots k empty) place in
      go (get_or lists.chains b []) refl (h.chains b lt) last new where
        go : (c : List SlotRow) → get_or lists.chains b [] ≡ c → IsBucket slots b c → (at slots (4 * b)).next ≡ 0 → slots' ≡ set slots (4 * b) empty
            → IsSegment slots' head spare (taken - 1) buckets (take_root lists b c)
        go [] is k last new = absurd (some is)
        go (root ∷ []) is k last new = rw new (root_taken_alone root is)
        go (root ∷ r ∷ rows) is k last new = absurd (omega (arith, k.2.0, last))

  pub root_taken_first : get_or lists.chains b [] ≢ [] → (p : ℕ) → p ≡ 4 * b → (x : ℕ) → x ≡ (at slots p).next → x ≢ 0
      → (second : Entry) → second ≡ at slots x → (half : List Entry) → half ≡ set slots p second
      → (slots' : List Entry) → slots' ≡ set half x (record empty { next = head })
      → IsSegment slots' x (spare + 1) (taken - 1) buckets (take_root lists b (get_or lists.chains b []))
  root_taken_first some p place x found more second second-is half half-is slots' written =
      let from : x ≡ (at slots (4 * b)).next = found ∙ ap (λ k. (at slots k).next) place in
      let new : slots' ≡ set (set slots (4 * b) (at slots x)) x (record empty { next = head }) =
      written ∙ ap (λ l. set l x (record empty { next = head })) (half-is ∙ (λ i. set slots (place i) (second-is i))) in
      go (get_or lists.chains b []) refl (h.chains b lt) from new where
        go : (c : List SlotRow) → get_or lists.chains b [] ≡ c → IsBucket slots b c → x ≡ (at slots (4 * b)).next
            → slots' ≡ set (set slots (4 * b) (at slots x)) x (record empty { next = head })
            → IsSegment slots' x (spare + 1) (taken - 1) buckets (take_root lists b c)
        go [] is k from new = absurd (some is)
        go (root ∷ []) is k from new = absurd (more (from ∙ k.2))
        go (root ∷ r ∷ rows) is k from new = rw new (root_taken_moved root r rows is x from)

  pub next_some : (before : ℕ) → has_slot before (get_or lists.chains b []) ≡ true → behind_slot before (get_or lists.chains b []) ≢ [] → (at slots before).next ≢ 0
  next_some before has some none = some (last_row slots head spare taken buckets lists h b lt before has none)

  pub next_gone : (before : ℕ) → has_slot before (get_or lists.chains b []) ≡ true → behind_slot before (get_or lists.chains b []) ≢ []
      → (e : Entry) → e ≡ at slots before → (x : ℕ) → x ≡ e.next → (second : Entry) → second ≡ at slots x
      → (half : List Entry) → half ≡ set slots before (record e { next = second.next })
      → (slots' : List Entry) → slots' ≡ set half x (record empty { next = head })
      → IsSegment slots' x (spare + 1) (taken - 1) buckets (take_next lists b before (get_or lists.chains b []))
  next_gone before has some e e-is x x-is second second-is half half-is slots' written =
      let from : x ≡ (at slots before).next = x-is ∙ ap (λ (a : Entry). a.next) e-is in
      let new : slots' ≡ set (set slots before (record (at slots before) { next = (at slots x).next })) x (record empty { next = head }) =
      written ∙ ap (λ l. set l x (record empty { next = head })) (half-is ∙ (λ i. set slots before (record (e-is i) { next = (second-is i).next }))) in
      let in-before = slot_within slots head spare taken buckets lists h b lt before has in
      let more : x ≢ 0 = λ q. next_some before has some (sym from ∙ q) in
      let in-x = next_within before has x from more in
      go (get_or lists.chains b []) refl (behind_slot before (get_or lists.chains b [])) refl in-before in-x from new where
        go : (c : List SlotRow) → get_or lists.chains b [] ≡ c → (d : List SlotRow) → behind_slot before (get_or lists.chains b []) ≡ d
            → before < length slots → x < length slots → x ≡ (at slots before).next
            → slots' ≡ set (set slots before (record (at slots before) { next = (at slots x).next })) x (record empty { next = head })
            → IsSegment slots' x (spare + 1) (taken - 1) buckets (take_next lists b before (get_or lists.chains b []))
        go [] is d next in-before in-x from new = absurd (let none : has_slot before [] ≡ true = subst (λ (q : List SlotRow). has_slot before q ≡ true) is has in cc none)
        go (root ∷ rows) is [] next in-before in-x from new = absurd (some next)
        go (root ∷ rows) is (r ∷ rest) next in-before in-x from new =
            subst (λ (l : List Entry). IsSegment l x (spare + 1) (taken - 1) buckets (take_next lists b before (get_or lists.chains b []))) (sym new)
            (next_taken before x from root rows is has r rest next in-before in-x)
