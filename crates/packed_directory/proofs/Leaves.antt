-- A row that is taken out of its segment.
use Rattle.std.proofs.Common.{◌≡◌, ℕ, ◌+◌, ◌<◌, ◌≤◌, Bool, true, false, cond, eqb, List, [], ◌∷◌, length, get_or, set, map, refl, sym, ap, subst, ◌∙◌, arith, length-set, get_or-set_same, inl, inr}
use Rattle.std.specs.Prelude.{filter, ◌&&◌, ◌||◌}
use mathlib.Core.Bool.{beq}
use Rattle.std.specs.List.{All, list_any}
use Rattle.std.specs.List.Sorted.{IsPermutation}
use Rattle.std.proofs.lemmas.Bool.{cases_eq, and_parts, and_from, eqb-true, eq-eqb, ne_eqb, false_from_ne_true}
use Rattle.std.proofs.lemmas.List.{set-set, set-get_or}
use Rattle.std.proofs.lemmas.List.Elements.{All-nil, All-cons, All-head, All-tail, All-get_or, All-set, All-weaker}
use Rattle.std.proofs.lemmas.List.Sorted.{IsPermutation-refl, IsPermutation-sym, IsPermutation-trans, IsPermutation-cons, IsPermutation-middle, IsPermutation-map, All-permutation}
use Rattle.tape_base.specs.declared.geometries.Geometry.{Geometry}
use Rattle.tape_base.specs.Place.{lap_of, slot_of, phase_of}
use Rattle.dir_entry.specs.declared.entry.Entry.{Entry}
use Rattle.dir_segment.specs.Lists.{SlotRow, Lists, is_that, passes, deleted, chain_of}
use Rattle.dir_segment.specs.Entries.{EntriesAreStored, DeleteTakes, MissedStays, SetsEntries, without_first, bucket_entries}
use Rattle.dir_table.specs.declared.rows.StoredRow.{StoredRow}
use Rattle.packed_directory.specs.Entering.{BucketEntry, entries_from}
use Rattle.packed_directory.specs.Phases.{place_of_entry, has_block, stands_between, least_place}
use Rattle.packed_directory.specs.StoredRows.{row_of_entry, stored_rows_of_segment, rows_of_segments, is_spot}
use Rattle.packed_directory.specs.Packed.{AreBetween, segment_at}
use Rattle.packed_directory.specs.Leaving.{is_row, LosesRow, TakesOutOfSegment}
use Rattle.packed_directory.proofs.Gathering.{entries_of, in_bucket, one_more}
use Rattle.packed_directory.proofs.Phasing.{place_back, of_place, parts_between, same_beq, beq_same}
use Rattle.packed_directory.proofs.Segments.{all_take}
use Rattle.packed_directory.proofs.Under.{rows_under}
use Rattle.packed_directory.proofs.Chained.{chain_all}
use Rattle.dir_table.specs.Entering.{TakesRow}

pub any-filter : {X : Type 0} (p q : X → Bool) (xs : List X) → list_any (λ x. p x && q x) xs ≡ list_any q (filter p xs)
any-filter p q [] = refl
any-filter p q (x ∷ xs) =
    elim (p x) as (λ t. ((t && q x) || list_any (λ y. p y && q y) xs) ≡ list_any q (cond t (x ∷ filter p xs) (filter p xs)))
    [ true ↦ ap (λ (k : Bool). q x || k) (any-filter p q xs) | false ↦ any-filter p q xs ]

pub any-map : {X Y : Type 0} (q : Y → Bool) (f : X → Y) (xs : List X) → list_any q (map f xs) ≡ list_any (λ x. q (f x)) xs
any-map q f [] = refl
any-map q f (x ∷ xs) = ap (λ (k : Bool). q (f x) || k) (any-map q f xs)

any_same : {X : Type 0} (P : X → Type 0) (p q : X → Bool) → ((x : X) → P x → p x ≡ q x) → (xs : List X) → All P xs → list_any p xs ≡ list_any q xs
any_same P p q same [] h = refl
any_same P p q same (x ∷ xs) h = λ i. same x (All-head P x xs h) i || any_same P p q same xs (All-tail P x xs h) i

any-entries : (test : Entry → Bool) (rows : List SlotRow) → list_any (passes test) rows ≡ list_any test (entries_of rows)
any-entries test [] = refl
any-entries test (r ∷ rows) = ap (λ (k : Bool). test r.entry || k) (any-entries test rows)

-- the first that passes, and the others
record FirstOut {X : Type 0} (P : X → Type 0) (test : X → Bool) (xs rest : List X) : Type 0 where
  pub it : X
  pub passed : test it ≡ true
  pub holds : P it
  pub all : IsPermutation (it ∷ rest) xs

first_out : (P : Entry → Type 0) (test : Entry → Bool) (es : List Entry) → All P es → list_any test es ≡ true → FirstOut P test es (without_first test es)
first_out P test [] h some = absurd (cc some)
first_out P test (e ∷ es) h some =
    elim (test e) as (λ t. test e ≡ t → (t || list_any test es) ≡ true → FirstOut P test (e ∷ es) (cond t es (e ∷ without_first test es))) [
      | true ↦ λ is q. record { it = e; passed = is; holds = All-head P e es h; all = IsPermutation-refl (e ∷ es) }
      | false ↦ λ is q.
          let out = first_out P test es (All-tail P e es h) q in
          record {
            it = out.it;
            passed = out.passed;
            holds = out.holds;
            all = IsPermutation-trans (out.it ∷ e ∷ without_first test es) (e ∷ out.it ∷ without_first test es) (e ∷ es)
                (IsPermutation-middle (out.it ∷ []) e (without_first test es))
                (IsPermutation-cons e (out.it ∷ without_first test es) es out.all);
          }
    ] refl some

module _ (g : Geometry) (cursor : ℕ) (seg bkt tag : ℕ) (place : ℕ) (first : g.content ≤ cursor) (least : least_place g cursor ≤ place) (lap : lap_of g place ≤ lap_of g cursor) where
  abbrev that : Entry → Bool
  that = is_that tag (slot_of g place + 1) (phase_of g place)

  -- an entry has the block and the phase of the place exactly where it stands for it
  there : (e : Entry) → has_block g e ≡ true → (eqb e.offset (slot_of g place + 1) && beq e.phase (phase_of g place)) ≡ eqb (place_of_entry g cursor e) place
  there e block = elim (cases_eq (place_of_entry g cursor e) place) [
    | inl is ↦
        let of = of_place g cursor e first block in
        let offset : eqb e.offset (slot_of g place + 1) ≡ true = eq-eqb e.offset (slot_of g place + 1) (of.block ∙ ap (λ p. slot_of g p + 1) is) in
        let phase : beq e.phase (phase_of g place) ≡ true = same_beq e.phase (phase_of g place) (of.phase ∙ ap (phase_of g) is) in
        let yes : eqb (place_of_entry g cursor e) place ≡ true = eq-eqb (place_of_entry g cursor e) place is in
        (λ i. offset i && phase i) ∙ sym yes
    | inr ne ↦
        let no : eqb (place_of_entry g cursor e) place ≡ false = ne_eqb (place_of_entry g cursor e) place ne in
        let not_so : (eqb e.offset (slot_of g place + 1) && beq e.phase (phase_of g place)) ≡ false =
        false_from_ne_true (eqb e.offset (slot_of g place + 1) && beq e.phase (phase_of g place)) (λ q.
        let both = and_parts (eqb e.offset (slot_of g place + 1)) (beq e.phase (phase_of g place)) q in
        ne (place_back g cursor place e first least lap (record { block = eqb-true e.offset (slot_of g place + 1) both.0; phase = beq_same e.phase (phase_of g place) both.1 }))) in
        not_so ∙ sym no
  ]

  that_is : (e : Entry) → has_block g e ≡ true → that e ≡ (eqb e.tag tag && eqb (place_of_entry g cursor e) place)
  that_is e block = go (eqb e.tag tag) where
    go : (t : Bool) → ((t && eqb e.offset (slot_of g place + 1)) && beq e.phase (phase_of g place)) ≡ (t && eqb (place_of_entry g cursor e) place)
    go true = there e block
    go false = refl

  module _ (before : List Lists) (within : seg < length before) (widths : All (λ (l : Lists). length l.chains ≡ g.buckets) before)
      (low high : ℕ) (between : All (AreBetween g cursor low high) before) (below : bkt < g.buckets) where
    abbrev old : Lists
    old = segment_at before seg

    wide : length (segment_at before seg).chains ≡ g.buckets
    wide = All-get_or (λ (l : Lists). length l.chains ≡ g.buckets) before seg (record { chains = []; free = [] }) within widths

    in_chains : bkt < length (segment_at before seg).chains
    in_chains = omega (arith, wide, below)

    abbrev Block : Entry → Type 0
    Block e = has_block g e ≡ true

    entry_blocks : All (λ (r : SlotRow). has_block g r.entry ≡ true) (chain_of (segment_at before seg) bkt)
    entry_blocks =
        let P : BucketEntry → Type 0 = λ it. stands_between g cursor low high it.entry ≡ true in
        let Q : BucketEntry → Type 0 = λ it. has_block g it.entry ≡ true in
        let here : AreBetween g cursor low high old = All-get_or (AreBetween g cursor low high) before seg (record { chains = []; free = [] }) within between in
        chain_all (λ (e : Entry). has_block g e ≡ true) 0 bkt old.chains
        (All-weaker P Q (λ it h. (parts_between g cursor low high it.entry h).0) (entries_from 0 old.chains) here)

    blocks : All (λ (e : Entry). has_block g e ≡ true) (bucket_entries (segment_at before seg) bkt)
    blocks = go (chain_of old bkt) entry_blocks where
      go : (rows : List SlotRow) → All (λ (r : SlotRow). has_block g r.entry ≡ true) rows → All (λ (e : Entry). has_block g e ≡ true) (entries_of rows)
      go [] h = All-nil (λ (e : Entry). has_block g e ≡ true)
      go (r ∷ rows) h = All-cons (λ (e : Entry). has_block g e ≡ true) r.entry (entries_of rows) (All-head (λ (q : SlotRow). has_block g q.entry ≡ true) r rows h) (go rows (All-tail (λ (q : SlotRow). has_block g q.entry ≡ true) r rows h))

    pub stood_is : list_any (passes that) (chain_of (segment_at before seg) bkt) ≡ list_any (is_row seg bkt tag place) (rows_of_segments g cursor 0 before)
    stood_is =
        let es : List Entry = bucket_entries old bkt in
        let f : Entry → StoredRow = row_of_entry g cursor seg bkt in
        let rows : List StoredRow = rows_of_segments g cursor 0 before in
        let at : StoredRow → Bool = λ r. eqb r.place place in
        any-entries that (chain_of old bkt)
        ∙ any_same Block that (λ (e : Entry). eqb e.tag tag && eqb (place_of_entry g cursor e) place) that_is es blocks
        ∙ any-filter (λ (e : Entry). eqb e.tag tag) (λ (e : Entry). eqb (place_of_entry g cursor e) place) es
        ∙ sym (any-map at f (filter (λ (e : Entry). eqb e.tag tag) es))
        ∙ ap (list_any at) (sym (rows_under g cursor seg bkt tag before within in_chains))
        ∙ sym (any-filter (is_spot seg bkt tag) at rows)

    module _ (takes : DeleteTakes) (missed : MissedStays) (stored : EntriesAreStored (segment_at before seg)) (found : Bool)
        (is : found ≡ list_any (passes that) (chain_of (segment_at before seg) bkt))
        (new : Lists) (done : new ≡ deleted (segment_at before seg) bkt that) where
      sets : SetsEntries bkt (without_first that (bucket_entries (segment_at before seg) bkt)) (segment_at before seg) new
      sets = subst (λ (l : Lists). SetsEntries bkt (without_first that (bucket_entries old bkt)) old l) (sym done) (takes old bkt that stored in_chains)

      back : set (set before seg new) seg (segment_at before seg) ≡ before
      back = set-set before seg new old ∙ set-get_or before seg (record { chains = []; free = [] })

      entries_back : found ≡ true → FirstOut (λ (e : Entry). has_block g e ≡ true) that (bucket_entries (segment_at before seg) bkt) (without_first that (bucket_entries (segment_at before seg) bkt))
      entries_back was = first_out Block that (bucket_entries old bkt) blocks (sym (any-entries that (chain_of old bkt)) ∙ sym is ∙ was)

      all_back : (was : found ≡ true) → IsPermutation (in_bucket bkt (entries_back was).it ∷ entries_from 0 new.chains) (entries_from 0 (segment_at before seg).chains)
      all_back was =
          let out = entries_back was in
          let b : ℕ = bkt in
          let zero_b : 0 + b ≡ b = omega arith in
          subst (λ n. IsPermutation (in_bucket n out.it ∷ entries_from 0 new.chains) (entries_from 0 old.chains)) zero_b
          (one_more 0 b out.it new.chains old.chains (sym sets.width) (omega (arith, sets.width, in_chains))
          (subst (λ (q : List Entry). IsPermutation (out.it ∷ q) (bucket_entries old b)) (sym sets.here) out.all)
          (λ j ne. sym (sets.others j ne)))

      loses : found ≡ true → LosesRow (is_row seg bkt tag place) (rows_of_segments g cursor 0 before) (rows_of_segments g cursor 0 (set before seg new))
      loses was =
          let out = entries_back was in
          let s : ℕ = seg in
          let b : ℕ = bkt in
          let f : BucketEntry → StoredRow = λ it. row_of_entry g cursor s it.bucket it.entry in
          let row : StoredRow = f (in_bucket b out.it) in
          let zero_s : s ≡ 0 + s = omega arith in
          let after : List Lists = set before s new in
          let here : IsPermutation (row ∷ stored_rows_of_segment g cursor s new) (stored_rows_of_segment g cursor s old) =
          IsPermutation-map f (in_bucket b out.it ∷ entries_from 0 new.chains) (entries_from 0 old.chains) (all_back was) in
          let there' : TakesRow row [] (stored_rows_of_segment g cursor s (get_or after s (record { chains = []; free = [] }))) (stored_rows_of_segment g cursor s old) =
          subst (λ (l : Lists). TakesRow row [] (stored_rows_of_segment g cursor s l) (stored_rows_of_segment g cursor s old)) (sym (get_or-set_same before s new (record { chains = []; free = [] }) within))
          (record { left = stored_rows_of_segment g cursor s new; parted = IsPermutation-refl (stored_rows_of_segment g cursor s new); entered = here }) in
          let all : TakesRow row [] (rows_of_segments g cursor 0 after) (rows_of_segments g cursor 0 (set after s old)) =
          all_take g cursor row [] old (record { chains = []; free = [] }) 0 s after (omega (arith, within, length-set before s new))
          (subst (λ n. TakesRow row [] (stored_rows_of_segment g cursor n (get_or after s (record { chains = []; free = [] }))) (stored_rows_of_segment g cursor n old)) zero_s there') in
          let parts = and_parts (eqb out.it.tag tag) (eqb (place_of_entry g cursor out.it) place) (sym (that_is out.it out.holds) ∙ out.passed) in
          let under : is_spot seg bkt tag row ≡ true = and_from (eqb s s) (eqb b b && eqb out.it.tag tag) (eq-eqb s s refl) (and_from (eqb b b) (eqb out.it.tag tag) (eq-eqb b b refl) parts.0) in
          record {
            row = row;
            is = and_from (is_spot seg bkt tag row) (eqb row.place place) under parts.1;
            left = IsPermutation-trans (row ∷ rows_of_segments g cursor 0 after) (row ∷ all.left) (rows_of_segments g cursor 0 before)
                (IsPermutation-cons row (rows_of_segments g cursor 0 after) all.left all.parted)
                (subst (λ (q : List Lists). IsPermutation (row ∷ all.left) (rows_of_segments g cursor 0 q)) back all.entered);
          }

      stays : found ≡ false → set before seg new ≡ before
      stays wasnt =
          let same : new ≡ old = done ∙ missed old bkt that (sym (any-entries that (chain_of old bkt)) ∙ sym is ∙ wasnt) in
          ap (λ (l : Lists). set before seg l) same ∙ set-get_or before seg (record { chains = []; free = [] })

      left_between : (low' high' : ℕ) → (b : Bool) → found ≡ b → All (AreBetween g cursor low' high') before → All (AreBetween g cursor low' high') (set before seg new)
      left_between low' high' true was all =
          let P : BucketEntry → Type 0 = λ it. stands_between g cursor low' high' it.entry ≡ true in
          let it : BucketEntry = in_bucket bkt (entries_back was).it in
          let here : AreBetween g cursor low' high' old = All-get_or (AreBetween g cursor low' high') before seg (record { chains = []; free = [] }) within all in
          let with_it : All P (it ∷ entries_from 0 new.chains) = All-permutation P (entries_from 0 old.chains) (it ∷ entries_from 0 new.chains) (IsPermutation-sym (it ∷ entries_from 0 new.chains) (entries_from 0 old.chains) (all_back was)) here in
          All-set (AreBetween g cursor low' high') before seg new (All-tail P it (entries_from 0 new.chains) with_it) all
      left_between low' high' false wasnt all = subst (All (AreBetween g cursor low' high')) (sym (stays wasnt)) all

      pub takes_out : TakesOutOfSegment g cursor seg bkt tag place found before (set before seg new)
      takes_out = record {
        stood = is ∙ stood_is;
        gone = loses;
        none = stays;
        count = length-set before seg new;
        widths = All-set (λ (l : Lists). length l.chains ≡ g.buckets) before seg new (sets.width ∙ wide) widths;
        between = λ low' high' all. left_between low' high' found refl all;
      }
