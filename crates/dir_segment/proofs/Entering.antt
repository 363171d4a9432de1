-- What a delete and a clean leave of the entries of each bucket.
use Rattle.std.proofs.Common.{◌≡◌, ◌≢◌, ℕ, zero, suc, ◌+◌, ◌<◌, ◌≤◌, Bool, true, false, cond, List, [], ◌∷◌, length, get_or, set, map, refl, sym, ap, subst, ◌∙◌, arith, length-set, get_or-set_same, get_or-set_other, inl, inr}
use Rattle.std.specs.Prelude.{filter}
use Rattle.std.specs.List.{All, list_any}
use Rattle.std.proofs.lemmas.Bool.{cases_eq, cases_lt}
use Rattle.std.proofs.lemmas.List.{set-get_or, get_or_past}
use Rattle.std.proofs.lemmas.List.Elements.{All-head, All-tail}
use Rattle.dir_entry.specs.declared.entry.Entry.{Entry}
use Rattle.dir_segment.specs.Lists.{SlotRow, Lists, row, unlinked, with_chain, take_root, removed, freed, delete_at, deleted, passes}
use Rattle.dir_segment.specs.Cleaning.{freed_by, clean_from, clean_chain, clean_bucket, clean_buckets, each_bucket}
use Rattle.dir_segment.specs.Entries.{bucket_entries, IsStoredEntry, EntriesAreStored, SetsEntries, without_first}
use Rattle.dir_segment.proofs.Searching.{deleted_none}

abbrev entries_of : List SlotRow → List Entry
entries_of = map (λ (r : SlotRow). r.entry)

abbrev AreRows : List SlotRow → Type 0
AreRows = All (λ (r : SlotRow). IsStoredEntry r.entry)

-- ---- a delete

sets : (lists : Lists) (b : ℕ) (chain : List SlotRow) (free : List ℕ) (entries : List Entry) → b < length lists.chains → entries_of chain ≡ entries
    → SetsEntries b entries lists (with_chain lists b chain free)
sets lists b chain free entries lt is = record {
  here = ap entries_of (get_or-set_same lists.chains b chain [] lt) ∙ is;
  others = λ k ne. ap entries_of (get_or-set_other lists.chains b k chain [] ne);
  width = length-set lists.chains b chain;
}

root_taken : (lists : Lists) (b : ℕ) (root : SlotRow) (rows : List SlotRow) → AreRows rows → b < length lists.chains
    → SetsEntries b (entries_of rows) lists (take_root lists b (root ∷ rows))
root_taken lists b root [] stored lt = sets lists b [] lists.free [] lt refl
root_taken lists b root (r ∷ rows) stored lt =
    let same : unlinked r.entry ≡ r.entry = (All-head (λ (q : SlotRow). IsStoredEntry q.entry) r rows stored).unlinked in
    sets lists b (row root.slot r.entry ∷ rows) (r.slot ∷ lists.free) (r.entry ∷ entries_of rows) lt (ap (λ (e : Entry). e ∷ entries_of rows) same)

removed-entries : (test : Entry → Bool) (rows : List SlotRow) → entries_of (removed test rows) ≡ without_first test (entries_of rows)
removed-entries test [] = refl
removed-entries test (r ∷ rows) =
    elim (test r.entry) as (λ t. entries_of (cond t rows (r ∷ removed test rows)) ≡ cond t (entries_of rows) (r.entry ∷ without_first test (entries_of rows)))
    [ true ↦ refl | false ↦ ap (λ (q : List Entry). r.entry ∷ q) (removed-entries test rows) ]

taken_at : (lists : Lists) (b : ℕ) (test : Entry → Bool) (chain : List SlotRow) → get_or lists.chains b [] ≡ chain → AreRows chain → b < length lists.chains
    → SetsEntries b (without_first test (entries_of chain)) lists (delete_at lists b test chain)
taken_at lists b test [] is stored lt = record { here = ap entries_of is; others = λ k ne. refl; width = refl }
taken_at lists b test (root ∷ rows) is stored lt =
    elim (test root.entry) as (λ t. SetsEntries b (cond t (entries_of rows) (root.entry ∷ without_first test (entries_of rows))) lists
    (cond t (take_root lists b (root ∷ rows)) (with_chain lists b (root ∷ removed test rows) (freed test rows lists.free)))) [
      | true ↦ root_taken lists b root rows (All-tail (λ (q : SlotRow). IsStoredEntry q.entry) root rows stored) lt
      | false ↦ sets lists b (root ∷ removed test rows) (freed test rows lists.free) (root.entry ∷ without_first test (entries_of rows)) lt
          (ap (λ (q : List Entry). root.entry ∷ q) (removed-entries test rows))
    ]

pub delete_takes_lem : (lists : Lists) (bucket : ℕ) (test : Entry → Bool) → EntriesAreStored lists → bucket < length lists.chains
    → SetsEntries bucket (without_first test (bucket_entries lists bucket)) lists (deleted lists bucket test)
delete_takes_lem lists bucket test stored lt = taken_at lists bucket test (get_or lists.chains bucket []) refl (stored bucket) lt

any-entries : (test : Entry → Bool) (rows : List SlotRow) → list_any (passes test) rows ≡ list_any test (entries_of rows)
any-entries test [] = refl
any-entries test (r ∷ rows) = rw (any-entries test rows) refl

pub missed_stays_lem : (lists : Lists) (bucket : ℕ) (test : Entry → Bool) → list_any test (bucket_entries lists bucket) ≡ false → deleted lists bucket test ≡ lists
missed_stays_lem lists bucket test none = sym (deleted_none lists bucket test (any-entries test (get_or lists.chains bucket []) ∙ none))

-- ---- what is done to one bucket after another

module _ (step : Lists → ℕ → Lists) (change : List SlotRow → List SlotRow) (nothing : change [] ≡ [])
    (here : (lists : Lists) (b : ℕ) → b < length lists.chains → get_or (step lists b).chains b [] ≡ change (get_or lists.chains b []))
    (other : (lists : Lists) (b k : ℕ) → k ≢ b → get_or (step lists b).chains k [] ≡ get_or lists.chains k [])
    (wide : (lists : Lists) (b : ℕ) → length (step lists b).chains ≡ length lists.chains) where
  pub each_wide : (n b : ℕ) (lists : Lists) → length (each_bucket step b n lists).chains ≡ length lists.chains
  each_wide zero b lists = refl
  each_wide (suc n) b lists = each_wide n (suc b) (step lists b) ∙ wide lists b

  each_other : (n b k : ℕ) (lists : Lists) → k < b → get_or (each_bucket step b n lists).chains k [] ≡ get_or lists.chains k []
  each_other zero b k lists lt = refl
  each_other (suc n) b k lists lt = each_other n (suc b) k (step lists b) (omega arith) ∙ other lists b k (λ e. let no : b < b = subst (λ m. m < b) e lt in absurd (omega (arith, no)))

  each_here : (n b k : ℕ) (lists : Lists) → b ≤ k → k < b + n → k < length lists.chains → get_or (each_bucket step b n lists).chains k [] ≡ change (get_or lists.chains k [])
  each_here zero b k lists le lt within = absurd (omega (arith, le, lt))
  each_here (suc n) b k lists le lt within = elim (cases_eq k b) [
    | inl e ↦ each_other n (suc b) k (step lists b) (omega (arith, e))
        ∙ subst (λ m. get_or (step lists m).chains k [] ≡ change (get_or lists.chains k [])) e (here lists k within)
    | inr ne ↦ each_here n (suc b) k (step lists b) (omega (arith, le, ne)) (omega (arith, lt)) (omega (arith, wide lists b, within)) ∙ ap change (other lists b k ne)
  ]

  pub each_chain : (lists : Lists) (k : ℕ) → get_or (each_bucket step 0 (length lists.chains) lists).chains k [] ≡ change (get_or lists.chains k [])
  each_chain lists k = elim (cases_lt k (length lists.chains)) [
    | inl lt ↦ each_here (length lists.chains) 0 k lists (omega arith) (omega (arith, lt)) lt
    | inr ge ↦
        let n : ℕ = length lists.chains in
        let past : length (each_bucket step 0 n lists).chains ≤ k = omega (arith, each_wide n 0 lists, ge) in
        get_or_past (each_bucket step 0 n lists).chains k [] past ∙ sym nothing ∙ ap change (sym (get_or_past lists.chains k [] ge))
  ]

-- ---- a clean

module _ (test : Entry → Bool) where
  cleaned_from : SlotRow → List SlotRow → List SlotRow
  cleaned_from root [] = cond (test root.entry) (root ∷ []) []
  cleaned_from root (r ∷ rows) = cond (test root.entry) (root ∷ filter (passes test) (r ∷ rows)) (cleaned_from (row root.slot r.entry) rows)

  cleaned : List SlotRow → List SlotRow
  cleaned [] = []
  cleaned (root ∷ rows) = cleaned_from root rows

  from_here : (lists : Lists) (b : ℕ) (root : SlotRow) (rows : List SlotRow) (free : List ℕ) → b < length lists.chains
      → (get_or (clean_from test lists b root rows free).chains b [] ≡ cleaned_from root rows)
  unfolding cleaned_from
  from_here lists b root [] free lt =
      elim (test root.entry) as (λ t. get_or (cond t (with_chain lists b (root ∷ []) free) (with_chain lists b [] free)).chains b [] ≡ cond t (root ∷ []) [])
      [ true ↦ get_or-set_same lists.chains b (root ∷ []) [] lt | false ↦ get_or-set_same lists.chains b [] [] lt ]
  from_here lists b root (r ∷ rows) free lt =
      elim (test root.entry) as (λ t. get_or (cond t (with_chain lists b (root ∷ filter (passes test) (r ∷ rows)) (freed_by (passes test) (r ∷ rows) free)) (clean_from test lists b (row root.slot r.entry) rows (r.slot ∷ free))).chains b []
      ≡ cond t (root ∷ filter (passes test) (r ∷ rows)) (cleaned_from (row root.slot r.entry) rows)) [
        | true ↦ get_or-set_same lists.chains b (root ∷ filter (passes test) (r ∷ rows)) [] lt
        | false ↦ from_here lists b (row root.slot r.entry) rows (r.slot ∷ free) lt
      ]

  from_other : (lists : Lists) (b k : ℕ) (root : SlotRow) (rows : List SlotRow) (free : List ℕ) → k ≢ b
      → get_or (clean_from test lists b root rows free).chains k [] ≡ get_or lists.chains k []
  from_other lists b k root [] free ne =
      elim (test root.entry) as (λ t. get_or (cond t (with_chain lists b (root ∷ []) free) (with_chain lists b [] free)).chains k [] ≡ get_or lists.chains k [])
      [ true ↦ get_or-set_other lists.chains b k (root ∷ []) [] ne | false ↦ get_or-set_other lists.chains b k [] [] ne ]
  from_other lists b k root (r ∷ rows) free ne =
      elim (test root.entry) as (λ t. get_or (cond t (with_chain lists b (root ∷ filter (passes test) (r ∷ rows)) (freed_by (passes test) (r ∷ rows) free)) (clean_from test lists b (row root.slot r.entry) rows (r.slot ∷ free))).chains k []
      ≡ get_or lists.chains k []) [
        | true ↦ get_or-set_other lists.chains b k (root ∷ filter (passes test) (r ∷ rows)) [] ne
        | false ↦ from_other lists b k (row root.slot r.entry) rows (r.slot ∷ free) ne
      ]

  from_wide : (lists : Lists) (b : ℕ) (root : SlotRow) (rows : List SlotRow) (free : List ℕ) → length (clean_from test lists b root rows free).chains ≡ length lists.chains
  from_wide lists b root [] free =
      elim (test root.entry) as (λ t. length (cond t (with_chain lists b (root ∷ []) free) (with_chain lists b [] free)).chains ≡ length lists.chains)
      [ true ↦ length-set lists.chains b (root ∷ []) | false ↦ length-set lists.chains b [] ]
  from_wide lists b root (r ∷ rows) free =
      elim (test root.entry) as (λ t. length (cond t (with_chain lists b (root ∷ filter (passes test) (r ∷ rows)) (freed_by (passes test) (r ∷ rows) free)) (clean_from test lists b (row root.slot r.entry) rows (r.slot ∷ free))).chains
      ≡ length lists.chains) [
        | true ↦ length-set lists.chains b (root ∷ filter (passes test) (r ∷ rows))
        | false ↦ from_wide lists b (row root.slot r.entry) rows (r.slot ∷ free)
      ]

  chain_here : (lists : Lists) (b : ℕ) (c : List SlotRow) → get_or lists.chains b [] ≡ c → b < length lists.chains → get_or (clean_chain test lists b c).chains b [] ≡ cleaned c
  unfolding cleaned
  chain_here lists b [] is lt = is
  chain_here lists b (root ∷ rows) is lt = from_here lists b root rows lists.free lt

  chain_other : (lists : Lists) (b k : ℕ) (c : List SlotRow) → k ≢ b → get_or (clean_chain test lists b c).chains k [] ≡ get_or lists.chains k []
  chain_other lists b k [] ne = refl
  chain_other lists b k (root ∷ rows) ne = from_other lists b k root rows lists.free ne

  chain_wide : (lists : Lists) (b : ℕ) (c : List SlotRow) → length (clean_chain test lists b c).chains ≡ length lists.chains
  chain_wide lists b [] = refl
  chain_wide lists b (root ∷ rows) = from_wide lists b root rows lists.free

  bucket_here : (lists : Lists) (b : ℕ) → b < length lists.chains → get_or (clean_bucket test lists b).chains b [] ≡ cleaned (get_or lists.chains b [])
  unfolding clean_bucket
  bucket_here lists b lt = chain_here lists b (get_or lists.chains b []) refl lt

  bucket_other : (lists : Lists) (b k : ℕ) → k ≢ b → get_or (clean_bucket test lists b).chains k [] ≡ get_or lists.chains k []
  unfolding clean_bucket
  bucket_other lists b k ne = chain_other lists b k (get_or lists.chains b []) ne

  bucket_wide : (lists : Lists) (b : ℕ) → length (clean_bucket test lists b).chains ≡ length lists.chains
  unfolding clean_bucket
  bucket_wide lists b = chain_wide lists b (get_or lists.chains b [])

  cleaned_nothing : cleaned [] ≡ []
  unfolding cleaned
  cleaned_nothing = refl

  filter-entries : (rows : List SlotRow) → entries_of (filter (passes test) rows) ≡ filter test (entries_of rows)
  filter-entries [] = refl
  filter-entries (r ∷ rows) =
      elim (test r.entry) as (λ t. entries_of (cond t (r ∷ filter (passes test) rows) (filter (passes test) rows)) ≡ cond t (r.entry ∷ filter test (entries_of rows)) (filter test (entries_of rows)))
      [ true ↦ ap (λ (q : List Entry). r.entry ∷ q) (filter-entries rows) | false ↦ filter-entries rows ]

  from_entries : (root : SlotRow) (rows : List SlotRow) → AreRows rows → entries_of (cleaned_from root rows) ≡ filter test (root.entry ∷ entries_of rows)
  unfolding cleaned_from
  from_entries root [] stored =
      elim (test root.entry) as (λ t. entries_of (cond t (root ∷ []) []) ≡ cond t (root.entry ∷ []) []) [ true ↦ refl | false ↦ refl ]
  from_entries root (r ∷ rows) stored =
      let same : unlinked r.entry ≡ r.entry = (All-head (λ (q : SlotRow). IsStoredEntry q.entry) r rows stored).unlinked in
      elim (test root.entry) as (λ t. entries_of (cond t (root ∷ filter (passes test) (r ∷ rows)) (cleaned_from (row root.slot r.entry) rows))
      ≡ cond t (root.entry ∷ filter test (r.entry ∷ entries_of rows)) (filter test (r.entry ∷ entries_of rows))) [
        | true ↦ ap (λ (q : List Entry). root.entry ∷ q) (filter-entries (r ∷ rows))
        | false ↦ from_entries (row root.slot r.entry) rows (All-tail (λ (q : SlotRow). IsStoredEntry q.entry) r rows stored) ∙ ap (λ (e : Entry). filter test (e ∷ entries_of rows)) same
      ]

  cleaned_entries : (c : List SlotRow) → AreRows c → entries_of (cleaned c) ≡ filter test (entries_of c)
  unfolding cleaned
  cleaned_entries [] stored = refl
  cleaned_entries (root ∷ rows) stored = from_entries root rows (All-tail (λ (q : SlotRow). IsStoredEntry q.entry) root rows stored)

  -- all pass
  rows_passed : (rows : List SlotRow) → All (λ (e : Entry). test e ≡ true) (entries_of rows) → filter (passes test) rows ≡ rows
  rows_passed [] h = refl
  rows_passed (r ∷ rows) h =
      let first : test r.entry ≡ true = All-head (λ (e : Entry). test e ≡ true) r.entry (entries_of rows) h in
      rw first (ap (λ (q : List SlotRow). r ∷ q) (rows_passed rows (All-tail (λ (e : Entry). test e ≡ true) r.entry (entries_of rows) h)))

  none_freed : (rows : List SlotRow) (free : List ℕ) → All (λ (e : Entry). test e ≡ true) (entries_of rows) → freed_by (passes test) rows free ≡ free
  none_freed [] free h = refl
  none_freed (r ∷ rows) free h =
      let first : test r.entry ≡ true = All-head (λ (e : Entry). test e ≡ true) r.entry (entries_of rows) h in
      rw first (none_freed rows free (All-tail (λ (e : Entry). test e ≡ true) r.entry (entries_of rows) h))

  from_passed : (lists : Lists) (b : ℕ) (root : SlotRow) (rows : List SlotRow) → get_or lists.chains b [] ≡ root ∷ rows → All (λ (e : Entry). test e ≡ true) (root.entry ∷ entries_of rows)
      → clean_from test lists b root rows lists.free ≡ lists
  from_passed lists b root rows is h =
      let first : test root.entry ≡ true = All-head (λ (e : Entry). test e ≡ true) root.entry (entries_of rows) h in
      let rest : All (λ (e : Entry). test e ≡ true) (entries_of rows) = All-tail (λ (e : Entry). test e ≡ true) root.entry (entries_of rows) h in
      let chains : set lists.chains b (root ∷ rows) ≡ lists.chains = ap (λ (q : List SlotRow). set lists.chains b q) (sym is) ∙ set-get_or lists.chains b [] in
      go rows first (rows_passed rows rest) (none_freed rows lists.free rest) chains where
        go : (qs : List SlotRow) → test root.entry ≡ true → filter (passes test) qs ≡ qs → freed_by (passes test) qs lists.free ≡ lists.free → set lists.chains b (root ∷ qs) ≡ lists.chains
            → clean_from test lists b root qs lists.free ≡ lists
        go [] first same free chains = rw first (λ i. record { chains = chains i; free = lists.free })
        go (q ∷ qs) first same free chains = rw first (λ i. record { chains = (ap (λ (ps : List SlotRow). set lists.chains b (root ∷ ps)) same ∙ chains) i; free = free i })

  chain_passed : (lists : Lists) (b : ℕ) (c : List SlotRow) → get_or lists.chains b [] ≡ c → All (λ (e : Entry). test e ≡ true) (entries_of c) → clean_chain test lists b c ≡ lists
  chain_passed lists b [] is h = refl
  chain_passed lists b (root ∷ rows) is h = from_passed lists b root rows is h

  bucket_passed : (lists : Lists) (b : ℕ) → All (λ (e : Entry). test e ≡ true) (entries_of (get_or lists.chains b [])) → clean_bucket test lists b ≡ lists
  unfolding clean_bucket
  bucket_passed lists b h = chain_passed lists b (get_or lists.chains b []) refl h

  buckets_passed : (n b : ℕ) (lists : Lists) → ((bucket : ℕ) → All (λ (e : Entry). test e ≡ true) (bucket_entries lists bucket)) → clean_buckets test b n lists ≡ lists
  buckets_passed zero b lists h = refl
  buckets_passed (suc n) b lists h = ap (λ (q : Lists). clean_buckets test (suc b) n q) (bucket_passed lists b (h b)) ∙ buckets_passed n (suc b) lists h

pub clean_keeps_lem : (lists : Lists) (test : Entry → Bool) (bucket : ℕ) → EntriesAreStored lists
    → bucket_entries (clean_buckets test 0 (length lists.chains) lists) bucket ≡ filter test (bucket_entries lists bucket)
clean_keeps_lem lists test bucket stored =
    ap entries_of (each_chain (clean_bucket test) (cleaned test) (cleaned_nothing test) (bucket_here test) (bucket_other test) (bucket_wide test) lists bucket)
    ∙ cleaned_entries test (get_or lists.chains bucket []) (stored bucket)

pub passed_stay_lem : (lists : Lists) (test : Entry → Bool) → ((bucket : ℕ) → All (λ (e : Entry). test e ≡ true) (bucket_entries lists bucket))
    → clean_buckets test 0 (length lists.chains) lists ≡ lists
passed_stay_lem lists test h = buckets_passed test (length lists.chains) 0 lists h
