-- Entries that fail a test go out one after another.
use Rattle.std.proofs.Common.{◌≡◌, ◌≢◌, ℕ, suc, ◌+◌, ◌-◌, ◌<◌, ◌≤◌, Bool, true, false, cond, eqb, List, [], ◌∷◌, ◌++◌, drop, length, get_or, set, refl, sym, ap, ◌∙◌, arith, append_assoc, length-set, get_or-set_same}
use Rattle.std.specs.Prelude.{filter, ◌||◌}
use Rattle.std.proofs.lemmas.Bool.{eq-eqb}
use Rattle.std.proofs.lemmas.List.{set-set, set-get_or}
use Rattle.dir_entry.specs.declared.entry.Entry.{Entry}
use Rattle.dir_entry.specs.Layout.{EntryFits}
use Rattle.dir_segment.specs.Lists.{SlotRow, Lists, row, unlinked, with_chain, entry_count, has_slot, behind_slot, without_next, with_first_free, take_root, take_next, passes}
use Rattle.dir_segment.specs.Cleaning.{freed_by, clean_from, clean_chain, clean_bucket, each_bucket, BeginsAt, FirstPasses}
use Rattle.dir_segment.specs.Purging.{thin_chain, thin_bucket}
use Rattle.dir_segment.proofs.Counts.{entry_count-set}
use Rattle.dir_segment.proofs.Searching.{upto, upto-behind, upto-next}

abbrev head_fails : (Entry → Bool) → List SlotRow → Bool
head_fails test [] = false
head_fails test (r ∷ rows) = test r.entry

set_twice : (lists : Lists) (b : ℕ) (c d : List SlotRow) (f g : List ℕ) → with_chain (with_chain lists b c f) b d g ≡ with_chain lists b d g
set_twice lists b c d f g = λ i. record { chains = set-set lists.chains b c d i; free = g }

from_twice : (test : Entry → Bool) (lists : Lists) (b : ℕ) (c : List SlotRow) (f : List ℕ) (root : SlotRow) (rows : List SlotRow)
    (free : List ℕ)
    → clean_from test (with_chain lists b c f) b root rows free ≡ clean_from test lists b root rows free
from_twice test lists b c f root [] free =
    elim (test root.entry) as (λ t. cond t (with_chain (with_chain lists b c f) b (root ∷ []) free) (with_chain (with_chain lists b c f) b [] free) ≡ cond t (with_chain lists b (root ∷ []) free) (with_chain lists b [] free))
    [ true ↦ set_twice lists b c (root ∷ []) f free | false ↦ set_twice lists b c [] f free ]
from_twice test lists b c f root (r ∷ rows) free =
    elim (test root.entry) as (λ t. cond t (with_chain (with_chain lists b c f) b (root ∷ filter (passes test) (r ∷ rows)) (freed_by (passes test) (r ∷ rows) free)) (clean_from test (with_chain lists b c f) b (row root.slot r.entry) rows (r.slot ∷ free))
    ≡ cond t (with_chain lists b (root ∷ filter (passes test) (r ∷ rows)) (freed_by (passes test) (r ∷ rows) free)) (clean_from test lists b (row root.slot r.entry) rows (r.slot ∷ free)))
    [ true ↦ set_twice lists b c (root ∷ filter (passes test) (r ∷ rows)) f (freed_by (passes test) (r ∷ rows) free) | false ↦ from_twice test lists b c f (row root.slot r.entry) rows (r.slot ∷ free) ]

root_step : (test : Entry → Bool) (lists : Lists) (b : ℕ) (c : List SlotRow) → get_or lists.chains b [] ≡ c → b < length lists.chains → c ≢ [] → (n : ℕ) (e : Entry) → c ≡ row n e ∷ behind_slot n c → test (row n e).entry ≡ false
    → clean_bucket test (take_root lists b c) b ≡ clean_chain test lists b c
unfolding clean_bucket
root_step test lists b [] is lt some n e first fails = absurd (some refl)
root_step test lists b (root ∷ []) is lt some n e first fails =
    let fails' : test root.entry ≡ false = ap (λ (q : List SlotRow). head_fails test q) first ∙ fails in
    let empty : get_or (set lists.chains b []) b [] ≡ [] = get_or-set_same lists.chains b [] [] lt in
    rw (empty, fails') refl
root_step test lists b (root ∷ r ∷ rows) is lt some n e first fails =
    let fails' : test root.entry ≡ false = ap (λ (q : List SlotRow). head_fails test q) first ∙ fails in
    let now : get_or (set lists.chains b (row root.slot r.entry ∷ rows)) b [] ≡ row root.slot r.entry ∷ rows = get_or-set_same lists.chains b (row root.slot r.entry ∷ rows) [] lt in
    rw (now, fails') (from_twice test lists b (row root.slot r.entry ∷ rows) (r.slot ∷ lists.free) (row root.slot r.entry) rows (r.slot ∷ lists.free))

pub root_gone : (test : Entry → Bool) (lists : Lists) (b : ℕ) → b < length lists.chains → get_or lists.chains b [] ≢ [] → (n : ℕ) (e : Entry)
    → get_or lists.chains b [] ≡ row n e ∷ behind_slot n (get_or lists.chains b []) → test (row n e).entry ≡ false
    → clean_bucket test (take_root lists b (get_or lists.chains b [])) b ≡ clean_bucket test lists b
unfolding clean_bucket
root_gone test lists b lt some n e first fails = root_step test lists b (get_or lists.chains b []) refl lt some n e first fails

-- what taking the root out leaves of the counts
pub record IsFewer (b : ℕ) (old new : Lists) : Type 0 where
  pub width : length new.chains ≡ length old.chains
  pub fewer : entry_count new.chains ≤ entry_count old.chains
  pub shorter : length (get_or new.chains b []) < length (get_or old.chains b [])

replaced : (lists : Lists) (b : ℕ) (c : List SlotRow) (free : List ℕ) → b < length lists.chains → length c < length (get_or lists.chains b []) → IsFewer b lists (with_chain lists b c free)
replaced lists b c free lt short = record {
  width = length-set lists.chains b c;
  fewer = omega (arith, entry_count-set lists.chains b c lt, short);
  shorter = omega (arith, ap (λ (q : List SlotRow). length q) (get_or-set_same lists.chains b c [] lt), short);
}

root_fewer : (lists : Lists) (b : ℕ) (c : List SlotRow) → get_or lists.chains b [] ≡ c → b < length lists.chains → c ≢ [] → IsFewer b lists (take_root lists b c)
root_fewer lists b [] is lt some = absurd (some refl)
root_fewer lists b (root ∷ []) is lt some = replaced lists b [] lists.free lt (omega (arith, ap (λ (q : List SlotRow). length q) is))
root_fewer lists b (root ∷ r ∷ rows) is lt some = replaced lists b (row root.slot r.entry ∷ rows) (r.slot ∷ lists.free) lt (omega (arith, ap (λ (q : List SlotRow). length q) is))

pub fewer_root : (lists : Lists) (b : ℕ) → b < length lists.chains → get_or lists.chains b [] ≢ [] → IsFewer b lists (take_root lists b (get_or lists.chains b []))
fewer_root lists b lt some = root_fewer lists b (get_or lists.chains b []) refl lt some

next_shorter : (x : ℕ) (rows : List SlotRow) → behind_slot x rows ≢ [] → suc (length (without_next x rows)) ≡ length rows
next_shorter x [] some = absurd (some refl)
next_shorter x (r ∷ rows) some =
    elim (eqb r.slot x) as (λ t. cond t rows (behind_slot x rows) ≢ [] → suc (suc (length (cond t (drop 1 rows) (without_next x rows)))) ≡ suc (length rows)) [
      | true ↦ λ s. one_less rows s
      | false ↦ λ s. ap suc (next_shorter x rows s)
    ] some where
      one_less : (rs : List SlotRow) → rs ≢ [] → suc (suc (length (drop 1 rs))) ≡ suc (length rs)
      one_less [] s = absurd (s refl)
      one_less (q ∷ rs) s = refl

pub fewer_next : (lists : Lists) (b x : ℕ) → b < length lists.chains → behind_slot x (get_or lists.chains b []) ≢ [] → IsFewer b lists (take_next lists b x (get_or lists.chains b []))
fewer_next lists b x lt some =
    replaced lists b (without_next x (get_or lists.chains b [])) (with_first_free (behind_slot x (get_or lists.chains b [])) lists.free) lt (omega (arith, next_shorter x (get_or lists.chains b []) some))

-- ---- behind the root

upto-same : (s : ℕ) (rows : List SlotRow) → upto s (without_next s rows) ≡ upto s rows
unfolding upto
upto-same s [] = refl
upto-same s (r ∷ rows) = elim (eqb r.slot s) as (λ t. r ∷ cond t [] (upto s (cond t (drop 1 rows) (without_next s rows))) ≡ r ∷ cond t [] (upto s rows)) [ true ↦ refl | false ↦ ap (λ (q : List SlotRow). r ∷ q) (upto-same s rows) ]

behind-less : (s : ℕ) (rows : List SlotRow) → behind_slot s (without_next s rows) ≡ drop 1 (behind_slot s rows)
behind-less s [] = refl
behind-less s (r ∷ rows) = elim (eqb r.slot s) as (λ t. cond t (cond t (drop 1 rows) (without_next s rows)) (behind_slot s (cond t (drop 1 rows) (without_next s rows))) ≡ drop 1 (cond t rows (behind_slot s rows))) [ true ↦ refl | false ↦ behind-less s rows ]

-- the lists where what is behind a slot is cleaned
abbrev pub swept : (SlotRow → Bool) → Lists → ℕ → ℕ → Lists
swept test lists b s =
    with_chain lists b (upto s (get_or lists.chains b []) ++ filter test (behind_slot s (get_or lists.chains b [])))
    (freed_by test (behind_slot s (get_or lists.chains b [])) lists.free)

pub swept_kept : (test : SlotRow → Bool) (lists : Lists) (b s n : ℕ) (e : Entry) → behind_slot s (get_or lists.chains b []) ≡ row n e ∷ behind_slot n (get_or lists.chains b []) → test (row n e) ≡ true
    → swept test lists b n ≡ swept test lists b s
swept_kept test lists b s n e next passed =
    let c : List SlotRow = get_or lists.chains b [] in
    let rows : upto n c ++ filter test (behind_slot n c) ≡ upto s c ++ filter test (behind_slot s c) =
    ap (λ (q : List SlotRow). q ++ filter test (behind_slot n c)) (upto-next s n e c next) ∙ append_assoc (upto s c) (row n e ∷ []) (filter test (behind_slot n c))
    ∙ sym (ap (λ (q : List SlotRow). upto s c ++ filter test q) next ∙ rw passed refl) in
    let free : freed_by test (behind_slot n c) lists.free ≡ freed_by test (behind_slot s c) lists.free = sym (ap (λ (q : List SlotRow). freed_by test q lists.free) next ∙ ap (λ (t : Bool). freed_by test (behind_slot n c) (cond t lists.free (n ∷ lists.free))) passed) in
    λ i. with_chain lists b (rows i) (free i)

pub swept_gone : (test : SlotRow → Bool) (lists : Lists) (b s n : ℕ) (e : Entry) → b < length lists.chains → behind_slot s (get_or lists.chains b []) ≡ row n e ∷ behind_slot n (get_or lists.chains b []) → test (row n e) ≡ false
    → swept test (take_next lists b s (get_or lists.chains b [])) b s ≡ swept test lists b s
swept_gone test lists b s n e lt next failed =
    let c : List SlotRow = get_or lists.chains b [] in
    let c' : List SlotRow = without_next s c in
    let f' : List ℕ = with_first_free (behind_slot s c) lists.free in
    let now : get_or (set lists.chains b c') b [] ≡ c' = get_or-set_same lists.chains b c' [] lt in
    let rest : behind_slot s c' ≡ behind_slot n c = behind-less s c ∙ ap (λ (q : List SlotRow). drop 1 q) next in
    let rows : upto s c' ++ filter test (behind_slot s c') ≡ upto s c ++ filter test (behind_slot s c) =
    (λ i. upto-same s c i ++ filter test (rest i)) ∙ sym (ap (λ (q : List SlotRow). upto s c ++ filter test q) next ∙ rw failed refl) in
    let free : freed_by test (behind_slot s c') f' ≡ freed_by test (behind_slot s c) lists.free =
    (λ i. freed_by test (rest i) (with_first_free (next i) lists.free)) ∙ sym (ap (λ (q : List SlotRow). freed_by test q lists.free) next ∙ ap (λ (t : Bool). freed_by test (behind_slot n c) (cond t lists.free (n ∷ lists.free))) failed) in
    let there : swept test (with_chain lists b c' f') b s ≡ with_chain (with_chain lists b c' f') b (upto s c' ++ filter test (behind_slot s c')) (freed_by test (behind_slot s c') f') =
    λ i. with_chain (with_chain lists b c' f') b (upto s (now i) ++ filter test (behind_slot s (now i))) (freed_by test (behind_slot s (now i)) f') in
    there ∙ set_twice lists b c' (upto s c' ++ filter test (behind_slot s c')) f' (freed_by test (behind_slot s c') f') ∙ (λ i. with_chain lists b (rows i) (free i))

pub swept_end : (test : SlotRow → Bool) (lists : Lists) (b s : ℕ) → behind_slot s (get_or lists.chains b []) ≡ []
    → swept test lists b s ≡ lists
swept_end test lists b s last =
    let c : List SlotRow = get_or lists.chains b [] in
    let rows : upto s c ++ filter test (behind_slot s c) ≡ c = ap (λ (q : List SlotRow). upto s c ++ filter test q) last ∙ ap (λ (q : List SlotRow). upto s c ++ q) (sym last) ∙ upto-behind s c in
    let free : freed_by test (behind_slot s c) lists.free ≡ lists.free = ap (λ (q : List SlotRow). freed_by test q lists.free) last in
    (λ i. with_chain lists b (rows i) (free i)) ∙ (λ i. record { chains = set-get_or lists.chains b [] i; free = lists.free })

from_kept : (test : Entry → Bool) (lists : Lists) (b : ℕ) (root : SlotRow) (rows : List SlotRow) (free : List ℕ) → test root.entry ≡ true → clean_from test lists b root rows free ≡ with_chain lists b (root ∷ filter (passes test) rows) (freed_by (passes test) rows free)
from_kept test lists b root [] free passed = rw passed refl
from_kept test lists b root (r ∷ rows) free passed = rw passed refl

swept_begin_at : (test : Entry → Bool) (lists : Lists) (b s : ℕ) (c : List SlotRow) → BeginsAt s c → FirstPasses test c
    → with_chain lists b (upto s c ++ filter (passes test) (behind_slot s c)) (freed_by (passes test) (behind_slot s c) lists.free) ≡ clean_chain test lists b c
unfolding upto
swept_begin_at test lists b s [] at first = absurd at
swept_begin_at test lists b s (r ∷ rows) at first =
    let here : eqb r.slot s ≡ true = eq-eqb r.slot s at in
    rw here (sym (from_kept test lists b r rows lists.free first))

pub swept_begin : (test : Entry → Bool) (lists : Lists) (b s : ℕ) → BeginsAt s (get_or lists.chains b []) → FirstPasses test (get_or lists.chains b []) → swept (passes test) lists b s ≡ clean_bucket test lists b
unfolding clean_bucket
swept_begin test lists b s at first = swept_begin_at test lists b s (get_or lists.chains b []) at first

pub no_chain : (test : Entry → Bool) (lists : Lists) (b : ℕ) → get_or lists.chains b [] ≡ [] → clean_bucket test lists b ≡ lists
unfolding clean_bucket
no_chain test lists b none = rw none refl

pub begins : (n : ℕ) (e : Entry) (c : List SlotRow) → c ≡ row n e ∷ behind_slot n c → BeginsAt n c
begins n e [] is = absurd (cc is)
begins n e (r ∷ rows) is = let same : r ≡ row n e = cc is in ap (λ (q : SlotRow). q.slot) same

pub first_passes : (test : Entry → Bool) (n : ℕ) (e : Entry) (c : List SlotRow) → c ≡ row n e ∷ behind_slot n c → test (row n e).entry ≡ true → FirstPasses test c
first_passes test n e [] is h = absurd (cc is)
first_passes test n e (r ∷ rows) is h = let same : r ≡ row n e = cc is in ap (λ (q : SlotRow). test q.entry) same ∙ h

pub has_same : (s : ℕ) (rows : List SlotRow) → has_slot s rows ≡ true → has_slot s (without_next s rows) ≡ true
has_same s [] h = h
has_same s (r ∷ rows) h =
    elim (eqb r.slot s) as (λ t. (t || has_slot s rows) ≡ true → (t || has_slot s (cond t (drop 1 rows) (without_next s rows))) ≡ true) [ true ↦ λ q. refl | false ↦ λ q. has_same s rows q ] h

pub begins_held : (s : ℕ) (c : List SlotRow) → BeginsAt s c → has_slot s c ≡ true
begins_held s [] h = absurd h
begins_held s (r ∷ rows) h = rw (eq-eqb r.slot s h) refl

-- after the row behind a slot has gone
pub record IsGone (lists new : Lists) (b s : ℕ) : Type 0 where
  pub held : has_slot s (get_or new.chains b []) ≡ true
  pub less : suc (length (behind_slot s (get_or new.chains b []))) ≡ length (behind_slot s (get_or lists.chains b []))

pub next_gone_from : (lists : Lists) (b s n : ℕ) (e : Entry) → b < length lists.chains → has_slot s (get_or lists.chains b []) ≡ true → behind_slot s (get_or lists.chains b []) ≡ row n e ∷ behind_slot n (get_or lists.chains b [])
    → IsGone lists (take_next lists b s (get_or lists.chains b [])) b s
next_gone_from lists b s n e lt has next =
    let c : List SlotRow = get_or lists.chains b [] in
    let now : get_or (set lists.chains b (without_next s c)) b [] ≡ without_next s c = get_or-set_same lists.chains b (without_next s c) [] lt in
    record {
      held = rw now (has_same s c has);
      less = let l1 : length (behind_slot s (get_or (set lists.chains b (without_next s c)) b [])) ≡ length (drop 1 (behind_slot s c)) = ap (λ (q : List SlotRow). length (behind_slot s q)) now ∙ ap (λ (q : List SlotRow). length q) (behind-less s c) in
          let l2 : length (drop 1 (behind_slot s c)) ≡ length (behind_slot n c) = ap (λ (q : List SlotRow). length (drop 1 q)) next in
          let l3 : length (behind_slot s c) ≡ suc (length (behind_slot n c)) = ap (λ (q : List SlotRow). length q) next in
          omega (arith, l1, l2, l3);
    }

pub unlinked_fits : (e : Entry) → EntryFits e → EntryFits (unlinked e)
unlinked_fits e h = record { offset = h.offset; big = h.big; size = h.size; tag = h.tag; next = omega arith }

pub some_row : (c : List SlotRow) (r : SlotRow) (rest : List SlotRow) → c ≡ r ∷ rest → c ≢ []
some_row c r rest is none = let no : r ∷ rest ≡ [] = sym is ∙ none in cc no

pub buckets_step : (step : Lists → ℕ → Lists) (i n : ℕ) (lists next whole : Lists) → i < n → next ≡ step lists i → each_bucket step i (n - i) lists ≡ whole → each_bucket step (i + 1) (n - (i + 1)) next ≡ whole
buckets_step step i n lists next whole lt stepped so_far =
    let k : n - i ≡ suc (n - (i + 1)) = omega arith in
    let e : i + 1 ≡ suc i = omega arith in
    let one : each_bucket step i (n - i) lists ≡ each_bucket step (suc i) (n - (i + 1)) (step lists i) = ap (λ m. each_bucket step i m lists) k in
    (λ j. each_bucket step (e j) (n - (i + 1)) (stepped j)) ∙ sym one ∙ so_far

thin_begin_at : (test : SlotRow → Bool) (lists : Lists) (b s : ℕ) (c : List SlotRow) → BeginsAt s c
    → with_chain lists b (upto s c ++ filter test (behind_slot s c)) (freed_by test (behind_slot s c) lists.free) ≡ thin_chain test lists b c
unfolding upto
thin_begin_at test lists b s [] at = absurd at
thin_begin_at test lists b s (r ∷ rows) at = let here : eqb r.slot s ≡ true = eq-eqb r.slot s at in rw here refl

pub thin_begin : (test : SlotRow → Bool) (lists : Lists) (b s : ℕ) → BeginsAt s (get_or lists.chains b []) → swept test lists b s ≡ thin_bucket test lists b
unfolding thin_bucket
thin_begin test lists b s at = thin_begin_at test lists b s (get_or lists.chains b []) at

pub thin_none : (test : SlotRow → Bool) (lists : Lists) (b : ℕ) → get_or lists.chains b [] ≡ [] → thin_bucket test lists b ≡ lists
unfolding thin_bucket
thin_none test lists b none = rw none refl
