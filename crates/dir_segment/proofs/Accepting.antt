-- The walks over a segment's slots end without a fault.
use Rattle.std.proofs.Common.{◌≡◌, ◌≢◌, ℕ, zero, suc, ◌+◌, ◌-◌, ◌*◌, ◌/◌, ◌%◌, ◌<◌, ◌≤◌, Bool, true, false, cond, eqb, ltb, List, [], ◌∷◌, length, get_or, set, Result, Ok, refl, sym, ap, subst, ◌∙◌, arith, length-append, length-set, inl, inr}
use Rattle.std.specs.Prelude.{not}
use Rattle.dir_segment.specs.declared.fault.SegmentFault.{SegmentFault}
use Rattle.std.proofs.lemmas.Bool.{cases_eq, eq-eqb, ne_eqb, lt-ltb}
use Rattle.dir_entry.specs.declared.entry.Entry.{Entry}
use Rattle.dir_segment.specs.Lists.{SlotRow, Lists}
use Rattle.dir_segment.specs.Links.{at, IsChain, IsBucket, IsFreeList, IsSegment, followers, lines, slot_hits, occurrences}
use Rattle.dir_segment.specs.Image.{Marks, unmarked, marked, ◌>>=◌, is_bad_link, walk, walk_bucket, walk_buckets, counts, walk_all}
use Rattle.dir_segment.proofs.Counts.{occurrences-append, length-line_le}
use Rattle.dir_segment.proofs.Moves.{hit_same, own, pair, free_within, chain_within}
use Rattle.dir_segment.proofs.Marking.{mark_at, set_mark, marked_set, mark_unmarked, marked_unmarked, length-unmarked, no_mark, slots_of, Fits, Path}

free_path : (slots : List Entry) (slot : ℕ) (xs : List ℕ) → IsFreeList slots slot xs → Path false slots slot xs
free_path slots slot [] h = h
free_path slots slot (x ∷ xs) h = (h.0, h.2, h.1, free_path slots _ xs h.3)

chain_path : (slots : List Entry) (slot : ℕ) (rows : List SlotRow) → IsChain slots slot rows → Path true slots slot (slots_of rows)
chain_path slots slot [] h = h
chain_path slots slot (r ∷ rows) h = (h.0, ap (λ (q : SlotRow). q.slot) h.2, h.1, chain_path slots _ rows h.3)

-- a slot that a link may lead to
abbrev MayLink : List Entry → ℕ → Type 0
MayLink slots s = (s < length slots) × (s % 4 ≢ 0)

offset_good : (used : Bool) (offset : ℕ) → Fits used offset → cond used (eqb offset 0) (not (eqb offset 0)) ≡ false
offset_good true offset h = let ne : offset ≢ 0 = omega (arith, h) in ne_eqb offset 0 ne
offset_good false offset h = rw (eq-eqb offset 0 h) refl

link_good : (used : Bool) (slots : List Entry) (slot : ℕ) → MayLink slots slot → Fits used (at slots slot).offset → is_bad_link used slots slot ≡ false
link_good used slots slot may fits = rw (lt-ltb slot (length slots) may.0, ne_eqb (slot % 4) 0 may.1) (offset_good used (at slots slot).offset fits)

record Goes (used : Bool) (slots : List Entry) (most slot : ℕ) (marks : Marks) (xs : List ℕ) : Type 0 where
  after : Marks
  walks : walk used slots most slot marks ≡ Ok after
  each : (s : ℕ) → mark_at after s ≡ mark_at marks s + occurrences s xs
  total : marked after ≡ marked marks + length xs
  size : length after ≡ length marks

ends : (used : Bool) (slots : List Entry) (most slot : ℕ) (marks : Marks) → slot ≡ 0 → walk used slots most slot marks ≡ Ok marks
ends used slots zero slot marks end = rw end refl
ends used slots (suc most) slot marks end = rw end refl

walk_step : (used : Bool) (slots : List Entry) (most slot : ℕ) (marks : Marks) (result : Result Marks SegmentFault) → slot ≢ 0 → is_bad_link used slots slot ≡ false → get_or marks slot false ≡ false
    → walk used slots most (at slots slot).next (set marks slot true) ≡ result → walk used slots (suc most) slot marks ≡ result
walk_step used slots most slot marks result ne good new h = let go_on : eqb slot 0 ≡ false = ne_eqb slot 0 ne in rw (go_on, good, new) h

goes : (used : Bool) (slots : List Entry) (xs : List ℕ) (most slot : ℕ) (marks : Marks) → Path used slots slot xs → length xs ≤ most → length marks ≡ length slots
    → ((s : ℕ) → 0 < occurrences s xs → MayLink slots s) → ((s : ℕ) → mark_at marks s + occurrences s xs ≤ 1) → Goes used slots most slot marks xs
goes used slots [] most slot marks path long size may free = record {
  after = marks;
  walks = ends used slots most slot marks path;
  each = λ s. omega arith;
  total = omega arith;
  size = refl;
}
goes used slots (x ∷ xs) zero slot marks path long size may free = absurd (omega (arith, long))
goes used slots (x ∷ xs) (suc most) slot marks path long size may free =
    let one : slot_hits x slot ≡ 1 = rw path.1 (hit_same slot) in
    let may_slot : MayLink slots slot = may slot (omega (arith, one)) in
    let new : get_or marks slot false ≡ false = no_mark marks slot (omega (arith, free slot, one)) in
    let within : slot < length marks = omega (arith, may_slot.0, size) in
    let same : (s : ℕ) → slot_hits x s ≡ slot_hits slot s = λ s. ap (λ k. slot_hits k s) path.1 in
    let rest = goes used slots xs most (at slots slot).next (set marks slot true) path.3 (omega (arith, long)) (length-set marks slot true ∙ size)
    (λ s some. may s (omega (arith, some))) (λ s. omega (arith, free s, set_mark marks slot within new s, same s)) in
    let ne : slot ≢ 0 = omega (arith, path.0) in
    record {
      after = rest.after;
      walks = walk_step used slots most slot marks (Ok rest.after) ne (link_good used slots slot may_slot path.2) new rest.walks;
      each = λ s. omega (arith, rest.each s, set_mark marks slot within new s, same s);
      total = omega (arith, rest.total, marked_set marks slot within new);
      size = rest.size ∙ length-set marks slot true;
    }

record GoesBucket (slots : List Entry) (b : ℕ) (marks : Marks) (rows : List SlotRow) : Type 0 where
  after : Marks
  walks : walk_bucket slots b marks ≡ Ok after
  each : (s : ℕ) → mark_at after s ≡ mark_at marks s + (slot_hits (4 * b) s + occurrences s (followers rows))
  total : marked after ≡ marked marks + suc (length (followers rows))
  size : length after ≡ length marks

goes_bucket : (slots : List Entry) (b : ℕ) (marks : Marks) (rows : List SlotRow) → IsBucket slots b rows → length (followers rows) ≤ length slots → 4 * b < length slots → length marks ≡ length slots
    → ((s : ℕ) → 0 < occurrences s (followers rows) → MayLink slots s) → ((s : ℕ) → mark_at marks s + (slot_hits (4 * b) s + occurrences s (followers rows)) ≤ 1) → GoesBucket slots b marks rows
goes_bucket slots b marks [] bucket long lt size may free =
    let within : 4 * b < length marks = omega (arith, lt, size) in
    let new : get_or marks (4 * b) false ≡ false = no_mark marks (4 * b) (omega (arith, free (4 * b), hit_same (4 * b))) in
    record {
      after = set marks (4 * b) true;
      walks = rw (eq-eqb (at slots (4 * b)).offset 0 bucket.0, eq-eqb (at slots (4 * b)).next 0 bucket.1) refl;
      each = λ s. omega (arith, set_mark marks (4 * b) within new s);
      total = omega (arith, marked_set marks (4 * b) within new);
      size = length-set marks (4 * b) true;
    }
goes_bucket slots b marks (r ∷ rows) bucket long lt size may free =
    let within : 4 * b < length marks = omega (arith, lt, size) in
    let new : get_or marks (4 * b) false ≡ false = no_mark marks (4 * b) (omega (arith, free (4 * b), hit_same (4 * b))) in
    let used : (at slots (4 * b)).offset ≢ 0 = omega (arith, bucket.0) in
    let rest = goes true slots (slots_of rows) (length slots) (at slots (4 * b)).next (set marks (4 * b) true) (chain_path slots _ rows bucket.2) long (length-set marks (4 * b) true ∙ size)
    may (λ s. omega (arith, free s, set_mark marks (4 * b) within new s)) in
    record {
      after = rest.after;
      walks = rw (ne_eqb (at slots (4 * b)).offset 0 used) rest.walks;
      each = λ s. omega (arith, rest.each s, set_mark marks (4 * b) within new s);
      total = omega (arith, rest.total, marked_set marks (4 * b) within new);
      size = rest.size ∙ length-set marks (4 * b) true;
    }

record GoesBuckets (slots : List Entry) (b n : ℕ) (marks : Marks) (chains : List (List SlotRow)) : Type 0 where
  after : Marks
  walks : walk_buckets slots b n marks ≡ Ok after
  each : (s : ℕ) → mark_at after s ≡ mark_at marks s + occurrences s (lines b chains)
  total : marked after ≡ marked marks + length (lines b chains)
  size : length after ≡ length marks

goes_buckets : (slots : List Entry) (b : ℕ) (chains : List (List SlotRow)) (n : ℕ) (marks : Marks) → length chains ≡ n → ((j : ℕ) → j < n → IsBucket slots (b + j) (get_or chains j []))
    → ((j : ℕ) → j < n → length (followers (get_or chains j [])) ≤ length slots) → 4 * (b + n) ≤ length slots → length marks ≡ length slots
    → ((j s : ℕ) → j < n → 0 < occurrences s (followers (get_or chains j [])) → MayLink slots s) → ((s : ℕ) → mark_at marks s + occurrences s (lines b chains) ≤ 1) → GoesBuckets slots b n marks chains
goes_buckets slots b [] zero marks width buckets short fit size may free = record { after = marks; walks = refl; each = λ s. omega arith; total = omega arith; size = refl }
goes_buckets slots b [] (suc n) marks width buckets short fit size may free = absurd (omega (arith, width))
goes_buckets slots b (c ∷ chains) zero marks width buckets short fit size may free = absurd (omega (arith, width))
goes_buckets slots b (c ∷ chains) (suc n) marks width buckets short fit size may free =
    let split = λ (s : ℕ). occurrences-append s (followers c) (lines (suc b) chains) in
    let here : IsBucket slots b c = subst (λ k. IsBucket slots k c) (let q : b + 0 ≡ b = omega arith in q) (buckets 0 (omega arith)) in
    let first = goes_bucket slots b marks c here (short 0 (omega arith)) (omega (arith, fit)) size (λ s some. may 0 s (omega arith) some) (λ s. omega (arith, free s, split s)) in
    let rest = goes_buckets slots (suc b) chains n first.after (omega (arith, width))
    (λ j lt. subst (λ k. IsBucket slots k (get_or chains j [])) (let q : b + suc j ≡ suc b + j = omega arith in q) (buckets (suc j) (omega arith)))
    (λ j lt. short (suc j) (omega arith)) (omega (arith, fit)) (first.size ∙ size) (λ j s lt some. may (suc j) s (omega arith) some) (λ s. omega (arith, free s, split s, first.each s)) in
    record {
      after = rest.after;
      walks = ap (λ (r : Result Marks SegmentFault). r >>= walk_buckets slots (suc b) n) first.walks ∙ rest.walks;
      each = λ s. omega (arith, rest.each s, first.each s, split s);
      total = omega (arith, rest.total, first.total, length-append (followers c) (lines (suc b) chains));
      size = rest.size ∙ first.size;
    }

counts_good : (kept slots : ℕ) (before after : Marks) → kept ≡ marked after - marked before → marked after ≡ slots → counts kept slots before after ≡ Ok after
counts_good kept slots before after same all = rw (eq-eqb kept (marked after - marked before) same, eq-eqb (marked after) slots all) refl

root_of : (s : ℕ) → s % 4 ≡ 0 → s ≡ 4 * (s / 4)
root_of s h = omega (arith, h)

module _ (slots : List Entry) (head spare taken buckets : ℕ) (lists : Lists) (h : IsSegment slots head spare taken buckets lists) where
  hits_root : (s : ℕ) → s % 4 ≡ 0 → slot_hits (4 * (s / 4)) s ≡ 1
  hits_root s root = subst (λ k. slot_hits k s ≡ 1) (root_of s root) (hit_same s)

  follower_links : (b s : ℕ) → b < buckets → 0 < occurrences s (followers (get_or lists.chains b [])) → MayLink slots s
  follower_links b s lt some =
      let within = chain_within slots head spare taken buckets lists h s b lt some in (
        omega (arith, within, h.size),
        λ root.
            let k : ℕ = s / 4 in
            let one : slot_hits (4 * k) s ≡ 1 = hits_root s root in
            elim (cases_eq k b) [
              | inl e ↦
                  let one' : slot_hits (4 * b) s ≡ 1 = subst (λ n. slot_hits (4 * n) s ≡ 1) e one in
                  absurd (omega (arith, own slots head spare taken buckets lists h s b lt, some, one'))
              | inr ne ↦ absurd (omega (arith, pair slots head spare taken buckets lists h s b k ne lt (omega (arith, within)), some, one))
            ],
      )

  free_links : (s : ℕ) → 0 < occurrences s lists.free → MayLink slots s
  free_links s some =
      let within = free_within slots head spare taken buckets lists h s some in (
        omega (arith, within, h.size),
        λ root.
            let one : slot_hits (4 * (s / 4)) s ≡ 1 = hits_root s root in
            absurd (omega (arith, own slots head spare taken buckets lists h s (s / 4) (omega (arith, within)), some, one)),
      )

  at_most_once : (s : ℕ) → occurrences s lists.free + occurrences s (lines 0 lists.chains) ≤ 1
  at_most_once s =
      elim (ltb s (4 * buckets)) as (λ t. occurrences s lists.free + occurrences s (lines 0 lists.chains) ≡ cond t 1 0 → occurrences s lists.free + occurrences s (lines 0 lists.chains) ≤ 1)
      [ true ↦ λ e. omega (arith, e) | false ↦ λ e. omega (arith, e) ] (sym (occurrences-append s lists.free (lines 0 lists.chains)) ∙ h.once s)

  pub walks_all : (after : Marks) × (walk_all slots head spare buckets ≡ Ok after)
  walks_all =
      let none = mark_unmarked (4 * buckets) in
      let start : length (unmarked (4 * buckets)) ≡ length slots = length-unmarked (4 * buckets) ∙ sym h.size in
      let all = length-append lists.free (lines 0 lists.chains) in
      let chains = goes_buckets slots 0 lists.chains buckets (unmarked (4 * buckets)) h.width
      (λ j lt. subst (λ k. IsBucket slots k (get_or lists.chains j [])) (let q : j ≡ 0 + j = omega arith in q) (h.chains j lt))
      (λ j lt. omega (arith, h.size, h.total, all, length-line_le 0 lists.chains j (let l : j < length lists.chains = omega (arith, h.width) in l)))
      (omega (arith, h.size)) start (λ j s lt some. follower_links j s lt some) (λ s. omega (arith, none s, at_most_once s)) in
      let free = goes false slots lists.free (length slots) head chains.after (free_path slots head lists.free h.free) (omega (arith, h.size, h.total, all)) (chains.size ∙ start)
      (λ s some. free_links s some) (λ s. omega (arith, chains.each s, none s, at_most_once s)) in
      let sum : counts spare (4 * buckets) chains.after free.after ≡ Ok free.after =
      counts_good spare (4 * buckets) chains.after free.after (omega (arith, free.total, h.free_count)) (omega (arith, free.total, chains.total, marked_unmarked (4 * buckets), h.total, all)) in (
        free.after,
        ap (λ (r : Result Marks SegmentFault). r >>= λ chains. walk false slots (length slots) head chains >>= counts spare (4 * buckets) chains) chains.walks
            ∙ ap (λ (r : Result Marks SegmentFault). r >>= counts spare (4 * buckets) chains.after) free.walks ∙ sum,
      )
