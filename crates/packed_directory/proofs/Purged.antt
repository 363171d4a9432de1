-- What a purge takes of the entries of all buckets.
use Rattle.std.proofs.Common.{◌≡◌, ℕ, ◌<◌, true, false, List, [], ◌∷◌, ◌++◌, length, map, refl, sym, ap, subst, ◌∙◌}
use Rattle.std.specs.List.Sorted.{IsPermutation}
use Rattle.std.proofs.lemmas.List.{length-map, map-append}
use Rattle.std.proofs.lemmas.List.Sorted.{IsPermutation-refl, IsPermutation-map}
use Rattle.dir_entry.specs.declared.entry.Entry.{Entry}
use Rattle.dir_segment.specs.Lists.{SlotRow, Lists, unlinked, inserted, IsFull}
use Rattle.dir_segment.specs.Purging.{purged, after_purge, tenth_of}
use Rattle.dir_segment.specs.Entries.{Housed, housed, InsertEnters, PurgeTakes}
use Rattle.packed_directory.specs.Entering.{BucketEntry, entries_from, TakesIn}
use Rattle.packed_directory.proofs.Gathering.{in_bucket, entered_more}

abbrev entry_of : Housed → BucketEntry
entry_of h = record { bucket = h.bucket; entry = h.row.entry }

told_by : (gone : List Housed) → map (λ (g : BucketEntry). g.entry) (map entry_of gone) ≡ map (λ (r : SlotRow). r.entry) (map (λ (h : Housed). h.row) gone)
told_by [] = refl
told_by (h ∷ gone) = ap (λ (q : List Entry). h.row.entry ∷ q) (told_by gone)

module _ (law : InsertEnters) (before : Lists) (b : ℕ) (e : Entry) (lt : b < length before.chains) where
  pub taken_in : (IsFull before b → ⊥) → (out : List Entry) → out ≡ [] → TakesIn (in_bucket b (unlinked e)) false out before (inserted before b e)
  taken_in room out none =
      let set = law before b e lt room in
      record {
        gone = [];
        told = sym none;
        enters = record {
          left = entries_from 0 before.chains;
          parted = IsPermutation-refl (entries_from 0 before.chains);
          entered = entered_more before (inserted before b e) b (unlinked e) lt set;
          width = set.width;
        };
        due = (room, refl);
      }

  pub purged_in : IsFull before b → PurgeTakes before → (IsFull (after_purge before) b → ⊥) → (out : List Entry) → out ≡ map (λ (r : SlotRow). r.entry) (purged before)
      → length out ≡ tenth_of (length before.chains) → TakesIn (in_bucket b (unlinked e)) true out before (inserted (after_purge before) b e)
  purged_in full takes room out told count =
      let lt' : b < length (after_purge before).chains = subst (λ n. b < n) (sym takes.width) lt in
      let set = law (after_purge before) b e lt' room in
      let tells : map (λ (g : BucketEntry). g.entry) (map entry_of takes.gone) ≡ out = told_by takes.gone ∙ ap (map (λ (r : SlotRow). r.entry)) takes.taken ∙ sym told in
      record {
        gone = map entry_of takes.gone;
        told = tells;
        enters = record {
          left = entries_from 0 (after_purge before).chains;
          parted = subst (λ (q : List BucketEntry). IsPermutation (entries_from 0 before.chains) q) (map-append entry_of takes.gone (housed 0 (after_purge before).chains))
              (IsPermutation-map entry_of (housed 0 before.chains) (takes.gone ++ housed 0 (after_purge before).chains) takes.all);
          entered = entered_more (after_purge before) (inserted (after_purge before) b e) b (unlinked e) lt' set;
          width = set.width ∙ takes.width;
        };
        due = (full, sym (length-map (map entry_of takes.gone) (λ (g : BucketEntry). g.entry)) ∙ ap (λ (q : List Entry). length q) tells ∙ count, tells ∙ told);
      }
