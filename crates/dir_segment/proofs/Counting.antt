-- How many entries and free slots a segment has, and what stands in its slots.
use Rattle.std.proofs.Common.{◌≡◌, ℕ, zero, suc, ◌+◌, ◌*◌, ◌/◌, ◌^◌, ◌<◌, List, [], ◌∷◌, length, get_or, map, refl, sym, subst, arith, length-append, inl, inr}
use Rattle.std.specs.List.{All}
use Rattle.std.proofs.lemmas.Bool.{cases_lt}
use Rattle.std.proofs.lemmas.Nat.{mod_below}
use Rattle.std.proofs.lemmas.List.{length-map, get_or_past}
use Rattle.std.proofs.lemmas.List.Elements.{All-nil, All-cons, All-same}
use Rattle.dir_entry.specs.declared.entry.Entry.{Entry}
use Rattle.dir_entry.specs.Layout.{entry_of_word, entry_of_bytes, number_of_bytes, EntryFits}
use Rattle.dir_segment.specs.Lists.{SlotRow, Lists, row, entry_count}
use Rattle.dir_segment.specs.Links.{at, IsChain, IsBucket, IsSegment, lines}
use Rattle.dir_segment.specs.Entries.{used_roots, AreCounted, IsStoredEntry, EntriesAreStored}
use Rattle.dir_segment.proofs.Sweeping.{unlinked_fits}

word_fits : (word : ℕ) → EntryFits (entry_of_word word)
word_fits word = record {
  offset = omega (arith, mod_below (word / 2 ^ 0) (2 ^ 24) (omega arith), mod_below (word / 2 ^ 64) (2 ^ 16) (omega arith));
  big = mod_below (word / 2 ^ 24) (2 ^ 2) (omega arith);
  size = mod_below (word / 2 ^ 26) (2 ^ 6) (omega arith);
  tag = mod_below (word / 2 ^ 32) (2 ^ 12) (omega arith);
  next = mod_below (word / 2 ^ 48) (2 ^ 16) (omega arith);
}

pub slots_fit : (packed : List (List ℕ)) (slot : ℕ) → EntryFits (at (map entry_of_bytes packed) slot)
unfolding entry_of_bytes
slots_fit [] slot = record { offset = omega arith; big = omega arith; size = omega arith; tag = omega arith; next = omega arith }
slots_fit (bytes ∷ packed) zero = word_fits (number_of_bytes bytes)
slots_fit (bytes ∷ packed) (suc slot) = slots_fit packed slot

lines-length : (b : ℕ) (chains : List (List SlotRow)) → length (lines b chains) + used_roots chains ≡ length chains + entry_count chains
lines-length b [] = refl
lines-length b ([] ∷ chains) = omega (arith, lines-length (suc b) chains)
lines-length b ((root ∷ rows) ∷ chains) =
    omega (arith, lines-length (suc b) chains, length-append (map (λ (q : SlotRow). q.slot) rows) (lines (suc b) chains), length-map rows (λ (q : SlotRow). q.slot))

module _ (slots : List Entry) (fits : (slot : ℕ) → EntryFits (at slots slot)) where
  row_stored : (slot : ℕ) (r : SlotRow) → 0 < (at slots slot).offset → r ≡ row slot (at slots slot) → IsStoredEntry r.entry
  row_stored slot r some is =
      subst (λ (q : SlotRow). IsStoredEntry q.entry) (sym is) (record { fits = unlinked_fits (at slots slot) (fits slot); some = some; unlinked = refl })

  chain_stored : (slot : ℕ) (rows : List SlotRow) → IsChain slots slot rows → All (λ (r : SlotRow). IsStoredEntry r.entry) rows
  chain_stored slot [] h = All-nil (λ (r : SlotRow). IsStoredEntry r.entry)
  chain_stored slot (r ∷ rows) h =
      All-cons (λ (q : SlotRow). IsStoredEntry q.entry) r rows (row_stored slot r h.1 h.2) (chain_stored (at slots slot).next rows h.3)

  bucket_stored : (b : ℕ) (rows : List SlotRow) → IsBucket slots b rows → All (λ (r : SlotRow). IsStoredEntry r.entry) rows
  bucket_stored b [] h = All-nil (λ (r : SlotRow). IsStoredEntry r.entry)
  bucket_stored b (r ∷ rows) h =
      All-cons (λ (q : SlotRow). IsStoredEntry q.entry) r rows (row_stored (4 * b) r h.0 h.1)
      (chain_stored (at slots (4 * b)).next rows h.2)

module _ (slots : List Entry) (head spare taken buckets : ℕ) (lists : Lists) (h : IsSegment slots head spare taken buckets lists) where
  pub counted : AreCounted lists
  counted = omega (arith, h.total, h.width, length-append lists.free (lines 0 lists.chains), lines-length 0 lists.chains)

  pub stored : ((slot : ℕ) → EntryFits (at slots slot)) → EntriesAreStored lists
  stored fits b = elim (cases_lt b (length lists.chains)) [
    | inl lt ↦ bucket_stored slots fits b (get_or lists.chains b []) (h.chains b (omega (arith, lt, h.width)))
    | inr ge ↦ All-same (λ (r : SlotRow). IsStoredEntry r.entry) (get_or lists.chains b []) [] (get_or_past lists.chains b [] ge) (All-nil (λ (r : SlotRow). IsStoredEntry r.entry))
  ]
