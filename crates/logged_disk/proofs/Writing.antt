-- What holds while blocks are written or cut one after another.
use Rattle.std.proofs.Common.{None, ◌≡◌, ℕ, ◌+◌, ◌-◌, ◌*◌, ◌≤◌, ◌==◌, true, false, List, take, drop, if◌then◌else◌, Option, Some, refl, sym, ◌∙◌, ap, arith}
use Rattle.std.specs.Prelude.{nat_lt, nat_eq}
use Rattle.std.specs.HashMap.{spare, get, IsEmpty}
use Rattle.std.specs.Map.{lookup}
use lib.Dec.{eqb}
use Rattle.device_log.specs.declared.choice.CutChoice.{CutChoice}
use Rattle.device_log.specs.declared.choice.CutChoice.TheVariants.{Lost, Kept, Torn, Junk}
use Rattle.device_log.specs.Image.{Image, in_range, put_blocks}
use Rattle.device_log.specs.Cuts.{torn_block, junk_block}
use Rattle.device_log.proofs.Puts.{inside_range}
use Rattle.logged_disk.specs.Blocks.{Written, Pending, AreStored, written_image, kept_or, synced_image, over_in, left_in, cut_image}

-- so many of the bytes' blocks were written
pub record HasPut (old new : Written) (before after : Pending) (first k : ℕ) (bytes : List ℕ) : Type 0 where
  pub seen : (j : ℕ) → written_image new j ≡ put_blocks first k bytes (written_image old) j
  pub kept : (j : ℕ) → synced_image new after j ≡ synced_image old before j
  pub over : (j : ℕ) → over_in after j ≡ (if in_range first k j then Some first else over_in before j)
  pub stored : AreStored new after
  pub room : spare old ≤ spare new + k
  pub room_before : spare before ≤ spare after + k

none_in_range : (first j : ℕ) → in_range first 0 j ≡ false
none_in_range first j = grind arith

range_else : (first k j : ℕ) → (first + k == j) ≡ false → in_range first (k + 1) j ≡ in_range first k j
range_else first k j is = grind (arith, is)

pub none_put : (old : Written) (before : Pending) (first : ℕ) (bytes : List ℕ) → AreStored old before → HasPut old old before before first 0 bytes
none_put old before first bytes stored = record {
  seen = λ j. sym (ap (λ b. if b then take 512 (drop (512 * (j - first)) bytes) else written_image old j) (none_in_range first j));
  kept = λ j. refl;
  over = λ j. sym (ap (λ b. if b then Some first else over_in before j) (none_in_range first j));
  stored = stored;
  room = omega arith;
  room_before = omega arith;
}

-- one more block, where the range reaches one further
module _ {X : Type 0} (first k : ℕ) where
  one_further : (piece : ℕ → X) (rest mid new : ℕ → X) (here : X) → ((j : ℕ) → mid j ≡ (if in_range first k j then piece j else rest j))
      → ((j : ℕ) → new j ≡ (if first + k == j then here else mid j)) → here ≡ piece (first + k)
      → (j : ℕ) → new j ≡ (if in_range first (k + 1) j then piece j else rest j)
  one_further piece rest mid new here so_far step is j =
      step j ∙ elim (first + k == j) as (λ b. (first + k == j) ≡ b → (if b then here else mid j) ≡ (if in_range first (k + 1) j then piece j else rest j)) [
        | true ↦ λ at_it.
            let same : first + k ≡ j = grind (arith, at_it) in
            is ∙ (ap piece same ∙ sym (ap (λ b. if b then piece j else rest j) (inside_range first (k + 1) j (omega (arith, same)) (omega (arith, same)))))
        | false ↦ λ elsewhere. so_far j ∙ sym (ap (λ b. if b then piece j else rest j) (range_else first k j elsewhere))
      ] refl

pub put_more : (first k : ℕ) (bytes piece : List ℕ) (old mid new : Image) → ((j : ℕ) → mid j ≡ put_blocks first k bytes old j)
    → ((j : ℕ) → new j ≡ (if first + k == j then piece else mid j)) → piece ≡ take 512 (drop (512 * k) bytes) → (j : ℕ) → new j ≡ put_blocks first (k + 1) bytes old j
put_more first k bytes piece old mid new so_far step is =
    let here : k ≡ first + k - first = omega arith in
    one_further first k (λ j. take 512 (drop (512 * (j - first)) bytes)) old mid new piece so_far step (is ∙ ap (λ i. take 512 (drop (512 * i) bytes)) here)

pub over_more : (first k : ℕ) (old mid new : ℕ → Option ℕ) → ((j : ℕ) → mid j ≡ (if in_range first k j then Some first else old j))
    → ((j : ℕ) → new j ≡ (if first + k == j then Some first else mid j)) → (j : ℕ) → new j ≡ (if in_range first (k + 1) j then Some first else old j)
over_more first k old mid new so_far step = one_further first k (λ j. Some first) old mid new (Some first) so_far step refl

-- the blocks below k were cut
pub record HasCut (choice : CutChoice) (old new : Written) (pending : Pending) (k : ℕ) : Type 0 where
  pub seen : (j : ℕ) → written_image new j ≡ cut_image choice k old pending j
  pub stored : AreStored new pending
  pub room : spare new ≡ spare old

pub none_cut : (choice : CutChoice) (old : Written) (pending : Pending) → AreStored old pending → HasCut choice old old pending 0
none_cut choice old pending stored = record {
  seen = λ j. let no : nat_lt j 0 ≡ false =
      grind arith in sym (ap (λ b. if b then left_in choice old pending j else written_image old j) no);
  stored = stored;
  room = refl;
}

-- what is left of a block goes by what is seen of it
left_same : (choice : CutChoice) (old new : Written) (pending : Pending) (j : ℕ) → written_image new j ≡ written_image old j → left_in choice new pending j ≡ left_in choice old pending j
left_same Lost old new pending j is = ap (kept_or (get nat_eq pending j)) is
left_same Kept old new pending j is = is
left_same Torn old new pending j is = ap (torn_block (over_in pending j) j) is
left_same Junk old new pending j is = ap (junk_block (over_in pending j)) is

pub cut_more : (choice : CutChoice) (old mid new : Written) (pending : Pending) (k : ℕ) → HasCut choice old mid pending k
    → ((j : ℕ) → written_image new j ≡ (if k == j then left_in choice mid pending j else written_image mid j)) → AreStored new pending → spare new ≡ spare mid
    → HasCut choice old new pending (k + 1)
cut_more choice old mid new pending k so_far step stored room = record {
  seen = λ j. step j ∙ elim (k == j) as (λ b. (k == j) ≡ b → (if b then left_in choice mid pending j else written_image mid j) ≡ cut_image choice (k + 1) old pending j) [
    | true ↦ λ here.
        let above : nat_lt j k ≡ false = grind (arith, here) in
        let below : nat_lt j (k + 1) ≡ true = grind (arith, here) in
        left_same choice old mid pending j (so_far.seen j ∙ ap (λ b. if b then left_in choice old pending j else written_image old j) above)
        ∙ sym (ap (λ b. if b then left_in choice old pending j else written_image old j) below)
    | false ↦ λ elsewhere.
        let same : nat_lt j (k + 1) ≡ nat_lt j k = grind (arith, elsewhere) in
        so_far.seen j ∙ sym (ap (λ b. if b then left_in choice old pending j else written_image old j) same)
  ] refl;
  stored = stored;
  room = room ∙ so_far.room;
}

-- a map without entries has nothing at any block
pub none_pending : (pending : Pending) → IsEmpty pending → (j : ℕ) → get nat_eq pending j ≡ None
none_pending pending empty j = ap (λ entries. lookup (eqb j) entries) empty
