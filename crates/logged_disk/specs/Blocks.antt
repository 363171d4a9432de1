-- The blocks that a memory device keeps, and a second copy of those that are pending.
use Rattle.std.specs.Prelude.{◌≡◌, ℕ, nat_lt, true, if◌then◌else◌, List, nat_eq, Option, None, Some, unwrap_or, is_some}
use Rattle.std.specs.declared.hash.FoldHasher.{FoldHasher}
use Rattle.std.specs.declared.hash.BuildHasherDefault.{BuildHasherDefault}
use Rattle.std.specs.HashMap.{get, HashMap}
use Rattle.device_log.specs.declared.choice.CutChoice.{CutChoice}
use Rattle.device_log.specs.declared.choice.CutChoice.TheVariants.{Lost, Kept, Torn, Junk}
use Rattle.device_log.specs.Image.{Image, zeros}
use Rattle.device_log.specs.Cuts.{torn_block, junk_block}
use Rattle.logged_disk.specs.declared.pending_block.PendingBlock.{PendingBlock}

-- the blocks that were written, by their numbers
abbrev pub Written : Type 0
Written = HashMap ℕ (List ℕ) (BuildHasherDefault FoldHasher)

-- those that were written since the last sync
abbrev pub Pending : Type 0
Pending = HashMap ℕ PendingBlock (BuildHasherDefault FoldHasher)

-- what is seen: what was written, and zeros elsewhere
abbrev pub written_image : Written → Image
written_image written j = unwrap_or (get nat_eq written j) zeros

-- what was there before, where the block is pending
abbrev pub kept_or : Option PendingBlock → List ℕ → List ℕ
kept_or None seen = seen
kept_or (Some pending) seen = pending.kept

-- what the last sync kept
abbrev pub synced_image : Written → Pending → Image
synced_image written pending j = kept_or (get nat_eq pending j) (written_image written j)

-- the first block of the last write over it, where the block is pending
abbrev pub start_of : Option PendingBlock → Option ℕ
start_of None = None
start_of (Some pending) = Some pending.start

abbrev pub over_in : Pending → ℕ → Option ℕ
over_in pending j = start_of (get nat_eq pending j)

-- what such a cut leaves of a block
abbrev pub left_in : CutChoice → Written → Pending → Image
left_in Lost written pending j = synced_image written pending j
left_in Kept written pending j = written_image written j
left_in Torn written pending j = torn_block (over_in pending j) j (written_image written j)
left_in Junk written pending j = junk_block (over_in pending j) (written_image written j)

-- what a cut leaves of the blocks below the size
abbrev pub cut_image : CutChoice → ℕ → Written → Pending → Image
cut_image choice size written pending j =
    if nat_lt j size then left_in choice written pending j else written_image written j

-- each block that is pending was written
pub record AreStored (written : Written) (pending : Pending) : Type 0 where
  pub stored : (j : ℕ) → is_some (get nat_eq pending j) ≡ true
      → is_some (get nat_eq written j) ≡ true
