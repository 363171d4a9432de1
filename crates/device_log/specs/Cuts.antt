-- What a cut leaves of a device in memory, block by block.
use Rattle.std.specs.Prelude.{ℕ, ◌/◌, ◌==◌, if◌then◌else◌, List, [], ◌∷◌, length, Option, None, Some}
use Rattle.device_log.specs.declared.choice.CutChoice.{CutChoice}
use Rattle.device_log.specs.declared.choice.CutChoice.TheVariants.{Lost, Kept, Torn, Junk}
use Rattle.device_log.specs.Image.{Image, junk, in_range}
use Rattle.device_log.specs.Calls.{Call, Read, Wrote, Synced, RefusedCall, Told, PowerCut, Flipped}
use Rattle.device_log.specs.Seen.{seen_of, kept_of}

-- the first block of the last write that covers a block since the last sync or cut
unfoldable pub write_over : List Call → ℕ → Option ℕ
write_over [] j = None
write_over (Read at bytes ∷ older) j = write_over older j
write_over (Wrote at bytes ∷ older) j =
    if in_range at (length bytes / 512) j then Some at else write_over older j
write_over (Synced ∷ older) j = None
write_over (RefusedCall what count ∷ older) j = write_over older j
write_over (Told act ∷ older) j = write_over older j
write_over (PowerCut choice left ∷ older) j = None
write_over (Flipped at byte ∷ older) j = write_over older j

-- of a block that is seen, what a torn write leaves that began there: its first block is whole
abbrev pub torn_block : Option ℕ → ℕ → List ℕ → List ℕ
torn_block None j seen = seen
torn_block (Some at) j seen = if at == j then seen else junk

-- of a block that is seen, what a write leaves that came to nothing
abbrev pub junk_block : Option ℕ → List ℕ → List ℕ
junk_block None seen = seen
junk_block (Some at) seen = junk

-- What such a cut leaves: lost, what the last sync kept; kept, what is seen; torn and junk, by the
-- last write over each block since. A refused write has no effect.
abbrev pub left_by : CutChoice → Image → List Call → Image
left_by Lost first past j = kept_of first past j
left_by Kept first past j = seen_of first past j
left_by Torn first past j = torn_block (write_over past j) j (seen_of first past j)
left_by Junk first past j = junk_block (write_over past j) (seen_of first past j)
