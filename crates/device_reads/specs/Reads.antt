-- That a device was only read, and what its reads tell of what it holds.
use Rattle.std.specs.Prelude.{◌≡◌, ℕ, ◌+◌, ◌/◌, ◌≤◌, ◌++◌, ◌∷◌, [], List, length, ⊤}
use Rattle.device_log.specs.Image.{Image, IsImage}
use Rattle.device_log.specs.Calls.{Asked, ToRead, ToWrite, ToSync, Call, Read, Wrote, Synced, RefusedCall, Told, PowerCut, Flipped}
use Rattle.device_log.specs.Faults.{IsLog}
use Rattle.device_log.specs.Seen.{ReadsAreSeen}
use Rattle.logged_disk.specs.Device.{DeviceState as Device, Keeps}
use Rattle.device_reads.specs.declared.reads.ReadFault.{ReadFault}
use Rattle.device_reads.specs.declared.reads.ReadFault.TheVariants.{DeviceFault, Memory}

-- The calls are reads alone, some of which may have failed: each of blocks behind those of the reads before it, and all from
-- the block `low` on and below `high`. So no block is read twice.
unfoldable pub AreReads : (low high : ℕ) → List Call → Type 0
AreReads low high [] = low ≤ high
AreReads low high (Read at bytes ∷ older) = (at + length bytes / 512 ≤ high) × AreReads low at older
AreReads low high (Wrote at bytes ∷ older) = ⊥
AreReads low high (Synced ∷ older) = ⊥
AreReads low high (RefusedCall (ToRead at blocks) count ∷ older) = (at + blocks ≤ high) × AreReads low at older
AreReads low high (RefusedCall (ToWrite at blocks left) count ∷ older) = ⊥
AreReads low high (RefusedCall ToSync count ∷ older) = ⊥
AreReads low high (Told act ∷ older) = ⊥
AreReads low high (PowerCut choice left ∷ older) = ⊥
AreReads low high (Flipped at byte ∷ older) = ⊥

-- each image that the reads among these calls agree with has P
abbrev pub Tell : List Call → (Image → Type 0) → Type 0
Tell made P = (c : Image) → IsImage c → ReadsAreSeen c made → P c

-- a device was only read within these blocks, at most so often, and what it gave tells this
pub record Reads (low high most : ℕ) (old new : Device) (P : Image → Type 0) : Type 0 where
  pub keeps : Keeps 0 0 old new
  pub made : List Call
  pub past : new.past ≡ made ++ old.past
  pub reads : AreReads low high made
  pub few : length made ≤ most
  pub told : Tell made P

-- the last call was refused, behind which the device has this count
abbrev pub WasLast : ℕ → Device → Type 0
WasLast count s = (what : Asked) × (older : List Call) × (s.past ≡ RefusedCall what count ∷ older)

-- why it was not read to the end: a device's fault is that of the last call
abbrev pub IsCause : Device → ReadFault → Type 0
IsCause s (DeviceFault count) = WasLast count s
IsCause s (Memory e) = ⊤

-- a device was only read, and not to the end
abbrev pub Fails : (low high most : ℕ) → (old new : Device) → ReadFault → Type 0
Fails low high most old new fault = Reads low high most old new (λ c. ⊤) × IsCause new fault

-- some image agrees with the reads, whatever they gave: what is told of each such image is told of one at least
abbrev pub SomeImageAgrees : Type 0
SomeImageAgrees = (low high : ℕ) (made : List Call) → AreReads low high made → IsLog made
    → (c : Image) × IsImage c × ReadsAreSeen c made
