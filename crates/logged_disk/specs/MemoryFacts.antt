-- What holds of each `MemDisk`.
use Rattle.std.specs.Prelude.{◌≡◌, ◌≤◌, Bool, true, false, if◌then◌else◌}
use Rattle.std.proofs.Common.{subst, sym, arith}
use Rattle.device_log.specs.Image.{IsImage}
use Rattle.device_log.specs.Seen.{ReadsAreSeen}
use Rattle.device_log.specs.Faults.{IsLog, faults_of, obeys_switch}
use Rattle.device_log.specs.DeviceLog.{calls_of}
use Rattle.device_log.proofs.Puts.{blank_is_image}
use Rattle.logged_disk.specs.Device.{IsTrusted, IsHonest, has_flip}
use Rattle.logged_disk.specs.Honest.{CutsAreHonest}
use Rattle.logged_disk.specs.Memory.{memory_trust, memory_is_trusted}
use Rattle.logged_disk.specs.MemDisk.{mem_state}
use Rattle.logged_disk.specs.declared.mem_disk.MemDisk.{MemDisk}

pub memory_is_log : (disk : MemDisk) → IsLog (mem_state disk).past
memory_is_log disk = disk.log.is_log

pub memory_was_image : (disk : MemDisk) → IsImage (mem_state disk).first
memory_was_image disk = blank_is_image

pub memory_counted : (disk : MemDisk) → (mem_state disk).faults ≡ faults_of (mem_state disk).past
memory_counted disk = disk.is_memory.counted

pub memory_obeys : (disk : MemDisk) → (mem_state disk).has_switch ≡ true
    → obeys_switch (mem_state disk).past ≡ true
memory_obeys disk has = disk.is_memory.obeys

-- of a memory device whatever its trust
pub memory_reads : (disk : MemDisk) → IsTrusted (mem_state disk)
    → ReadsAreSeen (mem_state disk).first (mem_state disk).past
memory_reads disk trusted = disk.is_memory.reads

-- a memory device is always trusted
pub memory_tells : (disk : MemDisk) → ReadsAreSeen (mem_state disk).first (mem_state disk).past
    → IsTrusted (mem_state disk)
memory_tells disk seen = memory_is_trusted (calls_of disk.log)

pub memory_switched : (disk : MemDisk) → (mem_state disk).has_switch ≡ true
    → IsTrusted (mem_state disk)
memory_switched disk has = memory_is_trusted (calls_of disk.log)

-- of a memory device whatever its trust
pub memory_honest : (disk : MemDisk) → IsHonest (mem_state disk)
    → CutsAreHonest (mem_state disk).settled (mem_state disk).first (mem_state disk).past
memory_honest disk honest = disk.is_memory.cuts

-- a memory device is honest as long as no bit was turned
pub memory_unturned : (disk : MemDisk) → (mem_state disk).has_switch ≡ true
    → has_flip (mem_state disk).past ≡ false → IsHonest (mem_state disk)
unfolding memory_trust
memory_unturned disk has none = subst (λ (b : Bool). 2 ≤ (if b then 1 else 2)) (sym none) (omega arith)
