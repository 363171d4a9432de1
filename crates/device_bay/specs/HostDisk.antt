-- What a contract sees of a `HostDisk`.
use Rattle.std.specs.Prelude.{◌≡◌, ℕ, true, false}
use Rattle.device_log.specs.Image.{Image, IsImage}
use Rattle.device_log.specs.Seen.{ReadsAreSeen}
use Rattle.device_log.specs.Faults.{IsLog, faults_of, obeys_switch}
use Rattle.logged_disk.specs.Device.{DeviceState, IsTrusted, IsHonest, has_flip}
use Rattle.logged_disk.specs.Honest.{CutsAreHonest}
use Rattle.logged_disk.specs.MemDisk.{mem_state}
use Rattle.logged_disk.specs.MemoryFacts.{memory_is_log, memory_was_image, memory_counted, memory_obeys, memory_reads, memory_tells, memory_switched, memory_honest, memory_unturned}
use Rattle.logged_disk.specs.FileDisk.{file_state, file_is_log, file_counted, file_obeys, file_reads, file_tells, file_switched, file_honest, file_unturned}
use Rattle.device_bay.specs.declared.host_disk.HostDisk.{HostDisk}
use Rattle.device_bay.specs.declared.host_disk.HostDisk.TheVariants.{Memory, File}

-- the device at this moment, where a file held the image of its number at its attach
abbrev pub host_state : {S : Type 0} → (ℕ → Image) → HostDisk S → DeviceState
host_state first (Memory disk) = mem_state disk
host_state first (File disk) = file_state first disk

pub host_is_log : {S : Type 0} (first : ℕ → Image) (disk : HostDisk S)
    → IsLog (host_state first disk).past
host_is_log first (Memory disk) = memory_is_log disk
host_is_log first (File disk) = file_is_log first disk

pub host_was_image : {S : Type 0} (first : ℕ → Image) → ((number : ℕ) → IsImage (first number))
    → (disk : HostDisk S) → IsImage (host_state first disk).first
host_was_image first are (Memory disk) = memory_was_image disk
host_was_image first are (File disk) = are disk.number

pub host_counted : {S : Type 0} (first : ℕ → Image) (disk : HostDisk S)
    → (host_state first disk).faults ≡ faults_of (host_state first disk).past
host_counted first (Memory disk) = memory_counted disk
host_counted first (File disk) = file_counted first disk

pub host_obeys : {S : Type 0} (first : ℕ → Image) (disk : HostDisk S)
    → (host_state first disk).has_switch ≡ true
    → obeys_switch (host_state first disk).past ≡ true
host_obeys first (Memory disk) = memory_obeys disk
host_obeys first (File disk) = file_obeys first disk

pub host_reads : {S : Type 0} (first : ℕ → Image) (disk : HostDisk S)
    → IsTrusted (host_state first disk)
    → ReadsAreSeen (host_state first disk).first (host_state first disk).past
host_reads first (Memory disk) = memory_reads disk
host_reads first (File disk) = file_reads first disk

pub host_tells : {S : Type 0} (first : ℕ → Image) (disk : HostDisk S)
    → ReadsAreSeen (host_state first disk).first (host_state first disk).past
    → IsTrusted (host_state first disk)
host_tells first (Memory disk) = memory_tells disk
host_tells first (File disk) = file_tells first disk

pub host_switched : {S : Type 0} (first : ℕ → Image) (disk : HostDisk S)
    → (host_state first disk).has_switch ≡ true → IsTrusted (host_state first disk)
host_switched first (Memory disk) = memory_switched disk
host_switched first (File disk) = file_switched first disk

pub host_honest : {S : Type 0} (first : ℕ → Image) (disk : HostDisk S) → IsHonest (host_state first disk)
    → CutsAreHonest (host_state first disk).settled (host_state first disk).first (host_state first disk).past
host_honest first (Memory disk) = memory_honest disk
host_honest first (File disk) = file_honest first disk

pub host_unturned : {S : Type 0} (first : ℕ → Image) (disk : HostDisk S)
    → (host_state first disk).has_switch ≡ true → has_flip (host_state first disk).past ≡ false
    → IsHonest (host_state first disk)
host_unturned first (Memory disk) = memory_unturned disk
host_unturned first (File disk) = file_unturned first disk
