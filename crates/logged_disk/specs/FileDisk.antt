-- What a contract sees of a `FileDisk`.
use Rattle.std.specs.Prelude.{◌≡◌, ℕ, ◌*◌, ◌/◌, ◌<◌, Bool, true, false, List, [], ◌∷◌, length, take}
use Rattle.device_log.specs.Image.{Image}
use Rattle.device_log.specs.Calls.{ToWrite, RefusedCall}
use Rattle.device_log.specs.Seen.{ReadsAreSeen}
use Rattle.device_log.specs.Faults.{IsLog, faults_of, obeys_switch}
use Rattle.device_log.specs.DeviceLog.{calls_of}
use Rattle.logged_disk.specs.Device.{DeviceState, IsTrusted, IsHonest, has_flip}
use Rattle.logged_disk.specs.Honest.{CutsAreHonest}
use Rattle.logged_disk.specs.FileTrust.{file_trust, seen_is_trusted, trusted_reads, none_is_honest}
use Rattle.logged_disk.specs.Switchless.{asks_none}
use Rattle.logged_disk.specs.declared.file_disk.FileDisk.{FileDisk}

-- the device at this moment, where the file held the image of its number at its attach
abbrev pub file_state : {S : Type 0} → (ℕ → Image) → FileDisk S → DeviceState
file_state first disk = record {
  size = disk.size;
  trust = file_trust (first disk.number) (calls_of disk.log);
  number = disk.number;
  has_switch = false;
  settled = disk.settled;
  first = first disk.number;
  past = calls_of disk.log;
  faults = disk.faults;
  calls = disk.calls;
  blocks = disk.blocks;
}

-- a file as it is attached: nothing was called yet, and it is trusted
pub record IsAttached (number : ℕ) (settled : Bool) (s : DeviceState) : Type 0 where
  pub trusted : IsTrusted s
  pub number_is : s.number ≡ number
  pub settled_is : s.settled ≡ settled
  pub past : s.past ≡ []
  pub faults : s.faults ≡ 0

-- A write that was cut short: whole blocks of its front are seen as written, not all of its blocks, and of the
-- others what was seen before.
pub record LeavesFront (at : ℕ) (bytes : List ℕ) (old new : DeviceState) : Type 0 where
  pub taken : ℕ
  pub not_all : taken * 512 < length bytes
  pub past : new.past
      ≡ RefusedCall (ToWrite at (length bytes / 512) (take (taken * 512) bytes)) new.faults ∷ old.past

pub file_is_log : {S : Type 0} (first : ℕ → Image) (disk : FileDisk S)
    → IsLog (file_state first disk).past
file_is_log first disk = disk.log.is_log

pub file_counted : {S : Type 0} (first : ℕ → Image) (disk : FileDisk S)
    → (file_state first disk).faults ≡ faults_of (file_state first disk).past
file_counted first disk = disk.counted

-- a file has no switch
pub file_obeys : {S : Type 0} (first : ℕ → Image) (disk : FileDisk S)
    → (file_state first disk).has_switch ≡ true
    → obeys_switch (file_state first disk).past ≡ true
file_obeys first disk has =
    asks_none (obeys_switch (calls_of disk.log) ≡ true) has

pub file_reads : {S : Type 0} (first : ℕ → Image) (disk : FileDisk S)
    → IsTrusted (file_state first disk)
    → ReadsAreSeen (file_state first disk).first (file_state first disk).past
file_reads first disk trusted = trusted_reads (first disk.number) (calls_of disk.log) trusted

pub file_tells : {S : Type 0} (first : ℕ → Image) (disk : FileDisk S)
    → ReadsAreSeen (file_state first disk).first (file_state first disk).past
    → IsTrusted (file_state first disk)
file_tells first disk seen = seen_is_trusted (first disk.number) (calls_of disk.log) seen

pub file_switched : {S : Type 0} (first : ℕ → Image) (disk : FileDisk S)
    → (file_state first disk).has_switch ≡ true → IsTrusted (file_state first disk)
file_switched first disk has = asks_none (IsTrusted (file_state first disk)) has

-- a file is never honest
pub file_honest : {S : Type 0} (first : ℕ → Image) (disk : FileDisk S) → IsHonest (file_state first disk)
    → CutsAreHonest (file_state first disk).settled (file_state first disk).first (file_state first disk).past
file_honest first disk honest =
    none_is_honest (first disk.number) (calls_of disk.log) (CutsAreHonest disk.settled (first disk.number) (calls_of disk.log)) honest

pub file_unturned : {S : Type 0} (first : ℕ → Image) (disk : FileDisk S) → (file_state first disk).has_switch ≡ true
    → has_flip (file_state first disk).past ≡ false → IsHonest (file_state first disk)
file_unturned first disk has none = asks_none (IsHonest (file_state first disk)) has
