-- What a contract sees of a `WordDisk`.
use Rattle.std.specs.Prelude.{◌≡◌, true, false}
use Rattle.device_log.specs.Image.{IsImage, blank}
use Rattle.device_log.specs.Seen.{ReadsAreSeen}
use Rattle.device_log.specs.Faults.{IsLog, faults_of, obeys_switch}
use Rattle.device_log.specs.DeviceLog.{calls_of}
use Rattle.logged_disk.specs.Device.{DeviceState, IsTrusted, IsHonest, has_flip}
use Rattle.logged_disk.specs.Honest.{CutsAreHonest}
use Rattle.logged_disk.specs.FileTrust.{file_trust, seen_is_trusted, trusted_reads, none_is_honest}
use Rattle.logged_disk.specs.Switchless.{asks_none}
use Rattle.std.proofs.Common.{sym}
use Rattle.device_log.proofs.Puts.{blank_is_image}
use Rattle.word_disk.specs.declared.disk.WordDisk.{WordDisk}

-- the device at this moment, which held zeros at its start
abbrev pub word_state : WordDisk → DeviceState
word_state disk = record {
  size = disk.size;
  trust = file_trust blank (calls_of disk.log);
  number = disk.number;
  has_switch = false;
  settled = true;
  first = blank;
  past = calls_of disk.log;
  faults = 0;
  calls = disk.calls;
  blocks = disk.blocks;
}

pub word_is_log : (disk : WordDisk) → IsLog (word_state disk).past
word_is_log disk = disk.log.is_log

pub word_was_image : (disk : WordDisk) → IsImage (word_state disk).first
word_was_image disk = blank_is_image

pub word_counted : (disk : WordDisk) → (word_state disk).faults ≡ faults_of (word_state disk).past
word_counted disk = sym disk.counted

pub word_obeys : (disk : WordDisk) → (word_state disk).has_switch ≡ true → obeys_switch (word_state disk).past ≡ true
word_obeys disk has = asks_none (obeys_switch (calls_of disk.log) ≡ true) has

pub word_reads : (disk : WordDisk) → IsTrusted (word_state disk) → ReadsAreSeen (word_state disk).first (word_state disk).past
word_reads disk trusted = trusted_reads blank (calls_of disk.log) trusted

pub word_tells : (disk : WordDisk) → ReadsAreSeen (word_state disk).first (word_state disk).past → IsTrusted (word_state disk)
word_tells disk seen = seen_is_trusted blank (calls_of disk.log) seen

pub word_switched : (disk : WordDisk) → (word_state disk).has_switch ≡ true → IsTrusted (word_state disk)
word_switched disk has = asks_none (IsTrusted (word_state disk)) has

-- such a device is never honest
pub word_honest : (disk : WordDisk) → IsHonest (word_state disk) → CutsAreHonest true blank (word_state disk).past
word_honest disk honest = none_is_honest blank (calls_of disk.log) (CutsAreHonest true blank (calls_of disk.log)) honest

pub word_unturned : (disk : WordDisk) → (word_state disk).has_switch ≡ true → has_flip (word_state disk).past ≡ false → IsHonest (word_state disk)
word_unturned disk has none = asks_none (IsHonest (word_state disk)) has
