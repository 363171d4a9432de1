-- What the calls of a bay do.
use Rattle.std.specs.Prelude.{◌≡◌, ℕ, ◌≤◌, ◌==◌, ◌&&◌, ◌||◌, not, if◌then◌else◌, Bool, true, false, List, [], ◌∷◌, length, codes, nat_eq}
use Rattle.std.specs.List.{starts_with}
use Rattle.device_log.specs.Image.{blank}
use Rattle.device_log.specs.Faults.{next_count}
use Rattle.logged_disk.specs.Device.{DeviceState, IsHonest}
use Rattle.device_bay.specs.Calls.{BayCall, RefusedAttach, bay_faults, gifts_of, number_behind}
use Rattle.device_bay.specs.declared.mem_bay.TheConstants.{OWN_BLOCKS}

-- A device as it is attached behind these calls: not smaller than was asked, with the next number,
-- nothing called yet, and nothing pending.
pub record IsNewDevice (blocks : ℕ) (past : List BayCall) (device : DeviceState) : Type 0 where
  pub size : blocks ≤ device.size
  pub number_is : device.number ≡ number_behind (length (gifts_of past))
  pub past_is : device.past ≡ []
  pub faults : device.faults ≡ 0
  pub settled : device.settled ≡ true

-- an attach failed, and was counted
pub record Refuses (name : List ℕ) (blocks count : ℕ) (old new : List BayCall) : Type 0 where
  pub past : new ≡ RefusedAttach name blocks count ∷ old
  pub count_is : count ≡ next_count (bay_faults old)

-- the size of a device in memory of which so many blocks are asked
abbrev pub size_for : ℕ → ℕ
size_for blocks = if blocks == 0 then OWN_BLOCKS else blocks

-- a new device in memory: zeros, trusted in all
pub record IsNewMemory (size : ℕ) (device : DeviceState) : Type 0 where
  pub size_is : device.size ≡ size
  pub honest : IsHonest device
  pub blank_is : device.first ≡ blank

-- the name of a device in memory
abbrev pub is_memory_name : List ℕ → Bool
is_memory_name name = starts_with nat_eq name (codes "mem:")

-- a name that is kept for words that threads share
abbrev pub is_word_name : List ℕ → Bool
is_word_name name = starts_with nat_eq name (codes "word:")

-- A colon stands in the name before any slash, as in the names of devices that are no files.
abbrev pub has_kind : List ℕ → Bool
has_kind [] = false
has_kind (byte ∷ rest) = byte == 58 || (not (byte == 47) && has_kind rest)
