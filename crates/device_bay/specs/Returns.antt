-- What a device tells that came back.
use Rattle.std.specs.Prelude.{◌≡◌, Bool, true, false, List, [], ◌∷◌}
use Rattle.device_log.specs.Calls.{Call, Read, Wrote, Synced, RefusedCall, Told, PowerCut, Flipped}
use Rattle.device_log.specs.Seen.{ReadsAreSeen}
use Rattle.device_log.specs.Faults.{is_untold, obeys_switch}
use Rattle.logged_disk.specs.Device.{DeviceState, TellsAll, has_flip}
use Rattle.device_bay.specs.Calls.{IsDevice}

-- a device in memory failed where its switch was told to, and so nowhere if it was told nothing
pub record IsMemReturn (s : DeviceState) : Type 0 where
  pub obeys : obeys_switch s.past ≡ true
  pub untold : is_untold s.past ≡ true → s.faults ≡ 0

-- a call was refused
unfoldable pub has_refusal : List Call → Bool
has_refusal [] = false
has_refusal (Read at bytes ∷ older) = has_refusal older
has_refusal (Wrote at bytes ∷ older) = has_refusal older
has_refusal (Synced ∷ older) = has_refusal older
has_refusal (RefusedCall what count ∷ older) = true
has_refusal (Told act ∷ older) = has_refusal older
has_refusal (PowerCut choice left ∷ older) = has_refusal older
has_refusal (Flipped at byte ∷ older) = has_refusal older

-- of each device that came back with the count 0 no call was refused
abbrev pub ZeroHasNoRefusal : Type 0
ZeroHasNoRefusal = (s : DeviceState) → IsDevice s → s.faults ≡ 0 → has_refusal s.past ≡ false

-- a device with a switch that was told nothing came back with the count 0
abbrev pub UntoldReturnsUnfailed : Type 0
UntoldReturnsUnfailed = (s : DeviceState) → IsDevice s
    → s.has_switch ≡ true → is_untold s.past ≡ true → s.faults ≡ 0

-- a device told its content to the end where its log has that: each read gave what was seen, and no bit was turned
abbrev pub ReturnsTellByLog : Type 0
ReturnsTellByLog = (s : DeviceState) → IsDevice s → ReadsAreSeen s.first s.past → has_flip s.past ≡ false → TellsAll s

-- one with a switch did where no bit was turned
abbrev pub UnturnedReturnsTell : Type 0
UnturnedReturnsTell = (s : DeviceState) → IsDevice s → s.has_switch ≡ true → has_flip s.past ≡ false → TellsAll s
