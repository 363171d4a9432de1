-- Pairs that are shown only where a device did not tell its content.
use Rattle.logged_disk.specs.Device.{DeviceState as Device, TellsAll}
use Rattle.cache_model.specs.Pair.{Documents}

-- the documents of which a pair is shown, where the device did not tell its content up to a moment
abbrev pub Untold : Device → Documents → Documents
Untold device IsPlaced s row document = IsPlaced s row document × (TellsAll device → ⊥)
