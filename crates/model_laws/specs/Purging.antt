-- Two devices that refuse nothing, and give what was kept: where one step displaces nothing, neither does the other.
use Rattle.std.specs.Prelude.{◌≡◌, Bool, true, false, List, Option}
use Rattle.std.specs.List.{AllByRecursion}
use Rattle.cache_model.specs.declared.record.Rec.{Rec}
use Rattle.cache_model.specs.declared.record.Rec.TheVariants as rec
use Rattle.cache_model.specs.State.{State}
use Rattle.cache_model.specs.Permit.{Intent, Permit, Reason}
use Rattle.cache_model.specs.Legal.{IsStep}
use Rattle.model_laws.specs.Agreeing.{AreLike, HoldTheSame, IsUntroubled}

-- the record of a call that the device refused, or of bytes that are not those of a digest
abbrev pub is_device_trouble : Rec → Bool
is_device_trouble (rec.Fault count) = true
is_device_trouble (rec.Damaged piece place kept found) = true
is_device_trouble _ = false

-- none of these records is
abbrev pub TellNoDeviceTrouble : List Rec → Type 0
TellNoDeviceTrouble added = AllByRecursion (λ (r : Rec). is_device_trouble r ≡ false) added

-- for what is asked in states that hold the same: where one step tells no trouble, so does the other of a like device with a
-- like directory, if that device is in none
abbrev pub DisplacementsAgree : Type 0
DisplacementsAgree = (p q : Permit) (s t : State) (intents : List Intent) (one other : List Rec) (why because : Option Reason)
    → AreLike p q → p.packed ≡ q.packed → HoldTheSame s t
    → IsUntroubled one → TellNoDeviceTrouble other → IsStep p s intents one why → IsStep q t intents other because → IsUntroubled other
