-- What a bay tells of its devices, and how that fits what the lines of a script told of them.
use Rattle.std.specs.Prelude.{ℕ, ◌≡◌, ◌+◌, ◌≤◌, true, false, List, [], ◌∷◌, ◌++◌, length}
use Rattle.std.specs.List.{AllByRecursion}
use Rattle.device_log.specs.Calls.{Call}
use Rattle.device_log.specs.Faults.{is_untold}
use Rattle.logged_disk.specs.Device.{DeviceState as Device, TellsAll, has_flip, has_cut}
use Rattle.device_bay.specs.Calls.{BayCall, gifts_of, names_of, number_behind, returned_by}
use Rattle.device_bay.specs.declared.bay.Bay.{Ghosts as BayGhosts}
use Rattle.script_run.specs.Run.{Harm}

-- a log goes on from these calls, which are its oldest; of both the newest come first
pub record GoesOnFrom (calls past : List Call) : Type 0 where
  pub later : List Call
  pub is : past ≡ later ++ calls

-- what was told of a device that came back: the calls with which its log begins, or that are all of it, no count above its
-- own, where it told its content to the end, no damage, and whether it has a switch
pub record IsReached (harm : Harm) (device : Device) : Type 0 where
  pub made : GoesOnFrom harm.calls device.past
  pub all : harm.whole ≡ true → device.past ≡ harm.calls
  pub counted : harm.fault ≤ device.faults
  pub unharmed : TellsAll device → harm.damaged ≡ false
  pub switched : AllByRecursion (λ has. device.has_switch ≡ has) harm.switches

-- so it is of each
abbrev pub AreReached : List Harm → List Device → Type 0
AreReached [] [] = Unit {0}
AreReached [] (device ∷ devices) = ⊥
AreReached (harm ∷ harms) [] = ⊥
AreReached (harm ∷ harms) (device ∷ devices) = IsReached harm device × AreReached harms devices

-- devices came back, of which this was told
pub record ComeBack (old new : List Device) (harms : List Harm) : Type 0 where
  pub devices : List Device
  pub returned : new ≡ old ++ devices
  pub reached : AreReached harms devices

-- what a bay tells: the names of the devices that were attached, and the devices that came back
pub record Ledger : Type 0 where
  pub names : List (List ℕ)
  pub returned : List Device

-- what these calls of a bay tell
abbrev pub ledger_behind : List BayCall → Ledger
ledger_behind past = record { names = names_of past; returned = returned_by past }

-- what a bay tells at this moment
abbrev pub ledger_of : {B D : Type 0} → BayGhosts B D → B → Ledger
ledger_of bay b = ledger_behind (bay.past b)

-- devices came back, of which this was told, and these are the names of those that were attached
pub record Deals (old new : Ledger) (harms : List Harm) (names : List (List ℕ)) : Type 0 where
  pub back : ComeBack old.returned new.returned harms
  pub attached : new.names ≡ old.names ++ names

-- ---- which device is which

-- the devices have the numbers from that one on
abbrev pub AreNumbered : ℕ → List Device → Type 0
AreNumbered given [] = Unit {0}
AreNumbered given (device ∷ devices) =
    (device.number ≡ number_behind given) × AreNumbered (given + 1) devices

-- nobody told the device's switch anything, cut its power, or turned a bit of it
pub record IsLeftAlone (past : List Call) : Type 0 where
  pub untold : is_untold past ≡ true
  pub uncut : has_cut past ≡ false
  pub unturned : has_flip past ≡ false

-- behind so many devices the bay gave these alone
pub record AreLast (given : ℕ) (own : List Device) (past : List BayCall) : Type 0 where
  pub numbered : AreNumbered given own
  pub all : length (gifts_of past) ≡ given + length own

-- Behind so many devices these came back, in the order in which they were attached, and those that
-- are out now were attached behind them.
pub record InOrder (given : ℕ) (own : List Device) (old new : List BayCall) : Type 0 where
  pub devices : List Device
  pub returned : returned_by new ≡ returned_by old ++ devices
  pub numbered : AreNumbered given devices
  pub rest : AreLast (given + length devices) own new

-- so it stays, where it was so of the devices that were out
abbrev pub KeepsOrder : (before : List Device) (old : List BayCall) → (now : List Device) (new : List BayCall) → Type 0
KeepsOrder before old now new = (given : ℕ) → AreLast given before old → InOrder given now old new
