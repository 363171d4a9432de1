-- The calls of a bay as its log has them, the newest first.
use Rattle.std.specs.Prelude.{◌≡◌, ℕ, ◌+◌, ◌-◌, ◌^◌, ◌==◌, min, Bool, true, false, ◌&&◌, List, [], ◌∷◌, ◌++◌, All, length}
use Rattle.device_log.specs.Image.{IsImage}
use Rattle.device_log.specs.Seen.{ReadsAreSeen}
use Rattle.device_log.specs.Faults.{IsLog, faults_of, next_count, obeys_switch}
use Rattle.logged_disk.specs.Device.{DeviceState, IsTrusted, IsHonest, has_flip}
use Rattle.logged_disk.specs.Honest.{CutsAreHonest}

-- one call of a bay
pub data BayCall : Type 0 where
  -- gave a device of that name, of which so many blocks were asked
  Gave : (name : List ℕ) (blocks : ℕ) → BayCall
  -- gave none; the bay's count of faults behind it
  RefusedAttach : (name : List ℕ) (blocks count : ℕ) → BayCall
  -- took a device back, as it was then
  TookBack : (device : DeviceState) → BayCall

-- a device that was given: its name, and how many blocks were asked
pub record Gift : Type 0 where
  pub name : List ℕ
  pub blocks : ℕ

-- the devices that were given, in order
abbrev pub gifts_of : List BayCall → List Gift
gifts_of [] = []
gifts_of (Gave name blocks ∷ older) = gifts_of older ++ record { name = name; blocks = blocks } ∷ []
gifts_of (RefusedAttach name blocks count ∷ older) = gifts_of older
gifts_of (TookBack device ∷ older) = gifts_of older

-- their names, in order
abbrev pub names_of : List BayCall → List (List ℕ)
names_of [] = []
names_of (Gave name blocks ∷ older) = names_of older ++ name ∷ []
names_of (RefusedAttach name blocks count ∷ older) = names_of older
names_of (TookBack device ∷ older) = names_of older

-- an attach that failed, with the bay's count of faults behind it
pub record AttachRefusal : Type 0 where
  pub name : List ℕ
  pub blocks : ℕ
  pub count : ℕ

-- the attaches that failed, in order
abbrev pub refusals_of : List BayCall → List AttachRefusal
refusals_of [] = []
refusals_of (Gave name blocks ∷ older) = refusals_of older
refusals_of (RefusedAttach name blocks count ∷ older) =
    refusals_of older ++ record { name = name; blocks = blocks; count = count } ∷ []
refusals_of (TookBack device ∷ older) = refusals_of older

-- the devices that came back, whole, in the order in which they came
abbrev pub returned_by : List BayCall → List DeviceState
returned_by [] = []
returned_by (Gave name blocks ∷ older) = returned_by older
returned_by (RefusedAttach name blocks count ∷ older) = returned_by older
returned_by (TookBack device ∷ older) = returned_by older ++ device ∷ []

-- how many devices were given and did not come back
abbrev pub out_of : List BayCall → ℕ
out_of [] = 0
out_of (Gave name blocks ∷ older) = out_of older + 1
out_of (RefusedAttach name blocks count ∷ older) = out_of older
out_of (TookBack device ∷ older) = out_of older - 1

-- how many attaches failed
abbrev pub bay_faults : List BayCall → ℕ
bay_faults [] = 0
bay_faults (Gave name blocks ∷ older) = bay_faults older
bay_faults (RefusedAttach name blocks count ∷ older) = next_count (bay_faults older)
bay_faults (TookBack device ∷ older) = bay_faults older

-- each attach that failed has the count behind it
abbrev pub are_bay_counts : List BayCall → Bool
are_bay_counts [] = true
are_bay_counts (Gave name blocks ∷ older) = are_bay_counts older
are_bay_counts (RefusedAttach name blocks count ∷ older) =
    count == next_count (bay_faults older) && are_bay_counts older
are_bay_counts (TookBack device ∷ older) = are_bay_counts older

-- the number of the device behind so many; it stands still at the end of its type
abbrev pub number_behind : ℕ → ℕ
number_behind given = min given (2 ^ 64 - 1)

-- what is known of each device, whatever it is
pub record IsDevice (s : DeviceState) : Type 0 where
  pub is_log : IsLog s.past
  pub was_image : IsImage s.first
  pub counted : s.faults ≡ faults_of s.past
  -- where it has a switch, its calls failed where that was told to, and nowhere else
  pub obeys : s.has_switch ≡ true → obeys_switch s.past ≡ true
  -- where it is trusted, each read of its log gave what was seen
  pub reads : IsTrusted s → ReadsAreSeen s.first s.past
  -- and is trusted where they did, and where it has a switch
  pub tells : ReadsAreSeen s.first s.past → IsTrusted s
  pub switched : s.has_switch ≡ true → IsTrusted s
  -- where it is honest, each cut of its log left what it might leave
  pub honest : IsHonest s → CutsAreHonest s.settled s.first s.past
  -- and it is honest where it has a switch and no bit was turned
  pub unturned : s.has_switch ≡ true → has_flip s.past ≡ false → IsHonest s

-- what a bay can have done
pub record IsBayLog (past : List BayCall) : Type 0 where
  pub counted : are_bay_counts past ≡ true
  -- each device that was given came back or is out
  pub all : length (gifts_of past) ≡ length (returned_by past) + out_of past
  pub devices : All IsDevice (returned_by past)
