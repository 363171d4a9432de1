-- What holds of a cache between calls, and what each call keeps.
use Rattle.std.specs.Prelude.{ℕ, ◌≡◌, ◌/◌, ◌<◌, ◌≤◌, Bool, false, true, List, [], ◌∷◌, ◌++◌, length, map}
use Rattle.std.specs.List.{AllByRecursion}
use Rattle.device_log.specs.Calls.{Call, Read}
use Rattle.device_log.specs.Image.{span}
use Rattle.logged_disk.specs.Device.{DeviceState as Device, IsAfter, IsTrusted, TellsAll, seen}
use Rattle.cache_model.specs.State.{PutRow, ReaderRow, State}
use Rattle.cache_model.specs.Damage.{has_damage}
use Rattle.cache_model.specs.Kept.{state_of}
use Rattle.cache_model.specs.Legal.{IsQuiet}
use Rattle.cache_model.specs.Permit.{Setting}
use Rattle.cache_model.specs.Tape.{IsSound}
use Rattle.power_cuts.specs.Surviving.{Survives}
use Rattle.call_laws.specs.Moments.{At, Encloses, permit_of}

-- what the records of a cache stand for
abbrev pub state_at : At → State
state_at a = state_of a.kept

-- ---- between calls

-- numbers that fall, from below `high` and down to no less than 1
abbrev pub FallBelow : ℕ → List ℕ → Type 0
FallBelow high [] = 1 ≤ high
FallBelow high (n ∷ ns) = (n < high) × FallBelow n ns

-- a cache that does not sync
pub record IsPlain (setting : Setting) : Type 0 where
  pub syncs : setting.syncs ≡ false

-- one of these whose directory displaces (`packed`) or not
abbrev pub unsynced_setting : Bool → Setting
unsynced_setting packed = record { packed = packed; syncs = false }

-- that of the program's cache: its directory displaces
abbrev pub plain_setting : Setting
plain_setting = unsynced_setting true

-- no vector is placed that is not committed, no insert goes on, the pieces lie as those of a tape do, no fault was told above the device's count,
-- each put and each reader has a number of its own, below the next one, and the cache is a plain one
pub record IsAtRest (a : At) : Type 0 where
  pub quiet : IsQuiet (state_at a)
  pub none : (state_at a).displaced ≡ []
  pub sound : IsSound (state_at a)
  pub counted : (state_at a).fault ≤ a.device.faults
  pub puts : FallBelow (state_at a).next_put (map (λ (w : PutRow). w.put) (state_at a).puts)
  pub readers : FallBelow (state_at a).next_reader (map (λ (r : ReaderRow). r.reader) (state_at a).readers)
  pub plain : IsPlain a.setting

-- any calls from a moment on are those of a step: what is said of each step is said of one
abbrev pub CallsHaveSteps : Type 0
CallsHaveSteps = (now : ℕ) (a : At) (calls : List Call) → Encloses now a (permit_of now a calls) [] calls

-- ---- behind a call

-- where the device tells its content, no piece was told as damaged
pub record IsUnharmed (a : At) : Type 0 where
  pub unharmed : TellsAll a.device → has_damage (state_at a) ≡ false

-- and so it stays
abbrev pub StaysUnharmed : (old new : At) → Type 0
StaysUnharmed old new = IsUnharmed old → IsUnharmed new

-- a cache goes on: the same holds between calls, its setting is the same, and so is its device, which counts no less; where its
-- session held a sync, behind each call of the device all that a power cut may leave opens to a sync of the session
pub record Goes {S : Type 0} (at : S → At) (holds : S → Type 0) (old new : S) : Type 0 where
  pub holds_then : holds new
  pub setting : (at new).setting ≡ (at old).setting
  pub goes : IsAfter (at old).device (at new).device
  pub survives : Survives (at old).device (at new).device (state_at (at old)) (state_at (at new))
  pub later : (at old).device.faults ≤ (at new).device.faults

-- a cache rests on: the same holds between calls, its setting is the same, and nothing was recorded
pub record RestsOn {S : Type 0} (at : S → At) (holds : S → Type 0) (old new : S) : Type 0 where
  pub holds_then : holds new
  pub setting : (at new).setting ≡ (at old).setting
  pub kept : (at new).kept ≡ (at old).kept

-- and what it tells is not harmed
pub record KeepsUnharmed {S : Type 0} (at : S → At) (holds : S → Type 0) (old new : S) : Type 0 where
  pub goes_on : Goes at holds old new
  pub unharmed : StaysUnharmed (at old) (at new)

-- so it does where nothing was done, and behind two calls
abbrev pub GoesBehindCalls : {S : Type 0} → (S → At) → (S → Type 0) → Type 0
GoesBehindCalls {S} at holds = ((a : S) → holds a → Goes at holds a a)
    × ((a b c : S) → Goes at holds a b → Goes at holds b c → Goes at holds a c)

-- and keeps it
abbrev pub KeepOn : {S : Type 0} → (S → At) → (S → Type 0) → Type 0
KeepOn {S} at holds = ((a : S) → holds a → KeepsUnharmed at holds a a) × ((a b c : S) → KeepsUnharmed at holds a b → KeepsUnharmed at holds b c → KeepsUnharmed at holds a c)

-- ---- what the device did

-- it was asked for nothing
pub record IsIdle (old new : At) : Type 0 where
  pub past : new.device.past ≡ old.device.past
  pub faults : new.device.faults ≡ old.device.faults

-- a read gave what is seen there
abbrev pub IsSeenOn : Device → Call → Type 0
IsSeenOn device (Read at bytes) = bytes ≡ span (seen device) at (length bytes / 512)
IsSeenOn device _ = Unit {0}

-- where it is trusted, what was read meanwhile is what is seen
abbrev pub AreSeen : (old new : At) → Type 0
AreSeen old new = (made : List Call) → new.device.past ≡ made ++ old.device.past → IsTrusted new.device
    → AllByRecursion (IsSeenOn new.device) made
