-- What calls keep because each group of records keeps it, and a call that is a step of its own.
use Rattle.std.specs.Prelude.{ℕ, ◌≡◌, ◌⊎◌, true, List, [], ◌++◌, Option}
use Rattle.device_log.specs.Calls.{Call}
use Rattle.logged_disk.specs.Device.{DeviceState as Device, TellsAll}
use Rattle.cache_model.specs.declared.record.Rec.{Rec}
use Rattle.cache_model.specs.State.{State, after_all}
use Rattle.cache_model.specs.Kept.{state_of}
use Rattle.cache_model.specs.Permit.{End, Intent, Permit, Reason}
use Rattle.cache_model.specs.Legal.{Does, IsStep}
use Rattle.cache_model.specs.Tape.{IsSound}
use Rattle.cache_model.specs.Pair.{Documents, IsPair, ShowsPair}
use Rattle.cache_model.specs.Vectors.{ArePuts, AreTold, AreVectors, IsVectorAs}
use Rattle.call_laws.specs.Moments.{At, Facts, permit_of}
use Rattle.call_laws.specs.Happens.{Happens}

-- each group of records keeps this, or a pair is shown of a piece that is read for what was asked
abbrev pub GroupsKeep : Documents → (State → Type 0) → Type 0
GroupsKeep IsPlaced IsSo = (p : Permit) (s : State) (i : Intent) (added : List Rec) (e : End)
    → IsSo s → Does p s i added e → IsSo (after_all s added) ⊎ IsPair IsPlaced p s i

-- on a sound tape each group leaves vectors that list their alternates, or a pair is shown: what the law `groups_tell` of
-- model_laws says
abbrev pub GroupsLeaveTold : Type 0
GroupsLeaveTold = (p : Permit) (s : State) (i : Intent) (added : List Rec) (e : End)
    → IsSound s → AreTold s → Does p s i added e → AreTold (after_all s added) ⊎ IsPair IsVectorAs p s i

-- each group of records leaves puts of which each may be kept
abbrev pub GroupsLeavePuts : Type 0
GroupsLeavePuts = (p : Permit) (s : State) (i : Intent) (added : List Rec) (e : End) → ArePuts s → Does p s i added e → ArePuts (after_all s added)

-- on a device that tells its content up to a moment each vector lists its alternates, and no insert goes on
pub record LeavesListed (last : Device) (s : State) : Type 0 where
  pub vectors : TellsAll last → AreVectors s
  pub none : s.displaced ≡ []

-- a step that has the calls of this call alone: what it added is legal and this is known behind it, or two documents of one
-- SHA-256 are shown
pub record IsWholeStep (IsPlaced : Documents) (now : ℕ) (old new : At) (asked : List Intent) (refused : Option Reason) (known : Facts) : Type 0 where
  pub calls : List Call
  pub added : List Rec
  pub happens : Happens old new calls added
  pub ends : IsStep (permit_of now old calls) (state_of old.kept) asked added refused × known (state_of new.kept)
      ⊎ ShowsPair IsPlaced (permit_of now old calls) (state_of old.kept) asked added
