-- What the calls of a device do, as laws.
use Rattle.std.specs.Prelude.{◌≡◌, ℕ, ◌/◌, ◌%◌, Bool, true, false, List, ◌∷◌, ◌++◌, length}
use Rattle.device_log.specs.declared.choice.CutChoice.{CutChoice}
use Rattle.device_log.specs.Image.{Image, IsImage, SameBut, span}
use Rattle.device_log.specs.Calls.{Asked, ToWrite, ToSync, Call, Wrote, Synced, RefusedCall}
use Rattle.device_log.specs.Seen.{seen_of, kept_of, is_pending, MayLeave, is_flipped, unflipped}
use Rattle.device_log.specs.Faults.{IsLog, faults_of, next_count, is_untold, obeys_switch}
use Rattle.device_log.specs.Cuts.{left_by}
use Rattle.device_log.specs.Along.{ButFor, Went, Stopped}

-- a write puts its bytes into its range
abbrev pub WritePuts : Type 0
WritePuts = (first : Image) (older : List Call) (at : ℕ) (bytes : List ℕ)
    → length bytes % 512 ≡ 0
    → span (seen_of first (Wrote at bytes ∷ older)) at (length bytes / 512) ≡ bytes

-- and leaves all other blocks
abbrev pub WriteSpares : Type 0
WriteSpares = (first : Image) (older : List Call) (at : ℕ) (bytes : List ℕ)
    → SameBut at (length bytes / 512) (seen_of first older) (seen_of first (Wrote at bytes ∷ older))

-- so does a write that failed
abbrev pub RefusedWriteSpares : Type 0
RefusedWriteSpares = (first : Image) (older : List Call) (at n : ℕ) (left : List ℕ) (count : ℕ)
    → SameBut at n (seen_of first older)
    (seen_of first (RefusedCall (ToWrite at n left) count ∷ older))

-- what is seen is whole blocks of bytes, where it was so at first
abbrev pub SeenIsImage : Type 0
SeenIsImage = (first : Image) (past : List Call)
    → IsImage first → IsLog past → IsImage (seen_of first past)

-- a write leaves what could be left before it, but for any bytes in its range
abbrev pub WriteTears : Type 0
WriteTears =
    (settled : Bool) (first : Image) (older : List Call) (c : Image) (at : ℕ) (bytes : List ℕ)
    → IsImage (seen_of first older) → MayLeave settled first (Wrote at bytes ∷ older) c
    → ButFor at (length bytes / 512) (MayLeave settled first older) c

-- so does a write that failed
abbrev pub RefusedWriteTears : Type 0
RefusedWriteTears =
    (settled : Bool) (first : Image) (older : List Call) (c : Image)
    (at n : ℕ) (left : List ℕ) (count : ℕ)
    → IsImage (seen_of first older)
    → MayLeave settled first (RefusedCall (ToWrite at n left) count ∷ older) c
    → ButFor at n (MayLeave settled first older) c

-- behind a sync a cut leaves what is seen
abbrev pub SyncSettles : Type 0
SyncSettles = (settled : Bool) (first : Image) (older : List Call) (c : Image)
    → MayLeave settled first (Synced ∷ older) c
    → (j : ℕ) → c j ≡ seen_of first (Synced ∷ older) j

-- a sync that failed leaves all that could be left before it
abbrev pub RefusedSyncSettlesNothing : Type 0
RefusedSyncSettlesNothing =
    (settled : Bool) (first : Image) (older : List Call) (c : Image) (count : ℕ)
    → MayLeave settled first older c → MayLeave settled first (RefusedCall ToSync count ∷ older) c

-- a cut may leave what is seen
abbrev pub SeenMayStay : Type 0
SeenMayStay = (settled : Bool) (first : Image) (past : List Call)
    → IsImage (seen_of first past) → MayLeave settled first past (seen_of first past)

-- a block that is not pending is kept as it is seen
abbrev pub StillIsKept : Type 0
StillIsKept = (settled : Bool) (first : Image) (past : List Call) (j : ℕ)
    → is_pending settled past j ≡ false → kept_of first past j ≡ seen_of first past j

-- what a cut leaves of a device in memory is one of those that it may leave
abbrev pub MemoryMayLeave : Type 0
MemoryMayLeave = (choice : CutChoice) (settled : Bool) (first : Image) (past : List Call)
    → IsImage first → IsLog past → MayLeave settled first past (left_by choice first past)

-- calls that went, and calls behind them of which one failed
abbrev pub StopsJoin : Type 0
StopsJoin = (calls more : List Call) (count : ℕ) (old mid new : List Call)
    → Went calls old mid → Stopped more count mid new → Stopped (calls ++ more) count old new

-- a call that failed raises the count by one, and has it
abbrev pub RefusalIsCounted : Type 0
RefusalIsCounted = (what : Asked) (count : ℕ) (older : List Call)
    → IsLog (RefusedCall what count ∷ older) → count ≡ next_count (faults_of older)

-- a device that fails only where its switch says, and was told nothing, has no fault
abbrev pub UntoldHasNoFault : Type 0
UntoldHasNoFault = (past : List Call)
    → is_untold past ≡ true → obeys_switch past ≡ true → faults_of past ≡ 0

-- a block that no flip hit is seen as if no flip ever was
abbrev pub UnhitIsAsWritten : Type 0
UnhitIsAsWritten = (first : Image) (past : List Call) (j : ℕ)
    → is_flipped past j ≡ false → seen_of first past j ≡ seen_of first (unflipped past) j
