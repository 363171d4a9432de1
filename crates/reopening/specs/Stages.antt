-- What guards outlive, and how they pass from the copy of one sync to that of the next.
use Rattle.std.specs.Prelude.{◌≡◌, ◌⊎◌, ◌++◌, ℕ, ◌<◌, Bool, false, List}
use Rattle.device_log.specs.Image.{Image, IsImage}
use Rattle.device_log.specs.Calls.{Call}
use Rattle.device_log.specs.Seen.{is_pending, seen_of}
use Rattle.stripe_header.specs.declared.area.Area.{Area}
use Rattle.stripe_header.specs.Layout.{gate_of, other_side}
use Rattle.dir_sync.specs.Moments.{HasBody, IsOpened, Spares}
use Rattle.cache_model.specs.Opening.{Opening}
use Rattle.cache_model.specs.State.{Mark}
use Rattle.reopening.specs.Newest.{body_at}
use Rattle.reopening.specs.Alike.{IsInBody}
use Rattle.reopening.specs.Guards.{AreGuarded, HeldCopy, IsCopyKept, IsGateOpen, IsGuarded, IsNoHarm, IsToCome, OtherNext, OtherOld, OtherShut}
use Rattle.reopening.specs.Lasting.{TakesUpOne}

-- the guards of a copy rest on the block: the span, its gate, its body, or a place that it names
abbrev pub IsWatched : Area → HeldCopy → ℕ → Type 0
IsWatched a h j = (j ≡ 0) ⊎ ((j ≡ gate_of h.copy.side) ⊎ IsGuarded a h j)

-- and of the other copy on its gate where that is barred, on its body where that is old, and on all of it where it is later
abbrev pub IsWatchedBeside : (a : Area) (MayBeFound : Opening → Type 0) (newest : HeldCopy)
    (settled : Bool) (first : Image) (past : List Call)
    → IsNoHarm a MayBeFound newest settled first past → ℕ → Type 0
IsWatchedBeside a MayBeFound newest settled first past (OtherShut is) j = j ≡ gate_of (other_side newest.copy.side)
IsWatchedBeside a MayBeFound newest settled first past (OtherOld is) j = IsInBody a (other_side newest.copy.side) j
IsWatchedBeside a MayBeFound newest settled first past (OtherNext h side later kept) j = IsGuarded a h j

-- what is seen in the block stays, and where it was not pending it is not
abbrev pub StaysIn : Bool → Image → List Call → List Call → ℕ → Type 0
StaysIn settled first old new j =
    (is_pending settled old j ≡ false → is_pending settled new j ≡ false) × (seen_of first new j ≡ seen_of first old j)

-- guards outlive all calls that leave the blocks on which they rest
abbrev pub GuardsStay : Type 0
GuardsStay = (a : Area) (marks : List Mark) (newest : HeldCopy)
    (settled : Bool) (first : Image) (old new : List Call)
    → (g : AreGuarded a (TakesUpOne marks) newest settled first old)
    → ((j : ℕ) → IsWatched a newest j → StaysIn settled first old new j)
    → ((j : ℕ) → IsWatchedBeside a (TakesUpOne marks) newest settled first old g.other j
    → StaysIn settled first old new j)
    → AreGuarded a (TakesUpOne marks) newest settled first new

-- and more syncs that may be found
abbrev pub GuardsWiden : Type 0
GuardsWiden = (a : Area) (added marks : List Mark) (newest : HeldCopy)
    (settled : Bool) (first : Image) (past : List Call)
    → AreGuarded a (TakesUpOne marks) newest settled first past
    → AreGuarded a (TakesUpOne (added ++ marks)) newest settled first past

-- a later copy that is kept is the newest once its gate is open for good, and the other one is old
abbrev pub NextIsNewest : Type 0
NextIsNewest = (a : Area) (marks : List Mark) (newest h : HeldCopy)
    (settled : Bool) (first : Image) (past : List Call)
    → AreGuarded a (TakesUpOne marks) newest settled first past
    → h.copy.side ≡ other_side newest.copy.side → newest.copy.told.serial < h.copy.told.serial
    → IsCopyKept a (TakesUpOne marks) h settled first past → IsGateOpen h.copy.side settled first past
    → AreGuarded a (TakesUpOne marks) h settled first past

-- so is the copy of a run that ended
abbrev pub RunIsNewest : Type 0
RunIsNewest = (a : Area) (marks : List Mark) (newest h : HeldCopy)
    (settled : Bool) (first : Image) (old new : List Call)
    → AreGuarded a (TakesUpOne marks) newest settled first old
    → IsToCome a (TakesUpOne marks) newest h settled first old
    → IsImage (seen_of first new) → Spares a h.copy.side settled first old new
    → IsOpened h.copy.side settled first new
    → HasBody a h.copy.side (body_at a h.image h.copy.side) (seen_of first new)
    → AreGuarded a (TakesUpOne marks) h settled first new
