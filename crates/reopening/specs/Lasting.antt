-- What lasts along the calls of a session: all that a cut may leave opens to one of its syncs, and none that finished is
-- lost.
use Rattle.std.specs.Prelude.{◌≡◌, ◌≤◌, ℕ, Bool, true, false, List, Some, ◌++◌}
use Rattle.device_log.specs.Image.{Image, IsImage}
use Rattle.device_log.specs.Calls.{Call}
use Rattle.device_log.specs.Along.{AllLeft, Along}
use Rattle.device_log.specs.Seen.{MayLeave, is_pending, seen_of}
use Rattle.stripe_header.specs.declared.area.Area.{Area}
use Rattle.dir_sync.specs.Moments.{IsReplaced}
use Rattle.cache_model.specs.Opening.{Opening}
use Rattle.cache_model.specs.Permit.{IsAmong}
use Rattle.cache_model.specs.State.{Mark, State}
use Rattle.cache_model.specs.Syncs.{Follows, IsTakenUp}
use Rattle.reopening.specs.declared.newest.Newest.{Newest}
use Rattle.reopening.specs.Newest.{body_at, directory_at, newest_of}
use Rattle.reopening.specs.Opens.{is_sound, opening_at, opens_to}
use Rattle.reopening.specs.Guards.{AreGuarded, HasSpan, HeldCopy, IsToCome, OpensToOne, held_at_rest}

-- an opening takes up one of these syncs
abbrev pub TakesUpOne : List Mark → Opening → Type 0
TakesUpOne marks o = (m : Mark) × IsAmong m marks × IsTakenUp m o

-- all that a cut may leave now opens to a sync that the session allows
abbrev pub OpensNow : Area → State → Bool → Image → List Call → Type 0
OpensNow a s settled first past = AllLeft (OpensToOne a (TakesUpOne s.marks) s.finished) settled first past

-- what it opens to follows the session
abbrev pub OpeningsFollow : Type 0
OpeningsFollow = (a : Area) (s : State) (settled : Bool) (first : Image) (past : List Call) (c : Image)
    → a.geometry ≡ s.geometry → OpensNow a s settled first past → MayLeave settled first past c
    → (o : Opening) × (opens_to a c ≡ Some o) × Follows s a.geometry o

-- while copies of these syncs are guarded, all that a cut may leave has the span and opens to one of them, not before that
-- of the newest copy
abbrev pub GuardedImagesOpen : Type 0
GuardedImagesOpen = (a : Area) (marks : List Mark) (newest : HeldCopy)
    (settled : Bool) (first : Image) (past : List Call) (c : Image)
    → AreGuarded a (TakesUpOne marks) newest settled first past → MayLeave settled first past c
    → HasSpan a c × OpensToOne a (TakesUpOne marks) newest.copy.told.serial c

-- so it is of a session where the newest copy is that of the sync that finished last
abbrev pub GuardedOpenNow : Type 0
GuardedOpenNow = (a : Area) (s : State) (newest : HeldCopy) (settled : Bool) (first : Image) (past : List Call)
    → newest.copy.told.serial ≡ s.finished
    → AreGuarded a (TakesUpOne s.marks) newest settled first past → OpensNow a s settled first past

-- where nothing is pending, what is seen is guarded by its newest copy, if that takes up one of these syncs
abbrev pub RestIsGuarded : Type 0
RestIsGuarded = (a : Area) (marks : List Mark) (n : Newest) (settled : Bool) (first : Image) (past : List Call)
    → IsImage (seen_of first past) → ((j : ℕ) → is_pending settled past j ≡ false)
    → HasSpan a (seen_of first past) → newest_of a (seen_of first past) ≡ Some n
    → is_sound a.geometry (directory_at a (seen_of first past) n.side) ≡ true
    → TakesUpOne marks (opening_at a (seen_of first past) n)
    → AreGuarded a (TakesUpOne marks) (held_at_rest n first past) settled first past

-- while a run replaces the other copy, behind each of its calls all that a cut may leave opens to the newest copy or to
-- the run's
abbrev pub ReplacedOpens : Type 0
ReplacedOpens = (a : Area) (marks : List Mark) (newest h : HeldCopy)
    (settled : Bool) (first : Image) (old new : List Call)
    → AreGuarded a (TakesUpOne marks) newest settled first old
    → IsToCome a (TakesUpOne marks) newest h settled first old
    → Along (IsReplaced a h.copy.side (body_at a h.image h.copy.side) (MayLeave settled first old))
    settled first old new
    → Along (OpensToOne a (TakesUpOne marks) newest.copy.told.serial) settled first old new

-- between two moments of a session marks are only added, no finished sync is lost, and behind each call all that a cut may
-- leave opens to a mark that was allowed at first or was added since
pub record Lasts (a : Area) (settled : Bool) (first : Image) (old new : List Call) (s t : State) : Type 0 where
  pub added : List Mark
  pub marks : t.marks ≡ added ++ s.marks
  pub later : s.finished ≤ t.finished
  pub geometry : t.geometry ≡ s.geometry
  pub moments : Along (OpensToOne a (TakesUpOne t.marks) s.finished) settled first old new

-- it lasts from the first of three moments to the last
abbrev pub LastsOn : Type 0
LastsOn = (a : Area) (settled : Bool) (first : Image) (x y z : List Call) (s t u : State)
    → Lasts a settled first x y s t → Lasts a settled first y z t u → Lasts a settled first x z s u

-- and where no call was made and the marks stay
abbrev pub LastsStill : Type 0
LastsStill = (a : Area) (settled : Bool) (first : Image) (past : List Call) (s t : State)
    → t.marks ≡ s.marks → t.finished ≡ s.finished → t.geometry ≡ s.geometry → Lasts a settled first past past s t
