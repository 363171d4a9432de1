-- What a power cut may leave of a session, along the calls that its device makes.
use Rattle.std.specs.Prelude.{ℕ, ◌≡◌, ◌≤◌, ◌<◌, ◌^◌, Bool, true, false, List, ◌∷◌}
use Rattle.std.specs.List.{AllByRecursion}
use Rattle.tape_base.specs.declared.geometries.Geometry.{Geometry}
use Rattle.tape_base.specs.Place.{content_block_of, directory_blocks_of}
use Rattle.device_log.specs.Image.{Image, IsImage}
use Rattle.device_log.specs.Calls.{ToRead, ToSync, ToWrite, Call, Read, RefusedCall, Synced, Wrote}
use Rattle.device_log.specs.Faults.{IsLog}
use Rattle.logged_disk.specs.Device.{DeviceState as Device, IsAfter}
use Rattle.stripe_header.specs.declared.area.Area.{Area}
use Rattle.stripe_header.specs.Layout.{other_side}
use Rattle.dir_sync.specs.Moments.{IsBarred}
use Rattle.stripe_copies.specs.Format.{IsLaidOut}
use Rattle.cache_model.specs.declared.record.Rec.{Rec}
use Rattle.cache_model.specs.declared.record.Rec.TheVariants as rec
use Rattle.cache_model.specs.State.{State}
use Rattle.reopening.specs.Guards.{AreGuarded, HeldCopy}
use Rattle.reopening.specs.Lasting.{Lasts, OpensNow, TakesUpOne}
use Rattle.format_laws.specs.Laid.{behind_format}

-- a stripe of this geometry lies there on its device
pub record IsAreaOf (a : Area) (g : Geometry) : Type 0 where
  pub geometry : a.geometry ≡ g
  pub directory : a.directory ≡ directory_blocks_of g

-- ---- calls that leave the copies

-- the call reads or syncs, or writes content alone, also where it fails
abbrev pub LeavesCopies : Geometry → Call → Type 0
LeavesCopies g (Read at bytes) = Unit {0}
LeavesCopies g (Wrote at bytes) = content_block_of g ≤ at
LeavesCopies g Synced = Unit {0}
LeavesCopies g (RefusedCall (ToRead at n) count) = Unit {0}
LeavesCopies g (RefusedCall (ToWrite at n left) count) = content_block_of g ≤ at
LeavesCopies g (RefusedCall ToSync count) = Unit {0}
LeavesCopies g _ = ⊥

-- calls were made, and each of them left the copies
pub data LeaveCopies (g : Geometry) (old : List Call) : List Call → Type 0 where
  NoneMade : LeaveCopies g old old
  OneMade : (call : Call) (past : List Call) → LeaveCopies g old past → LeavesCopies g call
      → LeaveCopies g old (call ∷ past)

-- ---- what stands of a session

-- The copy of the sync that finished last is guarded, and names no place, so that content may be written anywhere; no cut
-- can open the gate of the other copy.
pub record HoldsSync (a : Area) (s : State) (settled : Bool) (first : Image) (past : List Call) : Type 0 where
  pub of_geometry : IsAreaOf a s.geometry
  pub newest : HeldCopy
  pub serial : newest.copy.told.serial ≡ s.finished
  pub names_none : newest.end ≡ 0
  pub guards : AreGuarded a (TakesUpOne s.marks) newest settled first past
  pub barred : IsBarred (other_side newest.copy.side) settled first past

abbrev pub HoldsSyncOn : Area → State → Device → Type 0
HoldsSyncOn a s d = HoldsSync a s d.settled d.first d.past

-- the record is none of a sync, and begins no session
abbrev pub leaves_syncs : Rec → Bool
leaves_syncs (rec.Formatted geometry) = false
leaves_syncs (rec.Opened geometry serial cursor floor next_put clean list) = false
leaves_syncs (rec.SyncBegun serial cursor clean in_parts) = false
leaves_syncs (rec.SyncDone serial) = false
leaves_syncs _ = true

abbrev pub AllLeaveSyncs : List Rec → Type 0
AllLeaveSyncs recs = AllByRecursion (λ r. leaves_syncs r ≡ true) recs

-- one state has the geometry and the syncs of another
pub record HasSyncsOf (s t : State) : Type 0 where
  pub geometry : t.geometry ≡ s.geometry
  pub marks : t.marks ≡ s.marks
  pub finished : t.finished ≡ s.finished

-- From one moment to another: where a sync was held one is held then, and behind each call between them all that a cut may
-- leave opens to a sync of the session that is not older than the last one that had finished at first.
pub record Survives (old new : Device) (s t : State) : Type 0 where
  pub holds : (a : Area) → HoldsSyncOn a s old → HoldsSyncOn a t new
  pub lasts : (a : Area) → HoldsSyncOn a s old → Lasts a new.settled new.first old.past new.past s t

-- ---- laws

-- so it is behind a format
abbrev pub FormatsHold : Type 0
FormatsHold = (a : Area) (g : Geometry) (old new : Device) → IsAreaOf a g → g.generation < 2 ^ 64
    → IsImage new.first → IsLog new.past → IsLaidOut g old new → HoldsSyncOn a (behind_format g) new

-- of calls that leave the copies, and records that leave the syncs
abbrev pub CallsSurvive : Type 0
CallsSurvive = (old new : Device) (s t : State) → IsAfter old new → LeaveCopies s.geometry old.past new.past
    → HasSyncsOf s t → Survives old new s t

-- of one call behind another
abbrev pub SurvivesOn : Type 0
SurvivesOn = (x y z : Device) (s t u : State) → IsAfter y z → Survives x y s t → Survives y z t u → Survives x z s u

-- and what is held opens
abbrev pub HeldOpens : Type 0
HeldOpens = (a : Area) (s : State) (d : Device) → HoldsSyncOn a s d → OpensNow a s d.settled d.first d.past
