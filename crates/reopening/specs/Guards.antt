-- Which copies stand while one of them is replaced, so that all that a cut may leave opens to one that may be found.
use Rattle.std.specs.Prelude.{◌≡◌, ℕ, ◌≤◌, ◌<◌, Bool, true, false, List, Option, Some}
use Rattle.std.specs.Option.{option_or}
use Rattle.device_log.specs.Image.{Image, IsImage}
use Rattle.device_log.specs.Calls.{Call}
use Rattle.device_log.specs.Seen.{is_pending, seen_of}
use Rattle.stripe_header.specs.declared.area.Area.{Area}
use Rattle.stripe_header.specs.declared.area.Side.{Side}
use Rattle.stripe_header.specs.declared.states.CopyState.{CopyState}
use Rattle.stripe_header.specs.Layout.{gate_of, other_side}
use Rattle.stripe_header.specs.Reading.{copy_told, digest_fault, form_fault, geometry_fault}
use Rattle.dir_sync.specs.Moments.{IsBarred, IsOpen}
use Rattle.cache_model.specs.Opening.{Opening}
use Rattle.reopening.specs.declared.newest.Newest.{Newest}
use Rattle.reopening.specs.Newest.{IsBeaten, body_at, directory_at, unless_fault}
use Rattle.reopening.specs.Opens.{is_sound, opening_at, opens_to}
use Rattle.reopening.specs.Device.{TellsArea}
use Rattle.reopening.specs.Alike.{EndsBy, IsInBody, IsBlockNamed, RestsOnOne}

-- what a body tells behind an open gate; none where the copy is refused
abbrev pub told_by_body : Area → List ℕ → Option CopyState
told_by_body a body =
    unless_fault (option_or (form_fault body) (option_or (digest_fault body) (geometry_fault a.geometry body)))
    (copy_told body)

-- a copy, the place below which its documents end, and an image that has all that it names
pub record HeldCopy : Type 0 where
  pub copy : Newest
  pub end : ℕ
  pub image : Image

-- what it opens to
abbrev pub held_opening : Area → HeldCopy → Opening
held_opening a h = opening_at a h.image h.copy

-- the block is one of its body, or of a place that it names
abbrev pub IsGuarded : Area → HeldCopy → ℕ → Type 0
IsGuarded a h j = RestsOnOne a h.copy h.end j

-- a cut cannot lose these blocks, and they are seen as the copy's image has them
abbrev pub IsHeldOn : Area → HeldCopy → Bool → Image → List Call → Type 0
IsHeldOn a h settled first past = (j : ℕ) → IsGuarded a h j
    → (is_pending settled past j ≡ false) × (seen_of first past j ≡ h.image j)

-- the copy's image tells it, with a sound directory, has all that it names, and opens to what may be found
pub record MayOpen (a : Area) (MayBeFound : Opening → Type 0) (h : HeldCopy) : Type 0 where
  pub image : IsImage h.image
  pub tells : told_by_body a (body_at a h.image h.copy.side) ≡ Some h.copy.told
  pub sound : is_sound a.geometry (directory_at a h.image h.copy.side) ≡ true
  pub ends : EndsBy a h.image h.copy h.end
  pub found : MayBeFound (held_opening a h)

-- and it stands on the device, but for its gate
pub record IsCopyKept (a : Area) (MayBeFound : Opening → Type 0) (h : HeldCopy)
    (settled : Bool) (first : Image) (past : List Call) : Type 0 where
  pub opens : MayOpen a MayBeFound h
  pub held : IsHeldOn a h settled first past

-- a gate is open, and no cut can shut it
abbrev pub IsGateOpen : Side → Bool → Image → List Call → Type 0
IsGateOpen side settled first past =
    (is_pending settled past (gate_of side) ≡ false) × IsOpen side (seen_of first past)

-- no cut can change the other body, and what it tells does not count
pub record IsOld (a : Area) (n : Newest) (settled : Bool) (first : Image) (past : List Call) : Type 0 where
  pub stays : (j : ℕ) → IsInBody a (other_side n.side) j → is_pending settled past j ≡ false
  pub beaten : IsBeaten (told_by_body a (body_at a (seen_of first past) (other_side n.side))) n.side n.told.serial

-- the gate of the other copy is barred; or it may be open or shut, and its body is an old one, or that of a later sync
-- that may be found
pub data IsNoHarm (a : Area) (MayBeFound : Opening → Type 0) (newest : HeldCopy)
    (settled : Bool) (first : Image) (past : List Call) : Type 0 where
  OtherShut : IsBarred (other_side newest.copy.side) settled first past
      → IsNoHarm a MayBeFound newest settled first past
  OtherOld : IsOld a newest.copy settled first past → IsNoHarm a MayBeFound newest settled first past
  OtherNext : (h : HeldCopy) → h.copy.side ≡ other_side newest.copy.side
      → newest.copy.told.serial < h.copy.told.serial
      → IsCopyKept a MayBeFound h settled first past → IsNoHarm a MayBeFound newest settled first past

-- the first block tells where this stripe lies
abbrev pub HasSpan : Area → Image → Type 0
HasSpan a c = TellsArea (c 0) a

-- the span stands, and the newest copy behind its open gate, and the other copy is no harm
pub record AreGuarded (a : Area) (MayBeFound : Opening → Type 0) (newest : HeldCopy)
    (settled : Bool) (first : Image) (past : List Call) : Type 0 where
  pub span : (is_pending settled past 0 ≡ false) × HasSpan a (seen_of first past)
  pub gate : IsGateOpen newest.copy.side settled first past
  pub copy : IsCopyKept a MayBeFound newest settled first past
  pub other : IsNoHarm a MayBeFound newest settled first past

-- an image opens to what may be found, with this serial or a later one
pub record OpensToOne (a : Area) (MayBeFound : Opening → Type 0) (serial : ℕ) (c : Image) : Type 0 where
  pub opening : Opening
  pub opens : opens_to a c ≡ Some opening
  pub found : MayBeFound opening
  pub later : serial ≤ opening.serial

-- a later copy that is to be written in place of the other one: the places that it names stand
pub record IsToCome (a : Area) (MayBeFound : Opening → Type 0) (newest h : HeldCopy)
    (settled : Bool) (first : Image) (past : List Call) : Type 0 where
  pub side : h.copy.side ≡ other_side newest.copy.side
  pub later : newest.copy.told.serial < h.copy.told.serial
  pub opens : MayOpen a MayBeFound h
  pub held : (j : ℕ) → IsBlockNamed a h.copy h.end j
      → (is_pending settled past j ≡ false) × (seen_of first past j ≡ h.image j)

-- the newest copy of what is seen, up to its cursor
abbrev pub held_at_rest : Newest → Image → List Call → HeldCopy
held_at_rest n first past = record { copy = n; end = n.told.cursor; image = seen_of first past }
