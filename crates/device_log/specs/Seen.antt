-- What a device's log says is seen on it, what is pending, and what a power cut may leave.
use Rattle.std.specs.Prelude.{◌≡◌, ℕ, ◌/◌, ◌==◌, Bool, true, false, ◌||◌, if◌then◌else◌, List, [], ◌∷◌, length}
use Rattle.device_log.specs.Image.{Image, IsImage, span, in_range, put, within, flipped}
use Rattle.device_log.specs.Calls.{ToRead, ToWrite, ToSync, Call, Read, Wrote, Synced, RefusedCall, Told, PowerCut, Flipped}

-- what is seen behind the calls on a device that held the first image
unfoldable pub seen_of : Image → List Call → Image
seen_of first [] = first
seen_of first (Read at bytes ∷ older) = seen_of first older
seen_of first (Wrote at bytes ∷ older) = put at bytes (seen_of first older)
seen_of first (Synced ∷ older) = seen_of first older
seen_of first (RefusedCall (ToRead at n) count ∷ older) = seen_of first older
seen_of first (RefusedCall (ToWrite at n left) count ∷ older) =
    within at n (put at left (seen_of first older)) (seen_of first older)
seen_of first (RefusedCall ToSync count ∷ older) = seen_of first older
seen_of first (Told act ∷ older) = seen_of first older
seen_of first (PowerCut choice left ∷ older) = put 0 left (seen_of first older)
seen_of first (Flipped at byte ∷ older) = flipped at byte (seen_of first older)

-- Each read that went gave what was seen behind the calls before it.
unfoldable pub ReadsAreSeen : Image → List Call → Type 0
ReadsAreSeen first [] = Unit {0}
ReadsAreSeen first (Read at bytes ∷ older) =
    (bytes ≡ span (seen_of first older) at (length bytes / 512)) × ReadsAreSeen first older
ReadsAreSeen first (Wrote at bytes ∷ older) = ReadsAreSeen first older
ReadsAreSeen first (Synced ∷ older) = ReadsAreSeen first older
ReadsAreSeen first (RefusedCall what count ∷ older) = ReadsAreSeen first older
ReadsAreSeen first (Told act ∷ older) = ReadsAreSeen first older
ReadsAreSeen first (PowerCut choice left ∷ older) = ReadsAreSeen first older
ReadsAreSeen first (Flipped at byte ∷ older) = ReadsAreSeen first older

-- The block was written, or was to be written, since the last sync or cut; where none came, any
-- block of a device that was attached unsettled.
unfoldable pub is_pending : Bool → List Call → ℕ → Bool
is_pending settled [] j = if settled then false else true
is_pending settled (Read at bytes ∷ older) j = is_pending settled older j
is_pending settled (Wrote at bytes ∷ older) j =
    in_range at (length bytes / 512) j || is_pending settled older j
is_pending settled (Synced ∷ older) j = false
is_pending settled (RefusedCall (ToRead at n) count ∷ older) j = is_pending settled older j
is_pending settled (RefusedCall (ToWrite at n left) count ∷ older) j =
    in_range at n j || is_pending settled older j
is_pending settled (RefusedCall ToSync count ∷ older) j = is_pending settled older j
is_pending settled (Told act ∷ older) j = is_pending settled older j
is_pending settled (PowerCut choice left ∷ older) j = false
is_pending settled (Flipped at byte ∷ older) j = is_pending settled older j

-- what the last sync kept, or a cut left
unfoldable pub kept_of : Image → List Call → Image
kept_of first [] = first
kept_of first (Read at bytes ∷ older) = kept_of first older
kept_of first (Wrote at bytes ∷ older) = kept_of first older
kept_of first (Synced ∷ older) = seen_of first older
kept_of first (RefusedCall what count ∷ older) = kept_of first older
kept_of first (Told act ∷ older) = kept_of first older
kept_of first (PowerCut choice left ∷ older) = put 0 left (seen_of first older)
kept_of first (Flipped at byte ∷ older) = flipped at byte (kept_of first older)

-- A cut may leave this image: what is seen, but any bytes in the blocks that are pending.
pub record MayLeave (settled : Bool) (first : Image) (past : List Call) (c : Image) : Type 0 where
  pub image : IsImage c
  pub still : (j : ℕ) → is_pending settled past j ≡ false → c j ≡ seen_of first past j

-- a flip hit the block since it was written: in what is seen, and in what is kept
unfoldable pub flips_of : List Call → ℕ → Bool × Bool
flips_of [] j = (false, false)
flips_of (Read at bytes ∷ older) j = flips_of older j
flips_of (Wrote at bytes ∷ older) j = (
  if in_range at (length bytes / 512) j then false else (flips_of older j).0,
  (flips_of older j).1,
)
flips_of (Synced ∷ older) j = ((flips_of older j).0, (flips_of older j).0)
flips_of (RefusedCall what count ∷ older) j = flips_of older j
flips_of (Told act ∷ older) j = flips_of older j
flips_of (PowerCut choice left ∷ older) j =
    ((flips_of older j).0 || (flips_of older j).1, (flips_of older j).0 || (flips_of older j).1)
flips_of (Flipped at byte ∷ older) j =
    (j == at || (flips_of older j).0, j == at || (flips_of older j).1)

-- A flip hit what is seen of the block since it was written. Behind a cut it counts wherever it may
-- have come back.
abbrev pub is_flipped : List Call → ℕ → Bool
is_flipped past j = (flips_of past j).0

-- the calls without the flips
unfoldable pub unflipped : List Call → List Call
unflipped [] = []
unflipped (Read at bytes ∷ older) = Read at bytes ∷ unflipped older
unflipped (Wrote at bytes ∷ older) = Wrote at bytes ∷ unflipped older
unflipped (Synced ∷ older) = Synced ∷ unflipped older
unflipped (RefusedCall what count ∷ older) = RefusedCall what count ∷ unflipped older
unflipped (Told act ∷ older) = Told act ∷ unflipped older
unflipped (PowerCut choice left ∷ older) = PowerCut choice left ∷ unflipped older
unflipped (Flipped at byte ∷ older) = unflipped older
