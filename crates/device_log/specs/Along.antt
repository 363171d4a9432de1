-- Which calls were made, and what a cut may leave behind each of them.
use Rattle.std.specs.Prelude.{◌≡◌, ◌⊎◌, ℕ, ◌/◌, Bool, List, [], ◌∷◌, length}
use Rattle.device_log.specs.Image.{Image, SameBut}
use Rattle.device_log.specs.Calls.{ToRead, ToWrite, ToSync, Call, Read, Wrote, Synced, RefusedCall, Told, PowerCut, Flipped}
use Rattle.device_log.specs.Seen.{MayLeave}

-- each image that a cut may leave has P
abbrev pub AllLeft : (Image → Type 0) → Bool → Image → List Call → Type 0
AllLeft P settled first past = (c : Image) → MayLeave settled first past c → P c

-- Calls were made, and behind each of them all that a cut may leave has P.
pub data Along (P : Image → Type 0) (settled : Bool) (first : Image) (old : List Call)
    : List Call → Type 0 where
  NoCall : Along P settled first old old
  OneMore : (call : Call) (past : List Call) → Along P settled first old past
      → AllLeft P settled first (call ∷ past) → Along P settled first old (call ∷ past)

-- one of these, but for any bytes in so many blocks from one on
abbrev pub ButFor : ℕ → ℕ → (Image → Type 0) → Image → Type 0
ButFor at n P c = (d : Image) × P d × SameBut at n d c

-- one more call was made, this one, and it failed with that count
abbrev pub WasRefused : Call → ℕ → List Call → List Call → Type 0
WasRefused (Read at bytes) count old new =
    new ≡ RefusedCall (ToRead at (length bytes / 512)) count ∷ old
WasRefused (Wrote at bytes) count old new =
    (left : List ℕ) × (new ≡ RefusedCall (ToWrite at (length bytes / 512) left) count ∷ old)
WasRefused Synced count old new = new ≡ RefusedCall ToSync count ∷ old
WasRefused (RefusedCall what n) count old new = ⊥
WasRefused (Told act) count old new = ⊥
WasRefused (PowerCut choice left) count old new = ⊥
WasRefused (Flipped at byte) count old new = ⊥

-- these calls were made, in this order, and none failed
abbrev pub Went : List Call → List Call → List Call → Type 0
Went [] old new = new ≡ old
Went (call ∷ calls) old new = Went calls (call ∷ old) new

-- some of these calls were made, in this order, and the next one failed with that count
abbrev pub Stopped : List Call → ℕ → List Call → List Call → Type 0
Stopped [] count old new = ⊥
Stopped (call ∷ calls) count old new =
    WasRefused call count old new ⊎ Stopped calls count (call ∷ old) new
