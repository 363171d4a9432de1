-- A block device as its callers see it, and what its calls do.
use Rattle.std.specs.Prelude.{◌≡◌, ℕ, ◌+◌, ◌%◌, ◌<◌, ◌≤◌, max, Bool, true, false, List, [], ◌∷◌, ◌++◌, Result, MatchResult}
use Rattle.device_log.specs.Image.{Image}
use Rattle.device_log.specs.Calls.{Call, Read, Wrote, Synced, RefusedCall, Told, PowerCut, Flipped}
use Rattle.device_log.specs.Seen.{seen_of, MayLeave, is_flipped}
use Rattle.device_log.specs.Faults.{next_count, is_untold}
use Rattle.device_log.specs.Along.{Along, WasRefused}

-- a device at one moment
pub record DeviceState : Type 0 where
  -- how many blocks it has
  pub size : ℕ
  -- How far it can be trusted, which can only fall: from 1 on a read gives what is seen, from 2 on
  -- a cut leaves what it may leave.
  pub trust : ℕ
  -- the number that its attach gave it
  pub number : ℕ
  -- whether its power can be cut
  pub has_switch : Bool
  -- whether nothing was pending at its attach, and what was there then
  pub settled : Bool
  pub first : Image
  -- all calls since, the newest first
  pub past : List Call
  pub faults : ℕ
  -- the calls, and their blocks together, for which there is room
  pub calls : ℕ
  pub blocks : ℕ

-- a read gives what is seen
abbrev pub IsTrusted : DeviceState → Type 0
IsTrusted s = 1 ≤ s.trust

-- a cut leaves what it may leave
abbrev pub IsHonest : DeviceState → Type 0
IsHonest s = 2 ≤ s.trust

-- of so many blocks from one on what was written stands: a read gives it, and no flip hit it since
pub record IsTold (s : DeviceState) (at n : ℕ) : Type 0 where
  pub trusted : IsTrusted s
  pub unhit : (j : ℕ) → at ≤ j → j < at + n → is_flipped s.past j ≡ false

-- a bit was turned at some time
unfoldable pub has_flip : List Call → Bool
has_flip [] = false
has_flip (Read at bytes ∷ older) = has_flip older
has_flip (Wrote at bytes ∷ older) = has_flip older
has_flip (Synced ∷ older) = has_flip older
has_flip (RefusedCall what count ∷ older) = has_flip older
has_flip (Told act ∷ older) = has_flip older
has_flip (PowerCut choice left ∷ older) = has_flip older
has_flip (Flipped at byte ∷ older) = true

-- the power was cut at some time
unfoldable pub has_cut : List Call → Bool
has_cut [] = false
has_cut (Read at bytes ∷ older) = has_cut older
has_cut (Wrote at bytes ∷ older) = has_cut older
has_cut (Synced ∷ older) = has_cut older
has_cut (RefusedCall what count ∷ older) = has_cut older
has_cut (Told act ∷ older) = has_cut older
has_cut (PowerCut choice left ∷ older) = true
has_cut (Flipped at byte ∷ older) = has_cut older

-- what was written anywhere stands: a read gives it, and no bit was ever turned
pub record TellsAll (s : DeviceState) : Type 0 where
  pub trusted : IsTrusted s
  pub unturned : has_flip s.past ≡ false

-- what is seen
abbrev pub seen : DeviceState → Image
seen s = seen_of s.first s.past

-- what was seen is seen
abbrev pub SeenStays : DeviceState → DeviceState → Type 0
SeenStays old new = (j : ℕ) → seen new j ≡ seen old j

-- a cut may leave this now
abbrev pub CutLeaves : DeviceState → Image → Type 0
CutLeaves s c = MayLeave s.settled s.first s.past c

-- a cut leaves what is seen, and nothing else
abbrev pub IsSettled : DeviceState → Type 0
IsSettled s = (c : Image) → CutLeaves s c → (j : ℕ) → c j ≡ seen s j

-- behind each call since, all that a cut may leave has P
abbrev pub Elapses : (Image → Type 0) → DeviceState → DeviceState → Type 0
Elapses P old new = Along P old.settled old.first old.past new.past

-- so many bytes, not none, are whole blocks
pub record IsWhole (bytes : ℕ) : Type 0 where
  pub some : 0 < bytes
  pub whole : bytes % 512 ≡ 0

-- what each call keeps, with the room that it uses up at most
pub record Keeps (used_calls used_blocks : ℕ) (old new : DeviceState) : Type 0 where
  pub size : new.size ≡ old.size
  pub trust : new.trust ≤ old.trust
  pub number : new.number ≡ old.number
  pub switch : new.has_switch ≡ old.has_switch
  pub settled : new.settled ≡ old.settled
  pub first : new.first ≡ old.first
  pub calls : old.calls ≤ new.calls + used_calls
  pub blocks : old.blocks ≤ new.blocks + used_blocks

-- No call was made, and there is room for at least so many calls of so many blocks together.
pub record Affords (calls blocks : ℕ) (old new : DeviceState) : Type 0 where
  pub past : new.past ≡ old.past
  pub faults : new.faults ≡ old.faults
  pub calls_are : new.calls ≡ max old.calls calls
  pub blocks_are : new.blocks ≡ max old.blocks blocks

-- one more call was made, this one, and none failed
pub record Adds (call : Call) (old new : DeviceState) : Type 0 where
  pub past : new.past ≡ call ∷ old.past
  pub faults : new.faults ≡ old.faults

-- one more call was made, this one: it went, or it failed and was counted
abbrev pub Logs : {T E : Type 0} → Call → Result T E → DeviceState → DeviceState → Type 0
Logs call result old new = MatchResult result
    (λ _. Adds call old new)
    (λ _. WasRefused call new.faults old.past new.past × (new.faults ≡ next_count old.faults))

-- A device at a later moment: it made these calls meanwhile, and they are reads, writes and syncs
-- alone. No bit was turned, its switch was told nothing, and its power was not cut.
pub record IsAfter (old new : DeviceState) : Type 0 where
  pub size : new.size ≡ old.size
  pub trust : new.trust ≤ old.trust
  pub number : new.number ≡ old.number
  pub switch : new.has_switch ≡ old.has_switch
  pub settled : new.settled ≡ old.settled
  pub first : new.first ≡ old.first
  pub made : List Call
  pub past : new.past ≡ made ++ old.past
  pub unturned : has_flip made ≡ false
  pub untold : is_untold made ≡ true
  pub uncut : has_cut made ≡ false

-- a device that was asked for what is there: nothing was written, and no room was used up
pub record IsAsked (old new : DeviceState) : Type 0 where
  pub keeps : Keeps 0 0 old new
  pub later : old.faults ≤ new.faults
  pub goes : IsAfter old new
