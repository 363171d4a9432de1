-- How many calls of a device failed, and which call its switch makes fail.
use Rattle.std.specs.Prelude.{◌≡◌, ℕ, ◌+◌, ◌-◌, ◌^◌, ◌%◌, ◌==◌, nat_le, min, Bool, true, false, ◌&&◌, ◌||◌, if◌then◌else◌, List, [], ◌∷◌, length, All}
use Rattle.hex.specs.Hex.{IsBytes}
use Rattle.device_log.specs.Calls.{Fail, StopAfter, Call, Read, Wrote, Synced, RefusedCall, Told, PowerCut, Flipped, bytes_of}

-- one more fault, but the count stands still at the end of its type
abbrev pub next_count : ℕ → ℕ
next_count count = min (count + 1) (2 ^ 64 - 1)

-- how many calls failed
unfoldable pub faults_of : List Call → ℕ
faults_of [] = 0
faults_of (Read at bytes ∷ older) = faults_of older
faults_of (Wrote at bytes ∷ older) = faults_of older
faults_of (Synced ∷ older) = faults_of older
faults_of (RefusedCall what count ∷ older) = next_count (faults_of older)
faults_of (Told act ∷ older) = faults_of older
faults_of (PowerCut choice left ∷ older) = faults_of older
faults_of (Flipped at byte ∷ older) = faults_of older

-- each call that failed has the count behind it
unfoldable pub are_counted : List Call → Bool
are_counted [] = true
are_counted (Read at bytes ∷ older) = are_counted older
are_counted (Wrote at bytes ∷ older) = are_counted older
are_counted (Synced ∷ older) = are_counted older
are_counted (RefusedCall what count ∷ older) =
    count == next_count (faults_of older) && are_counted older
are_counted (Told act ∷ older) = are_counted older
are_counted (PowerCut choice left ∷ older) = are_counted older
are_counted (Flipped at byte ∷ older) = are_counted older

-- the bytes of a call are bytes, in whole blocks
pub record IsEntry (call : Call) : Type 0 where
  pub bytes : IsBytes (bytes_of call)
  pub whole : length (bytes_of call) % 512 ≡ 0

-- what a device can have noted
pub record IsLog (past : List Call) : Type 0 where
  pub entries : All IsEntry past
  pub counted : are_counted past ≡ true

-- A `fail` is due now, where so many reads, writes and syncs were made behind these calls. Each
-- counts all of them by itself.
unfoldable pub is_fail_due : ℕ → List Call → Bool
is_fail_due made [] = false
is_fail_due made (Read at bytes ∷ older) = is_fail_due (made + 1) older
is_fail_due made (Wrote at bytes ∷ older) = is_fail_due (made + 1) older
is_fail_due made (Synced ∷ older) = is_fail_due (made + 1) older
is_fail_due made (RefusedCall what count ∷ older) = is_fail_due (made + 1) older
is_fail_due made (Told (Fail nth) ∷ older) = nth == made + 1 || is_fail_due made older
is_fail_due made (Told (StopAfter calls) ∷ older) = is_fail_due made older
is_fail_due made (PowerCut choice left ∷ older) = is_fail_due made older
is_fail_due made (Flipped at byte ∷ older) = is_fail_due made older

-- A stop holds now, where so many reads, writes and syncs were made behind these calls. A cut lifts
-- each stop, and of several the least holds.
unfoldable pub is_stopped : ℕ → List Call → Bool
is_stopped made [] = false
is_stopped made (Read at bytes ∷ older) = is_stopped (made + 1) older
is_stopped made (Wrote at bytes ∷ older) = is_stopped (made + 1) older
is_stopped made (Synced ∷ older) = is_stopped (made + 1) older
is_stopped made (RefusedCall what count ∷ older) = is_stopped (made + 1) older
is_stopped made (Told (Fail nth) ∷ older) = is_stopped made older
is_stopped made (Told (StopAfter calls) ∷ older) = nat_le calls made || is_stopped made older
is_stopped made (PowerCut choice left ∷ older) = false
is_stopped made (Flipped at byte ∷ older) = is_stopped made older

-- the next read, write or sync fails, where the switch alone decides it
abbrev pub fails_next : List Call → Bool
fails_next past = is_fail_due 0 past || is_stopped 0 past

-- no failure was asked of the switch
unfoldable pub is_untold : List Call → Bool
is_untold [] = true
is_untold (Read at bytes ∷ older) = is_untold older
is_untold (Wrote at bytes ∷ older) = is_untold older
is_untold (Synced ∷ older) = is_untold older
is_untold (RefusedCall what count ∷ older) = is_untold older
is_untold (Told act ∷ older) = false
is_untold (PowerCut choice left ∷ older) = is_untold older
is_untold (Flipped at byte ∷ older) = is_untold older

-- each read, write and sync failed exactly where the switch alone decided it
unfoldable pub obeys_switch : List Call → Bool
obeys_switch [] = true
obeys_switch (Read at bytes ∷ older) = (if fails_next older then false else obeys_switch older)
obeys_switch (Wrote at bytes ∷ older) = (if fails_next older then false else obeys_switch older)
obeys_switch (Synced ∷ older) = (if fails_next older then false else obeys_switch older)
obeys_switch (RefusedCall what count ∷ older) = fails_next older && obeys_switch older
obeys_switch (Told act ∷ older) = obeys_switch older
obeys_switch (PowerCut choice left ∷ older) = obeys_switch older
obeys_switch (Flipped at byte ∷ older) = obeys_switch older
