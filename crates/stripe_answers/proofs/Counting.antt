-- What trouble tells of the device's count.
use Rattle.std.proofs.Common.{◌≡◌, ℕ, zero, suc, ◌-◌, ◌^◌, ◌≤◌, true, List, [], ◌∷◌, arith, inl, inr, length, take}
use Rattle.std.specs.Prelude.{◌==◌}
use Rattle.std.proofs.lemmas.Bool.{and_parts, eqb-true}
use Rattle.device_log.specs.Calls.{Asked, Call, Read, Wrote, Synced, RefusedCall, Told, PowerCut, Flipped}
use Rattle.device_log.specs.Faults.{IsLog, are_counted, faults_of, next_count}
use Rattle.logged_disk.specs.Device.{DeviceState as Device}
use Rattle.cache_model.specs.declared.cause.Cause.{Cause}
use Rattle.cache_model.specs.declared.cause.Cause.TheVariants as cause
use Rattle.cache_model.specs.declared.record.Rec.{Rec}
use Rattle.cache_model.specs.State.{Row, State}
use Rattle.cache_model.specs.Permit.{IsAmong}
use Rattle.cache_model.specs.Given.{MayCount, Trouble}
use Rattle.piece_answers.proofs.Covering.{own_permit}
use Rattle.stripe_answers.specs.Counts.{CauseIsCounted, IsCounted}
use Rattle.cache_answers.specs.declared.answers.Refusal.{Refusal}
use Rattle.cache_answers.specs.declared.answers.Refusal.TheVariants as refusal

-- a count of faults fits its type
faults_small : (past : List Call) → faults_of past ≤ 2 ^ 64 - 1
unfolding faults_of
faults_small [] = omega arith
faults_small (RefusedCall what count ∷ older) = omega arith
faults_small (Read at bytes ∷ older) = faults_small older
faults_small (Wrote at bytes ∷ older) = faults_small older
faults_small (Synced ∷ older) = faults_small older
faults_small (Told act ∷ older) = faults_small older
faults_small (PowerCut choice left ∷ older) = faults_small older
faults_small (Flipped at byte ∷ older) = faults_small older

-- the count of a call that failed is not above the device's
count_fits : (past : List Call) (asked : Asked) (count : ℕ) → are_counted past ≡ true → IsAmong (RefusedCall asked count) past → count ≤ faults_of past
unfolding are_counted faults_of
count_fits [] asked count h among = absurd among
count_fits (Read at bytes ∷ older) asked count h (inr among) = count_fits older asked count h among
count_fits (Wrote at bytes ∷ older) asked count h (inr among) = count_fits older asked count h among
count_fits (Synced ∷ older) asked count h (inr among) = count_fits older asked count h among
count_fits (Told act ∷ older) asked count h (inr among) = count_fits older asked count h among
count_fits (PowerCut choice left ∷ older) asked count h (inr among) = count_fits older asked count h among
count_fits (Flipped at byte ∷ older) asked count h (inr among) = count_fits older asked count h among
count_fits (RefusedCall what n ∷ older) asked count h (inl same) =
    let both = and_parts (n == next_count (faults_of older)) (are_counted older) h in
    let there : n ≡ next_count (faults_of older) = eqb-true n (next_count (faults_of older)) both.0 in
    let is : count ≡ n = cc in
    omega (arith, there, is)
count_fits (RefusedCall what n ∷ older) asked count h (inr among) =
    let both = and_parts (n == next_count (faults_of older)) (are_counted older) h in
    let low : count ≤ faults_of older = count_fits older asked count both.1 among in
    let small : faults_of older ≤ 2 ^ 64 - 1 = faults_small older in
    omega (arith, low, small)
count_fits (Read at bytes ∷ older) asked count h (inl same) = cc
count_fits (Wrote at bytes ∷ older) asked count h (inl same) = cc
count_fits (Synced ∷ older) asked count h (inl same) = cc
count_fits (Told act ∷ older) asked count h (inl same) = cc
count_fits (PowerCut choice left ∷ older) asked count h (inl same) = cc
count_fits (Flipped at byte ∷ older) asked count h (inl same) = cc

among_front : (x : Call) (xs : List Call) (n : ℕ) → IsAmong x (take n xs) → IsAmong x xs
among_front x [] zero among = among
among_front x [] (suc n) among = among
among_front x (y ∷ xs) zero among = absurd among
among_front x (y ∷ xs) (suc n) (inl same) = inl same
among_front x (y ∷ xs) (suc n) (inr among) = inr (among_front x xs n among)

-- what is known of each device's log, whatever it is
pub record IsTrueLog (d : Device) : Type 0 where
  pub is_log : IsLog d.past
  pub counted : d.faults ≡ faults_of d.past

-- a count that a call by itself tells is not above the device's
pub own_counted : (now : ℕ) (before : List Call) (d : Device) → IsTrueLog d → (s : State) (asked : Asked) (count : ℕ) → MayCount (own_permit now before d.past) s asked count → count ≤ d.faults
own_counted now before d true_log s asked count m =
    let low : count ≤ faults_of d.past = count_fits d.past asked count true_log.is_log.counted (among_front (RefusedCall asked count) d.past (length d.past - length before) m.refused) in
    omega (arith, low, true_log.counted)

pub trouble_counted : (now : ℕ) (before : List Call) (d : Device) → IsTrueLog d → (s : State) (row : Row) (recs : List Rec) (why : Cause)
    → Trouble (own_permit now before d.past) s row recs why → CauseIsCounted d.faults why
trouble_counted now before d true_log s row recs why (Trouble.faulted count written m) = own_counted now before d true_log s _ count m
trouble_counted now before d true_log s row recs why (Trouble.damaged found found_so) = tt

-- a device goes on to count up
pub cause_later : (before after : ℕ) (why : Cause) → before ≤ after → CauseIsCounted before why → CauseIsCounted after why
cause_later before after (cause.DeviceFault count) h c = omega (arith, h, c)
cause_later before after _ h c = tt

pub refusal_later : (before after : ℕ) (why : Refusal) → before ≤ after → IsCounted before why → IsCounted after why
refusal_later before after (refusal.DeviceFault count) h c = omega (arith, h, c)
refusal_later before after _ h c = tt
