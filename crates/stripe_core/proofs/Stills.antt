-- Devices that made no call meanwhile, or were asked for what is there.
use Rattle.std.proofs.Common.{◌≡◌, refl, sym, ◌∙◌, subst, Result, Ok, Err}
use Rattle.logged_disk.specs.Device.{DeviceState as Device}
use Rattle.logged_disk.proofs.GoingOn.{goes_further, stays_put}
use Rattle.cache_answers.specs.declared.answers.Refusal.{Refusal}
use Rattle.cache_answers.specs.declared.answers.Refusal.TheVariants as refusal
use Rattle.piece_answers.specs.declared.answer.Stop.{Stop}
use Rattle.held_pieces.specs.Still.{IsStill, IsUnwritten}
use Rattle.stripe_core.specs.Stripe.{AnswersOrWants, Unstopped, Wanting}

pub still_put : (a : Device) → IsStill a a
still_put a = record { goes = stays_put a; past = refl; seen = λ j. refl; faults = refl }

-- where it is the same
pub still_as : (a b : Device) → b ≡ a → IsStill a b
still_as a b same = subst (IsStill a) (sym same) (still_put a)

pub still_then : (a b c : Device) → IsStill a b → IsStill b c → IsStill a c
still_then a b c front back = record {
  goes = goes_further a b c front.goes back.goes;
  past = back.past ∙ front.past;
  seen = λ j. back.seen j ∙ front.seen j;
  faults = back.faults ∙ front.faults;
}

-- one that made no call shows what it showed
pub still_shows : (a b : Device) → IsStill a b → IsUnwritten a b
still_shows a b still = record { goes = still.goes; seen = still.seen }

pub unwritten_as : (a b : Device) → b ≡ a → IsUnwritten a b
unwritten_as a b same = still_shows a b (still_as a b same)

pub unwritten_then : (a b c : Device) → IsUnwritten a b → IsUnwritten b c → IsUnwritten a c
unwritten_then a b c front back = record { goes = goes_further a b c front.goes back.goes; seen = λ j. back.seen j ∙ front.seen j }

-- ---- by what a call came to

-- what holds anyway holds where the tape stops nothing
pub unstopped : {X : Type 0} (r : Result X Refusal) (P : Type 0) → P → Unstopped r P
unstopped (Ok x) P h = tt
unstopped (Err refusal.TooManyWriters) P h = h
unstopped (Err refusal.TooManyFragments) P h = h
unstopped (Err (refusal.VectorTooLarge bytes)) P h = h
unstopped (Err (refusal.Lost index why)) P h = h
unstopped (Err (refusal.DeviceFault count)) P h = tt
unstopped (Err refusal.Sealed) P h = h
unstopped (Err (refusal.Exhausted number)) P h = tt
unstopped (Err refusal.NoSuchWriter) P h = h
unstopped (Err (refusal.Memory e)) P h = h

-- and where memory is wanting
pub still_wanting : {X : Type 0} (r : Result X Refusal) (P : Type 0) → P → Wanting r P
still_wanting (Err (refusal.Memory e)) P h = h
still_wanting (Ok x) P h = tt
still_wanting (Err _) P h = tt

pub wanting_map : {X : Type 0} (r : Result X Refusal) (P Q : Type 0) → (P → Q) → Wanting r P → Wanting r Q
wanting_map (Err (refusal.Memory e)) P Q f h = f h
wanting_map (Ok x) P Q f h = tt
wanting_map (Err _) P Q f h = tt

-- a call that only the tape and want of memory refuse
pub wanting_unstopped : {X : Type 0} (r : Result X Refusal) (answers : Result X Stop → Type 0) (wanting P : Type 0) → AnswersOrWants r answers wanting → Wanting r P → Unstopped r P
wanting_unstopped (Ok x) answers wanting P is h = tt
wanting_unstopped (Err refusal.TooManyWriters) answers wanting P is h = absurd is
wanting_unstopped (Err refusal.TooManyFragments) answers wanting P is h = absurd is
wanting_unstopped (Err (refusal.VectorTooLarge bytes)) answers wanting P is h = absurd is
wanting_unstopped (Err (refusal.Lost index why)) answers wanting P is h = absurd is
wanting_unstopped (Err (refusal.DeviceFault count)) answers wanting P is h = tt
wanting_unstopped (Err refusal.Sealed) answers wanting P is h = absurd is
wanting_unstopped (Err (refusal.Exhausted number)) answers wanting P is h = tt
wanting_unstopped (Err refusal.NoSuchWriter) answers wanting P is h = absurd is
wanting_unstopped (Err (refusal.Memory e)) answers wanting P is h = h

pub unstopped_map : {X : Type 0} (r : Result X Refusal) (P Q : Type 0) → (P → Q) → Unstopped r P → Unstopped r Q
unstopped_map (Ok x) P Q f h = tt
unstopped_map (Err refusal.TooManyWriters) P Q f h = f h
unstopped_map (Err refusal.TooManyFragments) P Q f h = f h
unstopped_map (Err (refusal.VectorTooLarge bytes)) P Q f h = f h
unstopped_map (Err (refusal.Lost index why)) P Q f h = f h
unstopped_map (Err (refusal.DeviceFault count)) P Q f h = tt
unstopped_map (Err refusal.Sealed) P Q f h = f h
unstopped_map (Err (refusal.Exhausted number)) P Q f h = tt
unstopped_map (Err refusal.NoSuchWriter) P Q f h = f h
unstopped_map (Err (refusal.Memory e)) P Q f h = f h
