-- How runs of calls join.
use Rattle.std.proofs.Common.{◌≡◌, ℕ, suc, ◌+◌, ◌≤◌, Bool, List, [], ◌∷◌, ◌++◌, length, drop, ◌∙◌, ap, subst, arith, inl, inr, length-append}
use Rattle.device_log.specs.Image.{Image}
use Rattle.device_log.specs.Calls.{Call}
use Rattle.device_log.specs.Along.{AllLeft, Along, NoCall, OneMore, Went, Stopped}

module _ (P : Image → Type 0) (settled : Bool) (first : Image) where
  pub joins : (a b c : List Call) → Along P settled first a b → Along P settled first b c → Along P settled first a c
  joins a b _ front NoCall = front
  joins a b _ front (OneMore call past back left) = OneMore call past (joins a b past front back) left

  pub one_call : (call : Call) (past : List Call) → AllLeft P settled first (call ∷ past) → Along P settled first past (call ∷ past)
  one_call call past left = OneMore call past NoCall left

  -- behind calls a cut leaves what it could before, or what has P
  pub left_after : (a b : List Call) → Along P settled first a b → AllLeft P settled first a → AllLeft P settled first b
  left_after a _ NoCall at_start = at_start
  left_after a _ (OneMore call past back left) at_start = left

  -- Behind each call since, whatever came later, all that a cut may leave has P.
  pub at_each : (old new later : List Call) (call : Call) (front : List Call) → Along P settled first old new
      → new ≡ later ++ call ∷ front → length old ≤ length front → AllLeft P settled first (call ∷ front)
  at_each old _ later call front NoCall is long =
      let size : length old ≡ length later + suc (length front) = ap length is ∙ length-append later (call ∷ front) in
      absurd (omega (arith, size, long))
  at_each old _ [] call front (OneMore newest past back left) is long = subst (AllLeft P settled first) is left
  at_each old _ (other ∷ later) call front (OneMore newest past back left) is long = at_each old past later call front back (ap (drop 1) is) long

pub weaker : (P Q : Image → Type 0) (settled : Bool) (first : Image) (a b : List Call) → ((c : Image) → P c → Q c)
    → Along P settled first a b → Along Q settled first a b
weaker P Q settled first a _ implies NoCall = NoCall
weaker P Q settled first a _ implies (OneMore call past back left) =
    OneMore call past (weaker P Q settled first a past implies back) (λ c may. implies c (left c may))

pub went_on : (calls more : List Call) (old mid new : List Call) → Went calls old mid → Went more mid new → Went (calls ++ more) old new
went_on [] more old mid new one two = subst (λ p. Went more p new) one two
went_on (call ∷ calls) more old mid new one two = went_on calls more (call ∷ old) mid new one two

pub stopped_early : (calls more : List Call) (count : ℕ) (old new : List Call) → Stopped calls count old new → Stopped (calls ++ more) count old new
stopped_early [] more count old new stopped = absurd stopped
stopped_early (call ∷ calls) more count old new (inl here) = inl here
stopped_early (call ∷ calls) more count old new (inr later) = inr (stopped_early calls more count (call ∷ old) new later)

pub stopped_late : (calls more : List Call) (count : ℕ) (old mid new : List Call) → Went calls old mid → Stopped more count mid new → Stopped (calls ++ more) count old new
stopped_late [] more count old mid new one two = subst (λ p. Stopped more count p new) one two
stopped_late (call ∷ calls) more count old mid new one two = inr (stopped_late calls more count (call ∷ old) mid new one two)
