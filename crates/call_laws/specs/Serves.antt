-- What a call did: one statement for all of them.
use Rattle.std.specs.Prelude.{ℕ, ◌⊎◌, List, ◌++◌}
use Rattle.device_log.specs.Calls.{Call}
use Rattle.cache_model.specs.declared.record.Rec.{Rec}
use Rattle.cache_model.specs.State.{State, after_all}
use Rattle.cache_model.specs.Kept.{state_of}
use Rattle.cache_model.specs.Permit.{Intent, Permit}
use Rattle.cache_model.specs.Pair.{Documents, ShowsPair}
use Rattle.cache_model.specs.Vectors.{AreTold, IsVectorAs}
use Rattle.call_laws.specs.Moments.{NothingKnown, At, Encloses, Facts}
use Rattle.call_laws.specs.Progress.{Progress, Spends}
use Rattle.call_laws.specs.Untold.{Untold}
use Rattle.call_laws.specs.Happens.{Happens}

-- a call as it stands in a step: the calls that the device made in the step before it, those that it made in the call itself,
-- the state before the call, and the records that this added
pub record InStep : Type 0 where
  pub step : Permit
  pub earlier : List Call
  pub calls : List Call
  pub state : State
  pub added : List Rec

-- what may come of a call in a step
abbrev pub Upshots : Type 1
Upshots = InStep → Type 0

-- a call from one moment to the other: what happened, and what comes of it in each step that has it
pub record IsCall (now : ℕ) (old new : At) (comes : Upshots) : Type 0 where
  pub calls : List Call
  pub added : List Rec
  pub happens : Happens old new calls added
  pub does : (p : Permit) (earlier : List Call) → Encloses now old p earlier calls
      → comes (record { step = p; earlier = earlier; calls = calls; state = state_of old.kept; added = added })

-- ---- a call that does what it is asked

-- what is asked has come there, and this is known behind it
pub record Serving (asked : List Intent) (o : Progress) (known : Facts) (c : InStep) : Type 0 where
  pub spends : Spends c.step c.state asked c.added o
  pub behind : known (after_all c.state c.added)

-- where this is known before, so it is, or two documents of one SHA-256 are shown some way into the records, by bytes that the
-- device gave in the step
pub record Brings (IsPlaced : Documents) (asked : List Intent) (o : Progress) (before known : Facts) (c : InStep) : Type 0 where
  pub from : before c.state → Serving asked o known c ⊎ ShowsPair IsPlaced c.step c.state asked c.added

-- a call that was asked this and brought it there, from what is known before to what is known behind
abbrev pub ServesFrom : Documents → (now : ℕ) → (old new : At) → List Intent → Progress → (before known : Facts) → Type 0
ServesFrom IsPlaced now old new asked o before known = IsCall now old new (Brings IsPlaced asked o before known)

-- the same where each vector lists its alternates, before and behind; a pair is one of vectors, on a device that did not tell its
-- content
abbrev pub Serves : (now : ℕ) → (old new : At) → List Intent → Progress → Type 0
Serves now old new asked o = ServesFrom (Untold new.device IsVectorAs) now old new asked o AreTold AreTold

-- the same where nothing is said of what is known behind
abbrev pub ServesTold : (now : ℕ) → (old new : At) → List Intent → Progress → Type 0
ServesTold now old new asked o = ServesFrom (Untold new.device IsVectorAs) now old new asked o AreTold NothingKnown
