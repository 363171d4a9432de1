-- What becomes of what a call is asked, and the records by which it does.
use Rattle.std.specs.Prelude.{ℕ, ◌≡◌, Bool, true, false, List, [], ◌∷◌, ◌++◌, filter, Option, Some, None, Result, Ok, Err}
use Rattle.cache_model.specs.declared.record.Rec.{Rec}
use Rattle.cache_model.specs.State.{State}
use Rattle.cache_model.specs.Permit.{Permit, Intent, Reason, End, Stays, Done, Fails, Work, is_cleanup, to_do}
use Rattle.cache_model.specs.Legal.{MayGrow}
use Rattle.call_laws.specs.Moments.{Facts, NothingKnown}

-- what has become of what was asked
pub data Progress : Type 0 where
  -- so much is still to be done: nothing, where all is done
  Leaves : (left : List Intent) → Progress
  -- it was refused for this reason, its clean-ups were done, and nothing is left of it
  Stops : (why : Reason) → Progress
  -- memory was wanting, so that it is done up to some point
  Wants : Progress

-- all is done
abbrev pub AllDone : Progress
AllDone = Leaves []

-- where one group of records brings what is asked
abbrev pub progress_of : Intent → End → Progress
progress_of i Stays = Leaves (i ∷ [])
progress_of i Done = AllDone
progress_of i (Fails why) = Stops why

-- where an answer does, by what each refusal means
abbrev pub progress_by : {X E : Type 0} → (E → Progress) → Result X E → Progress
progress_by meaning (Ok x) = AllDone
progress_by meaning (Err why) = meaning why

-- what is done behind a refusal too
abbrev pub cleanups : List Intent → List Intent
cleanups asked = filter is_cleanup asked

-- a step that was refused, with so much of it left
abbrev pub refused_work : List Intent → Reason → Work
refused_work left why = record { intents = left; refused = Some why }

-- from this state these records bring what is asked there
abbrev pub Spends : Permit → State → List Intent → List Rec → Progress → Type 0
Spends p s asked added (Leaves left) = MayGrow p s (to_do asked) added (to_do left)
Spends p s asked added (Stops why) = MayGrow p s (to_do asked) added (refused_work [] why)
Spends p s asked added Wants = (left : Work) × MayGrow p s (to_do asked) added left

-- it was refused, or memory was wanting
abbrev pub is_short : Progress → Bool
is_short (Leaves left) = false
is_short (Stops why) = true
is_short Wants = true

-- the same as a fact, by which a law finds what it speaks of
pub record FallsShort (o : Progress) : Type 0 where
  pub short : is_short o ≡ true

-- this is known where it was neither refused nor given up for want of memory
abbrev pub IfDone : Progress → Facts → Facts
IfDone (Leaves left) known = known
IfDone (Stops why) known = NothingKnown
IfDone Wants known = NothingKnown

-- nothing is left, so that a step may end so, with this refusal or with none
pub data EndsWith : Progress → Option Reason → Type 0 where
  in_full : EndsWith AllDone None
  refused : (why : Reason) → EndsWith (Stops why) (Some why)

-- what is left where more is asked behind it: all of that, and what was refused before stands; or of it the clean-ups alone, once
-- something was refused since
abbrev pub left_with : (more : List Intent) → (before : Option Reason) → (left : List Intent) → (refused : Option Reason) → Work
left_with more before left None = record { intents = left ++ more; refused = before }
left_with more before left (Some why) = refused_work (left ++ cleanups more) why
