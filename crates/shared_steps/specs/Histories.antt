-- What the turns of a history did.
use Rattle.std.specs.Prelude.{◌≡◌, Bool, true, false, List, [], ◌∷◌, ◌++◌, map, Result, Ok, Err, ⊤}
use Rattle.stripe_lock.specs.declared.view.StripeTurn.{StripeTurn}
use Rattle.shared_steps.specs.declared.shared.Taken.{Taken}
use Rattle.shared_steps.specs.declared.shared.Taken.TheVariants.{Said, Stopped, Left}
use Rattle.shared_steps.specs.declared.shared.StepRow.{StepRow}
use Rattle.shared_steps.specs.declared.shared.StepRecord.{StepRecord}
use Rattle.shared_steps.specs.declared.shared.StepRecord.TheVariants.{Began, Took}

module _ {S X A W : Type 0} where
  -- a row's turn, whose one record is its step and what came of it
  abbrev pub turn_of : StepRow X A W → StripeTurn (StepRecord S X A W)
  turn_of r = record { worker = r.worker; job = r.job; records = Took r.step.value r.taken ∷ [] }

  -- the turns of rows
  abbrev pub turns_of : List (StepRow X A W) → List (StripeTurn (StepRecord S X A W))
  turns_of = map turn_of

  -- the records of turns, in their order
  abbrev pub records_of : List (StripeTurn (StepRecord S X A W)) → List (StepRecord S X A W)
  records_of [] = []
  records_of (t ∷ ts) = t.records ++ records_of ts

  -- a turn took this step, whatever came of it
  pub record TakesOwn (step : X) (turn : StripeTurn (StepRecord S X A W)) : Type 0 where
    pub taken : Taken A W
    pub records : turn.records ≡ Took step taken ∷ []

  -- these turns did nothing
  abbrev pub AreLeft : List (StepRecord S X A W) → Type 0
  AreLeft [] = ⊤
  AreLeft (Took step Left ∷ rs) = AreLeft rs
  AreLeft _ = ⊥

  -- some turn stopped it
  abbrev pub has_stopped : List (StepRecord S X A W) → Bool
  has_stopped [] = false
  has_stopped (Took step (Stopped why) ∷ rs) = true
  has_stopped (r ∷ rs) = has_stopped rs

  module _ (takes : S → X → S → Result A W → Type 0) where
    -- From the one state to the other each step was taken where the one before it left it, and its answer is the step's; or so
    -- up to one that stopped it, and none behind that.
    abbrev pub Goes : S → List (StepRecord S X A W) → S → Type 0
    Goes s [] t = s ≡ t
    Goes s (Took step (Said answer) ∷ rs) t = (mid : S) × takes s step mid (Ok answer) × Goes mid rs t
    Goes s (Took step (Stopped why) ∷ rs) t = takes s step t (Err why) × AreLeft rs
    Goes s (Took step Left ∷ rs) t = ⊥
    Goes s (Began x ∷ rs) t = ⊥

    -- a step is taken, unless an earlier one had stopped it
    abbrev pub TakesNext : (stopped : Bool) → S → X → (stops : Bool) → S → Taken A W → Type 0
    TakesNext stopped s step stops t (Said answer) = (stopped ≡ false) × (stops ≡ false) × takes s step t (Ok answer)
    TakesNext stopped s step stops t (Stopped why) = (stopped ≡ false) × (stops ≡ true) × takes s step t (Err why)
    TakesNext stopped s step stops t Left = (stopped ≡ true) × (stops ≡ true) × (t ≡ s)

    -- a state behind these turns
    pub record IsKept (stands : S → Type 0) (first : S) (turns : List (StripeTurn (StepRecord S X A W))) (stopped : Bool) (state : S) : Type 0 where
      pub goes : Goes first (records_of turns) state
      pub stopped_is : stopped ≡ has_stopped (records_of turns)
      pub stands_is : stands state

    -- turns that may be, behind the state that the chronicle has
    pub record IsLegal (chronicle : List (StepRecord S X A W)) (turns : List (StripeTurn (StepRecord S X A W))) : Type 0 where
      pub first : S
      pub chronicle_is : chronicle ≡ Began first ∷ []
      pub last : S
      pub goes : Goes first (records_of turns) last
