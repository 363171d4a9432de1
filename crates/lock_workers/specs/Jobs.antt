-- Which turns of a history are those of a worker's jobs.
use Rattle.std.specs.Prelude.{◌≡◌, ℕ, suc, Bool, false, eqb, cond, List, [], ◌∷◌, ◌++◌, ⊤}
use mathlib.Core.List.{IsPrefix}
use Rattle.stripe_lock.specs.declared.view.StripeTurn.{StripeTurn}
use Rattle.stripe_lock.specs.History.{places_of}
use Rattle.stripe_lock.specs.Passes.{PassState}

-- the turns under a number
abbrev pub turns_under : {R : Type 0} → ℕ → List (StripeTurn R) → List (StripeTurn R)
turns_under n [] = []
turns_under n (t ∷ ts) = cond (eqb t.worker n) (t ∷ turns_under n ts) (turns_under n ts)

-- what a job's number is, and what a job was and became, the chronicle, the turns behind it, its own turn and its answer
-- fit, as `Job` has them
module _ {J R A : Type 0} (number : J → ℕ) (fits : J → J → List R → List (StripeTurn R) → StripeTurn R → A → Type 0) where
  module _ (chronicle : List R) (turns : List (StripeTurn R)) where
    -- a turn of this history is that of a job
    pub record IsTurnOf (job : J) (turn : StripeTurn R) : Type 0 where
      pub number_is : turn.job ≡ number job
      pub before : List (StripeTurn R)
      pub stands : IsPrefix (before ++ turn ∷ []) turns
      pub after : J
      pub answer : A
      pub fit : fits job after chronicle before turn answer

    -- some turns of this history are those of these jobs, each once, and in their order
    abbrev pub AreTurnsOf : List J → List (StripeTurn R) → Type 0
    AreTurnsOf [] [] = ⊤
    AreTurnsOf (j ∷ js) (t ∷ ts) = IsTurnOf j t × AreTurnsOf js ts
    AreTurnsOf _ _ = ⊥

    -- all turns under a number are those of these jobs
    abbrev pub AreJobsUnder : ℕ → List J → Type 0
    AreJobsUnder n jobs = AreTurnsOf jobs (turns_under n turns)

    -- so it is of the jobs of each worker, by their numbers from k on
    abbrev pub AreJobsFrom : ℕ → List (List J) → Type 0
    AreJobsFrom k [] = ⊤
    AreJobsFrom k (jobs ∷ others) = AreJobsUnder k jobs × AreJobsFrom (suc k) others

  -- a pass of this number alone has seen all turns under it, and these are those of these jobs
  pub record HasDone (n : ℕ) (jobs : List J) (pass : PassState R) : Type 0 where
    pub places : List ℕ
    pub owned : pass.owned ≡ record { number = n; places = places } ∷ []
    pub known : places ≡ places_of n pass.seen
    pub jobs_are : AreJobsUnder pass.chronicle pass.seen n jobs

  -- of these jobs it did the first ones, and all of them where memory was not short
  pub record DidFront (n : ℕ) (jobs : List J) (pass : PassState R) (short : Bool) : Type 0 where
    pub front : List J
    pub rest : List J
    pub split : jobs ≡ front ++ rest
    pub whole : short ≡ false → rest ≡ []
    pub done : HasDone n front pass
