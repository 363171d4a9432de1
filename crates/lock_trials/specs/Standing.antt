-- Where turns stand in a history.
use Rattle.std.specs.Prelude.{◌≡◌, ℕ, suc, ◌-◌, List, [], ◌∷◌, ◌++◌, length, map}
use Rattle.stripe_lock.specs.declared.view.StripeTurn.{StripeTurn}
use Rattle.stripe_lock.specs.History.{places_of}

module _ {R : Type 0} where
  -- the turn with this number, from 1, is of this worker and job
  pub record TurnStandsAt (turns : List (StripeTurn R)) (worker job number : ℕ) : Type 0 where
    pub before : List (StripeTurn R)
    pub turn : StripeTurn R
    pub after : List (StripeTurn R)
    pub turns_are : turns ≡ (before ++ turn ∷ []) ++ after
    pub worker_is : turn.worker ≡ worker
    pub job_is : turn.job ≡ job
    pub number_is : number ≡ length (before ++ turn ∷ [])

  -- the turns with these numbers are those of a worker's jobs k, k + 1 and so on
  abbrev pub TurnsStandFrom : List (StripeTurn R) → ℕ → ℕ → List ℕ → Type 0
  TurnsStandFrom turns worker k [] = Unit {0}
  TurnsStandFrom turns worker k (n ∷ ns) = TurnStandsAt turns worker k n × TurnsStandFrom turns worker (suc k) ns

  -- they are all turns of that worker
  abbrev pub AreAllOf : List (StripeTurn R) → ℕ → List ℕ → Type 0
  AreAllOf turns worker numbers = places_of worker turns ≡ map (λ n. n - 1) numbers
