-- What a history is, and what is known of the turns under a number.
use Rattle.std.specs.Prelude.{◌≡◌, ◌⊎◌, ℕ, zero, suc, ◌<◌, eqb, ltb, cond, List, [], ◌∷◌, ◌++◌, length}
use Rattle.stripe_lock.specs.declared.view.StripeTurn.{StripeTurn}
use Rattle.stripe_lock.specs.declared.view.PassTurns.{PassTurns}

-- a history is longer by one turn, of this worker and job, of which `fits` holds
pub record AddsTurn {R : Type 0} (old new : List (StripeTurn R)) (worker job : ℕ) (fits : StripeTurn R → Type 0) : Type 0 where
  pub turn : StripeTurn R
  pub added : new ≡ old ++ turn ∷ []
  pub worker_is : turn.worker ≡ worker
  pub job_is : turn.job ≡ job
  pub turn_fits : fits turn

module _ {R : Type 0} where
  -- the places of a worker's turns, where the first of these turns has the place k
  abbrev pub places_from : ℕ → ℕ → List (StripeTurn R) → List ℕ
  places_from worker k [] = []
  places_from worker k (t ∷ ts) =
      cond (eqb t.worker worker) (k ∷ places_from worker (suc k) ts) (places_from worker (suc k) ts)

  -- the places of a worker's turns in a history, from 0
  abbrev pub places_of : ℕ → List (StripeTurn R) → List ℕ
  places_of worker turns = places_from worker 0 turns

  -- under each of these numbers a history has just the turns at the places that are known
  abbrev pub HasJust : List (StripeTurn R) → List PassTurns → Type 0
  HasJust turns [] = Unit {0}
  HasJust turns (k ∷ ks) = (k.places ≡ places_of k.number turns) × HasJust turns ks

  -- these numbers, with the places of all their turns in a history
  abbrev pub with_places : List (StripeTurn R) → List PassTurns → List PassTurns
  with_places turns [] = []
  with_places turns (k ∷ ks) =
      record { number = k.number; places = places_of k.number turns } ∷ with_places turns ks

  -- each worker's number is below this one
  abbrev pub AreBelow : ℕ → List (StripeTurn R) → Type 0
  AreBelow seats [] = Unit {0}
  AreBelow seats (t ∷ ts) = (t.worker < seats) × AreBelow seats ts

  -- of two beginnings of one history the longer one
  abbrev pub longer : List (StripeTurn R) → List (StripeTurn R) → List (StripeTurn R)
  longer xs ys = cond (ltb (length xs) (length ys)) ys xs

-- a number is one of these
abbrev pub OwnsNumber : List PassTurns → ℕ → Type 0
OwnsNumber [] n = ⊥
OwnsNumber (k ∷ ks) n = (k.number ≡ n) ⊎ OwnsNumber ks n

-- each turn of a history was made under one of these numbers
abbrev pub AreUnder : {R : Type 0} → List PassTurns → List (StripeTurn R) → Type 0
AreUnder owned [] = Unit {0}
AreUnder owned (t ∷ ts) = OwnsNumber owned t.worker × AreUnder owned ts

-- the numbers k, k + 1 and so on, n of them, with no turns
abbrev pub unused : ℕ → ℕ → List PassTurns
unused k zero = []
unused k (suc n) = record { number = k; places = [] } ∷ unused (suc k) n

-- the first number
abbrev pub first_number : List PassTurns → ℕ
first_number [] = 0
first_number (k ∷ ks) = k.number

-- the places under the first number
abbrev pub first_places : List PassTurns → List ℕ
first_places [] = []
first_places (k ∷ ks) = k.places
