-- The rows of a tally as turns.
use Rattle.std.specs.Prelude.{◌≡◌, ℕ, List, [], ◌∷◌, map}
use Rattle.stripe_lock.specs.declared.view.StripeTurn.{StripeTurn}
use Rattle.lock_trials.specs.declared.tally.TallyRow.{TallyRow}

-- a row's turn, whose one record is its job's number
abbrev pub turn_of : TallyRow → StripeTurn ℕ
turn_of r = record { worker = r.worker; job = r.job; records = r.job ∷ [] }

-- the turns of rows
abbrev pub turns_of : List TallyRow → List (StripeTurn ℕ)
turns_of = map turn_of

-- each turn added its job's number alone
abbrev pub HaveOneRecord : List (StripeTurn ℕ) → Type 0
HaveOneRecord [] = Unit {0}
HaveOneRecord (t ∷ ts) = (t.records ≡ t.job ∷ []) × HaveOneRecord ts
