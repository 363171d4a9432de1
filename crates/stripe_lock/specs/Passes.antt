-- What contracts see of a pass and of a lock.
use Rattle.std.specs.Prelude.{◌≡◌, ℕ, zero, suc, ◌%◌, ◌<◌, List, [], ◌∷◌, length}
use Rattle.atomic_table.specs.Seated.{TableId}
use Rattle.stripe_lock.specs.declared.view.StripeTurn.{StripeTurn}
use Rattle.stripe_lock.specs.declared.view.PassTurns.{PassTurns}
use Rattle.stripe_lock.specs.declared.view.Loaded.{Loaded}
use Rattle.stripe_lock.specs.declared.view.View.{View}
use Rattle.stripe_lock.specs.History.{HasJust, first_number}
use Rattle.stripe_lock.specs.Rule.{outside}
use Rattle.stripe_lock.specs.Steps.{spent}

-- which lock it is, and how many passes it has
pub record LockState : Type 0 where
  pub lock : TableId
  pub seats : ℕ

-- a pass: its lock, the chronicle from before the first turn, and the beginning of the history that it has seen; its number
-- and those joined into it, with the places of their turns; what it found in the words `count` and `floor`, in order; and a
-- floor that it has seen, with the turns behind which that was published
pub record PassState (R : Type 0) : Type 0 where
  pub lock : TableId
  pub chronicle : List R
  pub seen : List (StripeTurn R)
  pub owned : List PassTurns
  pub looks : List Loaded
  pub told : List (StripeTurn R)
  pub floor : ℕ

module _ {R : Type 0} where
  -- what is seen of a view
  abbrev pub pass_of : TableId → View R → PassState R
  pass_of lock v = record { lock = lock; chronicle = v.sight.chronicle; seen = v.sight.seen; owned = v.owned; looks = v.looks; told = v.sight.told; floor = v.sight.floor }

  -- the view of a pass between two calls
  abbrev pub view_of : List (View R) → View R
  view_of [] = spent
  view_of (v ∷ vs) = v

  -- a pass that waits for nothing, and was not joined into another. It has seen all turns of its numbers
  pub record IsPassResting (views : List (View R)) : Type 0 where
    pub one : views ≡ view_of views ∷ []
    pub idle : (view_of views).stage ≡ outside
    pub some_weight : 0 < length (view_of views).owned
    pub known : HasJust (view_of views).sight.seen (view_of views).owned

  -- a pass between two calls, which has this number and weight at run time
  pub record PassRests (number weight : ℕ) (views : List (View R)) : Type 0 where
    pub one : views ≡ view_of views ∷ []
    pub idle : (view_of views).stage ≡ outside
    pub number_is : number ≡ first_number (view_of views).owned
    pub weight_is : weight ≡ length (view_of views).owned % 4294967296
    pub some_weight : 0 < length (view_of views).owned
    pub known : HasJust (view_of views).sight.seen (view_of views).owned

  -- n passes of a lock, in the order of their numbers from k on, which have made no turn and seen none
  abbrev pub dealt : TableId → List R → ℕ → ℕ → ℕ → List (PassState R)
  dealt lock chronicle floor k zero = []
  dealt lock chronicle floor k (suc n) =
      record { lock = lock; chronicle = chronicle; seen = []; owned = record { number = k; places = [] } ∷ []; looks = []; told = []; floor = floor }
      ∷ dealt lock chronicle floor (suc k) n
