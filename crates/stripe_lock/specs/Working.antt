-- What the parts of a turn ask and tell.
use Rattle.std.specs.Prelude.{◌≡◌, ℕ, ◌≤◌, max, List, [], ◌∷◌, ◌++◌, length}
use mathlib.Core.List.{IsPrefix}
use Rattle.atomic_table.specs.Table.{Me}
use Rattle.stripe_lock.specs.declared.kept.KeptState.{Ghosts}
use Rattle.stripe_lock.specs.declared.view.StripeTurn.{StripeTurn}
use Rattle.stripe_lock.specs.declared.view.View.{View}
use Rattle.stripe_lock.specs.History.{AddsTurn, HasJust, OwnsNumber, with_places}
use Rattle.stripe_lock.specs.Rule.{holding}
use Rattle.stripe_lock.specs.Steps.{whole_sight}

module _ {R : Type 0} where
  -- a pass that knows the whole history, with the places of its turns, and has published its floor
  abbrev pub published : List (StripeTurn R) → ℕ → View R → View R
  published turns floor v = record v { sight = whole_sight v.sight.chronicle turns floor; owned = with_places turns v.owned; peak = max v.peak floor }

module _ {T R : Type 0} (k : Ghosts T R) where
  -- the pass that was v has the state x in hand
  pub record InHand (v : View R) (m : Me T (View R)) (x : T) : Type 0 where
    pub carried : m.1 ≡ (0, x) ∷ []
    pub view : let floor = k.floor_of (k.chronicle x) (k.turns x) in
        m.0 ≡ record v { sight = whole_sight (k.chronicle x) (k.turns x) floor; peak = max v.peak floor; stage = holding; ticket = m.0.ticket }
    pub chronicle : k.chronicle x ≡ v.sight.chronicle
    pub seen : IsPrefix v.sight.seen (k.turns x)
    pub told : IsPrefix v.sight.told (k.turns x)
    pub higher : v.sight.floor ≤ k.floor_of (k.chronicle x) (k.turns x)
    pub known : HasJust (k.turns x) v.owned
    pub sound : k.is_sound x

  -- there was no memory for a turn: the history of y is that of x
  pub record KeepsTurns (x y : T) : Type 0 where
    pub chronicle : k.chronicle y ≡ k.chronicle x
    pub turns : k.turns y ≡ k.turns x
    pub sound : k.is_sound y
    pub legal : k.is_legal (k.chronicle y) (k.turns y)

  -- a job of this number made a turn of this worker, which gave y from x; the count and the floor are those behind it
  pub record Works {A : Type 0} (job : ℕ) (fits : List R → List (StripeTurn R) → StripeTurn R → A → Type 0) (worker : ℕ) (x y : T) (answer : A) (count floor : ℕ) : Type 0 where
    pub turn : AddsTurn (k.turns x) (k.turns y) worker job (λ turn. fits (k.chronicle x) (k.turns x) turn answer)
    pub chronicle : k.chronicle y ≡ k.chronicle x
    pub higher : k.floor_of (k.chronicle x) (k.turns x) ≤ k.floor_of (k.chronicle y) (k.turns y)
    pub sound : k.is_sound y
    pub legal : k.is_legal (k.chronicle y) (k.turns y)
    pub counted : count ≡ length (k.turns y)
    pub floor_is : floor ≡ k.floor_of (k.chronicle y) (k.turns y)

  -- the state in hand has a turn more than is seen, under a number of the pass, with this count and this floor
  pub record MayPublish (m : Me T (View R)) (count floor : ℕ) : Type 0 where
    pub x : T
    pub turn : StripeTurn R
    pub carried : m.1 ≡ (0, x) ∷ []
    pub stage : m.0.stage ≡ holding
    pub told : m.0.sight.told ≡ m.0.sight.seen
    pub added : k.turns x ≡ m.0.sight.seen ++ turn ∷ []
    pub own : OwnsNumber m.0.owned turn.worker
    pub counted : count ≡ length (k.turns x)
    pub higher : m.0.sight.floor ≤ floor
    pub floor_is : floor ≡ k.floor_of m.0.sight.chronicle (k.turns x)

  -- the state in hand is sound, its history is seen, and the floor behind it was published
  pub record MayHandBack (m : Me T (View R)) : Type 0 where
    pub x : T
    pub carried : m.1 ≡ (0, x) ∷ []
    pub stage : m.0.stage ≡ holding
    pub chronicle : k.chronicle x ≡ m.0.sight.chronicle
    pub seen : k.turns x ≡ m.0.sight.seen
    pub told : m.0.sight.told ≡ m.0.sight.seen
    pub sound : k.is_sound x
