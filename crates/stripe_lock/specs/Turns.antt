-- What the calls of a lock do to a pass.
use Rattle.std.specs.Prelude.{◌≡◌, ℕ, ◌≤◌, List, [], ◌∷◌, ◌++◌, length}
use mathlib.Core.List.{IsPrefix, drop_last}
use Rattle.stripe_lock.specs.declared.kept.KeptState.{Ghosts}
use Rattle.stripe_lock.specs.declared.view.StripeTurn.{StripeTurn}
use Rattle.stripe_lock.specs.History.{AddsTurn, HasJust, with_places, AreUnder, longer, first_number, first_places}
use Rattle.stripe_lock.specs.Rule.{count_word, floor_word}
use Rattle.stripe_lock.specs.Passes.{PassState}

module _ {T R : Type 0} (k : Ghosts T R) where
  -- The history goes on where the pass had seen it, and ends with the turn. Between the two no turn is under a number of the
  -- pass. All of it is legal, and has as many turns as are told. The pass knows it and its floor.
  pub record Turned {A : Type 0} (job : ℕ) (fits : List R → List (StripeTurn R) → StripeTurn R → A → Type 0) (old new : PassState R) (answer : A) (count : ℕ) : Type 0 where
    pub lock : new.lock ≡ old.lock
    pub chronicle : new.chronicle ≡ old.chronicle
    pub before : List (StripeTurn R)
    pub later : IsPrefix old.seen before
    pub known : HasJust before old.owned
    pub turn : AddsTurn before new.seen (first_number old.owned) job (λ turn. fits old.chronicle before turn answer)
    pub legal : k.is_legal new.chronicle new.seen
    pub counted : count ≡ length new.seen
    pub owned : new.owned ≡ with_places new.seen old.owned
    pub mine : first_places new.owned ≡ first_places old.owned ++ length before ∷ []
    pub looks : new.looks ≡ old.looks
    pub told : new.told ≡ new.seen
    pub higher : IsPrefix old.told before × (old.floor ≤ new.floor)
    pub floor : new.floor ≡ k.floor_of new.chronicle new.told

  -- The history goes on where the pass had seen it, with no more turns under a number of the pass. The pass knows it and its
  -- floor.
  pub record LookedIn (old new : PassState R) : Type 0 where
    pub lock : new.lock ≡ old.lock
    pub chronicle : new.chronicle ≡ old.chronicle
    pub later : IsPrefix old.seen new.seen
    pub owned : new.owned ≡ old.owned
    pub known : HasJust new.seen new.owned
    pub looks : new.looks ≡ old.looks
    pub legal : k.is_legal new.chronicle new.seen
    pub told : new.told ≡ new.seen
    pub higher : IsPrefix old.told new.told × (old.floor ≤ new.floor)
    pub floor : new.floor ≡ k.floor_of new.chronicle new.told

  -- The pass found the floor in its word, once. It is not below the one that the pass had seen. It was published behind all
  -- turns that had been told to the pass, and all that it has seen but perhaps the last. Nothing else changes.
  pub record SeesFloor (old new : PassState R) (floor : ℕ) : Type 0 where
    pub same : new ≡ record old { looks = new.looks; told = new.told; floor = floor }
    pub looked : new.looks ≡ old.looks ++ record { word = floor_word; number = floor } ∷ []
    pub floor_is : floor ≡ k.floor_of old.chronicle new.told
    pub later : IsPrefix old.told new.told
    pub fresh : IsPrefix (drop_last old.seen) new.told
    pub higher : old.floor ≤ floor

  -- A pass has the numbers of both, with all turns under them, and has seen what either had seen. Its floor is not below that
  -- of either, and it found it in its word.
  pub record Joins (old other new : PassState R) : Type 0 where
    pub same : new ≡ record old { seen = longer old.seen other.seen; owned = old.owned ++ other.owned; looks = new.looks; told = new.told; floor = new.floor }
    pub looked : new.looks ≡ old.looks ++ record { word = floor_word; number = new.floor } ∷ []
    pub chronicle : other.chronicle ≡ old.chronicle
    pub seen : IsPrefix old.seen new.seen × IsPrefix other.seen new.seen
    pub known : HasJust new.seen new.owned
    pub told : IsPrefix old.told new.told × IsPrefix other.told new.told
    pub floor_is : new.floor ≡ k.floor_of new.chronicle new.told
    pub higher : (old.floor ≤ new.floor) × (other.floor ≤ new.floor)

  -- a sound state with the chronicle that the pass knows: its turns begin with what the pass has seen, and are just those that
  -- the pass knows, all under its numbers; its floor is not below the one that the pass has seen
  pub record LockEnds (pass : PassState R) (x : T) : Type 0 where
    pub chronicle : k.chronicle x ≡ pass.chronicle
    pub seen : IsPrefix pass.seen (k.turns x)
    pub told : IsPrefix pass.told (k.turns x)
    pub known : HasJust (k.turns x) pass.owned
    pub under : AreUnder pass.owned (k.turns x)
    pub higher : pass.floor ≤ k.floor_of (k.chronicle x) (k.turns x)
    pub sound : k.is_sound x

-- The pass found the count in its word, once. It has seen the history so far, which is as long, with no more turns under a
-- number of the pass. Nothing else changes.
pub record SeesCount {R : Type 0} (old new : PassState R) (count : ℕ) : Type 0 where
  pub same : new ≡ record old { seen = new.seen; looks = new.looks }
  pub looked : new.looks ≡ old.looks ++ record { word = count_word; number = count } ∷ []
  pub later : IsPrefix old.seen new.seen
  pub fresh : IsPrefix old.told new.seen
  pub counted : count ≡ length new.seen
  pub known : HasJust new.seen new.owned
