-- How a lock goes on, step by step.
use Rattle.std.specs.Prelude.{◌≡◌, ℕ, ◌≤◌, List, [], ◌∷◌, ◌++◌, slice_index, slice_set}
use mathlib.Core.Option.{some}
use lib.ListN.{get_elem?}
use Rattle.atomic_table.specs.Table.{State, Step, Act, carried_after, stepped}
use Rattle.stripe_lock.specs.declared.kept.KeptState.{Ghosts}
use Rattle.stripe_lock.specs.declared.view.View.{View}
use Rattle.stripe_lock.specs.Rule.{floor_word}
use Rattle.stripe_lock.specs.Steps.{Holder, left_view, right_view, joined_view, spent, drew, looked, took, gave_back, ended_turn, noted_turn, raised_floor, saw, lowered, settled}

module _ {T R : Type 0} where
  -- a pass makes an atomic step of this kind on one word, which may become any number
  pub record PassMakes (then : Step T → Holder T R → ℕ → Holder T R → Type 0) (s t : State T (View R)) : Type 0 where
    pub pass : ℕ
    pub me : Holder T R
    pub st : Step T
    pub found : ℕ
    pub new : ℕ
    pub view : View R
    pub act : Act T
    pub at : get_elem? s.views pass ≡ some me.0
    pub told : then st me found (view, carried_after me.1 act)
    pub after : t ≡ stepped s st.word new pass me.1 view act

  -- the last of these states, or the first one
  abbrev pub last_state : State T (View R) → List (State T (View R)) → State T (View R)
  last_state s [] = s
  last_state s (t ∷ ts) = last_state t ts

  -- a pass is cut in two
  pub record Cuts (s t : State T (View R)) : Type 0 where
    pub pass : ℕ
    pub view : View R
    pub at : get_elem? s.views pass ≡ some view
    pub after : t ≡ record { words = s.words; homes = s.homes; views = slice_set s.views pass (left_view view) ++ right_view view ∷ [] }

  -- a pass takes in another
  pub record PassTakesIn (s t : State T (View R)) : Type 0 where
    pub pass : ℕ
    pub view : View R
    pub other : ℕ
    pub taken : View R
    pub at : get_elem? s.views pass ≡ some view
    pub there : get_elem? s.views other ≡ some taken
    pub after : t ≡ record { words = s.words; homes = s.homes; views = slice_set (slice_set s.views pass (joined_view view taken)) other spent }

  module _ (k : Ghosts T R) where
    -- one step of a lock, of any kind that `src/steps.rt` has
    pub data LockStep (s t : State T (View R)) : Type 0 where
      by_draw : PassMakes drew s t → LockStep s t
      by_look : PassMakes looked s t → LockStep s t
      by_take : PassMakes (took k) s t → LockStep s t
      by_note : PassMakes (noted_turn k) s t → LockStep s t
      by_raise : PassMakes raised_floor s t → LockStep s t
      by_give : PassMakes gave_back s t → LockStep s t
      by_end : PassMakes ended_turn s t → LockStep s t
      by_see : PassMakes saw s t → LockStep s t
      by_low : PassMakes (lowered k) s t → LockStep s t
      by_settle : PassMakes (settled k) s t → LockStep s t
      by_cut : Cuts s t → LockStep s t
      by_join : PassTakesIn s t → LockStep s t

    module _ (holds : State T (View R) → Type 0) where
      -- by a table's rule these states come one after another behind s, each by one step
      abbrev pub LockGoesOn : State T (View R) → List (State T (View R)) → Type 0
      LockGoesOn s [] = holds s
      LockGoesOn s (t ∷ ts) = holds s × LockStep s t × LockGoesOn t ts

      -- over one step of a lock the word `floor` does not fall
      abbrev pub StepKeepsFloor : Type 0
      StepKeepsFloor = (s t : State T (View R)) → holds s → holds t → LockStep s t → slice_index s.words floor_word ≤ slice_index t.words floor_word

      -- nor does it over any number of steps
      abbrev pub FloorNeverFalls : Type 0
      FloorNeverFalls = (s : State T (View R)) (ts : List (State T (View R))) → LockGoesOn s ts → slice_index s.words floor_word ≤ slice_index (last_state s ts).words floor_word
