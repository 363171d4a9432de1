-- What holds of a lock's table at every moment. Its words are `ticket`, `serving`, `count` and `floor`, and its one slot has the state.
use Rattle.std.specs.Prelude.{◌≡◌, ◌≢◌, ◌⊎◌, ℕ, ◌+◌, ◌%◌, ◌<◌, ◌≤◌, min, List, [], ◌∷◌, length, slice_index}
use mathlib.Core.Option.{Option, none, some}
use mathlib.Core.List.{IsPrefix}
use lib.ListN.{get_elem?}
use Rattle.atomic_table.specs.Table.{State}
use Rattle.stripe_lock.specs.declared.kept.KeptState.{Ghosts}
use Rattle.stripe_lock.specs.declared.view.StripeTurn.{StripeTurn}
use Rattle.stripe_lock.specs.declared.view.PassTurns.{PassTurns}
use Rattle.stripe_lock.specs.declared.view.Sight.{Sight}
use Rattle.stripe_lock.specs.declared.view.View.{View}
use Rattle.stripe_lock.specs.History.{places_of, OwnsNumber, AreBelow}

-- the places of the words `ticket`, `serving`, `count` and `floor`
abbrev pub ticket_word : ℕ
ticket_word = 0

abbrev pub serving_word : ℕ
serving_word = 1

abbrev pub count_word : ℕ
count_word = 2

abbrev pub floor_word : ℕ
floor_word = 3

-- the stage of a pass that has no ticket
abbrev pub outside : ℕ
outside = 0

-- that of one whose ticket was not called yet, as far as it knows
abbrev pub waiting : ℕ
waiting = 1

-- that of one whose ticket is called
abbrev pub called : ℕ
called = 2

-- that of the one that has the state in hand
abbrev pub holding : ℕ
holding = 3

-- f of each, added up
abbrev pub total : {A : Type 0} → (A → ℕ) → List A → ℕ
total f [] = 0
total f (x ∷ xs) = f x + total f xs

module _ {R : Type 0} where
  -- how many passes a pass is, with those that were joined into it
  abbrev pub weight : View R → ℕ
  weight v = length v.owned

  -- how many tickets it has
  abbrev pub tickets : View R → ℕ
  tickets v = min 1 v.stage

  -- no pass has the state in hand
  abbrev pub NoneHolds : List (View R) → Type 0
  NoneHolds views = (j : ℕ) (v : View R) → get_elem? views j ≡ some v → v.stage ≢ holding

-- Where a lock stands: its history; the turns behind which the floor was published, and that floor; how many tickets were
-- drawn, and how many were served; which view has each number, and which each ticket. Numbers of tickets have no end.
pub record LockCourse (R : Type 0) : Type 0 where
  pub log : List (StripeTurn R)
  pub told : List (StripeTurn R)
  pub top : ℕ
  pub drawn : ℕ
  pub served : ℕ
  pub owner : ℕ → ℕ
  pub line : ℕ → ℕ

-- the words say where the lock stands
pub record AreWords {R : Type 0} (c : LockCourse R) (words : List ℕ) : Type 0 where
  pub wide : length words ≡ 4
  pub ticket : slice_index words ticket_word ≡ c.drawn % 18446744073709551616
  pub serving : slice_index words serving_word ≡ c.served % 18446744073709551616
  pub count : slice_index words count_word ≡ length c.log
  pub floor : slice_index words floor_word ≡ c.top

-- what was seen is the chronicle and begins the history, and the floor is that behind a beginning of the turns that were told
pub record IsSeen {R : Type 0} (floor_of : List R → List (StripeTurn R) → ℕ) (start : List R) (c : LockCourse R) (g : Sight R) : Type 0 where
  pub chronicle : g.chronicle ≡ start
  pub seen : IsPrefix g.seen c.log
  pub told : IsPrefix g.told c.told
  pub floor_is : g.floor ≡ floor_of start g.told
  pub below : g.floor ≤ c.top

-- each number is below `seats` and owned by the view j, and its places are those of all its turns
abbrev pub Owns : {R : Type 0} → ℕ → LockCourse R → ℕ → List PassTurns → Type 0
Owns seats c j [] = Unit {0}
Owns seats c j (k ∷ ks) = (k.number < seats) × (c.owner k.number ≡ j) × (k.places ≡ places_of k.number c.log) × Owns seats c j ks

-- what the view j knows, if it holds a number, where it stands in the line, and that no floor that it saw is above the published one
pub record Knows {R : Type 0} (floor_of : List R → List (StripeTurn R) → ℕ) (seats : ℕ) (start : List R) (c : LockCourse R) (j : ℕ) (v : View R) : Type 0 where
  pub sight : 0 < weight v → IsSeen floor_of start c v.sight
  pub other : 0 < weight v → IsSeen floor_of start c v.other
  pub owned : Owns seats c j v.owned
  pub ticket : 0 < v.stage → (c.served ≤ v.ticket) × (v.ticket < c.drawn) × (c.line v.ticket ≡ j)
  pub turn : called ≤ v.stage → v.ticket ≡ c.served
  pub holds : v.stage ≡ holding → v.sight ≡ record { chronicle = start; seen = c.log; told = c.told; floor = c.top }
  pub parts : tickets v ≤ weight v
  pub low : v.peak ≤ c.top

-- some pass has seen the floor that is published
abbrev pub IsTopSeen : {R : Type 0} → LockCourse R → List (View R) → Type 0
IsTopSeen {R} c views = (j : ℕ) × (v : View R) × (get_elem? views j ≡ some v) × (v.peak ≡ c.top)

module _ {T R : Type 0} (k : Ghosts T R) where
  -- the state x has the lock's history, whose floor was published, and is sound
  pub record IsHome (start : List R) (c : LockCourse R) (x : T) : Type 0 where
    pub turns_are : k.turns x ≡ c.log
    pub told_is : c.told ≡ c.log
    pub chronicle_is : k.chronicle x ≡ start
    pub sound : k.is_sound x

  -- the state is at home and no pass has it, or it is out with a pass
  abbrev pub IsPlaced : List R → LockCourse R → List (Option T) → List (View R) → Type 0
  IsPlaced start c homes views =
      ((x : T) × (homes ≡ some x ∷ []) × IsHome start c x × NoneHolds views)
      ⊎ ((j : ℕ) × (v : View R) × (homes ≡ none ∷ []) × (get_elem? views j ≡ some v) × (v.stage ≡ holding))

  -- what holds of the table of a lock with so many seats, whose history begins behind this chronicle
  pub record IsLocked (seats : ℕ) (start : List R) (s : State T (View R)) : Type 0 where
    pub c : LockCourse R
    pub words : AreWords c s.words
    pub top_is : c.top ≡ k.floor_of start c.told
    pub top_seen : IsTopSeen c s.views
    pub told : IsPrefix c.told c.log
    pub near : length c.log ≤ length c.told + 1
    pub out : c.served + total tickets s.views ≡ c.drawn
    pub weights : total weight s.views ≡ seats
    pub few : seats ≤ 64
    pub each_view : (j : ℕ) (v : View R) → get_elem? s.views j ≡ some v → Knows k.floor_of seats start c j v
    pub each_number : (p : ℕ) → p < seats → (v : View R) × (get_elem? s.views (c.owner p) ≡ some v) × OwnsNumber v.owned p
    pub each_ticket : (t : ℕ) → c.served ≤ t → t < c.drawn → (v : View R) × (get_elem? s.views (c.line t) ≡ some v) × (0 < v.stage) × (v.ticket ≡ t)
    pub workers : AreBelow seats c.log
    pub place : IsPlaced start c s.homes s.views

  -- by a table's rule, whenever a state is at home, `count` is the number of its turns, `floor` is its floor, and it is sound
  abbrev pub HomeIsPublished : (State T (View R) → Type 0) → Type 0
  HomeIsPublished holds = (s : State T (View R)) (x : T) → holds s → s.homes ≡ some x ∷ []
      → (slice_index s.words count_word ≡ length (k.turns x)) × (slice_index s.words floor_word ≡ k.floor_of (k.chronicle x) (k.turns x)) × k.is_sound x
