-- What a pass learns at each step.
use Rattle.std.specs.Prelude.{◌≡◌, ◌≢◌, ℕ, ◌%◌, ◌≤◌, max, List, [], ◌∷◌, ◌++◌, length, drop, take}
use mathlib.Core.List.{IsPrefix, drop_last}
use Rattle.atomic_table.specs.Table.{Me, Step}
use Rattle.stripe_lock.specs.declared.kept.KeptState.{Ghosts}
use Rattle.stripe_lock.specs.declared.view.StripeTurn.{StripeTurn}
use Rattle.stripe_lock.specs.declared.view.Sight.{Sight}
use Rattle.stripe_lock.specs.declared.view.View.{View}
use Rattle.stripe_lock.specs.History.{HasJust, with_places, longer, unused}
use Rattle.stripe_lock.specs.Rule.{outside, waiting, called, holding}

module _ {R : Type 0} where
  -- a pass at another stage
  abbrev pub at_stage : ℕ → View R → View R
  at_stage n v = record v { stage = n }

  -- a pass that has seen this, which its highest floor takes in
  abbrev pub with_sight : Sight R → View R → View R
  with_sight g v = record v { sight = g; peak = max v.peak g.floor }

  -- a pass that has found this number in this word
  abbrev pub with_look : ℕ → ℕ → View R → View R
  with_look word n v = record v { looks = v.looks ++ record { word = word; number = n } ∷ [] }

  -- what is seen where the floor behind all of these turns was published
  abbrev pub whole_sight : List R → List (StripeTurn R) → ℕ → Sight R
  whole_sight chronicle turns floor = record { chronicle = chronicle; seen = turns; told = turns; floor = floor }

  -- the first pass, which has all numbers, behind no turn
  abbrev pub opener : ℕ → List R → ℕ → View R
  opener seats chronicle floor = let nothing : Sight R = whole_sight chronicle [] floor in
      record { sight = nothing; other = nothing; owned = unused 0 seats; looks = []; peak = floor; stage = outside; ticket = 0 }

  -- a pass that was joined into another
  abbrev pub spent : View R
  spent = opener 0 [] 0

  -- the first number goes to a new pass, which has seen as much
  abbrev pub left_view : View R → View R
  left_view v = record v { owned = drop 1 v.owned }

  -- the new pass
  abbrev pub right_view : View R → View R
  right_view v = record v { owned = take 1 v.owned; looks = []; stage = outside; ticket = 0 }

  -- a pass takes in the numbers of another, and what it had seen
  abbrev pub joined_view : View R → View R → View R
  joined_view v w = record v { other = w.sight; owned = v.owned ++ w.owned; peak = max v.peak w.peak }

-- a pass of a lock, with the state where it has that in hand
abbrev pub Holder : Type 0 → Type 0 → Type 0
Holder T R = Me T (View R)

module _ {T R : Type 0} where
  -- a ticket is drawn
  abbrev pub drew : Step T → Holder T R → ℕ → Holder T R → Type 0
  drew st m n m' = (t : ℕ) × (n ≡ t % 18446744073709551616) × (m'.0 ≡ record m.0 { stage = waiting; ticket = t }) × (m'.1 ≡ m.1)

  -- its ticket is called exactly where `serving` is the ticket
  abbrev pub looked : Step T → Holder T R → ℕ → Holder T R → Type 0
  looked st m n m' = (n ≡ m.0.ticket % 18446744073709551616 → m' ≡ (at_stage called m.0, m.1)) × (n ≢ m.0.ticket % 18446744073709551616 → m' ≡ m)

  -- the state is given back
  abbrev pub gave_back : Step T → Holder T R → ℕ → Holder T R → Type 0
  gave_back st m n m' = m' ≡ (at_stage called m.0, [])

  -- the ticket is gone
  abbrev pub ended_turn : Step T → Holder T R → ℕ → Holder T R → Type 0
  ended_turn st m n m' = m' ≡ (at_stage outside m.0, m.1)

  -- the floor behind all turns that are seen was published
  abbrev pub raised_floor : Step T → Holder T R → ℕ → Holder T R → Type 0
  raised_floor st m n m' = m' ≡ (with_sight (whole_sight m.0.sight.chronicle m.0.sight.seen st.first) m.0, m.1)

  -- the history so far is seen, which is as long as the count, and begins with all that was told
  abbrev pub saw : Step T → Holder T R → ℕ → Holder T R → Type 0
  saw st m n m' = (log : List (StripeTurn R)) × (m' ≡ (with_look st.word n (with_sight (record m.0.sight { seen = log }) m.0), m.1)) × (n ≡ length log)
      × IsPrefix m.0.sight.seen log × IsPrefix m.0.sight.told log × HasJust log m.0.owned

  module _ (k : Ghosts T R) where
    -- the state is in hand, and with it all that it tells
    abbrev pub took : Step T → Holder T R → ℕ → Holder T R → Type 0
    took st m n m' = (x : T) × (m'.1 ≡ (0, x) ∷ []) × (m'.0 ≡ at_stage holding (with_sight (whole_sight (k.chronicle x) (k.turns x) (k.floor_of (k.chronicle x) (k.turns x))) m.0))
        × (k.chronicle x ≡ m.0.sight.chronicle) × IsPrefix m.0.sight.seen (k.turns x) × IsPrefix m.0.sight.told (k.turns x)
        × (m.0.sight.floor ≤ k.floor_of (k.chronicle x) (k.turns x)) × HasJust (k.turns x) m.0.owned × k.is_sound x

    -- the history is that of the state in hand
    abbrev pub noted_turn : Step T → Holder T R → ℕ → Holder T R → Type 0
    noted_turn st m n m' = (m'.1 ≡ m.1) × (m'.0.peak ≡ m.0.peak) × ((x : T) → m.1 ≡ (0, x) ∷ []
        → m'.0 ≡ record m.0 { sight = record m.0.sight { seen = k.turns x }; owned = with_places (k.turns x) m.0.owned })

    -- the floor is seen, which was published behind all turns that had been told, and all that were seen but perhaps the last
    abbrev pub lowered : Step T → Holder T R → ℕ → Holder T R → Type 0
    lowered st m n m' = (told : List (StripeTurn R)) × (m' ≡ (with_look st.word n (with_sight (record m.0.sight { told = told; floor = n }) m.0), m.1))
        × (n ≡ k.floor_of m.0.sight.chronicle told) × IsPrefix m.0.sight.told told × IsPrefix (drop_last m.0.sight.seen) told × (m.0.sight.floor ≤ n)

    -- the floor is seen behind a join: what either of the two passes had seen begins the longer of both, and that begins a
    -- history which has just the turns that they know under their numbers
    abbrev pub settled : Step T → Holder T R → ℕ → Holder T R → Type 0
    settled st m n m' = let both = longer m.0.sight.seen m.0.other.seen in (told : List (StripeTurn R))
        × (m' ≡ (with_look st.word n (with_sight (record { chronicle = m.0.sight.chronicle; seen = both; told = told; floor = n }) m.0), m.1)) × (n ≡ k.floor_of m.0.sight.chronicle told)
        × (m.0.other.chronicle ≡ m.0.sight.chronicle) × IsPrefix m.0.sight.seen both × IsPrefix m.0.other.seen both × IsPrefix m.0.sight.told told × IsPrefix m.0.other.told told
        × (m.0.sight.floor ≤ n) × (m.0.other.floor ≤ n)
        × ((log : List (StripeTurn R)) × IsPrefix both log × HasJust log m.0.owned)
