-- What a flush keeps in memory of the pieces that it copies ahead.
use Rattle.std.specs.Prelude.{ℕ, ◌≡◌, ◌+◌, ◌*◌, ◌≤◌, ◌==◌, not, List, [], ◌∷◌, drop, length, take, vec_capacity}
use Rattle.std.specs.List.{AllByRecursion}
use Rattle.tape_base.specs.declared.geometries.Geometry.{Geometry}
use Rattle.tape_base.specs.Geometry.{budget_of}
use Rattle.logged_disk.specs.Device.{DeviceState as Device, IsAfter, TellsAll, seen as content_of}
use Rattle.cache_model.specs.State.{Row, State}
use Rattle.cache_model.specs.Permit.{Permit}
use Rattle.cache_model.specs.Due.{due_pieces}
use Rattle.cache_model.specs.Outcomes.{AreOutcomes, Copied, NoRoom, Outcome, ReadRefused, Spoiled, front_of}
use Rattle.cache_model.specs.Due.{due_candidates, most_passed}
use Rattle.piece_answers.specs.declared.ahead.Ahead.{Ahead}
use Rattle.piece_answers.specs.declared.ahead.Fate.{Fate}
use Rattle.piece_answers.specs.declared.ahead.Fate.TheVariants as fate
use Rattle.piece_answers.specs.Faults.{CountsUpTo, HasEffects, effects_among}
use Rattle.piece_answers.specs.Covers.{Covers}
use Rattle.cache_model.specs.Damage.{TellNoDamage}
use Rattle.piece_answers.specs.Standing.{AreAsSeen}

-- there is memory for all that the next floor passes, and for half a buffer of documents
pub record IsMadeFor (g : Geometry) (a : Ahead) : Type 0 where
  pub due : most_passed g ≤ vec_capacity a.due
  pub kept : length a.kept.items ≡ most_passed g
  pub fates : most_passed g ≤ vec_capacity a.fates
  pub bytes : length a.bytes.items ≡ 512 * budget_of g

-- what is kept of a piece is what came of it
abbrev pub IsFate : Row → Outcome → Fate → Type 0
IsFate row NoRoom fate.NoRoom = Unit {0}
IsFate row (Copied bytes) (fate.Copied pinned) = pinned ≡ not (row.pin == 0)
IsFate row (Spoiled found) (fate.Spoiled kept other) = (kept ≡ row.digest) × (other ≡ found)
IsFate row (ReadRefused count) (fate.Refused n) = n ≡ count
IsFate row _ _ = ⊥

-- of each piece in turn
abbrev pub AreFates : List Row → List Outcome → List Fate → Type 0
AreFates [] [] [] = Unit {0}
AreFates (row ∷ rows) (o ∷ outcomes) (f ∷ fates) = IsFate row o f × AreFates rows outcomes fates
AreFates _ _ _ = ⊥

-- how many blocks of memory a piece takes: all that is read has its own
abbrev pub blocks_taken_by : Row → Outcome → ℕ
blocks_taken_by row NoRoom = 0
blocks_taken_by row _ = row.blocks

-- how many blocks all of them take
abbrev pub taken_by_all : List Row → List Outcome → ℕ
taken_by_all [] outcomes = 0
taken_by_all (row ∷ rows) [] = 0
taken_by_all (row ∷ rows) (o ∷ outcomes) = blocks_taken_by row o + taken_by_all rows outcomes

-- the document of a piece that is copied stands in memory, so many blocks from its front
abbrev pub StandsAt : ℕ → Row → Outcome → List ℕ → Type 0
StandsAt at row (Copied bytes) memory = take (512 * row.blocks) (drop (512 * at) memory) ≡ bytes
StandsAt at row _ memory = Unit {0}

-- one behind the other
abbrev pub StandFrom : ℕ → List Row → List Outcome → List ℕ → Type 0
StandFrom at [] outcomes memory = Unit {0}
StandFrom at (row ∷ rows) [] memory = Unit {0}
StandFrom at (row ∷ rows) (o ∷ outcomes) memory = StandsAt at row o memory × StandFrom (at + blocks_taken_by row o) rows outcomes memory

-- what is due at a moment was looked at within the budget, over a device at these two moments
pub record LooksAhead (now : ℕ) (s : State) (before after : Device) (a : Ahead) : Type 0 where
  pub outcomes : List Outcome
  pub due : a.due.items ≡ due_candidates s now
  pub few : length a.due.items ≤ most_passed s.geometry
  pub fates : AreFates (due_pieces s now) outcomes a.fates.items
  pub stand : StandFrom 0 (due_pieces s now) outcomes a.bytes.items
  -- a device that tells its content shows each piece as it was placed
  pub unharmed : TellsAll after → TellNoDamage (front_of (due_pieces s now) outcomes)
  -- and what is copied is what is seen there
  pub exact : TellsAll after → AreAsSeen s.geometry (content_of before) (due_pieces s now) outcomes
  pub goes : IsAfter before after
  pub faults : HasEffects before.past after.past (effects_among outcomes)
  pub counted : AllByRecursion (CountsUpTo after.faults) outcomes
  pub are : (p : Permit) → Covers p before.past after.past → AreOutcomes p s (budget_of s.geometry) (due_pieces s now) outcomes
