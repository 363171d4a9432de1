-- How what is due is looked at, piece by piece.
use Rattle.std.specs.Prelude.{ℕ, ◌≡◌, ◌≢◌, ◌+◌, ◌-◌, ◌*◌, ◌<◌, ◌≤◌, ◌==◌, Bool, false, not, if◌then◌else◌, List, [], ◌∷◌, ◌++◌, length, map, nat_le, slice_get, slice_index, slice_index_or, take, Some}
use Rattle.std.specs.List.{AllByRecursion}
use Rattle.tape_base.specs.declared.geometries.Geometry.{Geometry}
use Rattle.tape_base.specs.Geometry.{budget_of}
use Rattle.logged_disk.specs.Device.{DeviceState as Device, IsAfter, TellsAll, seen as content_of}
use Rattle.doc_header.specs.Reading.{document_digest}
use Rattle.evacuator.specs.declared.choosing.Candidate.{Candidate}
use Rattle.evacuator.specs.Choice.{blocks_of_all}
use Rattle.cache_model.specs.State.{Row, State, after_all, live_row_of}
use Rattle.cache_model.specs.Permit.{Permit}
use Rattle.cache_model.specs.Given.{IsWritten}
use Rattle.cache_model.specs.Outcomes.{AreOutcomes, Copied, IsOutcome, Outcome, front_of, records_of}
use Rattle.cache_model.specs.Due.{candidate_of, most_passed}
use Rattle.piece_answers.specs.declared.ahead.Ahead.{Ahead}
use Rattle.piece_answers.specs.declared.ahead.Fate.{Fate}
use Rattle.piece_answers.specs.declared.ahead.Fate.TheVariants as fate
use Rattle.piece_answers.specs.Ahead.{AreFates, IsFate, IsMadeFor, StandFrom, StandsAt, blocks_taken_by, taken_by_all}
use Rattle.piece_answers.specs.Faults.{CountsUpTo, HasEffects, effects_among, effects_of}
use Rattle.piece_answers.specs.Covers.{Covers}
use Rattle.cache_model.specs.Damage.{TellNoDamage}
use Rattle.piece_answers.specs.Standing.{AreAsSeen, IsAsSeen}

-- the piece is live, and is not in the buffer any more
pub record MayBeCopied (s : State) (row : Row) : Type 0 where
  pub live : live_row_of s row.id ≡ Some row
  pub written : IsWritten s row

-- the candidates are such pieces
pub record AreOfRows (s : State) (candidates : List Candidate) (rows : List Row) : Type 0 where
  pub each : AllByRecursion (MayBeCopied s) rows
  pub are : candidates ≡ map candidate_of rows

-- there are such pieces for the candidates, one for each and in their order
pub record HasCandidateRows (s : State) (candidates : List Candidate) : Type 0 where
  pub rows : List Row
  pub of : AreOfRows s candidates rows

-- there is such a piece for the candidate
pub record HasRow (s : State) (c : Candidate) : Type 0 where
  pub row : Row
  pub may : MayBeCopied s row
  pub is : c ≡ candidate_of row

-- what is due stands in memory that is made for it: such pieces, and no more than the floor passes
pub record HasCandidates (s : State) (a : Ahead) : Type 0 where
  pub ahead : IsMadeFor s.geometry a
  pub rows : HasCandidateRows s a.due.items
  pub few : length a.due.items ≤ most_passed s.geometry

-- the memory is as before, and the same is due and is kept
pub record StaysMade (g : Geometry) (old new : Ahead) : Type 0 where
  pub ahead : IsMadeFor g new
  pub due : new.due ≡ old.due
  pub kept : new.kept ≡ old.kept

-- how many blocks of memory the piece at an index takes
abbrev pub blocks_kept : List Candidate → List Bool → ℕ → ℕ
blocks_kept candidates kept i = if slice_index_or kept i false then slice_index (blocks_of_all candidates) i else 0

-- bytes that were read are the document of the piece, or have another digest
abbrev pub IsJudgedAs : Row → List ℕ → Fate → Type 0
IsJudgedAs row bytes (fate.Copied pinned) = (row.digest ≡ document_digest bytes) × (pinned ≡ not (row.pin == 0))
IsJudgedAs row bytes (fate.Spoiled kept found) = (kept ≡ row.digest) × (found ≡ document_digest bytes) × (row.digest ≢ document_digest bytes)
IsJudgedAs row bytes _ = ⊥

-- of these bytes it is a copy, where it is copied
abbrev pub IsCopiedFrom : List ℕ → Outcome → Type 0
IsCopiedFrom bytes (Copied read) = read ≡ bytes
IsCopiedFrom bytes _ = Unit {0}

-- the same geometry and buffer, and no fault later than the device's
pub record IsBeside (s : State) (device : Device) (t : State) : Type 0 where
  pub geometry : t.geometry ≡ s.geometry
  pub cursor : t.cursor ≡ s.cursor
  pub fault : t.fault ≤ device.faults

-- what came of a read of a piece into these bytes, over a device at these two moments: in any such state
pub record Comes (s : State) (before after : Device) (row : Row) (f : Fate) (bytes : List ℕ) : Type 0 where
  pub outcome : Outcome
  pub fate : IsFate row outcome f
  pub copy : IsCopiedFrom bytes outcome
  pub taken : blocks_taken_by row outcome ≡ row.blocks
  pub count : CountsUpTo after.faults outcome
  pub unharmed : TellsAll after → TellNoDamage (records_of row outcome)
  pub exact : TellsAll after → IsAsSeen s.geometry (content_of before) row outcome
  pub faults : HasEffects before.past after.past (effects_of outcome)
  pub is : (p : Permit) (t : State) (left : ℕ) → Covers p before.past after.past → IsBeside s before t → row.blocks ≤ left
      → IsOutcome p t left row outcome

-- one piece more was looked at: so many blocks of memory are taken before it, and so many behind it
pub record LooksOn (s : State) (before after : Device) (row : Row) (at end : ℕ) (old new : Ahead) : Type 0 where
  pub outcome : Outcome
  pub note : Fate
  pub notes : new.fates.items ≡ old.fates.items ++ note ∷ []
  pub fate : IsFate row outcome note
  pub stands : StandsAt at row outcome new.bytes.items
  pub stay : take (512 * at) new.bytes.items ≡ take (512 * at) old.bytes.items
  pub taken : end ≡ at + blocks_taken_by row outcome
  pub count : CountsUpTo after.faults outcome
  pub unharmed : TellsAll after → TellNoDamage (records_of row outcome)
  pub exact : TellsAll after → IsAsSeen s.geometry (content_of before) row outcome
  pub faults : HasEffects before.past after.past (effects_of outcome)
  pub is : (p : Permit) (t : State) → Covers p before.past after.past → IsBeside s before t
      → IsOutcome p t (budget_of s.geometry - at) row outcome

-- the piece at an index is the next one: so many blocks of memory are taken, and by them the budget keeps it or does not
pub record IsNextToLook (s : State) (i at : ℕ) (a : Ahead) : Type 0 where
  pub within : i < length a.due.items
  pub fates : length a.fates.items ≡ i
  pub room : at ≤ budget_of s.geometry
  pub choice : slice_get a.kept.items i ≡ Some (nat_le (slice_index (blocks_of_all a.due.items) i + at) (budget_of s.geometry))

-- it was looked at, over a device at these two moments: what came of it is noted, and so many blocks are taken then
pub record LooksAt (s : State) (before after : Device) (i at end : ℕ) (old new : Ahead) : Type 0 where
  pub fates : length new.fates.items ≡ i + 1
  pub taken : end ≡ at + blocks_kept old.due.items old.kept.items i
  pub room : end ≤ budget_of s.geometry
  pub looks : (row : Row) → slice_get old.due.items i ≡ Some (candidate_of row) → MayBeCopied s row → LooksOn s before after row at end old new

-- the pieces of these rows were looked at within the budget, and so many blocks of memory are taken
pub record HasLookedAhead (s : State) (before after : Device) (rows : List Row) (end : ℕ) (a : Ahead) : Type 0 where
  pub outcomes : List Outcome
  pub fates : AreFates rows outcomes a.fates.items
  pub stand : StandFrom 0 rows outcomes a.bytes.items
  pub taken : end ≡ taken_by_all rows outcomes
  pub unharmed : TellsAll after → TellNoDamage (front_of rows outcomes)
  pub exact : TellsAll after → AreAsSeen s.geometry (content_of before) rows outcomes
  pub goes : IsAfter before after
  pub faults : HasEffects before.past after.past (effects_among outcomes)
  pub counted : AllByRecursion (CountsUpTo after.faults) outcomes
  pub are : (p : Permit) → Covers p before.past after.past → AreOutcomes p s (budget_of s.geometry) rows outcomes
  -- behind their records the buffer stands where it stood, and no fault is later than the device's
  pub beside : IsBeside s after (after_all s (front_of rows outcomes))
