-- What a call cannot make up.
use Rattle.std.specs.Prelude.{ℕ, ◌≡◌, ◌+◌, ◌*◌, true, List, [], ◌∷◌, length, Some}
use Rattle.device_log.specs.Calls.{Asked, ToRead, Call, Read, RefusedCall}
use Rattle.tape_base.specs.declared.keys.Key.{Key}
use Rattle.tape_base.specs.Place.{block_of}
use Rattle.alternate_vector.specs.Field.{Field}
use Rattle.cache_model.specs.declared.record.Rec.{Rec}
use Rattle.cache_model.specs.declared.record.Rec.TheVariants as rec
use Rattle.cache_model.specs.State.{Row}
use Rattle.cache_model.specs.Kept.{state_of}
use Rattle.cache_model.specs.Verdict.{live_vector_of}
use Rattle.cache_model.specs.Permit.{IsAmong, Look}
use Rattle.cache_model.specs.Given.{IsWritten}
use Rattle.cache_model.specs.Pair.{Documents}
use Rattle.call_laws.specs.Moments.{At, Facts}
use Rattle.call_laws.specs.Progress.{AllDone}
use Rattle.call_laws.specs.Happens.{Happens}
use Rattle.call_laws.specs.Serves.{ServesFrom}

-- a fault that was recorded is a call that failed, with its count
abbrev pub FaultsAreRefusals : Type 0
FaultsAreRefusals =
    (a b : At) (calls : List Call) (added : List Rec) (count : ℕ)
    → Happens a b calls added → IsAmong (rec.Fault count) added
    → (asked : Asked) × IsAmong (RefusedCall asked count) calls

-- and a call that failed is a fault that was recorded
abbrev pub RefusalsAreFaults : Type 0
RefusalsAreFaults =
    (a b : At) (calls : List Call) (added : List Rec) (asked : Asked) (count : ℕ)
    → Happens a b calls added → IsAmong (RefusedCall asked count) calls → IsAmong (rec.Fault count) added

-- in one of these calls the device was asked for so many blocks from one on: it gave that many bytes, or failed
pub data WasAsked (block blocks : ℕ) (calls : List Call) : Type 0 where
  gave : (bytes : List ℕ) → length bytes ≡ 512 * blocks → IsAmong (Read block bytes) calls → WasAsked block blocks calls
  failed : (count : ℕ) → IsAmong (RefusedCall (ToRead block blocks) count) calls → WasAsked block blocks calls

-- a lookup whose key has a live vector that was written out asked the device for it in its own calls, also where it shows a
-- pair
abbrev pub LookupsAsk : Documents → (before known : Facts) → Type 0
LookupsAsk IsPlaced before known =
    (now : ℕ) (a b : At) (actor : ℕ) (key : Key) (request : List Field) (row : Row)
    → (call : ServesFrom IsPlaced now a b (Look actor key request ∷ []) AllDone before known)
    → before (state_of a.kept)
    → live_vector_of (state_of a.kept) key ≡ Some row → IsWritten (state_of a.kept) row
    → WasAsked (block_of (state_of a.kept).geometry row.place) row.blocks call.calls
