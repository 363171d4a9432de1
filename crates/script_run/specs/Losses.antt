-- The pieces of a session that were lost: displaced or damaged, and none by a fault of the device.
use Rattle.std.specs.Prelude.{◌≡◌, Bool, true, false, List}
use Rattle.std.specs.List.{AllByRecursion}
use Rattle.tape_base.specs.declared.pieces.PieceId.{PieceId}
use Rattle.tape_base.specs.declared.geometries.Geometry.{Geometry}
use Rattle.cache_model.specs.declared.cause.Cause.{Cause}
use Rattle.cache_model.specs.declared.cause.Cause.TheVariants as cause
use Rattle.cache_model.specs.declared.record.Rec.{Rec}
use Rattle.cache_model.specs.State.{State, after_all}
use Rattle.cache_model.specs.Legal.{format_records}

-- the cause is a fault of the device
abbrev pub is_fault : Cause → Bool
is_fault (cause.DeviceFault count) = true
is_fault _ = false

-- no piece was lost by a fault: pieces are displaced or damaged
abbrev pub NoLossIsAFault : State → Type 0
NoLossIsAFault s = AllByRecursion (λ (lost : PieceId × Cause). is_fault lost.1 ≡ false) s.lost

-- behind a format no piece was lost
abbrev pub FormatsLoseNone : Type 0
FormatsLoseNone = (s : State) (geometry : Geometry) → NoLossIsAFault (after_all s (format_records geometry))

-- and whatever records follow, none is lost by a fault
abbrev pub LossesStay : Type 0
LossesStay = (s : State) (added : List Rec) → NoLossIsAFault s → NoLossIsAFault (after_all s added)
