-- The calls of a format that its device stopped.
use Rattle.std.proofs.Common.{◌≡◌, ℕ, ◌/◌, List, [], ◌∷◌, length, refl, sym, subst, inl, inr}
use Rattle.device_log.specs.Calls.{Asked, Call, Read, RefusedCall, Synced, ToRead, ToSync, ToWrite, Wrote}
use Rattle.device_log.specs.Along.{Stopped}
use Rattle.cache_model.specs.Permit.{IsAmong}

-- a call that was refused is in the log
pub stopped_refused : (calls : List Call) (count : ℕ) (old new : List Call) → Stopped calls count old new → (asked : Asked) × IsAmong (RefusedCall asked count) new
stopped_refused [] count old new stopped = absurd stopped
stopped_refused (Wrote at bytes ∷ calls) count old new (inl refused) =
    (ToWrite at (length bytes / 512) refused.0, subst (IsAmong (RefusedCall (ToWrite at (length bytes / 512) refused.0) count)) (sym refused.1) (inl refl))
stopped_refused (Read at bytes ∷ calls) count old new (inl refused) =
    (ToRead at (length bytes / 512), subst (IsAmong (RefusedCall (ToRead at (length bytes / 512)) count)) (sym refused) (inl refl))
stopped_refused (Synced ∷ calls) count old new (inl refused) = (ToSync, subst (IsAmong (RefusedCall ToSync count)) (sym refused) (inl refl))
stopped_refused (_ ∷ calls) count old new (inl refused) = absurd refused
stopped_refused (call ∷ calls) count old new (inr later) = stopped_refused calls count (call ∷ old) new later
