-- The state behind records that are added one list behind the other.
use Rattle.std.proofs.Common.{◌≡◌, List, [], ◌++◌, ap, append_assoc, append-nil}
use Rattle.cache_model.specs.declared.record.Rec.{Rec}
use Rattle.cache_model.specs.State.{after_all}
use Rattle.cache_model.specs.Kept.{Kept, state_of, with_records}
use Rattle.cache_model.proofs.Steps.{after_all-append}

-- the state behind more records
pub state_of-with_records : (k : Kept) (recs : List Rec) → state_of (with_records k recs) ≡ after_all (state_of k) recs
state_of-with_records k recs = after_all-append k.base k.since recs

-- some, and others behind them
pub with_records-append : (k : Kept) (a b : List Rec) → with_records (with_records k a) b ≡ with_records k (a ++ b)
with_records-append k a b = ap (λ recs. record { told = k.told; base = k.base; since = recs }) (append_assoc k.since a b)

pub with_records-nil : (k : Kept) → with_records k [] ≡ k
with_records-nil k = ap (λ recs. record { told = k.told; base = k.base; since = recs }) (append-nil k.since)
