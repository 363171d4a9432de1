-- No group of a flush or a sync stays, and a call that is not among those of a step is none of it.
use Rattle.std.proofs.Common.{◌≡◌, List, [], ◌∷◌, ◌++◌, refl, sym, subst, inl, inr}
use Rattle.device_log.specs.Calls.{Call}
use Rattle.cache_model.specs.declared.record.Rec.{Rec}
use Rattle.cache_model.specs.Given.{AreUpTo}
use Rattle.cache_model.specs.Legal
use Rattle.cache_model.specs.Legal.{DoesFlush}
use Rattle.cache_model.specs.Permit.{End, IsAmong, Permit, Stays}
use Rattle.cache_model.specs.State.{State}
use Rattle.cache_model.specs.Syncing
use Rattle.cache_model.specs.Syncing.{DoesSync, Syncing}

pub sync_ends : {p : Permit} {k : Syncing} {s : State} {added : List Rec} {e : End} → DoesSync p k s added e → e ≡ Stays → ⊥
sync_ends (Syncing.DoesSync.goes m) h = cc
sync_ends (Syncing.DoesSync.stops count m) h = cc
sync_ends (Syncing.DoesSync.empty m) h = cc
sync_ends (Syncing.DoesSync.empty_stops count m) h = cc
sync_ends (Syncing.DoesSync.stays count can first c) h = cc
sync_ends (Syncing.DoesSync.exhausted may high is) h = cc
sync_ends (Syncing.DoesSync.runs serial on quiet parts runs is) h = cc

pub flush_ends : {p : Permit} {s : State} (added : List Rec) (e : End) → DoesFlush p s added e → e ≡ Stays → ⊥
flush_ends added e (Legal.DoesFlush.empty quiet none is) h = cc
flush_ends added e (Legal.DoesFlush.flushes m) h = cc
flush_ends added e (Legal.DoesFlush.stops count m) h = cc
flush_ends added e (Legal.DoesFlush.exhausted quiet some high is) h = cc
flush_ends added e (Legal.DoesFlush.syncs d) h = sync_ends d h

stands : (call : Call) (later older : List Call) → IsAmong call (later ++ (call ∷ older))
stands call [] older = inl refl
stands call (x ∷ later) older = inr (stands call later older)

-- a call up to which a step came is one of it
pub is_among : (p : Permit) (call : Call) (older : List Call) → AreUpTo p (call ∷ older) → IsAmong call p.events
is_among p call older upto = subst (IsAmong call) (sym upto.is) (stands call upto.later older)
