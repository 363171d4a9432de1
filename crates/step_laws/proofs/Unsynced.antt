-- What a stripe does of syncs it does as one that syncs, and in one group of records.
use Rattle.std.proofs.Common.{◌≡◌, List, sym, ◌∙◌, subst, refl, Bool, true, false}
use Rattle.std.specs.Prelude.{◌&&◌, ◌||◌, nat_lt}
use Rattle.std.proofs.lemmas.Bool.{and_parts, lt-ltb}
use Rattle.cache_model.specs.declared.record.Rec.{Rec}
use Rattle.cache_model.specs.State.{State}
use Rattle.cache_model.specs.Permit.{Permit, End, Stays}
use Rattle.cache_model.specs.Room.{is_flush_exhausted}
use Rattle.cache_model.specs.Syncing
use Rattle.cache_model.specs.Syncing.{DoesCleanSync, DoesSync, DoesSyncStep, MaySyncBehind, Syncing, Unmarks, must_unmark}
use Rattle.cache_model.specs.Legal
use Rattle.cache_model.specs.Legal.{CanFlush, DoesDrain}
use Rattle.cache_model.proofs.Found.{no_truth}

-- ---- by a stripe that syncs alone

pub sync_on : {p : Permit} {k : Syncing} {s : State} {added : List Rec} {e : End} → DoesSync p k s added e → p.syncs ≡ true
sync_on (Syncing.DoesSync.goes m) = m.can.may.syncs
sync_on (Syncing.DoesSync.stops count m) = m.can.may.syncs
sync_on (Syncing.DoesSync.empty m) = m.can.may.syncs
sync_on (Syncing.DoesSync.empty_stops count m) = m.can.may.syncs
sync_on (Syncing.DoesSync.stays count can first c) = can.may.syncs
sync_on (Syncing.DoesSync.exhausted may high is) = may.syncs
sync_on (Syncing.DoesSync.runs serial on quiet parts runs is) = on

pub step_on : {p : Permit} {s : State} {last : Bool} {added : List Rec} {e : End} → DoesSyncStep p s last added e → p.syncs ≡ true
step_on (Syncing.DoesSyncStep.none on quiet none is) = on
step_on (Syncing.DoesSyncStep.part on quiet runs front is) = on
step_on (Syncing.DoesSyncStep.ends on quiet runs end is) = on
step_on (Syncing.DoesSyncStep.stays count on quiet c) = on

pub drain_on : {p : Permit} {s : State} {added : List Rec} {e : End} → DoesDrain p s added e → p.syncs ≡ true
drain_on (Legal.DoesDrain.still_open on quiet some is) = on
drain_on (Legal.DoesDrain.empty on quiet none filled is) = on
drain_on (Legal.DoesDrain.stays count on quiet none filled c) = on
drain_on (Legal.DoesDrain.syncs none some d) = sync_on d

pub clean_on : {p : Permit} {s : State} {added : List Rec} {e : End} → DoesCleanSync p s added e → p.syncs ≡ true
clean_on (Syncing.DoesCleanSync.moving on quiet some is) = on
clean_on (Syncing.DoesCleanSync.runs serial on quiet none running is) = on
clean_on (Syncing.DoesCleanSync.syncs on quiet none rests below is) = on
clean_on (Syncing.DoesCleanSync.stops count on quiet none rests below c is) = on
clean_on (Syncing.DoesCleanSync.exhausted on quiet none rests high is) = on

pub must_of : {p : Permit} {s : State} {added : List Rec} {e : End} → Unmarks p s added e → must_unmark p s ≡ true
must_of (Syncing.Unmarks.unmarks m below is) = m.must
must_of (Syncing.Unmarks.stays count m below c) = m.must
must_of (Syncing.Unmarks.stops count m below marked c is) = m.must
must_of (Syncing.Unmarks.exhausted m high is) = m.must

pub unmark_on : {p : Permit} {s : State} {added : List Rec} {e : End} → Unmarks p s added e → p.syncs ≡ true
unmark_on {p} {s} u = (and_parts p.syncs s.marked (must_of u)).0

-- so another one does none of it
pub never : {X : Type 0} {b : Bool} → b ≡ false → b ≡ true → X
never off on = no_truth (sym on ∙ off)

-- and takes no mark back
pub unmarked_where : (p : Permit) (s : State) → p.syncs ≡ false → must_unmark p s ≡ false
unmarked_where p s off = subst (λ t. (t && s.marked) ≡ false) (sym off) refl

-- ---- in one group

pub sync_ends : {p : Permit} {k : Syncing} {s : State} {added : List Rec} {e : End} → DoesSync p k s added e → e ≡ Stays → ⊥
sync_ends (Syncing.DoesSync.goes m) h = cc
sync_ends (Syncing.DoesSync.stops count m) h = cc
sync_ends (Syncing.DoesSync.empty m) h = cc
sync_ends (Syncing.DoesSync.empty_stops count m) h = cc
sync_ends (Syncing.DoesSync.stays count can first c) h = cc
sync_ends (Syncing.DoesSync.exhausted may high is) h = cc
sync_ends (Syncing.DoesSync.runs serial on quiet parts runs is) h = cc

pub step_ends : {p : Permit} {s : State} {last : Bool} {added : List Rec} {e : End} → DoesSyncStep p s last added e → e ≡ Stays → ⊥
step_ends (Syncing.DoesSyncStep.none on quiet none is) h = cc
step_ends (Syncing.DoesSyncStep.part on quiet runs front is) h = cc
step_ends (Syncing.DoesSyncStep.ends on quiet runs end is) h = cc
step_ends (Syncing.DoesSyncStep.stays count on quiet c) h = cc

pub drain_ends : {p : Permit} {s : State} {added : List Rec} {e : End} → DoesDrain p s added e → e ≡ Stays → ⊥
drain_ends (Legal.DoesDrain.still_open on quiet some is) h = cc
drain_ends (Legal.DoesDrain.empty on quiet none filled is) h = cc
drain_ends (Legal.DoesDrain.stays count on quiet none filled c) h = cc
drain_ends (Legal.DoesDrain.syncs none some d) h = sync_ends d h

pub clean_ends : {p : Permit} {s : State} {added : List Rec} {e : End} → DoesCleanSync p s added e → e ≡ Stays → ⊥
clean_ends (Syncing.DoesCleanSync.moving on quiet some is) h = cc
clean_ends (Syncing.DoesCleanSync.runs serial on quiet none running is) h = cc
clean_ends (Syncing.DoesCleanSync.syncs on quiet none rests below is) h = cc
clean_ends (Syncing.DoesCleanSync.stops count on quiet none rests below c is) h = cc
clean_ends (Syncing.DoesCleanSync.exhausted on quiet none rests high is) h = cc

-- ---- where a buffer is written out a flush may be made

neither : (a b : Bool) → (a || b) ≡ false → a ≡ false
neither false b h = refl
neither true b h = no_truth h

not_other : (a b : Bool) → a ≡ true → (a && b) ≡ false → b ≡ false
not_other true b is h = h
not_other false b is h = no_truth (sym is)

pub may_flush : {p : Permit} {k : Syncing} {s : State} {added : List Rec} → MaySyncBehind p k s added → CanFlush s
may_flush {s = s} m = record {
  quiet = m.can.may.quiet;
  filled = m.filled;
  below = not_other (nat_lt 0 s.filled) (is_flush_exhausted s) (lt-ltb 0 s.filled m.filled) (neither (nat_lt 0 s.filled && is_flush_exhausted s) _ m.can.below);
}
