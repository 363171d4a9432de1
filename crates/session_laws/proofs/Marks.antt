-- Records that begin no session and no sync leave what syncs hold, and with it the next serial.
use Rattle.std.proofs.Common.{◌≡◌, ◌+◌, List, [], ◌∷◌, refl, ◌∙◌, ap, Bool, true, false}
use Rattle.std.specs.Prelude.{if◌then◌else◌, option_map, slice_get, unwrap_or}
use Rattle.std.specs.List.{AllByRecursion}
use Rattle.cache_model.specs.declared.record.Rec.{Rec}
use Rattle.cache_model.specs.declared.record.Rec.TheVariants as rec
use Rattle.cache_model.specs.State.{State, Mark, after_all, state_after}
use Rattle.cache_model.specs.Syncing.{Syncing, ended_records, ends_first, first_records, next_serial}
use Rattle.cache_model.proofs.Steps.{all_as}
use Rattle.cache_model.proofs.Syncing.{LeavesSyncs}
use Rattle.step_laws.proofs.Grouped.{AreEnding, IsEnding, ended_ends}

-- the record begins no session and no sync
abbrev pub LeavesMarks : Rec → Type 0
LeavesMarks (rec.Formatted geometry) = ⊥
LeavesMarks (rec.Opened geometry serial cursor floor next_put clean list) = ⊥
LeavesMarks (rec.SyncBegun serial cursor clean in_parts) = ⊥
LeavesMarks _ = Unit {0}

abbrev pub AllLeaveMarks : List Rec → Type 0
AllLeaveMarks recs = AllByRecursion LeavesMarks recs

syncs_marks : (r : Rec) → LeavesSyncs r → LeavesMarks r
syncs_marks (rec.Formatted geometry) h = h
syncs_marks (rec.Opened geometry serial cursor floor next_put clean list) h = h
syncs_marks (rec.SyncBegun serial cursor clean in_parts) h = h
syncs_marks _ h = tt

pub leave_marks : (recs : List Rec) → AllByRecursion LeavesSyncs recs → AllLeaveMarks recs
leave_marks recs h = all_as LeavesSyncs LeavesMarks syncs_marks recs h

ending_marks : (r : Rec) → IsEnding r → LeavesMarks r
ending_marks (rec.SyncDone serial) h = tt
ending_marks (rec.Fault count) h = tt
ending_marks _ h = absurd h

pub ends_marks : (recs : List Rec) → AreEnding recs → AllLeaveMarks recs
ends_marks recs h = all_as IsEnding LeavesMarks ending_marks recs h

pub ended_marks : (s : State) → AllLeaveMarks (ended_records s)
ended_marks s = ends_marks (ended_records s) (ended_ends s)

pub where_marks : (b : Bool) (recs : List Rec) → AllLeaveMarks recs → AllLeaveMarks (if b then recs else [])
where_marks true recs h = h
where_marks false recs h = tt

pub first_marks : (k : Syncing) (s : State) → AllLeaveMarks (first_records k s)
first_marks k s = where_marks (ends_first k s) (ended_records s) (ended_marks s)

marks_one : (s : State) (r : Rec) → LeavesMarks r → (state_after s r).marks ≡ s.marks
marks_one s (rec.Formatted geometry) h = absurd h
marks_one s (rec.Opened geometry serial cursor floor next_put clean list) h = absurd h
marks_one s (rec.SyncBegun serial cursor clean in_parts) h = absurd h
marks_one s _ h = refl

pub marks_left : (s : State) (recs : List Rec) → AllLeaveMarks recs → (after_all s recs).marks ≡ s.marks
marks_left s [] h = refl
marks_left s (r ∷ recs) h = marks_left (state_after s r) recs h.1 ∙ marks_one s r h.0

-- the next serial stays
pub serial_left : (s : State) (recs : List Rec) → AllLeaveMarks recs → next_serial (after_all s recs) ≡ next_serial s
serial_left s recs h = ap (λ marks. unwrap_or (option_map (λ (m : Mark). m.serial) (slice_get marks 0)) 0 + 1) (marks_left s recs h)
