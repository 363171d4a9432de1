-- What records make of what syncs hold.
use Rattle.std.proofs.Common.{◌≡◌, ℕ, ◌≤◌, List, [], ◌∷◌, Bool, Some, None, refl, sym, ◌∙◌, ap, inl, inr, arith}
use Rattle.std.specs.List.{AllByRecursion}
use Rattle.tape_base.specs.declared.geometries.Geometry.{Geometry}
use Rattle.std.proofs.lemmas.Bool.{eq-eqb}
use Rattle.cache_model.specs.declared.record.Rec.{Rec}
use Rattle.cache_model.specs.declared.record.Rec.TheVariants as rec
use Rattle.cache_model.specs.Opening.{Opening}
use Rattle.cache_model.specs.Permit.{IsAmong}
use Rattle.cache_model.specs.Openings.{opened_records}
use Rattle.cache_model.specs.Verdict.{lookup_verdict}
use Rattle.cache_model.specs.declared.answer.ReadAnswer.TheVariants as read
use Rattle.cache_model.specs.declared.cause.Cause.TheVariants as cause
use Rattle.alternate_vector.specs.Field.{Field}
use Rattle.tape_base.specs.declared.keys.Key.{Key}
use Rattle.step_laws.specs.PlaceLaws.{vector_found}
use Rattle.cache_model.specs.State.{State, Mark, after_all, mark_now, mark_of, row_in, state_after}
use Rattle.cache_model.specs.Syncs.{Follows, IsAllowed}
use Rattle.cache_model.proofs.Found.{no_truth}
use Rattle.session_laws.specs.SyncLaws.{BeginsAtMark, FinishesNone, HoldsWhatStood, LeavesSync, StaysInSession}

mark_stays : (s : State) (serial : ℕ) (r : Rec) → LeavesSync serial r → mark_of (state_after s r) serial ≡ mark_of s serial
mark_stays s serial (rec.Formatted geometry) h = no_truth h
mark_stays s serial (rec.Opened geometry number cursor floor next_put clean list) h = no_truth h
mark_stays s serial (rec.SyncBegun number cursor clean in_parts) h = rw h refl
mark_stays s serial _ h = refl

mark-left : (s : State) (serial : ℕ) (recs : List Rec) → AllByRecursion (LeavesSync serial) recs → mark_of (after_all s recs) serial ≡ mark_of s serial
mark-left s serial [] h = refl
mark-left s serial (r ∷ recs) h = mark-left (state_after s r) serial recs h.1 ∙ mark_stays s serial r h.0

pub sync_is_held : (s : State) (serial cursor : ℕ) (clean in_parts : Bool) (behind : List Rec) → AllByRecursion (LeavesSync serial) behind
    → (m : Mark) × (mark_of (after_all s (rec.SyncBegun serial cursor clean in_parts ∷ behind)) serial ≡ Some m) × HoldsWhatStood s cursor clean m
sync_is_held s serial cursor clean in_parts behind h = (
  mark_now s serial cursor clean,
  mark-left (state_after s (rec.SyncBegun serial cursor clean in_parts)) serial behind h ∙ rw (eq-eqb serial serial refl) refl,
  record { cursor_is = refl; clean_is = refl; number = refl; floor = λ e. rw e refl; bound = λ e. rw e refl; rows = refl },
)

among_stays : (s : State) (m : Mark) (r : Rec) → StaysInSession r → IsAmong m s.marks → IsAmong m (state_after s r).marks
among_stays s m (rec.Formatted geometry) h among = no_truth h
among_stays s m (rec.Opened geometry number cursor floor next_put clean list) h among = no_truth h
among_stays s m (rec.SyncBegun number cursor clean in_parts) h among = inr among
among_stays s m _ h among = among

pub marks_stay : (s : State) (m : Mark) (recs : List Rec) → AllByRecursion StaysInSession recs → IsAmong m s.marks → IsAmong m (after_all s recs).marks
marks_stay s m [] h among = among
marks_stay s m (r ∷ recs) h among = marks_stay (state_after s r) m recs h.1 (among_stays s m r h.0 among)

finished_stays : (s : State) (r : Rec) → FinishesNone r → (state_after s r).finished ≡ s.finished
finished_stays s (rec.Formatted geometry) h = no_truth h
finished_stays s (rec.Opened geometry number cursor floor next_put clean list) h = no_truth h
finished_stays s (rec.SyncDone serial) h = no_truth h
finished_stays s _ h = refl

finished-left : (s : State) (recs : List Rec) → AllByRecursion FinishesNone recs → (after_all s recs).finished ≡ s.finished
finished-left s [] h = refl
finished-left s (r ∷ recs) h = finished-left (state_after s r) recs h.1 ∙ finished_stays s r h.0

pub finished_is_last : (s : State) (serial : ℕ) (behind : List Rec) → AllByRecursion FinishesNone behind
    → (after_all s (rec.SyncDone serial ∷ behind)).finished ≡ serial
finished_is_last s serial behind h = finished-left (state_after s (rec.SyncDone serial)) behind h

pub only_later_are_allowed : (s : State) (serial : ℕ) (behind : List Rec) (m : Mark) → AllByRecursion FinishesNone behind
    → IsAllowed (after_all s (rec.SyncDone serial ∷ behind)) m → serial ≤ m.serial
only_later_are_allowed s serial behind m h allowed =
    let last = finished_is_last s serial behind h in
    let above : (after_all s (rec.SyncDone serial ∷ behind)).finished ≤ m.serial = allowed.1 in
    omega (arith, last, above)

pub follower_has_sync : (s t : State) (geometry : Geometry) (o : Opening) (f : Follows s geometry o) → BeginsAtMark f.mark (after_all t (opened_records geometry o))
follower_has_sync s t geometry o f = record {
  pieces = λ id. ap (λ (m : Mark). row_in m.rows id) f.taken;
  number = ap (λ (m : Mark). m.next_put) f.taken;
  least = ap (λ (m : Mark). m.low) f.taken;
  cursor = ap (λ (m : Mark). m.cursor) f.taken;
  finished = ap (λ (m : Mark). m.serial) f.taken;
  marked = ap (λ (m : Mark). m.clean) f.taken;
  serial = ap (λ (m : Mark). Some m.serial) f.taken;
  quiet = refl;
}

pub follower_allows_sync : (s t : State) (geometry : Geometry) (o : Opening) (f : Follows s geometry o)
    → IsAllowed (after_all t (opened_records geometry o)) (record f.mark { end = o.cursor })
follower_allows_sync s t geometry o f =
    let serial : o.serial ≡ f.mark.serial = ap (λ (m : Mark). m.serial) f.taken in
    (inl (sym f.taken), omega (arith, serial))

pub opened_is_told : (t : State) (geometry : Geometry) (o : Opening) (key : Key) (request : List Field) → vector_found o.found key ≡ None
    → lookup_verdict (after_all t (opened_records geometry o)) key request ≡ read.Miss (cause.BeforeOpening o.serial)
opened_is_told t geometry o key request none = rw none refl
