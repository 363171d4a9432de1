-- A faithful device tells no trouble, but of a payload that is not the one that is listed, which the records fix; and it
-- gives no two documents for one piece: what is asked fixes the records of a group and how it ends, the digests of copies too.
use Rattle.std.proofs.Common.{◌≡◌, ◌⊎◌, ℕ, ◌+◌, ◌<◌, List, [], ◌∷◌, ◌++◌, refl, sym, ◌∙◌, ap, subst, arith, Bool, true, false, inl, inr}
use Rattle.std.specs.Prelude.{Option, Some, None, cond, map, option_and_then}
use Rattle.tape_base.specs.declared.digests.Digest.{Digest}
use Rattle.tape_base.specs.declared.keys.Key.{Key}
use Rattle.tape_base.specs.declared.pieces.PieceId.{PieceId}
use Rattle.tape_base.specs.Geometry.{budget_of}
use Rattle.alternate_vector.specs.Field.{Field}
use Rattle.fragment_table.specs.Table.{TableRow}
use Rattle.cache_model.specs.declared.cause.Cause.{Cause}
use Rattle.cache_model.specs.declared.answer.ReadAnswer.{ReadAnswer}
use Rattle.cache_model.specs.declared.answer.NextAnswer.{NextAnswer}
use Rattle.cache_model.specs.declared.answer.NextAnswer.TheVariants as next
use Rattle.cache_model.specs.declared.record.Rec.{Rec}
use Rattle.cache_model.specs.declared.record.Rec.TheVariants as rec
use Rattle.cache_model.specs.State.{State, Row, ReaderRow, cursor_next, floor_next, live_row_of, reader_of}
use Rattle.cache_model.specs.Verdict.{digest_in, live_vector_of, next_piece, next_row, vector_of}
use Rattle.cache_model.specs.Permit.{Permit, Intent, Flush, Sync, SyncBegin, SyncStep, Drain, CleanSync, Write, Fragment, Overflow, Weigh, Finish, Commit, GiveUp, Remove, Look, ReadOn, ReadAll, StopReading, End, Stays, Done}
use Rattle.model_laws.specs.Choices.{IsFaithful}
use Rattle.cache_model.specs.Given
use Rattle.cache_model.specs.Given.{Trouble, damage_cause, damage_record}
use Rattle.cache_model.specs.Legal
use Rattle.cache_model.specs.Legal.{Does, DoesReadAll, DoesReadOn, IsLookup, IsNextAsListed, IsReading, IsUnlike, MakesRoom, MayFlush, MayReadOn, ReadTrouble, answer_record, is_given}
use Rattle.cache_model.specs.Tape.{IsSound}
use Rattle.cache_model.specs.Due.{due_pieces}
use Rattle.cache_model.specs.Outcomes.{flush_records, front_of}
use Rattle.cache_model.proofs.Sound.{AllLeaveTape}
use Rattle.model_laws.specs.Agreeing.{IsUntroubled, TellTheSame, is_trouble, without_copy_digest}
use Rattle.model_laws.proofs.Below
use Rattle.model_laws.proofs.Below.{Taped, taped}
use Rattle.model_laws.proofs.Calm.{groups_agree}
use Rattle.model_laws.proofs.Undisplaced.{none_displaced}
use Rattle.step_laws.proofs.Alike.{reads_self}
use Rattle.model_laws.proofs.FixedFlush.{IsLive, flush_untroubled, no_count, no_damage, outcomes_are_fixed}
use Rattle.cache_model.proofs.Found.{no_truth, none_is, same_some}
use Rattle.step_laws.proofs.Unsynced.{clean_on, drain_on, never, step_on, sync_on, unmark_on}

-- ---- what is asked for

no_trouble : {p : Permit} {s : State} {row : Row} {before : List Rec} {why : Cause} → IsFaithful p s → IsLive s row → Trouble p s row before why → ⊥
no_trouble {s = s} still live (Given.Trouble.faulted count written counts) = no_count count still counts
no_trouble {s = s} still live (Given.Trouble.damaged found damaged) = no_damage still live (reads_self s) damaged

live_by : (s : State) (o : Option PieceId) (row : Row) → option_and_then (live_row_of s) o ≡ Some row → IsLive s row
live_by s None row h = none_is h
live_by s (Some id) row h = (id, h)

-- a key's live vector is a live piece
live_vector : (s : State) (key : Key) (row : Row) → live_vector_of s key ≡ Some row → IsLive s row
live_vector s key row h = live_by s (vector_of s key) row h

lookup_plain : {p : Permit} {s : State} {key : Key} {request : List Field} {before : List Rec} {answer : ReadAnswer} → IsFaithful p s → IsLookup p s key request before answer → before ≡ []
lookup_plain still (Legal.IsLookup.verdict read) = refl
lookup_plain {s = s} {key = key} still (Legal.IsLookup.trouble row before why live trouble) = absurd (no_trouble still (live_vector s key row live) trouble)

-- of a fragment that comes next this device tells only that its payload is not the one that is listed
pub record IsUnlikeNext (row : Row) (entry : TableRow) (before : List Rec) (why : Cause) : Type 0 where
  pub found : Digest
  pub unlike : IsUnlike row entry found
  pub record_is : before ≡ damage_record row (digest_in entry) found ∷ []
  pub cause_is : why ≡ damage_cause row (digest_in entry) found

unlike_next : {p : Permit} {s : State} (r : ReaderRow) {row : Row} {entry : TableRow} {before : List Rec} {why : Cause} → IsFaithful p s → live_row_of s (next_piece r) ≡ Some row
    → ReadTrouble p s row entry before why → IsUnlikeNext row entry before why
unlike_next r still live (Legal.ReadTrouble.troubled before why trouble) = absurd (no_trouble still (next_piece r, live) trouble)
unlike_next r still live (Legal.ReadTrouble.mismatched found read unlike) = record { found = found; unlike = unlike; record_is = refl; cause_is = refl }

-- which the verdict excludes
not_as_listed : (s : State) (r : ReaderRow) {row : Row} {entry : TableRow} {before : List Rec} {why : Cause} → IsNextAsListed s r → next_row s r ≡ Some entry
    → live_row_of s (next_piece r) ≡ Some row → IsUnlikeNext row entry before why → ⊥
not_as_listed s r {row} {entry} listed next live u =
    u.unlike.differ (sym (listed entry row next live u.unlike.payload u.unlike.has) ∙ sym u.unlike.found_is)

-- and of which there is one digest
one_digest : {row : Row} {entry : TableRow} {a b : List Rec} {x y : Cause} (one : IsUnlikeNext row entry a x) (other : IsUnlikeNext row entry b y) → (a ≡ b) × (x ≡ y)
one_digest {row = row} {entry = entry} one other =
    let payload : one.unlike.payload ≡ other.unlike.payload = same_some one.unlike.payload other.unlike.payload row.payload one.unlike.has other.unlike.has in
    let found : one.found ≡ other.found = one.unlike.found_is ∙ (ap digest_in payload ∙ sym other.unlike.found_is) in (
      one.record_is ∙ (ap (λ d. damage_record row (digest_in entry) d ∷ []) found ∙ sym other.record_is),
      one.cause_is ∙ (ap (damage_cause row (digest_in entry)) found ∙ sym other.cause_is),
    )

-- so the next fragment has one answer
same_reading : {p : Permit} {s : State} {r : ReaderRow} {a b : List Rec} {x y : NextAnswer} → IsFaithful p s → IsReading p s r a x → IsReading p s r b y → (a ≡ b) × (x ≡ y)
same_reading still (Legal.IsReading.verdict read listed) (Legal.IsReading.verdict other as_listed) = (refl, refl)
same_reading {s = s} {r = r} still (Legal.IsReading.verdict read listed) (Legal.IsReading.trouble entry row before why next live trouble) =
    absurd (not_as_listed s r listed next live (unlike_next r still live trouble))
same_reading {s = s} {r = r} still (Legal.IsReading.trouble entry row before why next live trouble) (Legal.IsReading.verdict read listed) =
    absurd (not_as_listed s r listed next live (unlike_next r still live trouble))
same_reading {s = s} {r = r} still (Legal.IsReading.trouble entry row before why comes live trouble) (Legal.IsReading.trouble other its b w comes2 live2 trouble2) =
    let one : IsUnlikeNext row entry before why = unlike_next r still live trouble in
    let two : IsUnlikeNext its other b w = unlike_next r still live2 trouble2 in
    let entries : other ≡ entry = same_some other entry (next_row s r) comes2 comes in
    let rows : its ≡ row = same_some its row (live_row_of s (next_piece r)) live2 live in
    let same = one_digest one (subst (λ e. IsUnlikeNext row e b w) entries (subst (λ x. IsUnlikeNext x other b w) rows two)) in
    (same.0, ap next.Broke same.1)

read_record : ℕ → List Rec → NextAnswer → List Rec
read_record reader before answer = before ++ answer_record reader answer ∷ []

same_next : {p : Permit} {s : State} {reader : ℕ} {x y : NextAnswer} {a b : List Rec} → IsFaithful p s → MayReadOn p s reader x a → MayReadOn p s reader y b → (a ≡ b) × (x ≡ y)
unfolding read_record
same_next {p} {s} {reader} {x} {y} still m n =
    let reader_is : n.r ≡ m.r = same_some n.r m.r (reader_of s reader) n.reading m.reading in
    let same = same_reading still m.right (subst (λ r. IsReading p s r n.before y) reader_is n.right) in
    (m.is ∙ (ap (λ rs. read_record reader rs x) same.0 ∙ (ap (read_record reader n.before) same.1 ∙ sym n.is)), same.1)

same_read_on : {p : Permit} {s : State} {reader : ℕ} {a b : List Rec} {e f : End} → IsFaithful p s → DoesReadOn p s reader a e → DoesReadOn p s reader b f → (a ≡ b) × (e ≡ f)
same_read_on still (Legal.DoesReadOn.reads_on x m) (Legal.DoesReadOn.reads_on y n) = ((same_next still m n).0, refl)

same_read_all : {p : Permit} {s : State} {reader : ℕ} {a b : List Rec} {e f : End} → IsFaithful p s → DoesReadAll p s reader a e → DoesReadAll p s reader b f → (a ≡ b) × (e ≡ f)
same_read_all still (Legal.DoesReadAll.reads_on x hit m is) (Legal.DoesReadAll.reads_on y hit2 n is2) =
    let same = same_next still m n in
    (same.0, is ∙ (ap (λ z. cond (is_given z) Stays Done) same.1 ∙ sym is2))
same_read_all still (Legal.DoesReadAll.reads_on x hit m is) (Legal.DoesReadAll.has_none quiet none is2 end) = no_truth (sym hit ∙ none)
same_read_all still (Legal.DoesReadAll.has_none quiet none is end) (Legal.DoesReadAll.reads_on y hit n is2) = no_truth (sym hit ∙ none)
same_read_all still (Legal.DoesReadAll.has_none quiet none is end) (Legal.DoesReadAll.has_none quiet2 none2 is2 end2) = (is ∙ sym is2, end ∙ sym end2)

-- ---- each group

-- no record, or one that tells no trouble
none_untroubled : {added : List Rec} → added ≡ [] → IsUntroubled added
none_untroubled is = subst IsUntroubled (sym is) tt

one_untroubled : {added : List Rec} (r : Rec) → is_trouble r ≡ false → added ≡ r ∷ [] → IsUntroubled added
one_untroubled r calm is = subst IsUntroubled (sym is) (calm, tt)

-- or one behind records that are none
behind_untroubled : {added before : List Rec} (r : Rec) → is_trouble r ≡ false → before ≡ [] → added ≡ before ++ r ∷ [] → IsUntroubled added
behind_untroubled r calm none is = one_untroubled r calm (is ∙ ap (λ recs. recs ++ r ∷ []) none)

flushed_untroubled : {p : Permit} {s : State} {added : List Rec} → IsSound s → IsFaithful p s → MayFlush p s added → IsUntroubled added
flushed_untroubled {p} {s} sound still m = subst IsUntroubled (sym m.is) (flush_untroubled p s p.now (budget_of s.geometry) m.outcomes sound still m.are)

roomed_untroubled : {p : Permit} {s : State} {bytes : ℕ} {added : List Rec} {e : End} → IsSound s → p.syncs ≡ false → IsFaithful p s → MakesRoom p s bytes added e → IsUntroubled added
roomed_untroubled sound off still (Legal.MakesRoom.flushes room flush) = flushed_untroubled sound still flush
roomed_untroubled sound off still (Legal.MakesRoom.stops count room stop) = absurd (no_count count still stop.counts.counts)
roomed_untroubled sound off still (Legal.MakesRoom.exhausted room high none) = none_untroubled none
roomed_untroubled sound off still (Legal.MakesRoom.syncs end room d is) = never off (sync_on d)

-- a reader is asked for what comes next
abbrev reads_on : Intent → Bool
reads_on (ReadOn reader) = true
reads_on (ReadAll reader) = true
reads_on _ = false

group_untroubled : (p : Permit) (s : State) (i : Intent) (added : List Rec) (e : End) → reads_on i ≡ false → IsSound s → p.syncs ≡ false → IsFaithful p s → Does p s i added e → IsUntroubled added
group_untroubled p s Flush added e other sound off still (Legal.DoesFlush.empty quiet is none) = none_untroubled none
group_untroubled p s Flush added e other sound off still (Legal.DoesFlush.flushes flush) = flushed_untroubled sound still flush
group_untroubled p s Flush added e other sound off still (Legal.DoesFlush.stops count stop) = absurd (no_count count still stop.counts.counts)
group_untroubled p s Flush added e other sound off still (Legal.DoesFlush.exhausted quiet some high none) = none_untroubled none
group_untroubled p s Flush added e other sound off still (Legal.DoesFlush.syncs d) = never off (sync_on d)
group_untroubled p s Sync added e other sound off still d = never off (sync_on d)
group_untroubled p s SyncBegin added e other sound off still d = never off (sync_on d)
group_untroubled p s (SyncStep last) added e other sound off still d = never off (step_on d)
group_untroubled p s Drain added e other sound off still d = never off (drain_on d)
group_untroubled p s CleanSync added e other sound off still d = never off (clean_on d)
group_untroubled p s (Write actor key request response pin) added e other sound off still (Legal.DoesWrite.opens m) = one_untroubled _ refl m.is
group_untroubled p s (Write actor key request response pin) added e other sound off still (Legal.DoesWrite.many quiet many none) = none_untroubled none
group_untroubled p s (Write actor key request response pin) added e other sound off still (Legal.DoesWrite.exhausted quiet few high none) = none_untroubled none
group_untroubled p s (Fragment put index payload) added e other sound off still (Legal.DoesFragment.places is m) =
    subst IsUntroubled (sym m.is) (refl, behind_untroubled _ refl (none_displaced still.displaces_nothing m.displaces) refl)
group_untroubled p s (Fragment put index payload) added e other sound off still (Legal.DoesFragment.unmarks w cut place u) = never off (unmark_on u)
group_untroubled p s (Fragment put index payload) added e other sound off still (Legal.DoesFragment.rooms w cut room) = roomed_untroubled sound off still room
group_untroubled p s (Fragment put index payload) added e other sound off still (Legal.DoesFragment.exhausted w is cut none) = none_untroubled none.is
group_untroubled p s (Overflow put) added e other sound off still (Legal.DoesOverflow.aborts w m full is) = one_untroubled _ refl is
group_untroubled p s (Weigh put rest) added e other sound off still (Legal.DoesWeigh.weighs w m read fits is) = none_untroubled is
group_untroubled p s (Weigh put rest) added e other sound off still (Legal.DoesWeigh.too_large w m read large is) = one_untroubled _ refl is
group_untroubled p s (Weigh put rest) added e other sound off still (Legal.DoesWeigh.damaged w row found m live damaged is) = absurd (no_damage still (live_vector s w.key row live) (reads_self s) damaged)
group_untroubled p s (Weigh put rest) added e other sound off still (Legal.DoesWeigh.faulted w row count m live written counts is) = absurd (no_count count still counts)
group_untroubled p s (Finish put fragments) added e other sound off still (Legal.DoesFinish.places is m) = behind_untroubled _ refl (none_displaced still.displaces_nothing m.displaces) m.is
group_untroubled p s (Finish put fragments) added e other sound off still (Legal.DoesFinish.unmarks w cut live place u) = never off (unmark_on u)
group_untroubled p s (Finish put fragments) added e other sound off still (Legal.DoesFinish.rooms w cut room) = roomed_untroubled sound off still room
group_untroubled p s (Finish put fragments) added e other sound off still (Legal.DoesFinish.loses w index is m gone) = one_untroubled _ refl gone
group_untroubled p s (Finish put fragments) added e other sound off still (Legal.DoesFinish.exhausted w is cut whole none) = none_untroubled none.is
group_untroubled p s (Commit put) added e other sound off still (Legal.DoesCommit.commits w found writing pending is) = one_untroubled _ refl is
group_untroubled p s (GiveUp put) added e other sound off still (Legal.DoesGiveUp.aborts w m is) = one_untroubled _ refl is
group_untroubled p s (GiveUp put) added e other sound off still (Legal.DoesGiveUp.over quiet closed is) = none_untroubled is
group_untroubled p s (Remove key) added e other sound off still (Legal.DoesRemove.removes row quiet live is) = one_untroubled _ refl is
group_untroubled p s (Remove key) added e other sound off still (Legal.DoesRemove.absent quiet none is) = none_untroubled is
group_untroubled p s (Look actor key request) added e other sound off still (Legal.DoesLook.looks m) = behind_untroubled _ refl (lookup_plain still m.right) m.is
group_untroubled p s (ReadOn reader) added e other sound off still d = no_truth other
group_untroubled p s (ReadAll reader) added e other sound off still d = no_truth other
group_untroubled p s (StopReading reader) added e other sound off still (Legal.DoesStopReading.closes r quiet reading is) = one_untroubled _ refl is
group_untroubled p s (StopReading reader) added e other sound off still (Legal.DoesStopReading.closed quiet none is) = none_untroubled is

-- ---- one group at most

-- how many buffers the records begin
abbrev buffers_begun : List Rec → ℕ
buffers_begun [] = 0
buffers_begun (rec.Began cursor floor ∷ recs) = 1 + buffers_begun recs
buffers_begun (r ∷ recs) = buffers_begun recs

-- a group that copies nothing tells what it tells without the digests of copies, and begins no buffer
record IsPlain (added : List Rec) : Type 0 where
  same : map without_copy_digest added ≡ added
  begins : buffers_begun added ≡ 0

plain_as : {added : List Rec} (other : List Rec) → added ≡ other → IsPlain other → IsPlain added
plain_as other is h = subst IsPlain (sym is) h

left_plain : (added : List Rec) → AllLeaveTape added → IsPlain added
left_plain [] leave = record { same = refl; begins = refl }
left_plain (rec.Formatted geometry ∷ added) leave = absurd leave.0
left_plain (rec.Opened geometry serial cursor floor next_put clean list ∷ added) leave = absurd leave.0
left_plain (rec.Began cursor floor ∷ added) leave = absurd leave.0
left_plain (rec.Placed piece place blocks digest pin ∷ added) leave = absurd leave.0
left_plain (rec.Moved piece from place digest ∷ added) leave = absurd leave.0
left_plain (r ∷ added) leave = let rest = left_plain added leave.1 in record { same = ap (λ recs. r ∷ recs) rest.same; begins = rest.begins }

-- so does one that places a piece where nothing is displaced; any other flushes
inserted_plain : (displaced : List Rec) (piece : PieceId) (place blocks : ℕ) (digest : Digest) (pin : ℕ) → displaced ≡ [] → IsPlain (displaced ++ rec.Placed piece place blocks digest pin ∷ [])
inserted_plain displaced piece place blocks digest pin none =
    subst (λ recs. IsPlain (recs ++ rec.Placed piece place blocks digest pin ∷ [])) (sym none) (record { same = refl; begins = refl })

cut_plain : (put index length : ℕ) (digest : Digest) (rest : List Rec) → IsPlain rest → IsPlain (rec.Cut put index length digest ∷ rest)
cut_plain put index length digest rest h = record { same = ap (λ recs. rec.Cut put index length digest ∷ recs) h.same; begins = h.begins }

plain_or_flushed : {p : Permit} {s : State} {added : List Rec} → p.syncs ≡ false → IsFaithful p s → Taped p s added → IsPlain added ⊎ MayFlush p s added
plain_or_flushed {added = added} off still (Below.Taped.leaves leave) = inl (left_plain added leave)
plain_or_flushed off still (Below.Taped.flushes m) = inr m
plain_or_flushed off still (Below.Taped.goes k m) = never off m.can.may.syncs
plain_or_flushed off still (Below.Taped.cuts put index payload m) =
    inl (plain_as _ m.is (cut_plain put index _ _ _ (inserted_plain m.displaced _ _ _ _ _ (none_displaced still.displaces_nothing m.displaces))))
plain_or_flushed off still (Below.Taped.lists put fragments m) =
    inl (plain_as _ m.is (inserted_plain m.displaced _ _ _ _ _ (none_displaced still.displaces_nothing m.displaces)))

-- the digests of copies tell of no buffer
begun_without : (added : List Rec) → buffers_begun (map without_copy_digest added) ≡ buffers_begun added
begun_without [] = refl
begun_without (rec.Began cursor floor ∷ added) = ap (λ n. 1 + n) (begun_without added)
begun_without (rec.Moved piece from place digest ∷ added) = begun_without added
begun_without (r ∷ added) = begun_without added

-- a flush begins one
begun_behind : (before rest : List Rec) (cursor floor : ℕ) → 0 < buffers_begun (before ++ rec.Began cursor floor ∷ rest)
begun_behind [] rest cursor floor = omega arith
begun_behind (rec.Began c f ∷ before) rest cursor floor = omega arith
begun_behind (r ∷ before) rest cursor floor = begun_behind before rest cursor floor

not_both : {p : Permit} {s : State} {one other : List Rec} → TellTheSame one other → IsPlain one → MayFlush p s other → ⊥
not_both {p} {s} {one} {other} same plain m =
    let some : 0 < buffers_begun other = subst (λ recs. 0 < buffers_begun recs) (sym m.is) (begun_behind (front_of (due_pieces s p.now) m.outcomes) _ (cursor_next s) (floor_next s)) in
    let none : buffers_begun other ≡ 0 = sym (begun_without other) ∙ (sym (ap buffers_begun same) ∙ (begun_without one ∙ plain.begins)) in
    omega (arith, some, none)

same_records : {p : Permit} {s : State} {one other : List Rec} → IsSound s → IsFaithful p s → TellTheSame one other
    → IsPlain one ⊎ MayFlush p s one → IsPlain other ⊎ MayFlush p s other → one ≡ other
same_records sound still same (inl plain) (inl other) = sym plain.same ∙ (same ∙ other.same)
same_records sound still same (inl plain) (inr m) = absurd (not_both same plain m)
same_records sound still same (inr m) (inl plain) = absurd (not_both (sym same) plain m)
same_records {p} {s} sound still same (inr m) (inr n) =
    m.is ∙ (ap (flush_records s (due_pieces s p.now)) (outcomes_are_fixed p s p.now (budget_of s.geometry) m.outcomes n.outcomes sound still m.are n.are) ∙ sym n.is)

calm_is_fixed : (p : Permit) (s : State) (i : Intent) (one other : List Rec) (e f : End) → reads_on i ≡ false → IsSound s → p.syncs ≡ false → IsFaithful p s
    → Does p s i one e → Does p s i other f → (one ≡ other) × (e ≡ f)
calm_is_fixed p s i one other e f reads sound off still h k =
    let same : TellTheSame one other × (e ≡ f) =
    groups_agree p p s s i one other e f (record { unsynced = off; other_unsynced = off; moment = refl }) refl
    (group_untroubled p s i one e reads sound off still h) (group_untroubled p s i other f reads sound off still k) h k in
    (same_records sound still same.0 (plain_or_flushed off still (taped p s i one e h)) (plain_or_flushed off still (taped p s i other f k)), same.1)

pub group_is_fixed : (p : Permit) (s : State) (i : Intent) (one other : List Rec) (e f : End) → IsSound s → p.syncs ≡ false → IsFaithful p s
    → Does p s i one e → Does p s i other f → (one ≡ other) × (e ≡ f)
group_is_fixed p s (ReadOn reader) one other e f sound off still h k = same_read_on still h k
group_is_fixed p s (ReadAll reader) one other e f sound off still h k = same_read_all still h k
group_is_fixed p s i one other e f sound off still h k = calm_is_fixed p s i one other e f refl sound off still h k
