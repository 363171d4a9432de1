-- No place of a session reaches the limit.
use Rattle.std.proofs.Common.{◌≡◌, ◌⊎◌, ℕ, ◌+◌, ◌<◌, ◌≤◌, List, [], ◌∷◌, ◌++◌, refl, sym, ◌∙◌, ap, subst, arith, Bool, false, inl, inr, append_assoc}
use Rattle.std.specs.Prelude.{Option, length, map, max, option_to_list}
use Rattle.std.specs.List.{AllByRecursion}
use Rattle.std.proofs.lemmas.Bool.{leb-false}
use Rattle.device_log.specs.Calls.{Call}
use Rattle.tape_base.specs.declared.digests.Digest.{Digest}
use Rattle.tape_base.specs.declared.geometries.Geometry.{Geometry}
use Rattle.tape_base.specs.declared.pieces.PieceId.{PieceId}
use Rattle.tape_base.specs.Blocks.{blocks_of}
use Rattle.tape_base.specs.Digest.{digest_of}
use Rattle.tape_base.specs.Geometry.{budget_of}
use Rattle.doc_header.specs.Reading.{document_digest}
use Rattle.doc_header.specs.Moving.{moved_to}
use Rattle.cache_model.specs.declared.answer.NextAnswer.{NextAnswer}
use Rattle.cache_model.specs.declared.findings.FoundRow.{FoundRow}
use Rattle.cache_model.specs.declared.record.Rec.{Rec}
use Rattle.cache_model.specs.declared.record.Rec.TheVariants as rec
use Rattle.cache_model.specs.Due.{due_pieces}
use Rattle.cache_model.specs.Legal
use Rattle.cache_model.specs.Legal.{Advances, Does, IsLegal, Course, MayFlush, MayGrow, MayPlaceFragment, MayPlaceVector, format_records, more, next_fragment_of, nothing, vector_length}
use Rattle.cache_model.specs.Opening.{Opening}
use Rattle.cache_model.specs.Openings.{IsOpening, opened_records}
use Rattle.cache_model.specs.Outcomes.{AreOutcomes, Copy, Outcome, began_record, copies_of, flush_tail, front_of, moved_record, moved_records}
use Rattle.cache_model.specs.Permit.{Permit, Setting, Intent, Flush, Sync, SyncBegin, SyncStep, Drain, CleanSync, Write, Fragment, Overflow, Weigh, Finish, Commit, GiveUp, Remove, Look, ReadOn, ReadAll, StopReading, End, Work, Reason}
use Rattle.cache_model.specs.Room.{copies_end, is_flush_exhausted, limit}
use Rattle.cache_model.specs.State.{State, Row, after_all, blocks_of_row, moved_row, nothing_yet, place_now, row_in, row_of, row_of_found, state_after, without, AllAlong}
use Rattle.cache_model.specs.Syncing.{AtOnce, InParts, MaySyncBehind, Syncing, WhereDue, at_first, behind_records, first_records}
use Rattle.cache_model.specs.Tape.{AreApart, AreRising, IsSound}
use Rattle.cache_model.proofs.Aside.{AllAside, IsAside, aside_leaves, lookup_aside, one_aside, reading_on_aside}
use Rattle.cache_model.proofs.Copies.{AreReady, blocks_of_copies, others_stand, rows_of, still_ready}
use Rattle.cache_model.proofs.Onward.{later_advanced, legal_is_sound}
use Rattle.cache_model.proofs.Rows.{ArePart, apart-part}
use Rattle.cache_model.proofs.Sound.{AllLeaveTape, IsLater, LeavesTape, buffer_left, displaced_leave}
use Rattle.cache_model.proofs.SoundFlush.{copies_part, copies_ready, copies_within, due_part, front_aside, front_leaves, part_ready, stopped_aside}
use Rattle.cache_model.proofs.Steps.{after_all-append, all_append, along_append}
use Rattle.cache_model.proofs.Syncing.{AllLeaveSyncs, AreOfSyncs, after_syncs, all_resynced, behind_of, clean_aside, drain_splits, first_of, front_leaves_syncs, step_aside, sync_splits, syncs_aside, unmark_aside}
use Rattle.model_laws.specs.TapeLaws.{EndsBelow, FoundBelow, IsBelow, RowBelow}
use Rattle.step_laws.proofs.Unsynced.{may_flush}

-- ---- numbers

first_below : (c f b rest top : ℕ) → c + f + (b + rest) < top → c + f + b < top
first_below c f b rest top h = omega (arith, h)

rest_below : (c f b rest top : ℕ) → c + f + (b + rest) < top → c + (f + b) + rest < top
rest_below c f b rest top h = omega (arith, h)

filled_below : (c f b top : ℕ) → c + f + b < top → c + (f + b) < top
filled_below c f b top h = omega (arith, h)

none_below : (n top : ℕ) → n + 0 < top → n < top
none_below n top h = omega (arith, h)

half_below : (next sum half top : ℕ) → sum ≤ half → next + half < top → next + 0 + sum < top
half_below next sum half top few h = omega (arith, few, h)

begins_below : (next half top : ℕ) → next + half < top → next < top
begins_below next half top h = omega (arith, h)

-- ---- records, and the buffer behind them

-- each of them ends below the limit, and so does the buffer behind them all
abbrev StaysBelow : State → List Rec → Type 0
StaysBelow s recs = AllAlong EndsBelow s recs × (place_now (after_all s recs) < limit)

leaves_below : (s : State) (r : Rec) → LeavesTape r → EndsBelow s r
leaves_below s (rec.Opened geometry serial cursor floor next_put clean list) h = absurd h
leaves_below s (rec.Began cursor floor) h = absurd h
leaves_below s (rec.Placed piece place blocks digest pin) h = absurd h
leaves_below s (rec.Moved piece from place digest) h = absurd h
leaves_below s _ h = tt

all_leave_below : (s : State) (recs : List Rec) → AllLeaveTape recs → AllAlong EndsBelow s recs
all_leave_below s [] h = tt
all_leave_below s (r ∷ recs) h = (leaves_below s r h.0, all_leave_below (state_after s r) recs h.1)

-- the next place is as it was behind records that leave the tape
place_left : (s : State) (recs : List Rec) → AllLeaveTape recs → place_now (after_all s recs) ≡ place_now s
place_left s recs leave =
    let buffer = buffer_left s recs leave in
    ap (λ (x : ℕ). x + (after_all s recs).filled) buffer.1 ∙ ap (λ (x : ℕ). s.cursor + x) buffer.2

leaving : (s : State) (added other : List Rec) → added ≡ other → AllLeaveTape other → place_now s < limit → StaysBelow s added
leaving s added other is leave below =
    let all : AllLeaveTape added = subst AllLeaveTape (sym is) leave in
    (all_leave_below s added all, subst (λ n. n < limit) (sym (place_left s added all)) below)

-- others behind them
behind_below : (s : State) (a b : List Rec) → AllAlong EndsBelow s a → StaysBelow (after_all s a) b → StaysBelow s (a ++ b)
behind_below s a b front h =
    (along_append EndsBelow s a b front h.0, subst (λ (t : State). place_now t < limit) (sym (after_all-append s a b)) h.1)

-- ---- a piece that is placed

inserted : (s : State) (before : List Rec) (piece : PieceId) (blocks : ℕ) (digest : Digest) (pin : ℕ) → AllLeaveTape before → place_now s + blocks < limit
    → StaysBelow s (before ++ rec.Placed piece (place_now s) blocks digest pin ∷ [])
inserted s before piece blocks digest pin leave below =
    let m : State = after_all s before in
    let there : place_now m + blocks < limit = subst (λ n. n + blocks < limit) (sym (place_left s before leave)) below in
    behind_below s before (rec.Placed piece (place_now s) blocks digest pin ∷ []) (all_leave_below s before leave)
    ((below, tt), filled_below m.cursor m.filled blocks limit there)

-- ---- the copies of a flush

-- copies that were planned for one state, in another one with the same buffer and the same rows
moved_below : (t u : State) (copies : List Copy) → t.cursor ≡ u.cursor → t.filled ≡ u.filled → t.rows ≡ u.rows → AreApart (rows_of copies) → AreReady u.rows (rows_of copies)
    → place_now u + blocks_of_copies copies < limit → StaysBelow t (moved_records u copies)
moved_below t u [] cursor filled rows apart ready below =
    let same : place_now t ≡ place_now u = ap (λ (x : ℕ). x + t.filled) cursor ∙ ap (λ (x : ℕ). u.cursor + x) filled in
    (tt, subst (λ n. n < limit) (sym same) (none_below (place_now u) limit below))
moved_below t u (c ∷ copies) cursor filled rows apart ready below =
    let digest : Digest = document_digest (moved_to (place_now u) c.bytes) in
    let moved : Rec = moved_record u c in
    let left : ℕ = blocks_of_copies copies in
    let in_u : blocks_of_row (row_of u c.row.id) ≡ c.row.blocks = ap blocks_of_row ready.0.0 in
    let in_t : blocks_of_row (row_of t c.row.id) ≡ c.row.blocks = ap (λ (rs : List Row). blocks_of_row (row_in rs c.row.id)) rows ∙ in_u in
    let next : place_now (state_after u moved) + left < limit =
    subst (λ b. u.cursor + (u.filled + b) + left < limit) (sym in_u) (rest_below u.cursor u.filled c.row.blocks left limit below) in
    let others : StaysBelow (state_after t moved) (moved_records (state_after u moved) copies) =
    moved_below (state_after t moved) (state_after u moved) copies cursor
    (ap (λ (x : ℕ). x + blocks_of_row (row_of t c.row.id)) filled ∙ ap (λ (x : ℕ). u.filled + x) (in_t ∙ sym in_u))
    (ap (λ (rs : List Row). without c.row.id rs ++ map (moved_row (place_now u) digest) (option_to_list (row_in rs c.row.id))) rows)
    apart.1 (still_ready u.rows (state_after u moved).rows c.row.id (others_stand u c) (rows_of copies) apart.0 ready.1) next in
    ((subst (λ b. place_now u + b < limit) (sym in_t) (first_below u.cursor u.filled c.row.blocks left limit below), others.0), others.1)

-- behind records that leave the tape, and the rows as the pieces that are not copied leave them
tail_below : (p : Permit) (s : State) (before : List Rec) (outcomes : List Outcome) → IsSound s → AllLeaveTape before
    → (after_all s before).rows ≡ (after_all s (front_of (due_pieces s p.now) outcomes)).rows
    → AreOutcomes p s (budget_of s.geometry) (due_pieces s p.now) outcomes → is_flush_exhausted s ≡ false
    → StaysBelow s (before ++ flush_tail s (due_pieces s p.now) outcomes)
tail_below p s before outcomes h leave rows are fits =
    let due : List Row = due_pieces s p.now in
    let copies : List Copy = copies_of due outcomes in
    let part : ArePart due s.rows = due_part s p.now in
    let apart : AreApart due = apart-part part h.apart in
    let half : copies_end s < limit = leb-false limit (copies_end s) fits in
    let t : State = state_after (after_all s before) (began_record s) in
    let u : State = state_after (after_all s (front_of due outcomes)) (began_record s) in
    let sum : blocks_of_copies copies ≤ budget_of s.geometry = copies_within p s (budget_of s.geometry) due outcomes are in
    let moved : StaysBelow t (moved_records u copies) =
    moved_below t u copies refl refl rows (apart-part (copies_part due outcomes) apart) (copies_ready s due outcomes apart (part_ready s due h part))
    (half_below u.cursor (blocks_of_copies copies) (budget_of s.geometry) limit sum half) in
    behind_below s before (flush_tail s due outcomes) (all_leave_below s before leave)
    ((begins_below u.cursor (budget_of s.geometry) limit half, moved.0), moved.1)

flushed : (p : Permit) (s : State) (added : List Rec) → MayFlush p s added → IsSound s → StaysBelow s added
flushed p s added m h =
    let front : List Rec = front_of (due_pieces s p.now) m.outcomes in
    subst (StaysBelow s) (sym m.is) (tail_below p s front m.outcomes h (front_leaves (due_pieces s p.now) m.outcomes) refl m.are m.can.below)

-- records of syncs leave the rows
rows_left : (s : State) (first front behind : List Rec) → AreOfSyncs first → AllLeaveSyncs front → AreOfSyncs behind
    → (after_all s ((first ++ front) ++ behind)).rows ≡ (after_all s front).rows
rows_left s first front behind of_first leave of_behind =
    let m : State = after_all s (first ++ front) in
    ap (λ (t : State). t.rows) (after_all-append s (first ++ front) behind ∙ after_syncs m behind of_behind)
    ∙ ap (λ (t : State). t.rows)
    (after_all-append s first front ∙ (ap (λ t. after_all t front) (after_syncs s first of_first) ∙ all_resynced (after_all s first) s front leave))

goes_below : (p : Permit) (k : Syncing) (s : State) (added : List Rec) → MaySyncBehind p k s added → IsSound s → StaysBelow s added
goes_below p k s added m h =
    let due : List Row = due_pieces s p.now in
    let first : List Rec = first_records k s in
    let front : List Rec = front_of due m.outcomes in
    let behind : List Rec = behind_records k (at_first k s) in
    let tail : List Rec = flush_tail s due m.outcomes in
    let aside : AllAside ((first ++ front) ++ behind) =
    all_append IsAside (first ++ front) behind (all_append IsAside first front (syncs_aside first (first_of k s)) (front_aside due m.outcomes)) (syncs_aside behind (behind_of k (at_first k s))) in
    let split : ((first ++ front) ++ behind) ++ tail ≡ added = append_assoc (first ++ front) behind tail ∙ (append_assoc first front (behind ++ tail) ∙ sym m.is) in
    let rows = rows_left s first front behind (first_of k s) (front_leaves_syncs due m.outcomes) (behind_of k (at_first k s)) in
    subst (StaysBelow s) split (tail_below p s ((first ++ front) ++ behind) m.outcomes h (aside_leaves ((first ++ front) ++ behind) aside) rows m.are (may_flush m).below)

-- ---- what a group makes of the tape

-- it leaves the tape, writes the buffer out, with syncs or without, or places a piece
pub data Taped (p : Permit) (s : State) (added : List Rec) : Type 0 where
  leaves : AllLeaveTape added → Taped p s added
  flushes : MayFlush p s added → Taped p s added
  goes : (k : Syncing) → MaySyncBehind p k s added → Taped p s added
  cuts : (put index : ℕ) (payload : List ℕ) → MayPlaceFragment p s put index payload added → Taped p s added
  lists : (put fragments : ℕ) → MayPlaceVector p s put fragments added → Taped p s added

left_as : {p : Permit} {s : State} {added : List Rec} (other : List Rec) → added ≡ other → AllLeaveTape other → Taped p s added
left_as other is leave = leaves (subst AllLeaveTape (sym is) leave)

none_added : {p : Permit} {s : State} {added : List Rec} → added ≡ [] → Taped p s added
none_added is = left_as [] is tt

beside : {p : Permit} {s : State} {added : List Rec} → AllAside added → Taped p s added
beside {added = added} aside = leaves (aside_leaves added aside)

synced : {p : Permit} {k : Syncing} {s : State} {added : List Rec} → MaySyncBehind p k s added ⊎ AllAside added → Taped p s added
synced {k = k} split = elim split [ inl m ↦ goes k m | inr aside ↦ beside aside ]

stopped : {p : Permit} {s : State} {count : ℕ} {added : List Rec} → Legal.MayStop p s count added → Taped p s added
stopped {p} {s} {count} m = left_as _ m.is (aside_leaves _ (stopped_aside (due_pieces s p.now) m.outcomes count))

roomed : (p : Permit) (s : State) (bytes : ℕ) (added : List Rec) (e : End) → Legal.MakesRoom p s bytes added e → Taped p s added
roomed p s bytes added e (Legal.MakesRoom.flushes x m) = flushes m
roomed p s bytes added e (Legal.MakesRoom.stops count x m) = stopped m
roomed p s bytes added e (Legal.MakesRoom.exhausted x q is) = none_added is
roomed p s bytes added e (Legal.MakesRoom.syncs f x d is) = synced (sync_splits p WhereDue s added f d)

read_on : (p : Permit) (s : State) (reader : ℕ) (answer : NextAnswer) (added : List Rec) → Legal.MayReadOn p s reader answer added → Taped p s added
read_on p s reader answer added m = left_as _ m.is (aside_leaves _ (reading_on_aside p s reader answer added m))

pub taped : (p : Permit) (s : State) (i : Intent) (added : List Rec) (e : End) → Does p s i added e → Taped p s added
taped p s Flush added e (Legal.DoesFlush.empty q f is) = none_added is
taped p s Flush added e (Legal.DoesFlush.flushes m) = flushes m
taped p s Flush added e (Legal.DoesFlush.stops count m) = stopped m
taped p s Flush added e (Legal.DoesFlush.exhausted q f b is) = none_added is
taped p s Flush added e (Legal.DoesFlush.syncs d) = synced (sync_splits p WhereDue s added e d)
taped p s Sync added e d = synced (sync_splits p AtOnce s added e d)
taped p s SyncBegin added e d = synced (sync_splits p InParts s added e d)
taped p s (SyncStep last) added e d = beside (step_aside p s last added e d)
taped p s Drain added e d = synced (drain_splits p s added e d)
taped p s CleanSync added e d = beside (clean_aside p s added e d)
taped p s (Write actor key request response pin) added e (Legal.DoesWrite.opens m) = left_as _ m.is (tt, tt)
taped p s (Write actor key request response pin) added e (Legal.DoesWrite.many q m is) = none_added is
taped p s (Write actor key request response pin) added e (Legal.DoesWrite.exhausted q m l is) = none_added is
taped p s (Fragment put index payload) added e (Legal.DoesFragment.unmarks w n q d) = beside (unmark_aside p s added e d)
taped p s (Fragment put index payload) added e (Legal.DoesFragment.places d m) = cuts put index payload m
taped p s (Fragment put index payload) added e (Legal.DoesFragment.rooms w n m) = roomed p s _ added e m
taped p s (Fragment put index payload) added e (Legal.DoesFragment.exhausted w x n q) = none_added q.is
taped p s (Overflow put) added e (Legal.DoesOverflow.aborts w q l is) = left_as _ is (tt, tt)
taped p s (Weigh put rest) added e (Legal.DoesWeigh.weighs w q r f is) = none_added is
taped p s (Weigh put rest) added e (Legal.DoesWeigh.too_large w q r f is) = left_as _ is (tt, tt)
taped p s (Weigh put rest) added e (Legal.DoesWeigh.damaged w row found q live d is) = left_as _ is (tt, tt)
taped p s (Weigh put rest) added e (Legal.DoesWeigh.faulted w row count q live r m is) = left_as _ is (tt, tt)
taped p s (Finish put fragments) added e (Legal.DoesFinish.unmarks w c l q d) = beside (unmark_aside p s added e d)
taped p s (Finish put fragments) added e (Legal.DoesFinish.places d m) = lists put fragments m
taped p s (Finish put fragments) added e (Legal.DoesFinish.rooms w c m) = roomed p s _ added e m
taped p s (Finish put fragments) added e (Legal.DoesFinish.exhausted w x c l q) = none_added q.is
taped p s (Finish put fragments) added e (Legal.DoesFinish.loses w index d m is) = left_as _ is (tt, tt)
taped p s (Commit put) added e (Legal.DoesCommit.commits w f o q is) = left_as _ is (tt, tt)
taped p s (GiveUp put) added e (Legal.DoesGiveUp.aborts w q is) = left_as _ is (tt, tt)
taped p s (GiveUp put) added e (Legal.DoesGiveUp.over q o is) = none_added is
taped p s (Remove key) added e (Legal.DoesRemove.removes row q l is) = left_as _ is (tt, tt)
taped p s (Remove key) added e (Legal.DoesRemove.absent q l is) = none_added is
taped p s (Look actor key request) added e (Legal.DoesLook.looks m) =
    left_as _ m.is (aside_leaves _ (all_append IsAside m.before _ (lookup_aside p s key request m.before m.answer m.right) one_aside))
taped p s (ReadOn reader) added e (Legal.DoesReadOn.reads_on answer m) = read_on p s reader answer added m
taped p s (ReadAll reader) added e (Legal.DoesReadAll.reads_on answer x m y) = read_on p s reader answer added m
taped p s (ReadAll reader) added e (Legal.DoesReadAll.has_none q x is y) = none_added is
taped p s (StopReading reader) added e (Legal.DoesStopReading.closes r q l is) = left_as _ is (tt, tt)
taped p s (StopReading reader) added e (Legal.DoesStopReading.closed q l is) = none_added is

group_below : (p : Permit) (s : State) (added : List Rec) → Taped p s added → IsSound s → place_now s < limit → StaysBelow s added
group_below p s added (leaves leave) h below = leaving s added added refl leave below
group_below p s added (flushes m) h below = flushed p s added m h
group_below p s added (goes k m) h below = goes_below p k s added m h
group_below p s added (cuts put index payload m) h below =
    let before : List Rec = rec.Cut put index (length payload) (digest_of payload) ∷ m.displaced in
    subst (StaysBelow s) (sym m.is)
    (inserted s before (next_fragment_of m.w) (blocks_of (length payload)) _ m.w.pin (tt, displaced_leave p s _ m.displaced m.displaces) m.place.below)
group_below p s added (lists put fragments m) h below =
    subst (StaysBelow s) (sym m.is)
    (inserted s m.displaced _ (blocks_of (vector_length s put)) _ _ (displaced_leave p s _ m.displaced m.displaces) m.place.below)

-- ---- steps and chronicles

advanced_below : (p : Permit) (s : State) (is : List Intent) (why : Option Reason) (added : List Rec) (after : Work) → Advances p s is why added after
    → IsSound s → place_now s < limit → StaysBelow s added
advanced_below p s [] why added after a h below = absurd a
advanced_below p s (i ∷ is) why added after a h below = group_below p s added (taped p s i added a.0 a.1) h below

grown_below : {p : Permit} {s : State} {w after : Work} {recs : List Rec} → MayGrow p s w recs after → IsSound s → place_now s < limit → StaysBelow s recs
grown_below nothing h below = (tt, below)
grown_below {p} {s} {w} (more {rest = tail} added between one others) h below =
    let first : StaysBelow s added = advanced_below p s w.intents w.refused added between one h below in
    let later : IsLater s (after_all s added) = later_advanced p s w.intents w.refused added between one h in
    behind_below s added tail first.0 (grown_below others later.sound first.1)

format_below : (geometry : Geometry) → StaysBelow nothing_yet (format_records geometry)
format_below geometry =
    let content : geometry.content < limit = omega (arith, geometry.accepted.content_fits.1) in
    ((tt, (content, tt)), omega (arith, content))

found_below : (low : ℕ) (found : List FoundRow) (high : ℕ) → AreRising low (map row_of_found found) high → high < limit → AllByRecursion FoundBelow found
found_below low [] high h below = tt
found_below low (f ∷ found) high h below = (omega (arith, h.2, below), found_below (f.place + 1) found high h.3 below)

opening_below : (packed : Bool) (g : Geometry) (o : Opening) → IsOpening packed g o → StaysBelow nothing_yet (opened_records g o)
opening_below packed g o h =
    ((found_below (max g.content o.floor) o.found o.cursor h.rising h.copy.below, (h.copy.below, tt)), omega (arith, h.copy.below))

stays_below : (setting : Setting) (past : List Call) (courses : List Course) (recs : List Rec) → IsLegal setting past courses recs → StaysBelow nothing_yet recs
stays_below setting past courses recs (Legal.IsLegal.begins geometry) = format_below geometry
stays_below setting past courses recs (Legal.IsLegal.opens geometry o opening) = opening_below setting.packed geometry o opening
stays_below setting past courses recs (Legal.IsLegal.steps {before = before} {added = added} course e legal step) =
    let first : StaysBelow nothing_yet before = stays_below setting _ _ before legal in
    behind_below nothing_yet before added first.0 (grown_below step.grows (legal_is_sound setting _ _ before legal) first.1)
stays_below setting past courses recs (Legal.IsLegal.tells call is legal) = stays_below setting _ courses recs legal

pub places_stay_below : (setting : Setting) (past : List Call) (courses : List Course) (recs : List Rec) → IsLegal setting past courses recs → AllAlong EndsBelow nothing_yet recs
places_stay_below setting past courses recs legal = (stays_below setting past courses recs legal).0

rows_below : (low : ℕ) (rows : List Row) (high : ℕ) → AreRising low rows high → high < limit → AllByRecursion RowBelow rows
rows_below low [] high h below = tt
rows_below low (row ∷ rows) high h below = (omega (arith, h.2, below), rows_below (row.place + 1) rows high h.3 below)

pub legal_is_below : (setting : Setting) (past : List Call) (courses : List Course) (recs : List Rec) → IsLegal setting past courses recs → IsBelow (after_all nothing_yet recs)
legal_is_below setting past courses recs legal =
    let s : State = after_all nothing_yet recs in
    let below : place_now s < limit = (stays_below setting past courses recs legal).1 in
    record { buffer = below; rows = rows_below s.geometry.content s.rows (place_now s) (legal_is_sound setting past courses recs legal).rising below }
