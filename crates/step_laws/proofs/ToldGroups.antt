-- Each group of records, each step and each legal chronicle leaves vectors that list their alternates.
use Rattle.std.proofs.Common.{◌≡◌, ℕ, ◌+◌, ◌^◌, ◌<◌, ◌≤◌, ◌⊎◌, List, [], ◌∷◌, ◌++◌, length, append_assoc, refl, sym, ◌∙◌, ap, subst, arith, inl, inr, Bool, true, false}
use Rattle.std.specs.Prelude.{Option, Some}
use Rattle.std.proofs.lemmas.Bool.{eqb-true}
use Rattle.std.proofs.lemmas.List.{append-nil}
use Rattle.device_log.specs.Calls.{Call}
use Rattle.tape_base.specs.declared.digests.Digest.{Digest}
use Rattle.tape_base.specs.declared.geometries.Geometry.{Geometry}
use Rattle.tape_base.specs.declared.keys.Key.{Key}
use Rattle.tape_base.specs.declared.pieces.PieceId.{PieceId}
use Rattle.tape_base.specs.Blocks.{blocks_of}
use Rattle.tape_base.specs.Digest.{digest_of}
use Rattle.tape_base.proofs.Bytes.{sha256-small}
use Rattle.tape_base.specs.Geometry.{budget_of}
use Rattle.doc_header.proofs.ReadingLaws.{length-sha256}
use Rattle.fragment_table.specs.Table.{IsRow, made_row}
use Rattle.alternate_vector.specs.Field.{Field}
use Rattle.alternate_vector.specs.Alternates.{Stored}
use Rattle.alternate_vector.proofs.Lengths.{length-vector}
use Rattle.cache_model.specs.declared.record.Rec.{Rec}
use Rattle.cache_model.specs.declared.record.Rec.TheVariants as rec
use Rattle.cache_model.specs.Opening.{Opening}
use Rattle.cache_model.specs.Openings.{IsOpening, opened_records}
use Rattle.cache_model.specs.State.{State, after_all, list_of_put, nothing_yet, opened_put, place_now, placed_row, state_after, state_of_opening, vector_piece}
use Rattle.cache_model.specs.Permit.{Setting, Permit, IsAmong, Intent, Flush, Sync, SyncBegin, SyncStep, Drain, CleanSync, Write, Fragment, Overflow, Weigh, Finish, Commit, GiveUp, Remove, Look, ReadOn, ReadAll, StopReading, End, Work, Reason}
use Rattle.cache_model.specs.Room.{MayDisplace, greatest_pin, has_room}
use Rattle.cache_model.specs.Legal
use Rattle.cache_model.specs.Legal.{Does, Advances, MayGrow, nothing, more, IsStep, IsLegal, Course, format_records, next_fragment_of, vector_length}
use Rattle.cache_model.specs.Due.{due_pieces}
use Rattle.cache_model.specs.Syncing.{AtOnce, InParts, MaySyncBehind, Syncing, WhereDue}
use Rattle.cache_model.specs.Tape.{IsSound}
use Rattle.cache_model.specs.ToRead.{flushes_first}
use Rattle.cache_model.specs.ToRead
use Rattle.cache_model.specs.Pair.{Documents, IsCopyPair, IsPair, IsPairNext, ShowsFrom, ShowsPair}
use Rattle.cache_model.specs.Vectors.{ArePuts, AreTold, AreVectors, IsListed, IsVectorAs}
use Rattle.step_laws.specs.VectorLaws.{IsShownIn}
use Rattle.cache_model.proofs.Steps.{after_all-append, all_append}
use Rattle.cache_model.proofs.Rows.{part_all}
use Rattle.cache_model.proofs.Sound.{AllLeaveTape, IsLater, buffer_left, displaced_leave}
use Rattle.cache_model.proofs.Onward.{later_advanced, legal_is_sound}
use Rattle.cache_model.proofs.Aside.{AllAside, IsAside, lookup_aside, one_aside, reading_on_aside}
use Rattle.cache_model.proofs.Merged.{IsMerged, put_told}
use Rattle.cache_model.proofs.Syncing.{clean_aside, drain_splits, flush_among_syncs, resynced, step_aside, sync_splits, unmark_aside}
use Rattle.step_laws.proofs.Unsynced.{may_flush}
use Rattle.step_laws.proofs.Told.{AreFit, IsBehind, displaced_behind, no_puts, puts_cut, puts_opened, told_aside, vectors_leave, vectors_part, vectors_placed}
use Rattle.step_laws.proofs.ToldFlush.{as_shown, flush_tells, stopped_tells}

-- what a group of records leaves, but for a pair
abbrev Tells : Type 0 → State → List Rec → Type 0
Tells Shown s added = AreTold (after_all s added) ⊎ Shown

-- ---- groups that place nothing

aside : {Shown : Type 0} (s : State) (added other : List Rec) → added ≡ other → AllAside other → AreTold s → Tells Shown s added
aside s added other is h told = inl (told_aside s added (subst AllAside (sym is) h) told)

flushed : (p : Permit) (s : State) (added : List Rec) → Legal.MayFlush p s added → IsSound s → AreTold s → Tells (IsCopyPair IsVectorAs p s p.now (budget_of s.geometry)) s added
flushed p s added m h told = subst (Tells (IsCopyPair IsVectorAs p s p.now (budget_of s.geometry)) s) (sym m.is) (flush_tells p s p.now (budget_of s.geometry) m.outcomes h told m.are)

stopped : {Shown : Type 0} (p : Permit) (s : State) (count : ℕ) (added : List Rec) → Legal.MayStop p s count added → AreTold s → Tells Shown s added
stopped {Shown} p s count added m told = subst (Tells Shown s) (sym m.is) (inl (stopped_tells s (due_pieces s p.now) m.outcomes count told))

-- a pair of a piece to which a flush comes is one of what is asked, where it begins with the flush
pub pair_of_copy : (IsPlaced : Documents) (p : Permit) (s : State) (i : Intent) → flushes_first s i ≡ true → Legal.CanFlush s → IsCopyPair IsPlaced p s p.now (budget_of s.geometry) → IsPair IsPlaced p s i
pair_of_copy IsPlaced p s i first can c = record { row = c.row; read = ToRead.IsToRead.copied first can c.copied; pair = c.pair }

-- what is known of syncs tells nothing of vectors and puts
told_resynced : (u s : State) → AreTold s → AreTold (resynced u s)
told_resynced u s told = record { vectors = vectors_part s (resynced u s) refl (part_all s.rows) told.vectors; puts = told.puts; displaced = told.displaced }

-- a flush among syncs
synced : (p : Permit) (k : Syncing) (s : State) (added : List Rec) → MaySyncBehind p k s added → IsSound s → AreTold s → Tells (IsCopyPair IsVectorAs p s p.now (budget_of s.geometry)) s added
synced p k s added m h told =
    let all = flush_among_syncs p k s added m in
    elim (flush_tells p s p.now (budget_of s.geometry) m.outcomes h told m.are) [
      | inl last ↦ inl (subst AreTold (sym all.1) (told_resynced all.0 _ last))
      | inr pair ↦ inr pair
    ]

-- or what stands beside the pieces
split : (p : Permit) (k : Syncing) (s : State) (i : Intent) (added : List Rec) → flushes_first s i ≡ true → MaySyncBehind p k s added ⊎ AllAside added → IsSound s → AreTold s → Tells (IsPair IsVectorAs p s i) s added
split p k s i added first (inl m) h told = as_shown (pair_of_copy IsVectorAs p s i first (may_flush m)) (synced p k s added m h told)
split p k s i added first (inr beside) h told = aside s added added refl beside told

roomed : (p : Permit) (s : State) (i : Intent) (bytes : ℕ) (added : List Rec) (e : End) → (has_room s bytes ≡ false → flushes_first s i ≡ true) → Legal.MakesRoom p s bytes added e → IsSound s → AreTold s
    → Tells (IsPair IsVectorAs p s i) s added
roomed p s i bytes added e first (Legal.MakesRoom.flushes x m) h told = as_shown (pair_of_copy IsVectorAs p s i (first x) m.can) (flushed p s added m h told)
roomed p s i bytes added e first (Legal.MakesRoom.stops count x m) h told = stopped p s count added m told
roomed p s i bytes added e first (Legal.MakesRoom.exhausted x q is) h told = aside s added [] is tt told
roomed p s i bytes added e first (Legal.MakesRoom.syncs end x d is) h told = split p WhereDue s i added (first x) (sync_splits p WhereDue s added end d) h told

opened : (s : State) (actor : ℕ) (key : Key) (request response : List Field) (pin : ℕ) (added : List Rec) → Legal.MayOpenWrite s actor key request response pin added → AreTold s → AreTold (after_all s added)
opened s actor key request response pin added m told =
    let below : s.next_put + 1 < 2 ^ 62 = m.below in
    let t : State = state_after s (rec.WriteOpened m.who s.next_put key request response pin) in
    subst (λ xs. AreTold (after_all s xs)) (sym m.is) (record {
      vectors = vectors_part s t refl (part_all s.rows) told.vectors;
      puts = puts_opened (opened_put m.who.0 s.next_put key request response pin) s.puts (record {
        put = omega (arith, below);
        pin = m.pin_fits;
        request = m.request_fits;
        response = m.response_fits;
        table = record { few = omega arith; each = tt };
        length = refl;
      }) told.puts;
      displaced = told.displaced;
    })

-- ---- groups that place a piece

behind : (p : Permit) (s t : State) (piece : PieceId) (added : List Rec) (put : ℕ) → MayDisplace p s piece added → IsBehind t (after_all t added) put
behind p s t piece added put m = subst (λ xs. IsBehind t (after_all t xs) put) (sym m.is) (displaced_behind t _ _ m.purged put)

-- a piece is placed behind other records, and lists its alternates where it has some
placed_behind : (t : State) (before : List Rec) (piece : PieceId) (place blocks : ℕ) (digest : Digest) (pin : ℕ) → AreVectors (after_all t before) → ArePuts (after_all t before)
    → IsListed (after_all t before) (placed_row (after_all t before) piece place blocks digest pin) → AreTold (after_all t (before ++ rec.Placed piece place blocks digest pin ∷ []))
placed_behind t before piece place blocks digest pin vectors puts listed =
    let mid : State = after_all t before in
    subst AreTold (sym (after_all-append t before (rec.Placed piece place blocks digest pin ∷ []))) (record {
      vectors = vectors_placed mid piece place blocks digest pin listed vectors;
      puts = puts;
      displaced = refl;
    })

fragment_placed : (p : Permit) (s : State) (put index : ℕ) (payload : List ℕ) (added : List Rec) → Legal.MayPlaceFragment p s put index payload added → AreTold s → AreTold (after_all s added)
fragment_placed p s put index payload added m told =
    let cut : Rec = rec.Cut put index (length payload) (digest_of payload) in
    let t : State = state_after s cut in
    let small : length payload ≤ s.geometry.fragment = m.cut.small in
    let row : IsRow (made_row (length payload) (digest_of payload).0) = record {
      some = m.cut.some;
      short = omega (arith, small, s.geometry.accepted.fragment_fits.1, s.geometry.accepted.agg_fits.1);
      digest = length-sha256 payload;
      bytes = sha256-small payload;
    } in
    let vectors : AreVectors (after_all t m.displaced) = vectors_leave s (cut ∷ m.displaced) (tt, displaced_leave p s _ m.displaced m.displaces) told.vectors in
    let same : IsBehind t (after_all t m.displaced) put = behind p s t _ m.displaced put m.displaces in
    let puts : AreFit t.puts = puts_cut put (made_row (length payload) (digest_of payload).0) s.puts m.w m.cut.writing.found m.cut.few row told.puts in
    subst (λ xs. AreTold (after_all s xs)) (sym m.is)
    (placed_behind t m.displaced (next_fragment_of m.w) (place_now s) (blocks_of (length payload)) _ m.w.pin vectors (subst AreFit (sym same.puts) puts)
    (λ vector. absurd (omega (arith, eqb-true (length m.w.cuts + 1) 0 vector))))

vector_placed : (p : Permit) (s : State) (put fragments : ℕ) (added : List Rec) → Legal.MayPlaceVector p s put fragments added → AreTold s → AreTold (after_all s added)
vector_placed p s put fragments added m told =
    let mid : State = after_all s m.displaced in
    let list : List Stored = list_of_put s put in
    let leave : AllLeaveTape m.displaced = displaced_leave p s _ m.displaced m.displaces in
    let same : IsBehind s mid put = behind p s s _ m.displaced put m.displaces in
    let geometry : mid.geometry ≡ s.geometry = (buffer_left s m.displaced leave).0 in
    let merged : IsMerged s list = put_told s put m.w told m.cut.writing.found m.cut.alone in
    subst (λ xs. AreTold (after_all s xs)) (sym m.is)
    (placed_behind s m.displaced (vector_piece m.w.key put) (place_now s) (blocks_of (vector_length s put)) _ (greatest_pin list)
    (vectors_leave s m.displaced leave told.vectors) (subst AreFit (sym same.puts) told.puts)
    (λ vector. (
      list,
      record {
        lists = ap Some same.list;
        spelled = merged.spelled;
        digest = rw geometry refl;
        blocks = ap blocks_of (sym (length-vector list merged.spelled.stored.each));
        small = rw geometry merged.small;
        start = 0;
      },
    )))

-- ---- each group

pub told_group : (p : Permit) (s : State) (i : Intent) (added : List Rec) (e : End) → IsSound s → AreTold s → Does p s i added e → Tells (IsPair IsVectorAs p s i) s added
told_group p s Flush added e h told (Legal.DoesFlush.empty q f is) = aside s added [] is tt told
told_group p s Flush added e h told (Legal.DoesFlush.flushes m) = as_shown (pair_of_copy IsVectorAs p s Flush refl m.can) (flushed p s added m h told)
told_group p s Flush added e h told (Legal.DoesFlush.stops count m) = stopped p s count added m told
told_group p s Flush added e h told (Legal.DoesFlush.exhausted q f b is) = aside s added [] is tt told
told_group p s Flush added e h told (Legal.DoesFlush.syncs d) = split p WhereDue s Flush added refl (sync_splits p WhereDue s added e d) h told
told_group p s Sync added e h told d = split p AtOnce s Sync added refl (sync_splits p AtOnce s added e d) h told
told_group p s SyncBegin added e h told d = split p InParts s SyncBegin added refl (sync_splits p InParts s added e d) h told
told_group p s (SyncStep last) added e h told d = aside s added added refl (step_aside p s last added e d) told
told_group p s Drain added e h told d = split p AtOnce s Drain added refl (drain_splits p s added e d) h told
told_group p s CleanSync added e h told d = aside s added added refl (clean_aside p s added e d) told
told_group p s (Write actor key request response pin) added e h told (Legal.DoesWrite.opens m) = inl (opened s actor key request response pin added m told)
told_group p s (Write actor key request response pin) added e h told (Legal.DoesWrite.many q m is) = aside s added [] is tt told
told_group p s (Write actor key request response pin) added e h told (Legal.DoesWrite.exhausted q m l is) = aside s added [] is tt told
told_group p s (Fragment put index payload) added e h told (Legal.DoesFragment.places d m) = inl (fragment_placed p s put index payload added m told)
told_group p s (Fragment put index payload) added e h told (Legal.DoesFragment.unmarks w n q u) = aside s added added refl (unmark_aside p s added e u) told
told_group p s (Fragment put index payload) added e h told (Legal.DoesFragment.rooms w n m) = roomed p s (Fragment put index payload) _ added e (λ none. rw none refl) m h told
told_group p s (Fragment put index payload) added e h told (Legal.DoesFragment.exhausted w x n q) = aside s added [] q.is tt told
told_group p s (Overflow put) added e h told (Legal.DoesOverflow.aborts w q l is) = aside s added _ is one_aside told
told_group p s (Weigh put rest) added e h told (Legal.DoesWeigh.weighs w q r f is) = aside s added [] is tt told
told_group p s (Weigh put rest) added e h told (Legal.DoesWeigh.too_large w q r f is) = aside s added _ is one_aside told
told_group p s (Weigh put rest) added e h told (Legal.DoesWeigh.damaged w row found q live d is) = aside s added _ is one_aside told
told_group p s (Weigh put rest) added e h told (Legal.DoesWeigh.faulted w row count q live r m is) = aside s added _ is one_aside told
told_group p s (Finish put fragments) added e h told (Legal.DoesFinish.places d m) = inl (vector_placed p s put fragments added m told)
told_group p s (Finish put fragments) added e h told (Legal.DoesFinish.unmarks w c l q u) = aside s added added refl (unmark_aside p s added e u) told
told_group p s (Finish put fragments) added e h told (Legal.DoesFinish.rooms w c m) = roomed p s (Finish put fragments) _ added e (λ none. rw none refl) m h told
told_group p s (Finish put fragments) added e h told (Legal.DoesFinish.exhausted w x c l q) = aside s added [] q.is tt told
told_group p s (Finish put fragments) added e h told (Legal.DoesFinish.loses w index d m is) = aside s added _ is one_aside told
told_group p s (Commit put) added e h told (Legal.DoesCommit.commits w f o q is) = aside s added _ is one_aside told
told_group p s (GiveUp put) added e h told (Legal.DoesGiveUp.aborts w q is) = aside s added _ is one_aside told
told_group p s (GiveUp put) added e h told (Legal.DoesGiveUp.over q o is) = aside s added [] is tt told
told_group p s (Remove key) added e h told (Legal.DoesRemove.removes row q l is) = aside s added _ is one_aside told
told_group p s (Remove key) added e h told (Legal.DoesRemove.absent q l is) = aside s added [] is tt told
told_group p s (Look actor key request) added e h told (Legal.DoesLook.looks m) =
    aside s added _ m.is (all_append IsAside m.before _ (lookup_aside p s key request m.before m.answer m.right) one_aside) told
told_group p s (ReadOn reader) added e h told (Legal.DoesReadOn.reads_on answer m) = aside s added _ m.is (reading_on_aside p s reader answer added m) told
told_group p s (ReadAll reader) added e h told (Legal.DoesReadAll.reads_on answer x m y) = aside s added _ m.is (reading_on_aside p s reader answer added m) told
told_group p s (ReadAll reader) added e h told (Legal.DoesReadAll.has_none q x is y) = aside s added [] is tt told
told_group p s (StopReading reader) added e h told (Legal.DoesStopReading.closes r q l is) = aside s added _ is one_aside told
told_group p s (StopReading reader) added e h told (Legal.DoesStopReading.closed q l is) = aside s added [] is tt told

-- ---- each step

advanced : (p : Permit) (s : State) (is : List Intent) (why : Option Reason) (added : List Rec) (after : Work) → Advances p s is why added after → IsSound s → AreTold s
    → Tells (IsPairNext IsVectorAs p s is) s added
advanced p s [] why added after a h told = absurd a
advanced p s (i ∷ is) why added after a h told = told_group p s i added a.0 h told a.1

-- at the first record
pub shown_first : (IsPlaced : Documents) (p : Permit) (s : State) (w : Work) (recs : List Rec) → IsPairNext IsPlaced p s w.intents → ShowsFrom IsPlaced p s w recs
shown_first IsPlaced p s w recs pair = record { before = []; rest = recs; left = w; is = refl; grows = nothing; pair = pair }

-- or behind a group
pub shown_later : (IsPlaced : Documents) (p : Permit) (s : State) (w between : Work) (added recs : List Rec) → Advances p s w.intents w.refused added between
    → ShowsFrom IsPlaced p (after_all s added) between recs → ShowsFrom IsPlaced p s w (added ++ recs)
shown_later IsPlaced p s w between added recs one v = record {
  before = added ++ v.before;
  rest = v.rest;
  left = v.left;
  is = ap (λ xs. added ++ xs) v.is ∙ sym (append_assoc added v.before v.rest);
  grows = more added between one v.grows;
  pair = subst (λ t. IsPairNext IsPlaced p t v.left.intents) (sym (after_all-append s added v.before)) v.pair;
}

pub told_grown : {p : Permit} {s : State} {w after : Work} {recs : List Rec} → MayGrow p s w recs after → IsSound s → AreTold s → AreTold (after_all s recs) ⊎ ShowsFrom IsVectorAs p s w recs
told_grown nothing h told = inl told
told_grown {p} {s} {w} (more {rest = tail} added between one others) h told =
    let later : IsLater s (after_all s added) = later_advanced p s w.intents w.refused added between one h in
    elim (advanced p s w.intents w.refused added between one h told) [
      | inr other ↦ inr (shown_first IsVectorAs p s w (added ++ tail) other)
      | inl first ↦ elim (told_grown others later.sound first) [
        | inl last ↦ inl (subst AreTold (sym (after_all-append s added tail)) last)
        | inr v ↦ inr (shown_later IsVectorAs p s w between added tail one v)
      ]
    ]

pub told_step : (p : Permit) (s : State) (intents : List Intent) (added : List Rec) (why : Option Reason) → IsSound s → AreTold s → IsStep p s intents added why
    → AreTold (after_all s added) ⊎ ShowsPair IsVectorAs p s intents added
told_step p s intents added why h told step = told_grown step.grows h told

-- ---- each chronicle

pub told_format : (s : State) (geometry : Geometry) → AreTold (after_all s (format_records geometry))
told_format s geometry = record { vectors = tt; puts = no_puts; displaced = refl }

-- an element stays among those of a longer list
among_front : (course : Course) (courses tail : List Course) → IsAmong course courses → IsAmong course (courses ++ tail)
among_front course [] tail m = absurd m
among_front course (c ∷ courses) tail m = elim m [ inl same ↦ inl same | inr k ↦ inr (among_front course courses tail k) ]

among_last : (course : Course) (courses : List Course) → IsAmong course (courses ++ course ∷ [])
among_last course [] = inl refl
among_last course (c ∷ courses) = inr (among_last course courses)

shown_before : (courses : List Course) (course : Course) (before added : List Rec) → IsShownIn courses before → IsShownIn (courses ++ course ∷ []) (before ++ added)
shown_before courses course before added v = record {
  course = v.course;
  among = among_front v.course courses (course ∷ []) v.among;
  before = v.before;
  added = v.added;
  rest = v.rest ++ added;
  is = ap (λ xs. xs ++ added) v.is ∙ append_assoc (v.before ++ v.added) v.rest added;
  shows = v.shows;
}

shown_last : (courses : List Course) (course : Course) (before added : List Rec) → ShowsPair IsVectorAs course.permit (after_all nothing_yet before) course.intents added
    → IsShownIn (courses ++ course ∷ []) (before ++ added)
shown_last courses course before added v = record {
  course = course;
  among = among_last course courses;
  before = before;
  added = added;
  rest = [];
  is = sym (append-nil (before ++ added));
  shows = v;
}

-- what an opening takes up tells its alternates
told_opening : (s : State) (geometry : Geometry) (o : Opening) → AreVectors (state_of_opening geometry o) → AreTold (after_all s (opened_records geometry o))
told_opening s geometry o vectors =
    let t : State = after_all s (opened_records geometry o) in
    record { vectors = vectors_part (state_of_opening geometry o) t refl (part_all t.rows) vectors; puts = no_puts; displaced = refl }

pub openings_tell : (packed : Bool) (s : State) (geometry : Geometry) (o : Opening) → IsOpening packed geometry o → AreTold (after_all s (opened_records geometry o))
openings_tell packed s geometry o opening = told_opening s geometry o opening.vectors

told_legal : (setting : Setting) (past : List Call) (courses : List Course) (recs : List Rec) → IsLegal setting past courses recs → AreTold (after_all nothing_yet recs) ⊎ IsShownIn courses recs
told_legal setting past courses recs (Legal.IsLegal.begins geometry) = inl (told_format nothing_yet geometry)
told_legal setting past courses recs (Legal.IsLegal.opens geometry o opening) = inl (told_opening nothing_yet geometry o opening.vectors)
told_legal setting past courses recs (Legal.IsLegal.steps {courses = earlier} {before = before} {added = added} course e legal step) =
    elim (told_legal setting _ earlier before legal) [
      | inr v ↦ inr (shown_before earlier course before added v)
      | inl told ↦ elim (told_step course.permit (after_all nothing_yet before) course.intents added course.refused (legal_is_sound setting _ earlier before legal) told step) [
        | inl last ↦ inl (subst AreTold (sym (after_all-append nothing_yet before added)) last)
        | inr v ↦ inr (shown_last earlier course before added v)
      ]
    ]
told_legal setting past courses recs (Legal.IsLegal.tells call is legal) = told_legal setting _ courses recs legal

pub vectors_are_kept : (setting : Setting) (past : List Call) (courses : List Course) (recs : List Rec) → IsLegal setting past courses recs
    → AreVectors (after_all nothing_yet recs) ⊎ IsShownIn courses recs
vectors_are_kept setting past courses recs legal = elim (told_legal setting past courses recs legal) [ inl told ↦ inl told.vectors | inr v ↦ inr v ]
