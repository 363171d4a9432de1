-- Each group of records leaves puts of which each may be kept.
use Rattle.std.proofs.Common.{◌≡◌, ℕ, ◌+◌, ◌^◌, ◌<◌, ◌≤◌, ◌⊎◌, inl, inr, List, [], ◌∷◌, ◌++◌, length, refl, sym, ◌∙◌, ap, subst, arith}
use Rattle.std.specs.Prelude.{Bool, true, false, Option, Some, None, cond, ◌==◌, find, option_map}
use Rattle.tape_base.specs.declared.keys.Key.{Key}
use Rattle.tape_base.specs.declared.pieces.PieceId.{PieceId}
use Rattle.tape_base.specs.Digest.{digest_of}
use Rattle.tape_base.proofs.Bytes.{sha256-small}
use Rattle.doc_header.proofs.ReadingLaws.{length-sha256}
use Rattle.fragment_table.specs.Table.{IsRow, made_row}
use Rattle.alternate_vector.specs.Alternates.{IsStored}
use Rattle.alternate_vector.specs.Field.{Field}
use Rattle.cache_model.specs.declared.record.Rec.{Rec}
use Rattle.cache_model.specs.declared.record.Rec.TheVariants as rec
use Rattle.cache_model.specs.State.{Closed, GivenUp, PutRow, Row, State, Writing}
use Rattle.cache_model.specs.State.{after_all, alternate_of, change_put, opened_put, state_after, with_writing}
use Rattle.cache_model.specs.Permit.{Permit, End, Intent, Reason, Work, CleanSync, Commit, Drain, Finish, Flush, Fragment, GiveUp, Look, Overflow, ReadAll}
use Rattle.cache_model.specs.Permit.{ReadOn, Remove, StopReading, Sync, SyncBegin, SyncStep, Weigh, Write}
use Rattle.cache_model.specs.Due.{due_pieces}
use Rattle.cache_model.specs.Legal
use Rattle.cache_model.specs.Legal.{Advances, MayGrow, more, nothing}
use Rattle.cache_model.specs.Outcomes.{Copied, Copy, NoRoom, Outcome, ReadRefused, Spoiled}
use Rattle.cache_model.specs.Outcomes.{began_record, copies_of, flush_records, front_of, moved_record, moved_records, records_of}
use Rattle.cache_model.specs.Room.{MayDisplace}
use Rattle.cache_model.specs.Syncing.{AtOnce, InParts, MaySyncBehind, Syncing, WhereDue}
use Rattle.cache_model.specs.Vectors.{ArePuts}
use Rattle.cache_model.proofs.Aside.{AllAside, IsAside, lookup_aside, one_aside, reading_on_aside}
use Rattle.cache_model.proofs.ByNumber.{find-changed}
use Rattle.cache_model.proofs.Found.{none_is, same_some}
use Rattle.cache_model.proofs.SoundFlush.{stopped_aside}
use Rattle.cache_model.proofs.Steps.{after_all-append, all_append}
use Rattle.cache_model.proofs.Syncing.{clean_aside, drain_splits, flush_among_syncs, step_aside, sync_splits, unmark_aside}
use Rattle.call_laws.specs.Whole.{GroupsLeavePuts}
use Rattle.step_laws.proofs.Told.{AreFit, displaced_behind, puts_cut, puts_opened}

-- ---- records that open no put, and cut nothing

ended_by : (b : Bool) (o : Option PutRow) (writing : Writing) (w : PutRow) → ((x : PutRow) → o ≡ Some x → IsStored (alternate_of x))
    → cond b (option_map (with_writing writing) o) o ≡ Some w → IsStored (alternate_of w)
ended_by false o writing w each is = each w is
ended_by true None writing w each is = none_is is
ended_by true (Some x) writing w each is =
    let stored : IsStored (alternate_of x) = each x refl in
    let same : with_writing writing x ≡ w = same_some (with_writing writing x) w (Some (with_writing writing x)) refl is in
    subst (λ (y : PutRow). IsStored (alternate_of y)) same (record {
      put = stored.put;
      pin = stored.pin;
      request = stored.request;
      response = stored.response;
      table = stored.table;
      length = refl;
    })

-- a put is at another stage
ended : (put : ℕ) (writing : Writing) (puts : List PutRow) → AreFit puts → AreFit (change_put put (with_writing writing) puts)
ended put writing puts each n w found =
    ended_by (put == n) (find (λ (p : PutRow). p.put == n) puts) writing w (each n)
    (sym (find-changed (λ (p : PutRow). p.put) (with_writing writing) (λ x. refl) put n puts) ∙ found)

one_aside_leaves : (s : State) (r : Rec) → IsAside r → AreFit s.puts → AreFit (state_after s r).puts
one_aside_leaves s (rec.Formatted geometry) h each = absurd h.0
one_aside_leaves s (rec.Opened geometry serial cursor floor next_put clean list) h each = absurd h.0
one_aside_leaves s (rec.WriteOpened actor put key request response pin) h each = absurd h.1
one_aside_leaves s (rec.Cut put index length digest) h each = absurd h.1
one_aside_leaves s (rec.Committed put key bytes list) h each = ended put Closed s.puts each
one_aside_leaves s (rec.Aborted put key) h each = ended put GivenUp s.puts each
one_aside_leaves s _ h each = each

aside_leaves : (s : State) (recs : List Rec) → AllAside recs → AreFit s.puts → AreFit (after_all s recs).puts
aside_leaves s [] h each = each
aside_leaves s (r ∷ recs) h each = aside_leaves (state_after s r) recs h.1 (one_aside_leaves s r h.0 each)

aside : (s : State) (added other : List Rec) → added ≡ other → AllAside other → ArePuts s → ArePuts (after_all s added)
aside s added other is h puts = aside_leaves s added (subst AllAside (sym is) h) puts

-- ---- flushes

one_outcome : (s : State) (row : Row) (o : Outcome) → (after_all s (records_of row o)).puts ≡ s.puts
one_outcome s row NoRoom = refl
one_outcome s row (Copied bytes) = refl
one_outcome s row (Spoiled found) = refl
one_outcome s row (ReadRefused count) = refl

front : (s : State) (rows : List Row) (outcomes : List Outcome) → (after_all s (front_of rows outcomes)).puts ≡ s.puts
front s [] outcomes = refl
front s (row ∷ rows) [] = refl
front s (row ∷ rows) (o ∷ outcomes) =
    ap (λ (t : State). t.puts) (after_all-append s (records_of row o) (front_of rows outcomes))
    ∙ (front (after_all s (records_of row o)) rows outcomes ∙ one_outcome s row o)

moved : (s : State) (copies : List Copy) → (after_all s (moved_records s copies)).puts ≡ s.puts
moved s [] = refl
moved s (c ∷ copies) = moved (state_after s (moved_record s c)) copies

pub flush_leaves : (s : State) (rows : List Row) (outcomes : List Outcome) → (after_all s (flush_records s rows outcomes)).puts ≡ s.puts
flush_leaves s rows outcomes =
    let began : State = state_after (after_all s (front_of rows outcomes)) (began_record s) in
    let copies : List Copy = copies_of rows outcomes in
    ap (λ (t : State). t.puts) (after_all-append s (front_of rows outcomes) (began_record s ∷ moved_records began copies))
    ∙ (moved began copies ∙ front s rows outcomes)

flushed : (p : Permit) (s : State) (added : List Rec) → Legal.MayFlush p s added → ArePuts s → ArePuts (after_all s added)
flushed p s added m puts =
    subst AreFit (sym (ap (λ recs. (after_all s recs).puts) m.is ∙ flush_leaves s (due_pieces s p.now) m.outcomes)) puts

stopped : (p : Permit) (s : State) (count : ℕ) (added : List Rec) → Legal.MayStop p s count added → ArePuts s → ArePuts (after_all s added)
stopped p s count added m puts = aside s added _ m.is (stopped_aside (due_pieces s p.now) m.outcomes count) puts

split : (p : Permit) (k : Syncing) (s : State) (added : List Rec) → MaySyncBehind p k s added ⊎ AllAside added → ArePuts s
    → ArePuts (after_all s added)
split p k s added (inl m) puts =
    let all = flush_among_syncs p k s added m in
    subst AreFit (sym (ap (λ (t : State). t.puts) all.1 ∙ flush_leaves s (due_pieces s p.now) m.outcomes)) puts
split p k s added (inr beside) puts = aside s added added refl beside puts

roomed : (p : Permit) (s : State) (bytes : ℕ) (added : List Rec) (e : End) → Legal.MakesRoom p s bytes added e → ArePuts s
    → ArePuts (after_all s added)
roomed p s bytes added e (Legal.MakesRoom.flushes x m) puts = flushed p s added m puts
roomed p s bytes added e (Legal.MakesRoom.stops count x m) puts = stopped p s count added m puts
roomed p s bytes added e (Legal.MakesRoom.exhausted x q is) puts = aside s added [] is tt puts
roomed p s bytes added e (Legal.MakesRoom.syncs end x d is) puts = split p WhereDue s added (sync_splits p WhereDue s added end d) puts

-- ---- a put opens, and pieces are placed

opened : (s : State) (actor : ℕ) (key : Key) (request response : List Field) (pin : ℕ) (added : List Rec)
    → Legal.MayOpenWrite s actor key request response pin added → ArePuts s → ArePuts (after_all s added)
opened s actor key request response pin added m puts =
    let below : s.next_put + 1 < 2 ^ 62 = m.below in
    subst (λ xs. ArePuts (after_all s xs)) (sym m.is) (puts_opened (opened_put m.who.0 s.next_put key request response pin) s.puts (record {
      put = omega (arith, below);
      pin = m.pin_fits;
      request = m.request_fits;
      response = m.response_fits;
      table = record { few = omega arith; each = tt };
      length = refl;
    }) puts)

-- what is displaced for a piece leaves the puts
pub displaced_puts : (p : Permit) (s : State) (piece : PieceId) (displaced : List Rec) → MayDisplace p s piece displaced
    → (t : State) → (after_all t displaced).puts ≡ t.puts
displaced_puts p s piece displaced m t = ap (λ recs. (after_all t recs).puts) m.is ∙ (displaced_behind t _ _ m.purged 0).puts

-- and so does the piece
behind : (p : Permit) (s t : State) (piece : PieceId) (displaced tail : List Rec) → MayDisplace p s piece displaced
    → ((u : State) → (after_all u tail).puts ≡ u.puts) → (after_all t (displaced ++ tail)).puts ≡ t.puts
behind p s t piece displaced tail m last =
    ap (λ (u : State). u.puts) (after_all-append t displaced tail)
    ∙ (last (after_all t displaced) ∙ displaced_puts p s piece displaced m t)

fragment_placed : (p : Permit) (s : State) (put index : ℕ) (payload : List ℕ) (added : List Rec)
    → Legal.MayPlaceFragment p s put index payload added → ArePuts s → ArePuts (after_all s added)
fragment_placed p s put index payload added m puts =
    let t : State = state_after s (rec.Cut put index (length payload) (digest_of payload)) in
    let small : length payload ≤ s.geometry.fragment = m.cut.small in
    let row : IsRow (made_row (length payload) (digest_of payload).0) = record {
      some = m.cut.some;
      short = omega (arith, small, s.geometry.accepted.fragment_fits.1, s.geometry.accepted.agg_fits.1);
      digest = length-sha256 payload;
      bytes = sha256-small payload;
    } in
    subst AreFit (sym (ap (λ recs. (after_all s recs).puts) m.is ∙ behind p s t _ m.displaced _ m.displaces (λ u. refl)))
    (puts_cut put (made_row (length payload) (digest_of payload).0) s.puts m.w m.cut.writing.found m.cut.few row puts)

vector_placed : (p : Permit) (s : State) (put fragments : ℕ) (added : List Rec) → Legal.MayPlaceVector p s put fragments added → ArePuts s
    → ArePuts (after_all s added)
vector_placed p s put fragments added m puts =
    subst AreFit (sym (ap (λ recs. (after_all s recs).puts) m.is ∙ behind p s s _ m.displaced _ m.displaces (λ u. refl))) puts

-- ---- each group

pub leave_puts : GroupsLeavePuts
leave_puts p s Flush added e puts (Legal.DoesFlush.empty q f is) = aside s added [] is tt puts
leave_puts p s Flush added e puts (Legal.DoesFlush.flushes m) = flushed p s added m puts
leave_puts p s Flush added e puts (Legal.DoesFlush.stops count m) = stopped p s count added m puts
leave_puts p s Flush added e puts (Legal.DoesFlush.exhausted q f b is) = aside s added [] is tt puts
leave_puts p s Flush added e puts (Legal.DoesFlush.syncs d) = split p WhereDue s added (sync_splits p WhereDue s added e d) puts
leave_puts p s Sync added e puts d = split p AtOnce s added (sync_splits p AtOnce s added e d) puts
leave_puts p s SyncBegin added e puts d = split p InParts s added (sync_splits p InParts s added e d) puts
leave_puts p s (SyncStep last) added e puts d = aside s added added refl (step_aside p s last added e d) puts
leave_puts p s Drain added e puts d = split p AtOnce s added (drain_splits p s added e d) puts
leave_puts p s CleanSync added e puts d = aside s added added refl (clean_aside p s added e d) puts
leave_puts p s (Write actor key request response pin) added e puts (Legal.DoesWrite.opens m) =
    opened s actor key request response pin added m puts
leave_puts p s (Write actor key request response pin) added e puts (Legal.DoesWrite.many q m is) = aside s added [] is tt puts
leave_puts p s (Write actor key request response pin) added e puts (Legal.DoesWrite.exhausted q m l is) = aside s added [] is tt puts
leave_puts p s (Fragment put index payload) added e puts (Legal.DoesFragment.places d m) =
    fragment_placed p s put index payload added m puts
leave_puts p s (Fragment put index payload) added e puts (Legal.DoesFragment.unmarks w n q u) =
    aside s added added refl (unmark_aside p s added e u) puts
leave_puts p s (Fragment put index payload) added e puts (Legal.DoesFragment.rooms w n m) = roomed p s _ added e m puts
leave_puts p s (Fragment put index payload) added e puts (Legal.DoesFragment.exhausted w x n q) = aside s added [] q.is tt puts
leave_puts p s (Overflow put) added e puts (Legal.DoesOverflow.aborts w q l is) = aside s added _ is one_aside puts
leave_puts p s (Weigh put rest) added e puts (Legal.DoesWeigh.weighs w q r f is) = aside s added [] is tt puts
leave_puts p s (Weigh put rest) added e puts (Legal.DoesWeigh.too_large w q r f is) = aside s added _ is one_aside puts
leave_puts p s (Weigh put rest) added e puts (Legal.DoesWeigh.damaged w row found q live d is) = aside s added _ is one_aside puts
leave_puts p s (Weigh put rest) added e puts (Legal.DoesWeigh.faulted w row count q live r m is) = aside s added _ is one_aside puts
leave_puts p s (Finish put fragments) added e puts (Legal.DoesFinish.places d m) = vector_placed p s put fragments added m puts
leave_puts p s (Finish put fragments) added e puts (Legal.DoesFinish.unmarks w c l q u) =
    aside s added added refl (unmark_aside p s added e u) puts
leave_puts p s (Finish put fragments) added e puts (Legal.DoesFinish.rooms w c m) = roomed p s _ added e m puts
leave_puts p s (Finish put fragments) added e puts (Legal.DoesFinish.exhausted w x c l q) = aside s added [] q.is tt puts
leave_puts p s (Finish put fragments) added e puts (Legal.DoesFinish.loses w index d m is) = aside s added _ is one_aside puts
leave_puts p s (Commit put) added e puts (Legal.DoesCommit.commits w f o q is) = aside s added _ is one_aside puts
leave_puts p s (GiveUp put) added e puts (Legal.DoesGiveUp.aborts w q is) = aside s added _ is one_aside puts
leave_puts p s (GiveUp put) added e puts (Legal.DoesGiveUp.over q o is) = aside s added [] is tt puts
leave_puts p s (Remove key) added e puts (Legal.DoesRemove.removes row q l is) = aside s added _ is one_aside puts
leave_puts p s (Remove key) added e puts (Legal.DoesRemove.absent q l is) = aside s added [] is tt puts
leave_puts p s (Look actor key request) added e puts (Legal.DoesLook.looks m) =
    aside s added _ m.is (all_append IsAside m.before _ (lookup_aside p s key request m.before m.answer m.right) one_aside) puts
leave_puts p s (ReadOn reader) added e puts (Legal.DoesReadOn.reads_on answer m) =
    aside s added _ m.is (reading_on_aside p s reader answer added m) puts
leave_puts p s (ReadAll reader) added e puts (Legal.DoesReadAll.reads_on answer x m y) =
    aside s added _ m.is (reading_on_aside p s reader answer added m) puts
leave_puts p s (ReadAll reader) added e puts (Legal.DoesReadAll.has_none q x is y) = aside s added [] is tt puts
leave_puts p s (StopReading reader) added e puts (Legal.DoesStopReading.closes r q l is) = aside s added _ is one_aside puts
leave_puts p s (StopReading reader) added e puts (Legal.DoesStopReading.closed q l is) = aside s added [] is tt puts

-- ---- a step

advanced : (p : Permit) (s : State) (is : List Intent) (why : Option Reason) (added : List Rec) (after : Work)
    → Advances p s is why added after → ArePuts s → ArePuts (after_all s added)
advanced p s [] why added after a puts = absurd a
advanced p s (i ∷ is) why added after a puts = leave_puts p s i added a.0 puts a.1

pub grown_leaves : {p : Permit} {s : State} {w after : Work} {recs : List Rec} → MayGrow p s w recs after → ArePuts s
    → ArePuts (after_all s recs)
grown_leaves nothing puts = puts
grown_leaves {p} {s} {w} (more {rest = tail} added between one others) puts =
    subst ArePuts (sym (after_all-append s added tail)) (grown_leaves others (advanced p s w.intents w.refused added between one puts))
