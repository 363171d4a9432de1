-- What an untroubled group of a stripe that does not sync records, and how it ends, as a function of the session but for the
-- digests of its documents: whatever the device gave.
use Rattle.std.proofs.Common.{◌≡◌, ℕ, ◌+◌, ◌-◌, ◌<◌, ◌≤◌, List, [], ◌∷◌, ◌++◌, refl, sym, ◌∙◌, ap, subst, arith, Bool, true, false}
use Rattle.std.specs.Prelude.{Option, Some, None, if◌then◌else◌, zero, suc, cond, map, length, nat_le, ◌==◌, is_some, option_map, unwrap_or}
use Rattle.std.proofs.lemmas.Bool.{eq-eqb, le-leb, leb-false, leb-true, lt-leb, ne_eqb}
use Rattle.std.proofs.lemmas.List.{map-append}
use Rattle.tape_base.specs.declared.keys.Key.{Key}
use Rattle.tape_base.specs.declared.pieces.PieceId.{PieceId}
use Rattle.tape_base.specs.declared.actors.Actor.{Actor}
use Rattle.tape_base.specs.Blocks.{blocks_of}
use Rattle.tape_base.specs.Digest.{digest_of}
use Rattle.tape_base.specs.Geometry.{budget_of}
use Rattle.fragment_table.specs.Table.{TableRow, total_length}
use Rattle.alternate_vector.specs.Field.{Field}
use Rattle.alternate_vector.specs.Alternates.{Stored, vector_size}
use Rattle.alternate_vector.specs.Spelling.{vector_bytes}
use Rattle.cache_model.specs.declared.cause.Cause.{Cause}
use Rattle.cache_model.specs.declared.answer.ReadAnswer.{ReadAnswer}
use Rattle.cache_model.specs.declared.answer.NextAnswer.{NextAnswer}
use Rattle.cache_model.specs.declared.record.Rec.{Rec}
use Rattle.cache_model.specs.declared.record.Rec.TheVariants as rec
use Rattle.cache_model.specs.State.{State, Row, PutRow, ReaderRow, Open, Closed, GivenUp, after_all, fragment_piece, list_of_piece, list_of_put, live_row_of, place_now, put_of, reader_of, state_after, vector_piece}
use Rattle.cache_model.specs.Verdict.{is_open, live_vector_of, lookup_verdict, reader_verdict}
use Rattle.cache_model.specs.Permit.{Permit, Intent, Flush, Sync, SyncBegin, SyncStep, Drain, CleanSync, Write, Fragment, Overflow, Weigh, Finish, Commit, GiveUp, Remove, Look, ReadOn, ReadAll, StopReading, ManyWriters, Exhausted, ManyFragments, TooLarge, Lost, End, Stays, Done, Fails}
use Rattle.cache_model.specs.Room.{MayDisplace, displaced_record, greatest_pin, has_room, is_flush_exhausted, limit, placed_record, rows_of_segment, segment_of_piece}
use Rattle.cache_model.specs.Given
use Rattle.cache_model.specs.Given.{Trouble}
use Rattle.cache_model.specs.Legal
use Rattle.cache_model.specs.Legal.{AreLiveTo, Does, DoesCommit, DoesFinish, DoesFlush, DoesFragment, DoesGiveUp, DoesLook, DoesOverflow, DoesReadAll, DoesReadOn, DoesRemove, DoesStopReading, DoesWeigh, DoesWrite, IsLookup, IsReading, MakesRoom, MayFlush, MayReadOn, MayStop, ReadTrouble, aborted_record, answer_record, has_hit, is_given, is_writing, most_writers, next_fragment_of, open_writers, size_alone, vector_length, vector_payload}
use Rattle.cache_model.specs.Due.{due_pieces}
use Rattle.cache_model.specs.Outcomes.{AreOutcomes, Copied, Copy, NoRoom, Outcome, ReadRefused, Spoiled, began_record, copies_of, flush_records, front_of, moved_record, moved_records, records_of, stopped_front_of}
use Rattle.cache_model.proofs.Found.{no_truth, number_of}
use Rattle.cache_model.proofs.Steps.{all_parts}
use Rattle.model_laws.specs.Agreeing.{AreLike, HoldTheSame, IsUntroubled, TellTheSame, is_trouble, without_copy_digest, without_digest, without_digests}
use Rattle.step_laws.proofs.Unsynced.{clean_on, drain_on, never, step_on, sync_on, unmark_on}
use Rattle.model_laws.proofs.Digests.{due_too, list_of_piece_too, list_too, live_row_too, live_vector_too, lookup_too, reader_too}
use Rattle.model_laws.proofs.DigestSteps.{all_alike, digests_twice, record_alike}

-- ---- trouble is told

-- by the first record
told_first : {added rest : List Rec} (r : Rec) → is_trouble r ≡ true → added ≡ r ∷ rest → IsUntroubled added → ⊥
told_first r told is calm = let first = subst IsUntroubled is calm in no_truth (sym told ∙ first.0)

-- by a fault at the end
told_last : (before : List Rec) (count : ℕ) → IsUntroubled (before ++ rec.Fault count ∷ []) → ⊥
told_last [] count calm = no_truth calm.0
told_last (r ∷ before) count calm = told_last before count calm.1

stop_told : {p : Permit} {s : State} {count : ℕ} {added : List Rec} → MayStop p s count added → IsUntroubled added → ⊥
stop_told {p} {s} {count} m calm = told_last (stopped_front_of (due_pieces s p.now) m.outcomes) count (subst IsUntroubled m.is calm)

trouble_told : {p : Permit} {s : State} {row : Row} {before : List Rec} {why : Cause} (rest : List Rec) → Trouble p s row before why
    → IsUntroubled (before ++ rest) → ⊥
trouble_told rest (Given.Trouble.faulted count written counts) calm = no_truth calm.0
trouble_told rest (Given.Trouble.damaged found damaged) calm = no_truth calm.0

-- no displacement is
calm_purge : (segment live : ℕ) (purged : List Row) → IsUntroubled (map (displaced_record segment live) purged) → purged ≡ []
calm_purge segment live [] calm = refl
calm_purge segment live (row ∷ purged) calm = no_truth calm.0

pub calm_purged : {p : Permit} {s : State} {piece : PieceId} {added : List Rec} (rest : List Rec) → IsUntroubled (added ++ rest)
    → (m : MayDisplace p s piece added) → m.purged ≡ []
calm_purged {p} {s} {piece} {added} rest calm m =
    let segment : ℕ = segment_of_piece s piece in
    let quiet : IsUntroubled added = (all_parts (λ r. is_trouble r ≡ false) added rest calm).0 in
    calm_purge segment (length (rows_of_segment s segment)) m.purged (subst IsUntroubled m.is quiet)

calm_displaced : {p : Permit} {s : State} {piece : PieceId} {added : List Rec} (rest : List Rec) → IsUntroubled (added ++ rest)
    → MayDisplace p s piece added → added ≡ []
calm_displaced {p} {s} {piece} {added} rest calm m =
    let segment : ℕ = segment_of_piece s piece in
    m.is ∙ ap (map (displaced_record segment (length (rows_of_segment s segment)))) (calm_purged rest calm m)

-- ---- a group

-- what a group records, but for the digests of copies, and how it ends
record Group : Type 0 where
  recs : List Rec
  end : End

abbrev group : List Rec → End → Group
group recs end = record { recs = recs; end = end }

abbrev told : List Rec → End → Group
told added e = group (map without_copy_digest added) e

-- ---- flushes

-- what comes of what is due where the device gives all that is read: it is copied within the budget
abbrev outcomes_of : ℕ → List Row → List Outcome
outcomes_of left [] = []
outcomes_of left (row ∷ rows) = if nat_le row.blocks left then Copied [] ∷ outcomes_of (left - row.blocks) rows else NoRoom ∷ outcomes_of left rows

-- pieces and what comes of them are alike
data AreMatched : List Row → List Row → List Outcome → List Outcome → Type 0 where
  nothing : AreMatched [] [] [] []
  no_room : {row other : Row} {rows others : List Row} {one two : List Outcome} → without_digest row ≡ without_digest other
      → AreMatched rows others one two
      → AreMatched (row ∷ rows) (other ∷ others) (NoRoom ∷ one) (NoRoom ∷ two)
  copied : {row other : Row} {rows others : List Row} {one two : List Outcome} (bytes more : List ℕ)
      → without_digest row ≡ without_digest other → AreMatched rows others one two
      → AreMatched (row ∷ rows) (other ∷ others) (Copied bytes ∷ one) (Copied more ∷ two)

skipped : (row : Row) (rows : List Row) (left : ℕ) (one : List Outcome) (b : Bool) → nat_le row.blocks left ≡ b → b ≡ false
    → AreMatched rows (map without_digest rows) one (outcomes_of left (map without_digest rows))
    → AreMatched (row ∷ rows) (map without_digest (row ∷ rows)) (NoRoom ∷ one) (outcomes_of left (map without_digest (row ∷ rows)))
skipped row rows left one true is off rest = no_truth off
skipped row rows left one false is off rest = rw is (no_room refl rest)

taken : (row : Row) (rows : List Row) (left : ℕ) (bytes : List ℕ) (one : List Outcome) (b : Bool) → nat_le row.blocks left ≡ b → b ≡ true
    → AreMatched rows (map without_digest rows) one (outcomes_of (left - row.blocks) (map without_digest rows))
    → AreMatched (row ∷ rows) (map without_digest (row ∷ rows)) (Copied bytes ∷ one) (outcomes_of left (map without_digest (row ∷ rows)))
taken row rows left bytes one true is on rest = rw is (copied bytes [] refl rest)
taken row rows left bytes one false is on rest = no_truth (sym on)

matched : (p : Permit) (s : State) (left : ℕ) (rows : List Row) (outcomes : List Outcome) (rest : List Rec)
    → IsUntroubled (front_of rows outcomes ++ rest) → AreOutcomes p s left rows outcomes
    → AreMatched rows (map without_digest rows) outcomes (outcomes_of left (map without_digest rows))
matched p s left [] [] rest calm h = nothing
matched p s left [] (o ∷ outcomes) rest calm h = absurd h
matched p s left (row ∷ rows) [] rest calm h = absurd h
matched p s left (row ∷ rows) (Spoiled found ∷ outcomes) rest calm h = no_truth calm.0
matched p s left (row ∷ rows) (ReadRefused count ∷ outcomes) rest calm h = no_truth calm.0
matched p s left (row ∷ rows) (NoRoom ∷ outcomes) rest calm h =
    let off : nat_le row.blocks left ≡ false = lt-leb row.blocks left h.0 in
    skipped row rows left outcomes (nat_le row.blocks left) refl off (matched p (after_all s (records_of row NoRoom)) left rows outcomes rest calm.1 h.1)
matched p s left (row ∷ rows) (Copied bytes ∷ outcomes) rest calm h =
    let on : nat_le row.blocks left ≡ true = le-leb row.blocks left h.0.0 in
    taken row rows left bytes outcomes (nat_le row.blocks left) refl on (matched p s (left - row.blocks) rows outcomes rest calm h.1)

fronts_alike : {rows others : List Row} {one two : List Outcome} → AreMatched rows others one two → front_of rows one ≡ front_of others two
fronts_alike nothing = refl
fronts_alike (no_room {row = row} {other = other} {others = others} {two = two} same m) =
    ap (λ recs. records_of row NoRoom ++ recs) (fronts_alike m)
    ∙ ap (λ (x : Row). rec.Unsaved x.id x.place false ∷ front_of others two) same
fronts_alike (copied bytes more same m) = fronts_alike m

-- what is copied is recorded alike
copies_alike : {rows others : List Row} {one two : List Outcome} (s t : State) → HoldTheSame s t → AreMatched rows others one two
    → map without_copy_digest (moved_records s (copies_of rows one)) ≡ map without_copy_digest (moved_records t (copies_of others two))
copies_alike s t same nothing = refl
copies_alike s t same (no_room like m) = copies_alike s t same m
copies_alike s t same (copied {row = row} {other = other} {rows = rows} {others = others} {one = one} {two = two} bytes more like m) =
    let c : Copy = record { row = row; bytes = bytes } in
    let d : Copy = record { row = other; bytes = more } in
    let first : without_copy_digest (moved_record s c) ≡ without_copy_digest (moved_record t d) =
    ap (λ (x : Row). rec.Moved x.id x.place (place_now s) (record { 0 = [] })) like ∙ ap (λ (x : State). rec.Moved other.id other.place (place_now x) (record { 0 = [] })) same in
    ap (λ (r : Rec). r ∷ map without_copy_digest (moved_records (state_after s (moved_record s c)) (copies_of rows one))) first
    ∙ ap (λ (recs : List Rec). without_copy_digest (moved_record t d) ∷ recs)
    (copies_alike (state_after s (moved_record s c)) (state_after t (moved_record t d)) (record_alike s t (moved_record s c) (moved_record t d) same first) m)

-- the records of a flush whose device gives all, but for the digests of its copies
abbrev flushed : ℕ → State → List Rec
flushed now s = map without_copy_digest (flush_records s (due_pieces s now) (outcomes_of (budget_of s.geometry) (due_pieces s now)))

flushes_alike : (s t : State) (rows others : List Row) (one two : List Outcome) → HoldTheSame s t → AreMatched rows others one two
    → map without_copy_digest (flush_records s rows one) ≡ map without_copy_digest (flush_records t others two)
flushes_alike s t rows others one two same m =
    let front : List Rec = front_of rows one in
    let fore : List Rec = front_of others two in
    let fronts : map without_copy_digest front ≡ map without_copy_digest fore = ap (map without_copy_digest) (fronts_alike m) in
    let began : began_record s ≡ began_record t = ap began_record same in
    let open_s : State = state_after (after_all s front) (began_record s) in
    let open_t : State = state_after (after_all t fore) (began_record t) in
    let opened : HoldTheSame open_s open_t =
    record_alike (after_all s front) (after_all t fore) (began_record s) (began_record t) (all_alike s t front fore same fronts) (ap without_copy_digest began) in
    map-append without_copy_digest front (began_record s ∷ moved_records open_s (copies_of rows one))
    ∙ ap (λ (recs : List Rec). recs ++ began_record s ∷ map without_copy_digest (moved_records open_s (copies_of rows one))) fronts
    ∙ ap (λ (r : Rec). map without_copy_digest fore ++ r ∷ map without_copy_digest (moved_records open_s (copies_of rows one))) began
    ∙ ap (λ (recs : List Rec). map without_copy_digest fore ++ began_record t ∷ recs) (copies_alike open_s open_t opened m)
    ∙ sym (map-append without_copy_digest fore (began_record t ∷ moved_records open_t (copies_of others two)))

flush_calm : {p : Permit} {s : State} {added : List Rec} → IsUntroubled added → MayFlush p s added
    → map without_copy_digest added ≡ flushed p.now (without_digests s)
flush_calm {p} {s} {added} calm m =
    let rows : List Row = due_pieces s p.now in
    let left : ℕ = budget_of s.geometry in
    let m2 : AreMatched rows (map without_digest rows) m.outcomes (outcomes_of left (map without_digest rows)) =
    matched p s left rows m.outcomes _ (subst IsUntroubled m.is calm) m.are in
    ap (map without_copy_digest) m.is
    ∙ flushes_alike s (without_digests s) rows (map without_digest rows) m.outcomes (outcomes_of left (map without_digest rows)) (digests_twice s) m2
    ∙ ap (λ (xs : List Row). map without_copy_digest (flush_records (without_digests s) xs (outcomes_of left xs))) (sym (due_too s p.now))

-- where a flush is made, and where the limit keeps it
abbrev flush_group : ℕ → State → End → Group
flush_group now s e = if is_flush_exhausted s then group [] (Fails Exhausted) else group (flushed now s) e

abbrev flush_or_none : ℕ → State → Group
flush_or_none now s = if s.filled == 0 then group [] Done else flush_group now s Done

-- what comes of a test that has this value
yes : {X : Type 0} {b : Bool} (x y : X) → b ≡ true → (if b then x else y) ≡ x
yes x y is = rw is refl

no : {X : Type 0} {b : Bool} (x y : X) → b ≡ false → (if b then x else y) ≡ y
no x y is = rw is refl

-- records of none
of_none : {added : List Rec} {e : End} → added ≡ [] → told added e ≡ group [] e
of_none {e = e} is = ap (λ (recs : List Rec). told recs e) is

not_empty : (n : ℕ) → 0 < n → (n == 0) ≡ false
not_empty n some = ne_eqb n 0 (λ is. omega (arith, some, is))

made : {p : Permit} {s : State} {added : List Rec} (e : End) → IsUntroubled added → MayFlush p s added
    → told added e ≡ flush_group p.now (without_digests s) e
made e calm m = ap (λ (recs : List Rec). group recs e) (flush_calm calm m) ∙ sym (no _ _ m.can.below)

kept_from : (now : ℕ) (s : State) {added : List Rec} (e : End) → is_flush_exhausted s ≡ true → added ≡ []
    → told added (Fails Exhausted) ≡ flush_group now (without_digests s) e
kept_from now s e high is = of_none is ∙ sym (yes _ _ high)

calm_flush : {p : Permit} {s : State} {added : List Rec} {e : End} → p.syncs ≡ false → IsUntroubled added → DoesFlush p s added e
    → told added e ≡ flush_or_none p.now (without_digests s)
calm_flush off calm (Legal.DoesFlush.stops count stop) = absurd (stop_told stop calm)
calm_flush off calm (Legal.DoesFlush.syncs d) = never off (sync_on d)
calm_flush {s = s} off calm (Legal.DoesFlush.empty quiet is none) = of_none none ∙ sym (yes _ _ (eq-eqb s.filled 0 is))
calm_flush {s = s} off calm (Legal.DoesFlush.flushes flush) = made Done calm flush ∙ sym (no _ _ (not_empty s.filled flush.can.filled))
calm_flush {p} {s = s} off calm (Legal.DoesFlush.exhausted quiet some high none) = kept_from p.now s Done high none ∙ sym (no _ _ (not_empty s.filled some))

-- a piece of so many bytes that has no room
pub calm_room : {p : Permit} {s : State} {bytes : ℕ} {added : List Rec} {e : End} → p.syncs ≡ false → IsUntroubled added
    → MakesRoom p s bytes added e
    → (has_room s bytes ≡ false) × (told added e ≡ flush_group p.now (without_digests s) Stays)
calm_room off calm (Legal.MakesRoom.stops count room stop) = absurd (stop_told stop calm)
calm_room off calm (Legal.MakesRoom.syncs end room d is) = never off (sync_on d)
calm_room off calm (Legal.MakesRoom.flushes room flush) = (room, made Stays calm flush)
calm_room {p} {s} off calm (Legal.MakesRoom.exhausted room high none) = (room, kept_from p.now s Stays high none)

-- ---- what is asked of puts and readers that are known

abbrev of_put : State → ℕ → (PutRow → Group) → Group
of_put s put f = unwrap_or (option_map f (put_of s put)) (group [] Done)

put_is : (s : State) (put : ℕ) (f : PutRow → Group) (w : PutRow) → put_of s put ≡ Some w → of_put s put f ≡ f w
put_is s put f w found = ap (λ (o : Option PutRow). unwrap_or (option_map f o) (group [] Done)) found

abbrev of_reader : State → ℕ → (ReaderRow → Group) → Group
of_reader s reader f = unwrap_or (option_map f (reader_of s reader)) (group [] Done)

reader_is : (s : State) (reader : ℕ) (f : ReaderRow → Group) (r : ReaderRow) → reader_of s reader ≡ Some r → of_reader s reader f ≡ f r
reader_is s reader f r found = ap (λ (o : Option ReaderRow). unwrap_or (option_map f o) (group [] Done)) found

-- ---- writers

abbrev write_group : State → ℕ → Key → List Field → List Field → ℕ → Group
write_group s actor key request response pin =
    if nat_le most_writers (open_writers s) then group [] (Fails ManyWriters)
    else if nat_le limit (s.next_put + 1) then group [] (Fails Exhausted)
    else group (rec.WriteOpened (record { 0 = actor }) s.next_put key request response pin ∷ []) Done

calm_write : {s : State} {actor : ℕ} {key : Key} {request response : List Field} {pin : ℕ} {added : List Rec} {e : End}
    → DoesWrite s actor key request response pin added e → told added e ≡ write_group s actor key request response pin
calm_write {s} {actor} {key} {request} {response} {pin} (Legal.DoesWrite.opens m) =
    let who : m.who ≡ record { 0 = actor } = ap (λ n. record { 0 = n }) m.number in
    ap (λ (recs : List Rec). told recs Done) m.is ∙ ap (λ (w : Actor). group (rec.WriteOpened w s.next_put key request response pin ∷ []) Done) who
    ∙ sym (no _ _ (lt-leb most_writers (open_writers s) m.few) ∙ no _ _ (lt-leb limit (s.next_put + 1) m.below))
calm_write {s} (Legal.DoesWrite.many quiet many none) = of_none none ∙ sym (yes _ _ (le-leb most_writers (open_writers s) many))
calm_write {s} (Legal.DoesWrite.exhausted quiet few high none) =
    of_none none ∙ sym (no _ _ (lt-leb most_writers (open_writers s) few) ∙ yes _ _ (le-leb limit (s.next_put + 1) high))

-- a piece is placed where it does not end at the limit
abbrev place_group : State → ℕ → List Rec → Group
place_group s bytes recs = if nat_le limit (place_now s + blocks_of bytes) then group [] (Fails Exhausted) else group recs Done

abbrev room_group : ℕ → State → ℕ → Group → Group
room_group now s bytes g = if has_room s bytes then g else flush_group now s Stays

fragment_records : State → ℕ → ℕ → List ℕ → PutRow → List Rec → List Rec
fragment_records s put index payload w displaced =
    rec.Cut put index (length payload) (digest_of payload) ∷ (displaced ++ placed_record s (next_fragment_of w) w.pin (total_length w.cuts) (length payload) payload ∷ [])

abbrev fragment_group : ℕ → State → ℕ → ℕ → List ℕ → Group
fragment_group now s put index payload =
    of_put s put (λ w. room_group now s (length payload) (place_group s (length payload) (fragment_records s put index payload w [])))

calm_fragment : {p : Permit} {s : State} {put index : ℕ} {payload : List ℕ} {added : List Rec} {e : End} → p.syncs ≡ false
    → IsUntroubled added
    → DoesFragment p s put index payload added e → told added e ≡ fragment_group p.now (without_digests s) put index payload
unfolding fragment_records
calm_fragment off calm (Legal.DoesFragment.unmarks w cut place u) = never off (unmark_on u)
calm_fragment {s = s} {put = put} {index = index} {payload = payload} {e = e} off calm (Legal.DoesFragment.places is m) =
    let behind = subst IsUntroubled m.is calm in
    ap (λ (recs : List Rec). told recs e) (m.is ∙ ap (fragment_records s put index payload m.w) (calm_displaced _ behind.1 m.displaces))
    ∙ ap (λ (end : End). group (fragment_records s put index payload m.w []) end) is
    ∙ sym (put_is s put _ m.w m.cut.writing.found ∙ yes _ _ m.place.room ∙ no _ _ (lt-leb limit (place_now s + blocks_of (length payload)) m.place.below))
calm_fragment {s = s} {put = put} off calm (Legal.DoesFragment.rooms w cut room) =
    let made = calm_room off calm room in
    made.1 ∙ sym (put_is s put _ w cut.writing.found ∙ no _ _ made.0)
calm_fragment {s = s} {put = put} {payload = payload} off calm (Legal.DoesFragment.exhausted w is cut none) =
    ap (told _) is ∙ of_none none.is
    ∙ sym (put_is s put _ w cut.writing.found ∙ yes _ _ none.room ∙ yes _ _ (le-leb limit (place_now s + blocks_of (length payload)) none.above))

abbrev abort_group : PutRow → End → Group
abort_group w e = group (aborted_record w ∷ []) e

aborted : {added : List Rec} {e : End} (w : PutRow) → added ≡ aborted_record w ∷ [] → told added e ≡ abort_group w e
aborted {e = e} w is = ap (λ (recs : List Rec). told recs e) is

calm_overflow : {s : State} {put : ℕ} {added : List Rec} {e : End} → DoesOverflow s put added e
    → told added e ≡ of_put s put (λ w. abort_group w (Fails (ManyFragments put)))
calm_overflow {s} {put} (Legal.DoesOverflow.aborts w m full is) = aborted w is ∙ sym (put_is s put _ w m.found)

abbrev weigh_group : State → ℕ → ℕ → Group
weigh_group s put rest =
    of_put s put (λ w. if nat_le (blocks_of (size_alone w rest)) (budget_of s.geometry) then group [] Done else abort_group w (Fails (TooLarge put (size_alone w rest))))

calm_weigh : {p : Permit} {s : State} {put rest : ℕ} {added : List Rec} {e : End} → IsUntroubled added → DoesWeigh p s put rest added e
    → told added e ≡ weigh_group s put rest
calm_weigh calm (Legal.DoesWeigh.damaged w row found m live damaged is) = absurd (told_first _ refl is calm)
calm_weigh calm (Legal.DoesWeigh.faulted w row count m live written counts is) = absurd (told_first _ refl is calm)
calm_weigh {s = s} {put = put} {rest = rest} calm (Legal.DoesWeigh.weighs w m read fits is) =
    of_none is ∙ sym (put_is s put _ w m.found ∙ yes _ _ (le-leb (blocks_of (size_alone w rest)) (budget_of s.geometry) fits))
calm_weigh {s = s} {put = put} {rest = rest} calm (Legal.DoesWeigh.too_large w m read large is) =
    aborted w is ∙ sym (put_is s put _ w m.found ∙ no _ _ (lt-leb (blocks_of (size_alone w rest)) (budget_of s.geometry) large))

-- ---- the end of a put

-- the least index up to a last one that is not live, from 1 on
abbrev lost_to : (ℕ → Bool) → ℕ → Option ℕ
lost_to live zero = None
lost_to live (suc last) = elim (lost_to live last) [ Some index ↦ Some index | None ↦ if live (suc last) then None else Some (suc last) ]

none_lost : (live : ℕ → Bool) (last : ℕ) → ((index : ℕ) → 0 < index → index ≤ last → live index ≡ true) → lost_to live last ≡ None
none_lost live zero each = refl
none_lost live (suc last) each =
    let before : lost_to live last ≡ None = none_lost live last (λ index some low. each index some (omega (arith, low))) in
    let here : live (suc last) ≡ true = each (suc last) (omega arith) (omega arith) in
    rw (before, here) refl

module _ (live : ℕ → Bool) (index : ℕ) (some : 0 < index) (dead : live index ≡ false) (each : (i : ℕ) → 0 < i → i < index → live i ≡ true) where
  lost_here : (last : ℕ) → index ≡ suc last → lost_to live (suc last) ≡ Some index
  lost_here last is =
      let before : lost_to live last ≡ None = none_lost live last (λ i first low. each i first (omega (arith, low, is))) in
      let here : live (suc last) ≡ false = subst (λ n. live n ≡ false) is dead in
      rw (before, here) (ap (λ (n : ℕ). Some n) (sym is))

  lost_among : (last : ℕ) (b : Bool) → nat_le index last ≡ b → index ≤ suc last → (index ≤ last → lost_to live last ≡ Some index)
      → lost_to live (suc last) ≡ Some index
  lost_among last true is within before = let found : lost_to live last ≡ Some index = before (leb-true index last is) in rw found refl
  lost_among last false is within before = let above = leb-false index last is in lost_here last (omega (arith, within, above))

  lost_is : (last : ℕ) → index ≤ last → lost_to live last ≡ Some index
  lost_is zero within = absurd (omega (arith, some, within))
  lost_is (suc last) within = lost_among last (nat_le index last) refl within (λ low. lost_is last low)

-- the fragment of a put is live
abbrev has_live : State → PutRow → ℕ → Bool
has_live s w index = is_some (live_row_of s (fragment_piece w.key w.put index))

-- so it is but for digests
has_live_by : (o : Option Row) (b : Bool) → is_some o ≡ b → is_some (option_map without_digest o) ≡ b
has_live_by None b is = is
has_live_by (Some row) b is = is

live_in : (s : State) (w : PutRow) (index : ℕ) (b : Bool) → has_live s w index ≡ b → has_live (without_digests s) w index ≡ b
live_in s w index b is = ap is_some (live_row_too s (fragment_piece w.key w.put index)) ∙ has_live_by (live_row_of s (fragment_piece w.key w.put index)) b is

each_live : (s : State) (w : PutRow) (last : ℕ) → AreLiveTo s w last → (index : ℕ) → 0 < index → index ≤ last
    → has_live (without_digests s) w index ≡ true
each_live s w last all index some low = live_in s w index true (ap is_some (all index some low).1)

vector_records : State → ℕ → PutRow → List Rec → List Rec
vector_records s put w displaced = displaced ++ placed_record s (vector_piece w.key put) (greatest_pin (list_of_put s put)) 0 (vector_length s put) (vector_payload s put) ∷ []

abbrev finish_group : ℕ → State → ℕ → ℕ → Group
finish_group now s put fragments =
    of_put s put (λ w. room_group now s (vector_length s put) (elim (lost_to (has_live s w) fragments) [
      | Some index ↦ abort_group w (Fails (Lost put index))
      | None ↦ place_group s (vector_length s put) (vector_records s put w [])
    ]))

-- the same where the vector lists these
abbrev finish_with : ℕ → State → ℕ → ℕ → List Stored → PutRow → Group
finish_with now s put fragments list w =
    room_group now s (vector_size list) (elim (lost_to (has_live s w) fragments) [
      | Some index ↦ abort_group w (Fails (Lost put index))
      | None ↦ place_group s (vector_size list) (placed_record s (vector_piece w.key put) (greatest_pin list) 0 (vector_size list) (vector_bytes list) ∷ [])
    ])

finish_is : (now : ℕ) (s : State) (put fragments : ℕ) (w : PutRow) → put_of s put ≡ Some w
    → finish_group now (without_digests s) put fragments ≡ finish_with now (without_digests s) put fragments (list_of_put s put) w
unfolding vector_records
finish_is now s put fragments w found =
    put_is (without_digests s) put (finish_with now (without_digests s) put fragments (list_of_put (without_digests s) put)) w found
    ∙ ap (λ (list : List Stored). finish_with now (without_digests s) put fragments list w) (list_too s put)

-- all fragments are live
whole_is : (now : ℕ) (s : State) (put fragments : ℕ) (list : List Stored) (w : PutRow) → has_room s (vector_size list) ≡ true
    → AreLiveTo s w fragments
    → finish_with now (without_digests s) put fragments list w
    ≡ place_group s (vector_size list) (placed_record s (vector_piece w.key put) (greatest_pin list) 0 (vector_size list) (vector_bytes list) ∷ [])
whole_is now s put fragments list w room all =
    yes _ _ room
    ∙ ap (λ (o : Option ℕ). elim o [
      | Some index ↦ abort_group w (Fails (Lost put index))
      | None ↦ place_group s (vector_size list) (placed_record s (vector_piece w.key put) (greatest_pin list) 0 (vector_size list) (vector_bytes list) ∷ [])
    ]) (none_lost (has_live (without_digests s) w) fragments (each_live s w fragments all))

calm_finish : {p : Permit} {s : State} {put fragments : ℕ} {added : List Rec} {e : End} → p.syncs ≡ false → IsUntroubled added
    → DoesFinish p s put fragments added e → told added e ≡ finish_group p.now (without_digests s) put fragments
unfolding vector_records
calm_finish off calm (Legal.DoesFinish.unmarks w cut live place u) = never off (unmark_on u)
calm_finish {p} {s} {put} {fragments} {e = e} off calm (Legal.DoesFinish.places is m) =
    ap (λ (recs : List Rec). told recs e) (m.is ∙ ap (vector_records s put m.w) (calm_displaced _ (subst IsUntroubled m.is calm) m.displaces))
    ∙ ap (λ (end : End). group (vector_records s put m.w []) end) is
    ∙ sym (finish_is p.now s put fragments m.w m.cut.writing.found ∙ whole_is p.now s put fragments (list_of_put s put) m.w m.place.room m.whole
    ∙ no _ _ (lt-leb limit (place_now s + blocks_of (vector_length s put)) m.place.below))
calm_finish {p} {s} {put} {fragments} off calm (Legal.DoesFinish.rooms w cut room) =
    let made = calm_room off calm room in
    made.1 ∙ sym (finish_is p.now s put fragments w cut.writing.found ∙ no _ _ made.0)
calm_finish {p} {s} {put} {fragments} {added} off calm (Legal.DoesFinish.loses w index is m gone) =
    let number : w.put ≡ put = number_of s put w m.cut.writing.found in
    let dead : has_live (without_digests s) w index ≡ false =
    live_in s w index false (ap (λ (n : ℕ). is_some (live_row_of s (fragment_piece w.key n index))) number ∙ ap is_some m.lost) in
    let first = m.some in
    let lost : lost_to (has_live (without_digests s) w) fragments ≡ Some index =
    lost_is (has_live (without_digests s) w) index m.some dead (λ i some low. each_live s w (index - 1) m.before i some (omega (arith, low))) fragments m.within in
    ap (told added) is ∙ aborted w gone
    ∙ sym (finish_is p.now s put fragments w m.cut.writing.found ∙ yes _ _ m.room
    ∙ ap (λ (o : Option ℕ). elim o [
      | Some i ↦ abort_group w (Fails (Lost put i))
      | None ↦ place_group s (vector_length s put) (vector_records s put w [])
    ]) lost)
calm_finish {p} {s} {put} {fragments} {added} off calm (Legal.DoesFinish.exhausted w is cut whole none) =
    ap (told added) is ∙ of_none none.is
    ∙ sym (finish_is p.now s put fragments w cut.writing.found ∙ whole_is p.now s put fragments (list_of_put s put) w none.room whole
    ∙ yes _ _ (le-leb limit (place_now s + blocks_of (vector_length s put)) none.above))

abbrev commit_group : State → ℕ → Group
commit_group s put = of_put s put (λ w. group (rec.Committed put w.key (total_length w.cuts) (list_of_piece s (vector_piece w.key put)) ∷ []) Done)

calm_commit : {s : State} {put : ℕ} {added : List Rec} {e : End} → DoesCommit s put added e
    → told added e ≡ commit_group (without_digests s) put
calm_commit {s} {put} (Legal.DoesCommit.commits w found writing pending is) =
    ap (λ (recs : List Rec). told recs Done) is
    ∙ ap (λ (list : List Stored). group (rec.Committed put w.key (total_length w.cuts) list ∷ []) Done) (sym (list_of_piece_too s (vector_piece w.key put)))
    ∙ sym (put_is (without_digests s) put _ w found)

abbrev give_up_group : State → ℕ → Group
give_up_group s put = if is_writing s put then of_put s put (λ w. abort_group w Done) else group [] Done

calm_give_up : {s : State} {put : ℕ} {added : List Rec} {e : End} → DoesGiveUp s put added e → told added e ≡ give_up_group s put
calm_give_up {s} {put} (Legal.DoesGiveUp.aborts w m is) =
    let writing : is_writing s put ≡ true =
    ap (λ o. unwrap_or (option_map is_open o) false) m.found ∙ ap (λ t. elim t [ Open ↦ true | Closed ↦ false | GivenUp ↦ false ]) m.is_open in
    aborted w is ∙ sym (yes _ _ writing ∙ put_is s put _ w m.found)
calm_give_up (Legal.DoesGiveUp.over quiet closed is) = of_none is ∙ sym (no _ _ closed)

-- ---- keys

abbrev remove_group : Key → Option Row → Group
remove_group key None = group [] Done
remove_group key (Some row) = group (rec.Removed row.id.put key ∷ []) Done

calm_remove : {s : State} {key : Key} {added : List Rec} {e : End} → DoesRemove s key added e
    → told added e ≡ remove_group key (live_vector_of (without_digests s) key)
calm_remove {s} {key} (Legal.DoesRemove.removes row quiet live is) =
    ap (λ (recs : List Rec). told recs Done) is ∙ sym (ap (remove_group key) (live_vector_too s key ∙ ap (option_map without_digest) live))
calm_remove {s} {key} (Legal.DoesRemove.absent quiet none is) = of_none is ∙ sym (ap (remove_group key) (live_vector_too s key ∙ ap (option_map without_digest) none))

lookup_calm : {p : Permit} {s : State} {key : Key} {request : List Field} {before : List Rec} {answer : ReadAnswer} (rest : List Rec)
    → IsLookup p s key request before answer → IsUntroubled (before ++ rest) → (before ≡ []) × (answer ≡ lookup_verdict s key request)
lookup_calm rest (Legal.IsLookup.verdict read) calm = (refl, refl)
lookup_calm rest (Legal.IsLookup.trouble row before why live trouble) calm = absurd (trouble_told rest trouble calm)

abbrev look_group : State → ℕ → Key → List Field → Group
look_group s actor key request = group (rec.ReadOpened s.next_reader (record { 0 = actor }) key request (lookup_verdict s key request) ∷ []) Done

look_records : State → Key → List Field → ℕ → List Rec → ReadAnswer → List Rec
look_records s key request actor before answer = before ++ rec.ReadOpened s.next_reader (record { 0 = actor }) key request answer ∷ []

calm_look : {p : Permit} {s : State} {actor : ℕ} {key : Key} {request : List Field} {added : List Rec} {e : End} → IsUntroubled added
    → DoesLook p s actor key request added e → told added e ≡ look_group (without_digests s) actor key request
unfolding look_records
calm_look {s = s} {actor = actor} {key = key} {request = request} calm (Legal.DoesLook.looks m) =
    let right = lookup_calm _ m.right (subst IsUntroubled m.is calm) in
    let records : List Rec → ReadAnswer → Group = λ before answer. told (look_records s key request m.who.0 before answer) Done in
    ap (λ (recs : List Rec). told recs Done) m.is
    ∙ ap (λ (before : List Rec). records before m.answer) right.0
    ∙ ap (records []) (right.1 ∙ sym (lookup_too s key request))
    ∙ ap (λ (n : ℕ). told (look_records s key request n [] (lookup_verdict (without_digests s) key request)) Done) m.number

-- ---- readers

read_trouble_told : {p : Permit} {s : State} {row : Row} {entry : TableRow} {before : List Rec} {why : Cause} (rest : List Rec)
    → ReadTrouble p s row entry before why → IsUntroubled (before ++ rest) → ⊥
read_trouble_told rest (Legal.ReadTrouble.troubled before why trouble) calm = trouble_told rest trouble calm
read_trouble_told rest (Legal.ReadTrouble.mismatched found read unlike) calm = no_truth calm.0

reading_calm : {p : Permit} {s : State} {r : ReaderRow} {before : List Rec} {answer : NextAnswer} (rest : List Rec)
    → IsReading p s r before answer → IsUntroubled (before ++ rest) → (before ≡ []) × (answer ≡ reader_verdict s r)
reading_calm rest (Legal.IsReading.verdict read listed) calm = (refl, refl)
reading_calm rest (Legal.IsReading.trouble entry row before why next live trouble) calm = absurd (read_trouble_told rest trouble calm)

abbrev answer_group : ℕ → NextAnswer → End → Group
answer_group reader answer e = group (map without_copy_digest (answer_record reader answer ∷ [])) e

read_calm : {p : Permit} {s : State} {reader : ℕ} {answer : NextAnswer} {added : List Rec} (e : End) → IsUntroubled added
    → (m : MayReadOn p s reader answer added)
    → (answer ≡ reader_verdict (without_digests s) m.r) × (told added e ≡ answer_group reader answer e)
read_calm {s = s} {reader = reader} {answer = answer} e calm m =
    let right = reading_calm _ m.right (subst IsUntroubled m.is calm) in (
      right.1 ∙ sym (reader_too s m.r),
      ap (λ (recs : List Rec). told recs e) (m.is ∙ ap (λ (before : List Rec). before ++ answer_record reader answer ∷ []) right.0),
    )

abbrev read_on_group : State → ℕ → Group
read_on_group s reader = of_reader s reader (λ r. answer_group reader (reader_verdict s r) Done)

calm_read_on : {p : Permit} {s : State} {reader : ℕ} {added : List Rec} {e : End} → IsUntroubled added → DoesReadOn p s reader added e
    → told added e ≡ read_on_group (without_digests s) reader
calm_read_on {s = s} {reader = reader} calm (Legal.DoesReadOn.reads_on answer m) =
    let right = read_calm Done calm m in
    right.1 ∙ ap (λ (x : NextAnswer). answer_group reader x Done) right.0 ∙ sym (reader_is (without_digests s) reader _ m.r m.reading)

abbrev read_all_group : State → ℕ → Group
read_all_group s reader =
    if has_hit s reader then of_reader s reader (λ r. answer_group reader (reader_verdict s r) (cond (is_given (reader_verdict s r)) Stays Done)) else group [] Done

calm_read_all : {p : Permit} {s : State} {reader : ℕ} {added : List Rec} {e : End} → IsUntroubled added → DoesReadAll p s reader added e
    → told added e ≡ read_all_group (without_digests s) reader
calm_read_all {s = s} {reader = reader} {added = added} calm (Legal.DoesReadAll.reads_on answer hit m is) =
    let right = read_calm (cond (is_given answer) Stays Done) calm m in
    ap (told added) is ∙ right.1 ∙ ap (λ (x : NextAnswer). answer_group reader x (cond (is_given x) Stays Done)) right.0
    ∙ sym (yes _ _ hit ∙ reader_is (without_digests s) reader _ m.r m.reading)
calm_read_all {added = added} calm (Legal.DoesReadAll.has_none quiet none is end) = ap (told added) end ∙ of_none is ∙ sym (no _ _ none)

abbrev stop_group : State → ℕ → Group
stop_group s reader = of_reader s reader (λ r. group (rec.ReadClosed reader ∷ []) Done)

calm_stop : {s : State} {reader : ℕ} {added : List Rec} {e : End} → DoesStopReading s reader added e → told added e ≡ stop_group s reader
calm_stop {s} {reader} (Legal.DoesStopReading.closes r quiet reading is) = ap (λ (recs : List Rec). told recs Done) is ∙ sym (reader_is s reader _ r reading)
calm_stop {s} {reader} (Legal.DoesStopReading.closed quiet none is) =
    of_none is ∙ sym (ap (λ (o : Option ReaderRow). unwrap_or (option_map (λ (r : ReaderRow). group (rec.ReadClosed reader ∷ []) Done) o) (group [] Done)) none)

-- ---- each group

-- what is asked for a sync a stripe that does not sync does not
abbrev group_of : ℕ → State → Intent → Group
group_of now s Flush = flush_or_none now s
group_of now s Sync = group [] Done
group_of now s SyncBegin = group [] Done
group_of now s (SyncStep last) = group [] Done
group_of now s Drain = group [] Done
group_of now s CleanSync = group [] Done
group_of now s (Write actor key request response pin) = write_group s actor key request response pin
group_of now s (Fragment put index payload) = fragment_group now s put index payload
group_of now s (Overflow put) = of_put s put (λ w. abort_group w (Fails (ManyFragments put)))
group_of now s (Weigh put rest) = weigh_group s put rest
group_of now s (Finish put fragments) = finish_group now s put fragments
group_of now s (Commit put) = commit_group s put
group_of now s (GiveUp put) = give_up_group s put
group_of now s (Remove key) = remove_group key (live_vector_of s key)
group_of now s (Look actor key request) = look_group s actor key request
group_of now s (ReadOn reader) = read_on_group s reader
group_of now s (ReadAll reader) = read_all_group s reader
group_of now s (StopReading reader) = stop_group s reader

calm_group : (p : Permit) (s : State) (i : Intent) (added : List Rec) (e : End) → p.syncs ≡ false → IsUntroubled added → Does p s i added e
    → told added e ≡ group_of p.now (without_digests s) i
calm_group p s Flush added e off calm h = calm_flush off calm h
calm_group p s Sync added e off calm h = never off (sync_on h)
calm_group p s SyncBegin added e off calm h = never off (sync_on h)
calm_group p s (SyncStep last) added e off calm h = never off (step_on h)
calm_group p s Drain added e off calm h = never off (drain_on h)
calm_group p s CleanSync added e off calm h = never off (clean_on h)
calm_group p s (Write actor key request response pin) added e off calm h = calm_write h
calm_group p s (Fragment put index payload) added e off calm h = calm_fragment off calm h
calm_group p s (Overflow put) added e off calm h = calm_overflow h
calm_group p s (Weigh put rest) added e off calm h = calm_weigh calm h
calm_group p s (Finish put fragments) added e off calm h = calm_finish off calm h
calm_group p s (Commit put) added e off calm h = calm_commit h
calm_group p s (GiveUp put) added e off calm h = calm_give_up h
calm_group p s (Remove key) added e off calm h = calm_remove h
calm_group p s (Look actor key request) added e off calm h = calm_look calm h
calm_group p s (ReadOn reader) added e off calm h = calm_read_on calm h
calm_group p s (ReadAll reader) added e off calm h = calm_read_all calm h
calm_group p s (StopReading reader) added e off calm h = calm_stop h

-- of two sessions that hold the same
pub groups_agree : (p q : Permit) (s t : State) (i : Intent) (one other : List Rec) (e f : End) → AreLike p q → HoldTheSame s t
    → IsUntroubled one → IsUntroubled other → Does p s i one e → Does q t i other f → TellTheSame one other × (e ≡ f)
groups_agree p q s t i one other e f like same calm calm2 h k =
    let groups : told one e ≡ told other f =
    calm_group p s i one e like.unsynced calm h ∙ ap (λ (now : ℕ). group_of now (without_digests s) i) like.moment
    ∙ ap (λ (x : State). group_of q.now x i) same ∙ sym (calm_group q t i other f like.other_unsynced calm2 k) in
    (ap (λ (g : Group). g.recs) groups, ap (λ (g : Group). g.end) groups)
