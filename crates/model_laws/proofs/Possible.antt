-- On a sound tape what may be asked can be done or is refused.
use lib.Pointwise.{pointwise}
use Rattle.std.specs.Cmp.Lexicographic.{same_text, other_text}
use Rattle.std.proofs.lemmas.Bool.{and_parts}
use Rattle.std.proofs.Common.{◌≡◌, ℕ, nat_eq, ap, zero, suc, ◌+◌, ◌-◌, ◌<◌, ◌≤◌, List, [], ◌∷◌, ◌++◌, refl, sym, ◌∙◌, subst, arith, Bool, false, true, leb-true, leb-false, le-leb}
use Rattle.std.specs.Prelude.{Option, Some, None, option_and_then, if◌then◌else◌, nat_le, length, filter, not, option_map, unwrap_or, is_some}
use Rattle.tape_base.specs.declared.geometries.Geometry.{Geometry}
use Rattle.tape_base.specs.declared.actors.Actor.{Actor}
use Rattle.tape_base.specs.declared.keys.Key.{Key}
use Rattle.alternate_vector.specs.Field.{Field}
use Rattle.tape_base.specs.declared.digests.Digest.{Digest}
use Rattle.doc_header.specs.Reading.{document_digest}
use Rattle.fragment_table.specs.Table.{TableRow}
use Rattle.cache_model.specs.declared.cause.Cause.{Cause}
use Rattle.cache_model.specs.declared.answer.NextAnswer.{NextAnswer}
use Rattle.cache_model.specs.Verdict.{digest_in, is_open, live_vector_of, next_piece, next_row}
use Rattle.tape_base.specs.Blocks.{blocks_of}
use Rattle.tape_base.specs.Geometry.{budget_of}
use Rattle.alternate_vector.specs.Alternates.{Stored, is_within, longest_within, vector_size, is_match}
use Rattle.cache_model.specs.declared.record.Rec.{Rec}
use Rattle.cache_model.specs.State.{State, Row, PutRow, ReaderRow, Writing, Open, Closed, GivenUp, put_of, reader_of, alternate_of, fragment_piece, list_among, live_row_of, merged_list, most_payload, place_now, vector_piece}
use Rattle.cache_model.specs.Permit.{Permit, Intent, Flush, Sync, SyncBegin, SyncStep, Drain, CleanSync, Write, Fragment, Overflow, Weigh, Finish, Commit, GiveUp, Remove, Look, ReadOn, ReadAll, StopReading, End, Done}
use Rattle.cache_model.specs.Room.{HasPlace, has_room, is_flush_exhausted, limit}
use Rattle.cache_model.specs.Given
use Rattle.cache_model.specs.Legal
use Rattle.cache_model.specs.Given.{IsRead, IsReadWhereLive, CountsRead, IsGiven, IsDamaged, IsWritten, Trouble}
use Rattle.cache_model.specs.Legal.{CanFlush, Does, IsQuiet, MayFlush, MayReadOn, DoesWrite, DoesOverflow, DoesCommit, DoesGiveUp, DoesReadAll, DoesStopReading, most_writers, open_writers, live_next, has_hit, MakesRoom, DoesFragment, DoesFinish, IsNext, IsCut, AreLiveTo, IsFragmentLive, HasNoPlace, IsWriting, DoesWeigh, DoesFlush, DoesLook, DoesReadOn, DoesRemove, IsLookup, IsReading, FitsAlone, next_fragment_of, size_alone, vector_length}
use Rattle.model_laws.specs.Choices
use Rattle.model_laws.specs.Choices.{AreDueTried, IsFlushTried, IsTried, IsTriedWhereLive, MayAsk, MayAskWrite}
use Rattle.cache_model.specs.ToRead.{to_read}
use Rattle.cache_model.specs.Tape.{IsSound}
use Rattle.cache_model.proofs.Found.{none_is, number_of, same_some}
use Rattle.model_laws.proofs.Listed.{listed_by}
use Rattle.model_laws.proofs.Purged.{can_displace}
use Rattle.step_laws.proofs.Unsynced.{unmarked_where}
use Rattle.model_laws.proofs.TriedFlush.{Flushes, flush_comes, made, stopped}

-- ---- sizes

-- the bytes of a piece that takes at most half a buffer
fits_bytes : (g : Geometry) (bytes : ℕ) → blocks_of bytes ≤ budget_of g → bytes ≤ most_payload g
fits_bytes g bytes fits = omega (arith, fits)

fits_blocks : (g : Geometry) (bytes : ℕ) → 8 ≤ g.agg → bytes ≤ most_payload g → blocks_of bytes ≤ budget_of g
fits_blocks g bytes some fits = omega (arith, some, fits)

within_case : (t : Bool) (most bytes : ℕ) (xs rest : List Stored) → is_within most bytes xs ≡ t → is_within most bytes rest ≡ true
    → is_within most bytes (if t then xs else rest) ≡ true
within_case true most bytes xs rest is others = is
within_case false most bytes xs rest is others = others

-- what is kept of a list that ends with an alternate that fits alone
kept_is_within : (most bytes : ℕ) (before : List Stored) (new : Stored) → is_within most bytes (new ∷ []) ≡ true
    → is_within most bytes (longest_within most bytes (before ++ new ∷ [])) ≡ true
kept_is_within most bytes [] new alone = subst (λ t. is_within most bytes (if t then new ∷ [] else []) ≡ true) (sym alone) alone
kept_is_within most bytes (x ∷ before) new alone =
    within_case (is_within most bytes (x ∷ (before ++ new ∷ []))) most bytes (x ∷ (before ++ new ∷ [])) _ refl (kept_is_within most bytes before new alone)

alone_is_within : (g : Geometry) (new : Stored) → vector_size (new ∷ []) ≤ most_payload g → is_within g.alternates (most_payload g) (new ∷ []) ≡ true
alone_is_within g new fits = rw (le-leb (length (new ∷ [])) g.alternates g.keeps.some) (le-leb (vector_size (new ∷ [])) (most_payload g) fits)

merged_fits : (s : State) (w : PutRow) → FitsAlone s w 0 → vector_size (merged_list s w) ≤ most_payload s.geometry
merged_fits s w alone =
    leb-true (vector_size (merged_list s w)) (most_payload s.geometry)
    (and_parts (nat_le (length (merged_list s w)) s.geometry.alternates) (nat_le (vector_size (merged_list s w)) (most_payload s.geometry))
    (kept_is_within s.geometry.alternates (most_payload s.geometry) (filter (λ a. not (is_match w.request a)) (list_among s (s.displaced ++ s.rows) w.key)) (alternate_of w)
    (alone_is_within s.geometry (alternate_of w) (fits_bytes s.geometry (vector_size (alternate_of w ∷ [])) (omega (arith, alone)))))).1

vector_fits : {s : State} {put fragments : ℕ} {w : PutRow} → IsCut s put fragments w → blocks_of (vector_length s put) ≤ budget_of s.geometry
vector_fits {s} {put} {w = w} cut =
    subst (λ o. blocks_of (vector_size (unwrap_or (option_map (merged_list s) o) [])) ≤ budget_of s.geometry) (sym cut.writing.found)
    (fits_blocks s.geometry (vector_size (merged_list s w)) s.geometry.accepted.agg_fits.0 (merged_fits s w cut.alone))

fragment_fits : {s : State} {put index : ℕ} {payload : List ℕ} {w : PutRow} → IsNext s put index payload w → blocks_of (length payload) ≤ budget_of s.geometry
fragment_fits {s} cut =
    let small = cut.small in
    let fits = s.geometry.accepted.fragment_fits.1 in
    omega (arith, small, fits)

-- ---- room

-- there is a place, or there is a group that makes room or says that none can be made
data Room (p : Permit) (s : State) (bytes : ℕ) : Type 0 where
  has : HasPlace s bytes → Room p s bytes
  ends : HasNoPlace s bytes [] → Room p s bytes
  makes : (added : List Rec) (e : End) → MakesRoom p s bytes added e → Room p s bytes

filled_by : (s : State) (bytes : ℕ) → blocks_of bytes ≤ budget_of s.geometry → has_room s bytes ≡ false → 0 < s.filled
filled_by s bytes small none =
    let over = leb-false (s.filled + blocks_of bytes) s.geometry.agg none in
    omega (arith, small, over)

-- where it was tried, a flush makes room, or the device stops it
room_by : (p : Permit) (s : State) (bytes : ℕ) → has_room s bytes ≡ false → Flushes p s → Room p s bytes
room_by p s bytes none (made added m) = makes added _ (Legal.MakesRoom.flushes none m)
room_by p s bytes none (stopped count added m) = makes added _ (Legal.MakesRoom.stops count none m)

room_case : (p : Permit) (s : State) (bytes : ℕ) (room flush place : Bool) → p.syncs ≡ false → IsQuiet s → blocks_of bytes ≤ budget_of s.geometry
    → (has_room s bytes ≡ false → CanFlush s → IsFlushTried p s) → has_room s bytes ≡ room → is_flush_exhausted s ≡ flush → nat_le limit (place_now s + blocks_of bytes) ≡ place → Room p s bytes
room_case p s bytes true flush false off quiet small due room below place =
    has (record { small = small; room = room; below = leb-false limit (place_now s + blocks_of bytes) place })
room_case p s bytes true flush true off quiet small due room below place =
    ends (record { room = room; above = leb-true limit (place_now s + blocks_of bytes) place; is = refl })
room_case p s bytes false false place off quiet small due room below end =
    let can : CanFlush s = record { quiet = quiet; filled = filled_by s bytes small room; below = below } in
    room_by p s bytes room (flush_comes p s off can (due room can))
room_case p s bytes false true place off quiet small due room below end = makes [] _ (Legal.MakesRoom.exhausted room below refl)

room_of : (p : Permit) (s : State) (bytes : ℕ) → p.syncs ≡ false → IsQuiet s → blocks_of bytes ≤ budget_of s.geometry → (not (has_room s bytes) ≡ true → CanFlush s → IsFlushTried p s) → Room p s bytes
room_of p s bytes off quiet small due = room_case p s bytes _ _ _ off quiet small (λ none. due (ap not none)) refl refl refl

-- ---- fragments

fragment_by_room : (p : Permit) (s : State) (put index : ℕ) (payload : List ℕ) (w : PutRow) → p.syncs ≡ false → IsSound s → IsNext s put index payload w
    → Room p s (length payload) → (added : List Rec) × (e : End) × DoesFragment p s put index payload added e
fragment_by_room p s put index payload w off sound cut (has place) =
    let gone = can_displace p s (next_fragment_of w) sound in
    (_, Done, Legal.DoesFragment.places refl (record { w = w; displaced = gone.0; cut = cut; unmarked = unmarked_where p s off; place = place; displaces = gone.1; is = refl }))
fragment_by_room p s put index payload w off sound cut (ends none) = ([], _, Legal.DoesFragment.exhausted w refl cut none)
fragment_by_room p s put index payload w off sound cut (makes added e room) = (added, e, Legal.DoesFragment.rooms w cut room)

-- the next fragment of an open put is placed, or a flush for it is made, or it is refused
a_fragment_can_be_asked : (p : Permit) (s : State) (put index : ℕ) (payload : List ℕ) (w : PutRow) → p.syncs ≡ false → IsSound s → IsNext s put index payload w
    → AreDueTried p s (Fragment put index payload) → (added : List Rec) × (e : End) × DoesFragment p s put index payload added e
a_fragment_can_be_asked p s put index payload w off sound cut due =
    fragment_by_room p s put index payload w off sound cut (room_of p s (length payload) off cut.writing.quiet (fragment_fits cut) due)

-- ---- vectors

-- so many fragments are live, or there is a least one that is not
data Lives (s : State) (w : PutRow) (last : ℕ) : Type 0 where
  all : AreLiveTo s w last → Lives s w last
  lost : (index : ℕ) → 0 < index → index ≤ last → AreLiveTo s w (index - 1) → live_row_of s (fragment_piece w.key w.put index) ≡ None → Lives s w last

live_case : (s : State) (w : PutRow) (n : ℕ) (o : Option Row) → live_row_of s (fragment_piece w.key w.put (n + 1)) ≡ o → AreLiveTo s w n → Lives s w (n + 1)
live_case s w n None is before = lost (n + 1) (omega arith) (omega arith) (λ i low high. before i low (omega (arith, high))) is
live_case s w n (Some row) is before = all (λ i low high. last_or_before i low high)
  where
    by_order : (i : ℕ) (t : Bool) → nat_le i n ≡ t → 0 < i → i ≤ n + 1 → IsFragmentLive s w i
    by_order i true le low high = before i low (leb-true i n le)
    by_order i false le low high =
        let above = leb-false i n le in
        let same : i ≡ n + 1 = omega (arith, above, high) in
        subst (IsFragmentLive s w) (sym same) (row, is)

    last_or_before : (i : ℕ) → 0 < i → i ≤ n + 1 → IsFragmentLive s w i
    last_or_before i low high = by_order i (nat_le i n) refl low high

live_step : (s : State) (w : PutRow) (n : ℕ) → Lives s w n → Lives s w (n + 1)
live_step s w n (all before) = live_case s w n _ refl before
live_step s w n (lost index some within before gone) = lost index some (omega (arith, within)) before gone

lives_of : (s : State) (w : PutRow) (n : ℕ) → Lives s w n
lives_of s w zero = all (λ i low high. let f : ⊥ = omega (arith, low, high) in absurd f)
lives_of s w (suc n) = subst (Lives s w) (omega arith) (live_step s w n (lives_of s w n))

loses_at : (p : Permit) (s : State) (put fragments : ℕ) (w : PutRow) → IsCut s put fragments w → has_room s (vector_length s put) ≡ true
    → (index : ℕ) → 0 < index → index ≤ fragments → AreLiveTo s w (index - 1) → live_row_of s (fragment_piece w.key w.put index) ≡ None
    → (added : List Rec) × (e : End) × DoesFinish p s put fragments added e
loses_at p s put fragments w cut room index some within before gone = (
  _,
  _,
  Legal.DoesFinish.loses w index refl (record {
    cut = cut;
    room = room;
    some = some;
    within = within;
    before = before;
    lost = subst (λ n. live_row_of s (fragment_piece w.key n index) ≡ None) (number_of s put w cut.writing.found) gone;
  }) refl,
)

finish_case : (p : Permit) (s : State) (put fragments : ℕ) (w : PutRow) (room : Bool) → p.syncs ≡ false → IsSound s → IsCut s put fragments w → has_room s (vector_length s put) ≡ room
    → Lives s w fragments → Room p s (vector_length s put) → (added : List Rec) × (e : End) × DoesFinish p s put fragments added e
finish_case p s put fragments w true off sound cut room (lost index some within before gone) r = loses_at p s put fragments w cut room index some within before gone
finish_case p s put fragments w true off sound cut room (all whole) (has place) =
    let gone = can_displace p s (vector_piece w.key put) sound in
    (_, Done, Legal.DoesFinish.places refl (record { w = w; displaced = gone.0; cut = cut; unmarked = unmarked_where p s off; whole = whole; place = place; displaces = gone.1; is = refl }))
finish_case p s put fragments w true off sound cut room (all whole) (ends none) = ([], _, Legal.DoesFinish.exhausted w refl cut whole none)
finish_case p s put fragments w false off sound cut room lives (has place) = let other = place.room in let f : true ≡ false = sym other ∙ room in cc
finish_case p s put fragments w false off sound cut room lives (ends none) = let other = none.room in let f : true ≡ false = sym other ∙ room in cc
finish_case p s put fragments w room off sound cut is lives (makes added e m) = (added, e, Legal.DoesFinish.rooms w cut m)

-- the vector of a put that is cut is placed, or a flush for it is made, or it is refused
a_vector_can_be_asked : (p : Permit) (s : State) (put fragments : ℕ) (w : PutRow) → p.syncs ≡ false → IsSound s → IsCut s put fragments w
    → AreDueTried p s (Finish put fragments) → (added : List Rec) × (e : End) × DoesFinish p s put fragments added e
a_vector_can_be_asked p s put fragments w off sound cut due =
    finish_case p s put fragments w _ off sound cut refl (lives_of s w fragments) (room_of p s (vector_length s put) off cut.writing.quiet (vector_fits cut) due)

-- ---- what has to be read

-- a piece was read, or it is damaged, or the device refused it
data Comes (p : Permit) (s : State) (row : Row) : Type 0 where
  read : IsRead p s row → Comes p s row
  damaged : (found : Digest) → IsDamaged p s row found → Comes p s row
  faulted : (count : ℕ) → IsWritten s row → CountsRead p s row count → Comes p s row

given_by : (p : Permit) (s : State) (row : Row) (bytes : List ℕ) (t : Bool) → t ≡ pointwise nat_eq row.digest.0 (document_digest bytes).0 → IsGiven p s row bytes → Comes p s row
given_by p s row bytes true e given = read (Given.IsRead.given bytes given (ap (λ x. record { 0 = x }) (same_text row.digest.0 (document_digest bytes).0 e)))
given_by p s row bytes false e given = damaged (document_digest bytes) (record {
  bytes = bytes;
  given = given;
  digest = refl;
  differ = (λ h. other_text row.digest.0 (document_digest bytes).0 e (ap (λ (d : Digest). d.0) h));
})

comes : (p : Permit) (s : State) (row : Row) → IsTried p s row → Comes p s row
comes p s row (Choices.IsTried.buffered in_buffer) = read (Given.IsRead.buffered in_buffer)
comes p s row (Choices.IsTried.given bytes given) = given_by p s row bytes (pointwise nat_eq row.digest.0 (document_digest bytes).0) refl given
comes p s row (Choices.IsTried.refused count written counts) = faulted count written counts

-- what is asked for is not live or was read, or there is trouble with it
data Looks (p : Permit) (s : State) (o : Option Row) : Type 0 where
  read : IsReadWhereLive p s o → Looks p s o
  damaged : (row : Row) (found : Digest) → o ≡ Some row → IsDamaged p s row found → Looks p s o
  faulted : (row : Row) (count : ℕ) → o ≡ Some row → IsWritten s row → CountsRead p s row count → Looks p s o

looked : (p : Permit) (s : State) (o : Option Row) → IsTriedWhereLive p s o → Looks p s o
looked p s None h = read tt
looked p s (Some row) h = elim (comes p s row h) [
  | read r ↦ read r
  | damaged found d ↦ damaged row found refl d
  | faulted count written counts ↦ faulted row count refl written counts
]

-- ---- a close

weigh_case : (p : Permit) (s : State) (put rest : ℕ) (w : PutRow) (fits : Bool) → IsWriting s put w → IsReadWhereLive p s (live_vector_of s w.key)
    → nat_le (blocks_of (size_alone w rest)) (budget_of s.geometry) ≡ fits → (added : List Rec) × (e : End) × DoesWeigh p s put rest added e
weigh_case p s put rest w true m r fits = (_, _, Legal.DoesWeigh.weighs w m r (leb-true (blocks_of (size_alone w rest)) (budget_of s.geometry) fits) refl)
weigh_case p s put rest w false m r fits = (_, _, Legal.DoesWeigh.too_large w m r (leb-false (blocks_of (size_alone w rest)) (budget_of s.geometry) fits) refl)

close_by : (p : Permit) (s : State) (put rest : ℕ) (w : PutRow) → IsWriting s put w → Looks p s (live_vector_of s w.key) → (added : List Rec) × (e : End) × DoesWeigh p s put rest added e
close_by p s put rest w m (read r) = weigh_case p s put rest w _ m r refl
close_by p s put rest w m (damaged row found live d) = (_, _, Legal.DoesWeigh.damaged w row found m live d refl)
close_by p s put rest w m (faulted row count live written counts) = (_, _, Legal.DoesWeigh.faulted w row count m live written counts refl)

-- ---- what is asked between puts

flush_by : (p : Permit) (s : State) → Flushes p s → (added : List Rec) × (e : End) × DoesFlush p s added e
flush_by p s (made added m) = (_, _, Legal.DoesFlush.flushes m)
flush_by p s (stopped count added m) = (_, _, Legal.DoesFlush.stops count m)

flush_case : (p : Permit) (s : State) (empty below : Bool) → p.syncs ≡ false → IsQuiet s → (CanFlush s → IsFlushTried p s) → nat_le s.filled 0 ≡ empty → is_flush_exhausted s ≡ below → (added : List Rec) × (e : End) × DoesFlush p s added e
flush_case p s true below off quiet due empty is = let least = leb-true s.filled 0 empty in (_, _, Legal.DoesFlush.empty quiet (omega (arith, least)) refl)
flush_case p s false false off quiet due empty is =
    let can : CanFlush s = record { quiet = quiet; filled = leb-false s.filled 0 empty; below = is } in
    flush_by p s (flush_comes p s off can (due can))
flush_case p s false true off quiet due empty is = (_, _, Legal.DoesFlush.exhausted quiet (leb-false s.filled 0 empty) is refl)

write_case : (s : State) (actor : ℕ) (key : Key) (request response : List Field) (pin : ℕ) (many high : Bool) → MayAskWrite s actor request response pin
    → nat_le most_writers (open_writers s) ≡ many → nat_le limit (s.next_put + 1) ≡ high → (added : List Rec) × (e : End) × DoesWrite s actor key request response pin added e
write_case s actor key request response pin true high may many above = (_, _, Legal.DoesWrite.many may.quiet (leb-true most_writers (open_writers s) many) refl)
write_case s actor key request response pin false true may many above =
    (_, _, Legal.DoesWrite.exhausted may.quiet (leb-false most_writers (open_writers s) many) (leb-true limit (s.next_put + 1) above) refl)
write_case s actor key request response pin false false may many above = (
  _,
  _,
  Legal.DoesWrite.opens (record {
    who = may.number.0;
    number = may.number.1;
    quiet = may.quiet;
    few = leb-false most_writers (open_writers s) many;
    below = leb-false limit (s.next_put + 1) above;
    request_fits = may.request_fits;
    response_fits = may.response_fits;
    pin_fits = may.pin_fits;
    is = refl;
  }),
)

give_up_case : (s : State) (put : ℕ) (o : Option PutRow) → IsQuiet s → put_of s put ≡ o → (added : List Rec) × (e : End) × DoesGiveUp s put added e
give_up_case s put None quiet found = (_, _, Legal.DoesGiveUp.over quiet (ap (λ o. unwrap_or (option_map is_open o) false) found) refl)
give_up_case s put (Some w) quiet found = by_writing w.writing refl
  where
    by_writing : (x : Writing) → w.writing ≡ x → (added : List Rec) × (e : End) × DoesGiveUp s put added e
    by_writing Open is = (_, _, Legal.DoesGiveUp.aborts w (record { quiet = quiet; found = found; is_open = is }) refl)
    by_writing Closed is = (_, _, Legal.DoesGiveUp.over quiet (rw (found, is) refl) refl)
    by_writing GivenUp is = (_, _, Legal.DoesGiveUp.over quiet (rw (found, is) refl) refl)

remove_case : (s : State) (key : Key) (o : Option Row) → IsQuiet s → live_vector_of s key ≡ o → (added : List Rec) × (e : End) × DoesRemove s key added e
remove_case s key None quiet none = (_, _, Legal.DoesRemove.absent quiet none refl)
remove_case s key (Some row) quiet live = (_, _, Legal.DoesRemove.removes row quiet live refl)

-- ---- readers

look_by : (p : Permit) (s : State) (who : Actor) (key : Key) (request : List Field) → IsQuiet s → Looks p s (live_vector_of s key)
    → (added : List Rec) × (e : End) × DoesLook p s who.0 key request added e
look_by p s who key request quiet (read r) =
    (_, Done, Legal.DoesLook.looks (record { who = who; before = []; answer = _; number = refl; quiet = quiet; right = Legal.IsLookup.verdict r; is = refl }))
look_by p s who key request quiet (damaged row found live d) = (
  _,
  Done,
  Legal.DoesLook.looks (record {
    who = who;
    before = _;
    answer = _;
    number = refl;
    quiet = quiet;
    right = Legal.IsLookup.trouble row _ _ live (Given.Trouble.damaged found d);
    is = refl;
  }),
)
look_by p s who key request quiet (faulted row count live written counts) = (
  _,
  Done,
  Legal.DoesLook.looks (record {
    who = who;
    before = _;
    answer = _;
    number = refl;
    quiet = quiet;
    right = Legal.IsLookup.trouble row _ _ live (Given.Trouble.faulted count written counts);
    is = refl;
  }),
)

trouble_next : (p : Permit) (s : State) (r : ReaderRow) (o : Option TableRow) (row : Row) (before : List Rec) (why : Cause) → next_row s r ≡ o
    → option_and_then (λ (entry : TableRow). live_row_of s (next_piece r)) o ≡ Some row → Trouble p s row before why
    → (before : List Rec) × (answer : NextAnswer) × IsReading p s r before answer
trouble_next p s r None row before why next live trouble = none_is live
trouble_next p s r (Some entry) row before why next live trouble =
    (before, _, Legal.IsReading.trouble entry row before why next live (Legal.ReadTrouble.troubled before why trouble))

-- what was read is given where its payload is the one that is listed, and is damaged where it is another
compared : (p : Permit) (s : State) (r : ReaderRow) (entry : TableRow) (row : Row) (payload : TableRow) (t : Bool) → t ≡ pointwise nat_eq entry.digest payload.digest
    → next_row s r ≡ Some entry → live_row_of s (next_piece r) ≡ Some row → row.payload ≡ Some payload → IsReadWhereLive p s (live_next s r) → IsRead p s row
    → (before : List Rec) × (answer : NextAnswer) × IsReading p s r before answer
compared p s r entry row payload true e next live own reads x =
    let same : digest_in payload ≡ digest_in entry = ap (λ d. record { 0 = d }) (sym (same_text entry.digest payload.digest e)) in
    ([], _, Legal.IsReading.verdict reads (listed_by s r entry row next live (λ other h. subst (λ y. digest_in y ≡ digest_in entry) (same_some payload other row.payload own h) same)))
compared p s r entry row payload false e next live own reads x = (
  _,
  _,
  Legal.IsReading.trouble entry row _ _ next live (Legal.ReadTrouble.mismatched (digest_in payload) x (record {
    payload = payload;
    has = own;
    found_is = refl;
    differ = (λ h. other_text entry.digest payload.digest e (ap (λ (d : Digest). d.0) h));
  })),
)

payload_by : (p : Permit) (s : State) (r : ReaderRow) (entry : TableRow) (row : Row) (payload : Option TableRow) → row.payload ≡ payload → next_row s r ≡ Some entry
    → live_row_of s (next_piece r) ≡ Some row → IsReadWhereLive p s (live_next s r) → IsRead p s row → (before : List Rec) × (answer : NextAnswer) × IsReading p s r before answer
payload_by p s r entry row None none next live reads x =
    ([], _, Legal.IsReading.verdict reads (listed_by s r entry row next live (λ payload h. none_is (sym none ∙ h))))
payload_by p s r entry row (Some payload) own next live reads x = compared p s r entry row payload (pointwise nat_eq entry.digest payload.digest) refl next live own reads x

next_by : (p : Permit) (s : State) (r : ReaderRow) (entry : Option TableRow) (row : Option Row) → next_row s r ≡ entry → live_row_of s (next_piece r) ≡ row
    → IsReadWhereLive p s (live_next s r) → (before : List Rec) × (answer : NextAnswer) × IsReading p s r before answer
next_by p s r None row next live reads = ([], _, Legal.IsReading.verdict reads (λ entry other h x. none_is (sym next ∙ h)))
next_by p s r (Some entry) None next live reads = ([], _, Legal.IsReading.verdict reads (λ other row h x. none_is (sym live ∙ x)))
next_by p s r (Some entry) (Some row) next live reads =
    let reads_next : IsReadWhereLive p s (option_and_then (λ (e : TableRow). live_row_of s (next_piece r)) (Some entry)) = subst (λ o. IsReadWhereLive p s (option_and_then (λ (e : TableRow). live_row_of s (next_piece r)) o)) next reads in
    payload_by p s r entry row row.payload refl next live reads (subst (IsReadWhereLive p s) live reads_next)

reading_by : (p : Permit) (s : State) (r : ReaderRow) → Looks p s (live_next s r) → (before : List Rec) × (answer : NextAnswer) × IsReading p s r before answer
reading_by p s r (read x) = next_by p s r (next_row s r) (live_row_of s (next_piece r)) refl refl x
reading_by p s r (damaged row found live d) = trouble_next p s r (next_row s r) row _ _ refl live (Given.Trouble.damaged found d)
reading_by p s r (faulted row count live written counts) = trouble_next p s r (next_row s r) row _ _ refl live (Given.Trouble.faulted count written counts)

read_on_by : (p : Permit) (s : State) (reader : ℕ) (r : ReaderRow) → IsQuiet s → reader_of s reader ≡ Some r → IsTriedWhereLive p s (live_next s r)
    → (answer : NextAnswer) × (added : List Rec) × MayReadOn p s reader answer added
read_on_by p s reader r quiet reading tried =
    let here = reading_by p s r (looked p s (live_next s r) tried) in
    (here.1, _, record { r = r; before = here.0; quiet = quiet; reading = reading; right = here.2; is = refl })

-- the fragment that the open reader takes next
next_tried : (p : Permit) (s : State) (reader : ℕ) (r : ReaderRow) → reader_of s reader ≡ Some r → IsTriedWhereLive p s (option_and_then (live_next s) (reader_of s reader))
    → IsTriedWhereLive p s (live_next s r)
next_tried p s reader r reading tried = subst (λ o. IsTriedWhereLive p s (option_and_then (live_next s) o)) reading tried

read_on_asked : (p : Permit) (s : State) (reader : ℕ) (r : ReaderRow) → IsQuiet s → reader_of s reader ≡ Some r
    → IsTriedWhereLive p s (option_and_then (live_next s) (reader_of s reader)) → (added : List Rec) × (e : End) × DoesReadOn p s reader added e
read_on_asked p s reader r quiet reading tried =
    let h = read_on_by p s reader r quiet reading (next_tried p s reader r reading tried) in
    (h.1, Done, Legal.DoesReadOn.reads_on h.0 h.2)

read_all_hit : (p : Permit) (s : State) (reader : ℕ) (o : Option ReaderRow) → reader_of s reader ≡ o → is_some (option_and_then (λ (r : ReaderRow). r.table) o) ≡ true
    → IsQuiet s → IsTriedWhereLive p s (option_and_then (live_next s) (reader_of s reader)) → (added : List Rec) × (e : End) × DoesReadAll p s reader added e
read_all_hit p s reader None reading hit quiet tried = let f : false ≡ true = hit in cc
read_all_hit p s reader (Some r) reading hit quiet tried =
    let h = read_on_by p s reader r quiet reading (next_tried p s reader r reading tried) in
    (h.1, _, Legal.DoesReadAll.reads_on h.0 (subst (λ o. is_some (option_and_then (λ (x : ReaderRow). x.table) o) ≡ true) (sym reading) hit) h.2 refl)

read_all_asked : (p : Permit) (s : State) (reader : ℕ) (hit : Bool) → has_hit s reader ≡ hit → IsQuiet s
    → IsTriedWhereLive p s (if hit then option_and_then (live_next s) (reader_of s reader) else None) → (added : List Rec) × (e : End) × DoesReadAll p s reader added e
read_all_asked p s reader true is quiet tried = read_all_hit p s reader (reader_of s reader) refl is quiet tried
read_all_asked p s reader false is quiet tried = (_, _, Legal.DoesReadAll.has_none quiet is refl refl)

stop_case : (s : State) (reader : ℕ) (o : Option ReaderRow) → IsQuiet s → reader_of s reader ≡ o → (added : List Rec) × (e : End) × DoesStopReading s reader added e
stop_case s reader None quiet reading = (_, _, Legal.DoesStopReading.closed quiet reading refl)
stop_case s reader (Some r) quiet reading = (_, _, Legal.DoesStopReading.closes r quiet reading refl)

-- ---- each intent

look_asked : (p : Permit) (s : State) (actor : ℕ) (key : Key) (request : List Field) (who : Actor) → who.0 ≡ actor → IsQuiet s → IsTriedWhereLive p s (live_vector_of s key)
    → (added : List Rec) × (e : End) × DoesLook p s actor key request added e
look_asked p s actor key request who number quiet tried =
    subst (λ n. (added : List Rec) × (e : End) × DoesLook p s n key request added e) number (look_by p s who key request quiet (looked p s (live_vector_of s key) tried))

pub asked_is_answered : (p : Permit) (s : State) (i : Intent) → IsSound s → p.syncs ≡ false → MayAsk s i → IsTriedWhereLive p s (to_read s i) → AreDueTried p s i
    → (added : List Rec) × (e : End) × Does p s i added e
asked_is_answered p s Flush sound off may tried due = flush_case p s _ _ off may (due refl) refl refl
asked_is_answered p s Sync sound off may tried due = absurd may
asked_is_answered p s SyncBegin sound off may tried due = absurd may
asked_is_answered p s (SyncStep last) sound off may tried due = absurd may
asked_is_answered p s Drain sound off may tried due = absurd may
asked_is_answered p s CleanSync sound off may tried due = absurd may
asked_is_answered p s (Write actor key request response pin) sound off may tried due = write_case s actor key request response pin _ _ may refl refl
asked_is_answered p s (Fragment put index payload) sound off may tried due = a_fragment_can_be_asked p s put index payload may.0 off sound may.1 due
asked_is_answered p s (Overflow put) sound off may tried due = (_, _, Legal.DoesOverflow.aborts may.0 may.1 may.2 refl)
asked_is_answered p s (Weigh put rest) sound off may tried due =
    close_by p s put rest may.0 may.1
    (looked p s (live_vector_of s may.0.key) (subst (λ o. IsTriedWhereLive p s (option_and_then (λ (w : PutRow). live_vector_of s w.key) o)) may.1.found tried))
asked_is_answered p s (Finish put fragments) sound off may tried due = a_vector_can_be_asked p s put fragments may.0 off sound may.1 due
asked_is_answered p s (Commit put) sound off may tried due = (_, _, Legal.DoesCommit.commits may.0 may.1.found may.1.is_open may.1.pending refl)
asked_is_answered p s (GiveUp put) sound off may tried due = give_up_case s put _ may refl
asked_is_answered p s (Remove key) sound off may tried due = remove_case s key _ may refl
asked_is_answered p s (Look actor key request) sound off may tried due = look_asked p s actor key request may.1.0 may.1.1 may.0 tried
asked_is_answered p s (ReadOn reader) sound off may tried due = read_on_asked p s reader may.1.0 may.0 may.1.1 tried
asked_is_answered p s (ReadAll reader) sound off may tried due = read_all_asked p s reader _ refl may tried
asked_is_answered p s (StopReading reader) sound off may tried due = stop_case s reader _ may refl
