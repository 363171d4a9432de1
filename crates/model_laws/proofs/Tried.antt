-- What a group has read.
use Rattle.std.proofs.Common.{◌≡◌, ℕ, List, length, refl, sym, ◌∙◌, ap, subst, arith, true, false, inl, inr}
use Rattle.std.specs.Prelude.{Option, Some, None, not, option_and_then, option_map, unwrap_or}
use Rattle.tape_base.specs.declared.keys.Key.{Key}
use Rattle.alternate_vector.specs.Field.{Field}
use Rattle.fragment_table.specs.Table.{TableRow}
use Rattle.cache_model.specs.declared.cause.Cause.{Cause}
use Rattle.cache_model.specs.declared.answer.ReadAnswer.{ReadAnswer}
use Rattle.cache_model.specs.declared.answer.ReadAnswer.TheVariants as read
use Rattle.cache_model.specs.declared.answer.NextAnswer.{NextAnswer}
use Rattle.cache_model.specs.declared.answer.NextAnswer.TheVariants as next
use Rattle.cache_model.specs.declared.record.Rec.{Rec}
use Rattle.cache_model.specs.State.{State, Row, PutRow, ReaderRow, live_row_of, put_of, reader_of}
use Rattle.cache_model.specs.Verdict
use Rattle.cache_model.specs.Verdict.{live_vector_of, next_piece, next_row}
use Rattle.cache_model.specs.Permit.{Permit, Intent, Flush, Sync, SyncBegin, Drain, Fragment, Weigh, Finish, Look, ReadOn, ReadAll, End}
use Rattle.cache_model.specs.Room.{has_room, is_flush_exhausted}
use Rattle.cache_model.specs.Given
use Rattle.cache_model.specs.Legal
use Rattle.cache_model.specs.Given.{IsRead, IsReadWhereLive, Trouble}
use Rattle.cache_model.specs.Legal.{CanFlush, Does, IsLookup, IsNextAsListed, IsReading, MakesRoom, MayReadOn, ReadTrouble, live_next, vector_length}
use Rattle.model_laws.specs.Choices
use Rattle.model_laws.specs.Choices.{AreDueTried, IsFlushTried, IsTried, IsTriedWhereLive, WasRead}
use Rattle.cache_model.specs.ToRead.{to_read}
use Rattle.cache_model.proofs.Found.{end_gives_none, no_truth}
use Rattle.step_laws.proofs.Answered.{given_in}
use Rattle.model_laws.proofs.TriedFlush.{made_is_tried, stopped_is_tried}
use Rattle.step_laws.proofs.Unsynced.{drain_on, never, sync_on, unmark_on}

-- ---- tried

read_is_tried : (p : Permit) (s : State) (row : Row) → IsRead p s row → IsTried p s row
read_is_tried p s row (Given.IsRead.buffered in_buffer) = Choices.IsTried.buffered in_buffer
read_is_tried p s row (Given.IsRead.given bytes given own) = Choices.IsTried.given bytes given

where_live : (p : Permit) (s : State) (o : Option Row) → IsReadWhereLive p s o → IsTriedWhereLive p s o
where_live p s None h = tt
where_live p s (Some row) h = read_is_tried p s row h

trouble_is_tried : (p : Permit) (s : State) (row : Row) (before : List Rec) (why : Cause) → Trouble p s row before why → IsTried p s row
trouble_is_tried p s row before why (Given.Trouble.faulted count written counts) = Choices.IsTried.refused count written counts
trouble_is_tried p s row before why (Given.Trouble.damaged found d) = Choices.IsTried.given d.bytes d.given

fragment_is_tried : (p : Permit) (s : State) (row : Row) (entry : TableRow) (before : List Rec) (why : Cause) → ReadTrouble p s row entry before why → IsTried p s row
fragment_is_tried p s row entry before why (Legal.ReadTrouble.troubled b c t) = trouble_is_tried p s row before why t
fragment_is_tried p s row entry before why (Legal.ReadTrouble.mismatched found read unlike) = read_is_tried p s row read

tried_at : (p : Permit) (s : State) (o : Option Row) (row : Row) → o ≡ Some row → IsTried p s row → IsTriedWhereLive p s o
tried_at p s o row live h = subst (IsTriedWhereLive p s) (sym live) h

lookup_is_tried : (p : Permit) (s : State) (key : Key) (request : List Field) (before : List Rec) (answer : ReadAnswer) → IsLookup p s key request before answer
    → IsTriedWhereLive p s (live_vector_of s key)
lookup_is_tried p s key request before answer (Legal.IsLookup.verdict r) = where_live p s (live_vector_of s key) r
lookup_is_tried p s key request before answer (Legal.IsLookup.trouble row b why live t) = tried_at p s (live_vector_of s key) row live (trouble_is_tried p s row before why t)

reading_is_tried : (p : Permit) (s : State) (r : ReaderRow) (before : List Rec) (answer : NextAnswer) → IsReading p s r before answer → IsTriedWhereLive p s (live_next s r)
reading_is_tried p s r before answer (Legal.IsReading.verdict x listed) = where_live p s (live_next s r) x
reading_is_tried p s r before answer (Legal.IsReading.trouble entry row b why found live t) =
    tried_at p s (live_next s r) row (rw found live) (fragment_is_tried p s row entry before why t)

read_on_is_tried : (p : Permit) (s : State) (reader : ℕ) (answer : NextAnswer) (added : List Rec) → MayReadOn p s reader answer added
    → IsTriedWhereLive p s (option_and_then (live_next s) (reader_of s reader))
read_on_is_tried p s reader answer added m =
    subst (λ o. IsTriedWhereLive p s (option_and_then (live_next s) o)) (sym m.reading) (reading_is_tried p s m.r m.before answer m.right)

weigh_is_tried : (p : Permit) (s : State) (put : ℕ) (w : PutRow) → put_of s put ≡ Some w → IsTriedWhereLive p s (live_vector_of s w.key)
    → IsTriedWhereLive p s (option_and_then (λ (x : PutRow). live_vector_of s x.key) (put_of s put))
weigh_is_tried p s put w found h = subst (λ o. IsTriedWhereLive p s (option_and_then (λ (x : PutRow). live_vector_of s x.key) o)) (sym found) h

asked_is_tried : (p : Permit) (s : State) (i : Intent) (added : List Rec) (e : End) → Does p s i added e → IsTriedWhereLive p s (to_read s i)
asked_is_tried p s (Weigh put rest) added e (Legal.DoesWeigh.weighs w q r f is) = weigh_is_tried p s put w q.found (where_live p s (live_vector_of s w.key) r)
asked_is_tried p s (Weigh put rest) added e (Legal.DoesWeigh.too_large w q r f is) = weigh_is_tried p s put w q.found (where_live p s (live_vector_of s w.key) r)
asked_is_tried p s (Weigh put rest) added e (Legal.DoesWeigh.damaged w row found q live d is) =
    weigh_is_tried p s put w q.found (tried_at p s (live_vector_of s w.key) row live (Choices.IsTried.given d.bytes d.given))
asked_is_tried p s (Weigh put rest) added e (Legal.DoesWeigh.faulted w row count q live r m is) =
    weigh_is_tried p s put w q.found (tried_at p s (live_vector_of s w.key) row live (Choices.IsTried.refused count r m))
asked_is_tried p s (Look actor key request) added e (Legal.DoesLook.looks m) = lookup_is_tried p s key request m.before m.answer m.right
asked_is_tried p s (ReadOn reader) added e (Legal.DoesReadOn.reads_on answer m) = read_on_is_tried p s reader answer added m
asked_is_tried p s (ReadAll reader) added e (Legal.DoesReadAll.reads_on answer h m x) = rw h (read_on_is_tried p s reader answer added m)
asked_is_tried p s (ReadAll reader) added e (Legal.DoesReadAll.has_none q h is x) = rw h tt
asked_is_tried p s _ added e d = tt

-- ---- what a flush is to copy

exhausted_not : (p : Permit) (s : State) → is_flush_exhausted s ≡ true → CanFlush s → IsFlushTried p s
exhausted_not p s high can = no_truth (sym high ∙ can.below)

-- what has room is placed without one
room_not : (p : Permit) (s : State) (bytes : ℕ) → has_room s bytes ≡ true → not (has_room s bytes) ≡ true → IsFlushTried p s
room_not p s bytes room first = no_truth (sym first ∙ ap not room)

room_is_tried : (p : Permit) (s : State) (bytes : ℕ) (added : List Rec) (e : End) → p.syncs ≡ false → MakesRoom p s bytes added e → CanFlush s → IsFlushTried p s
room_is_tried p s bytes added e off (Legal.MakesRoom.flushes none m) can = made_is_tried p s added m
room_is_tried p s bytes added e off (Legal.MakesRoom.stops count none m) can = stopped_is_tried p s count added m
room_is_tried p s bytes added e off (Legal.MakesRoom.exhausted none high is) can = exhausted_not p s high can
room_is_tried p s bytes added e off (Legal.MakesRoom.syncs end none d is) can = never off (sync_on d)

due_is_tried : (p : Permit) (s : State) (i : Intent) (added : List Rec) (e : End) → p.syncs ≡ false → Does p s i added e → AreDueTried p s i
due_is_tried p s Flush added e off (Legal.DoesFlush.empty q none is) first can = let some = can.filled in absurd (omega (arith, none, some))
due_is_tried p s Flush added e off (Legal.DoesFlush.flushes m) first can = made_is_tried p s added m
due_is_tried p s Flush added e off (Legal.DoesFlush.stops count m) first can = stopped_is_tried p s count added m
due_is_tried p s Flush added e off (Legal.DoesFlush.exhausted q some high is) first can = exhausted_not p s high can
due_is_tried p s Flush added e off (Legal.DoesFlush.syncs d) first can = never off (sync_on d)
due_is_tried p s Sync added e off d first can = never off (sync_on d)
due_is_tried p s SyncBegin added e off d first can = never off (sync_on d)
due_is_tried p s Drain added e off d first can = never off (drain_on d)
due_is_tried p s (Fragment put index payload) added e off (Legal.DoesFragment.unmarks w n q u) first can = never off (unmark_on u)
due_is_tried p s (Fragment put index payload) added e off (Legal.DoesFragment.places d m) first can = room_not p s (length payload) m.place.room first
due_is_tried p s (Fragment put index payload) added e off (Legal.DoesFragment.rooms w n m) first can = room_is_tried p s (length payload) added e off m can
due_is_tried p s (Fragment put index payload) added e off (Legal.DoesFragment.exhausted w x n none) first can = room_not p s (length payload) none.room first
due_is_tried p s (Finish put fragments) added e off (Legal.DoesFinish.unmarks w c l q u) first can = never off (unmark_on u)
due_is_tried p s (Finish put fragments) added e off (Legal.DoesFinish.places d m) first can = room_not p s (vector_length s put) m.place.room first
due_is_tried p s (Finish put fragments) added e off (Legal.DoesFinish.rooms w c m) first can = room_is_tried p s (vector_length s put) added e off m can
due_is_tried p s (Finish put fragments) added e off (Legal.DoesFinish.loses w index x m is) first can = room_not p s (vector_length s put) m.room first
due_is_tried p s (Finish put fragments) added e off (Legal.DoesFinish.exhausted w x c l none) first can = room_not p s (vector_length s put) none.room first
due_is_tried p s _ added e off d first can = no_truth (sym first)

pub answered_is_tried : (p : Permit) (s : State) (i : Intent) (added : List Rec) (e : End) → Does p s i added e
    → IsTriedWhereLive p s (to_read s i) × (p.syncs ≡ false → AreDueTried p s i)
answered_is_tried p s i added e d = (asked_is_tried p s i added e d, λ off. due_is_tried p s i added e off d)

-- ---- read

was_read : (p : Permit) (s : State) (row : Row) → IsRead p s row → WasRead p s row
was_read p s row (Given.IsRead.buffered in_buffer) = inl in_buffer
was_read p s row (Given.IsRead.given bytes given own) = inr (bytes, given, own)

hit_by : (p : Permit) (s : State) (key : Key) (request : List Field) (before : List Rec) (put : ℕ) (row : Row) (answer : ReadAnswer) → answer ≡ read.Hit put
    → live_vector_of s key ≡ Some row → IsLookup p s key request before answer → WasRead p s row
hit_by p s key request before put row answer is live (Legal.IsLookup.verdict r) = was_read p s row (subst (IsReadWhereLive p s) live r)
hit_by p s key request before put row answer is live (Legal.IsLookup.trouble other b why l t) = cc

pub hit_is_read : (p : Permit) (s : State) (key : Key) (request : List Field) (before : List Rec) (put : ℕ) (row : Row)
    → live_vector_of s key ≡ Some row → IsLookup p s key request before (read.Hit put) → WasRead p s row
hit_is_read p s key request before put row live h = hit_by p s key request before put row (read.Hit put) refl live h

live_in : (p : Permit) (s : State) (r : ReaderRow) (o : Option TableRow) (index n : ℕ)
    → unwrap_or (option_map (Verdict.verdict_of_fragment s r) o) (Verdict.verdict_at_end s r r.table) ≡ next.Gave index n
    → IsReadWhereLive p s (option_and_then (λ (entry : TableRow). live_row_of s (next_piece r)) o)
    → (row : Row) × (live_row_of s (next_piece r) ≡ Some row) × WasRead p s row
live_in p s r None index n h x = absurd (end_gives_none s r r.table index n h)
live_in p s r (Some entry) index n h x =
    let live = (given_in s r (Some entry) index n h).1 in
    (live.0, live.1, was_read p s live.0 (subst (IsReadWhereLive p s) live.1 x))

given_by : (p : Permit) (s : State) (r : ReaderRow) (before : List Rec) (index n : ℕ) (answer : NextAnswer) → answer ≡ next.Gave index n
    → IsReading p s r before answer → ((row : Row) × (live_row_of s (next_piece r) ≡ Some row) × WasRead p s row) × IsNextAsListed s r
given_by p s r before index n answer is (Legal.IsReading.verdict x listed) = (live_in p s r (next_row s r) index n is x, listed)
given_by p s r before index n answer is (Legal.IsReading.trouble entry row b why found live t) = cc

pub given_is_read : (p : Permit) (s : State) (r : ReaderRow) (before : List Rec) (index n : ℕ)
    → IsReading p s r before (next.Gave index n) → ((row : Row) × (live_row_of s (next_piece r) ≡ Some row) × WasRead p s row) × IsNextAsListed s r
given_is_read p s r before index n h = given_by p s r before index n (next.Gave index n) refl h
