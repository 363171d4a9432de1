-- What only reads leaves what stands as it was.
use Rattle.std.proofs.Common.{◌≡◌, ℕ, ◌+◌, ◌≤◌, List, [], ◌∷◌, ◌++◌, refl, sym, ◌∙◌, ap, subst, arith, true}
use Rattle.std.specs.Prelude.{Option, option_map, unwrap_or}
use Rattle.std.specs.List.{AllByRecursion}
use Rattle.tape_base.specs.declared.digests.Digest.{Digest}
use Rattle.tape_base.specs.declared.keys.Key.{Key}
use Rattle.tape_base.specs.declared.actors.Actor.{Actor}
use Rattle.tape_base.specs.declared.pieces.PieceId.{PieceId}
use Rattle.fragment_table.specs.Table.{TableRow}
use Rattle.alternate_vector.specs.Field.{Field}
use Rattle.alternate_vector.specs.Alternates.{Stored}
use Rattle.cache_model.specs.declared.cause.Cause.{Cause}
use Rattle.cache_model.specs.declared.answer.ReadAnswer.{ReadAnswer}
use Rattle.cache_model.specs.declared.answer.ReadAnswer.TheVariants as read
use Rattle.cache_model.specs.declared.answer.NextAnswer.{NextAnswer}
use Rattle.cache_model.specs.declared.answer.NextAnswer.TheVariants as next
use Rattle.cache_model.specs.declared.record.Rec.{Rec}
use Rattle.cache_model.specs.declared.record.Rec.TheVariants as rec
use Rattle.cache_model.specs.State.{State, Row, ReaderRow, after_all, state_after, table_of_hit}
use Rattle.cache_model.specs.Verdict.{digest_in, lookup_verdict}
use Rattle.cache_model.specs.Permit.{Permit, Intent, Look, ReadOn, ReadAll, StopReading, End}
use Rattle.cache_model.specs.Given
use Rattle.cache_model.specs.Legal
use Rattle.cache_model.specs.Legal.{Does, answer_record}
use Rattle.cache_model.proofs.Found.{no_truth}
use Rattle.cache_model.proofs.Steps.{after_all-append}
use Rattle.script_run.specs.Run.{Stream}
use Rattle.script_run.specs.Own.{AreOwn, ArePayloadsOwn, IsListedOf, IsOwnReader, IsTableOf}
use Rattle.script_run.specs.Laws.{is_reading}
use Rattle.script_run.proofs.Carried.{Carries, all_filter, puts_stay, readers_carried, same_carries, table_carried}
use Rattle.script_run.proofs.Listed.{listed_table}
use Rattle.script_run.proofs.Hitting.{IsHitOf, hit_listed, hit_of}
use Rattle.script_run.proofs.Saying.{IsRow, Kind, Stands, alternates_of_rows, rows_carried}
use Rattle.script_run.proofs.Payloads.{kept_kind, kept_stands, stands_kept}
use Rattle.script_run.proofs.Held.{readers_moved}
use Rattle.script_run.proofs.Fragments.{own_kind, own_stands, stands_own}

-- ---- the puts, the geometry and the pending vector stay

record SameBase (s t : State) : Type 0 where
  puts : t.puts ≡ s.puts
  next_put : t.next_put ≡ s.next_put
  geometry : t.geometry ≡ s.geometry
  pending : t.pending ≡ s.pending

carries : (s t : State) → SameBase s t → Carries s t
carries s t base = same_carries s t base.geometry base.puts base.pending

-- what stands is as it was, but for rows that went and for readers
stands_on : (kind : Kind) (s t : State) (streams : ℕ → Stream) → SameBase s t → AllByRecursion (IsRow kind s streams) t.rows → AllByRecursion (IsOwnReader t) t.readers → Stands kind s streams → Stands kind t streams
stands_on kind s t streams base rows readers own = record {
  puts = puts_stay s t streams base.geometry base.next_put base.puts own.puts;
  rows = rows_carried kind s t (carries s t base) streams t.rows rows;
  readers = readers;
}

readers_stay : (kind : Kind) (s t : State) (streams : ℕ → Stream) → SameBase s t → s.next_reader ≤ t.next_reader → Stands kind s streams → AllByRecursion (IsOwnReader t) s.readers
readers_stay kind s t streams same rises own = readers_carried s t (carries s t same) rises s.readers own.readers

-- ---- each record

fault_leaves : (kind : Kind) (s : State) (streams : ℕ → Stream) (count : ℕ) → Stands kind s streams → Stands kind (state_after s (rec.Fault count)) streams
fault_leaves kind s streams count own =
    let t : State = state_after s (rec.Fault count) in
    let same : SameBase s t = record { puts = refl; next_put = refl; geometry = refl; pending = refl } in
    stands_on kind s t streams same own.rows (readers_stay kind s t streams same (omega arith) own) own

damaged_leaves : (kind : Kind) (s : State) (streams : ℕ → Stream) (piece : PieceId) (place : ℕ) (kept other : Digest) → Stands kind s streams → Stands kind (state_after s (rec.Damaged piece place kept other)) streams
damaged_leaves kind s streams piece place kept other own =
    let t : State = state_after s (rec.Damaged piece place kept other) in
    let same : SameBase s t = record { puts = refl; next_put = refl; geometry = refl; pending = refl } in
    stands_on kind s t streams same (all_filter (IsRow kind s streams) _ s.rows own.rows) (readers_stay kind s t streams same (omega arith) own) own

gave_leaves : (kind : Kind) (s : State) (streams : ℕ → Stream) (reader index length : ℕ) → Stands kind s streams → Stands kind (state_after s (rec.Gave reader index length)) streams
gave_leaves kind s streams reader index length own =
    let t : State = state_after s (rec.Gave reader index length) in
    let same : SameBase s t = record { puts = refl; next_put = refl; geometry = refl; pending = refl } in
    stands_on kind s t streams same own.rows (readers_moved t reader (index + 1) s.readers (readers_stay kind s t streams same (omega arith) own)) own

closed_leaves : (kind : Kind) (s : State) (streams : ℕ → Stream) (reader : ℕ) → Stands kind s streams → Stands kind (state_after s (rec.ReadClosed reader)) streams
closed_leaves kind s streams reader own =
    let t : State = state_after s (rec.ReadClosed reader) in
    let same : SameBase s t = record { puts = refl; next_put = refl; geometry = refl; pending = refl } in
    stands_on kind s t streams same own.rows (all_filter (IsOwnReader t) _ s.readers (readers_stay kind s t streams same (omega arith) own)) own

answered_leaves : (kind : Kind) (s : State) (streams : ℕ → Stream) (reader : ℕ) (answer : NextAnswer) → Stands kind s streams → Stands kind (state_after s (answer_record reader answer)) streams
answered_leaves kind s streams reader (next.Gave index length) own = gave_leaves kind s streams reader index length own
answered_leaves kind s streams reader (next.Ended length) own = own
answered_leaves kind s streams reader (next.Waited cut) own = own
answered_leaves kind s streams reader (next.Broke why) own = own

-- ---- a lookup

-- a hit has the table of an alternate that is listed
hit_table : (kind : Kind) (s : State) (streams : ℕ → Stream) (key : Key) (request : List Field) (put : ℕ) → Stands kind s streams → lookup_verdict s key request ≡ read.Hit put → IsTableOf s put (table_of_hit s key request)
hit_table kind s streams key request put own verdict =
    let h : IsHitOf s key request put = hit_of s key request put verdict in
    let listed : IsListedOf s key h.a = hit_listed s key request put (alternates_of_rows kind s streams s.rows own.rows) h in
    let table : table_of_hit s key request ≡ h.a.table = ap (λ (o : Option Stored). unwrap_or (option_map (λ (a : Stored). a.table) o) []) h.found in
    subst (IsTableOf s put) (sym table) (subst (λ n. IsTableOf s n h.a.table) h.put_is (listed_table s key h.a listed))

-- where something is hit, it is a table of a complete put
abbrev HitsOwn : State → Key → List Field → ReadAnswer → Type 0
HitsOwn s key request (read.Hit put) = IsTableOf s put (table_of_hit s key request)
HitsOwn s key request (read.Follow put) = Unit {0}
HitsOwn s key request (read.Miss why) = Unit {0}

opened_leaves : (kind : Kind) (s : State) (streams : ℕ → Stream) (who : Actor) (key : Key) (request : List Field) (answer : ReadAnswer) → HitsOwn s key request answer → Stands kind s streams
    → Stands kind (state_after s (rec.ReadOpened s.next_reader who key request answer)) streams
opened_leaves kind s streams who key request (read.Hit put) hits own =
    let t : State = state_after s (rec.ReadOpened s.next_reader who key request (read.Hit put)) in
    let same : SameBase s t = record { puts = refl; next_put = refl; geometry = refl; pending = refl } in
    stands_on kind s t streams same own.rows (record { begun = omega arith; table = table_carried s t (carries s t same) put (table_of_hit s key request) hits }, readers_stay kind s t streams same (omega arith) own) own
opened_leaves kind s streams who key request (read.Follow put) hits own =
    let t : State = state_after s (rec.ReadOpened s.next_reader who key request (read.Follow put)) in
    let same : SameBase s t = record { puts = refl; next_put = refl; geometry = refl; pending = refl } in
    stands_on kind s t streams same own.rows (record { begun = omega arith; table = tt }, readers_stay kind s t streams same (omega arith) own) own
opened_leaves kind s streams who key request (read.Miss why) hits own =
    let t : State = state_after s (rec.ReadOpened s.next_reader who key request (read.Miss why)) in
    let same : SameBase s t = record { puts = refl; next_put = refl; geometry = refl; pending = refl } in
    stands_on kind s t streams same own.rows (readers_stay kind s t streams same (omega arith) own) own

verdict_hits : (kind : Kind) (s : State) (streams : ℕ → Stream) (key : Key) (request : List Field) (answer : ReadAnswer) → lookup_verdict s key request ≡ answer → Stands kind s streams → HitsOwn s key request answer
verdict_hits kind s streams key request (read.Hit put) is own = hit_table kind s streams key request put own is
verdict_hits kind s streams key request (read.Follow put) is own = tt
verdict_hits kind s streams key request (read.Miss why) is own = tt

troubled_leaves : (kind : Kind) (p : Permit) (s : State) (streams : ℕ → Stream) (row : Row) (before : List Rec) (why : Cause) → Given.Trouble p s row before why → Stands kind s streams → Stands kind (after_all s before) streams
troubled_leaves kind p s streams row before why (Given.Trouble.faulted count w m) own = fault_leaves kind s streams count own
troubled_leaves kind p s streams row before why (Given.Trouble.damaged found d) own = damaged_leaves kind s streams row.id row.place row.digest found own

trouble_number : (p : Permit) (s : State) (row : Row) (before : List Rec) (why : Cause) → Given.Trouble p s row before why → (after_all s before).next_reader ≡ s.next_reader
trouble_number p s row before why (Given.Trouble.faulted count w m) = refl
trouble_number p s row before why (Given.Trouble.damaged found d) = refl

looked_leaves : (kind : Kind) (p : Permit) (s : State) (streams : ℕ → Stream) (who : Actor) (key : Key) (request : List Field) (before : List Rec) (answer : ReadAnswer)
    → Legal.IsLookup p s key request before answer → Stands kind s streams → Stands kind (state_after (after_all s before) (rec.ReadOpened s.next_reader who key request answer)) streams
looked_leaves kind p s streams who key request before answer (Legal.IsLookup.verdict r) own =
    opened_leaves kind s streams who key request (lookup_verdict s key request) (verdict_hits kind s streams key request (lookup_verdict s key request) refl own) own
looked_leaves kind p s streams who key request before answer (Legal.IsLookup.trouble row b why live t) own =
    subst (λ n. Stands kind (state_after (after_all s before) (rec.ReadOpened n who key request (read.Miss why))) streams) (trouble_number p s row before why t)
    (opened_leaves kind (after_all s before) streams who key request (read.Miss why) tt (troubled_leaves kind p s streams row before why t own))

-- ---- a group

as_added : (kind : Kind) (s : State) (streams : ℕ → Stream) (added before : List Rec) (last : Rec) → added ≡ before ++ last ∷ [] → Stands kind (state_after (after_all s before) last) streams → Stands kind (after_all s added) streams
as_added kind s streams added before last is own = subst (λ t. Stands kind t streams) (sym (ap (after_all s) is ∙ after_all-append s before (last ∷ []))) own

fragment_troubled : (kind : Kind) (p : Permit) (s : State) (streams : ℕ → Stream) (row : Row) (entry : TableRow) (before : List Rec) (why : Cause)
    → Legal.ReadTrouble p s row entry before why → Stands kind s streams → Stands kind (after_all s before) streams
fragment_troubled kind p s streams row entry before why (Legal.ReadTrouble.troubled b c t) own = troubled_leaves kind p s streams row before why t own
fragment_troubled kind p s streams row entry before why (Legal.ReadTrouble.mismatched found read unlike) own = damaged_leaves kind s streams row.id row.place (digest_in entry) found own

reading_leaves : (kind : Kind) (p : Permit) (s : State) (streams : ℕ → Stream) (r : ReaderRow) (before : List Rec) (answer : NextAnswer) → Legal.IsReading p s r before answer → Stands kind s streams → Stands kind (after_all s before) streams
reading_leaves kind p s streams r before answer (Legal.IsReading.verdict x listed) own = own
reading_leaves kind p s streams r before answer (Legal.IsReading.trouble entry row b why n live t) own = fragment_troubled kind p s streams row entry before why t own

read_leaves : (kind : Kind) (p : Permit) (s : State) (streams : ℕ → Stream) (reader : ℕ) (answer : NextAnswer) (added : List Rec) → Legal.MayReadOn p s reader answer added → Stands kind s streams → Stands kind (after_all s added) streams
read_leaves kind p s streams reader answer added m own =
    as_added kind s streams added m.before _ m.is (answered_leaves kind (after_all s m.before) streams reader answer (reading_leaves kind p s streams m.r m.before answer m.right own))

look_leaves : (kind : Kind) (p : Permit) (s : State) (streams : ℕ → Stream) (actor : ℕ) (key : Key) (request : List Field) (added : List Rec) → Legal.MayLook p s actor key request added → Stands kind s streams → Stands kind (after_all s added) streams
look_leaves kind p s streams actor key request added m own =
    as_added kind s streams added m.before _ m.is (looked_leaves kind p s streams m.who key request m.before m.answer m.right own)

none_leaves : (kind : Kind) (s : State) (streams : ℕ → Stream) (added : List Rec) → added ≡ [] → Stands kind s streams → Stands kind (after_all s added) streams
none_leaves kind s streams added is own = subst (λ recs. Stands kind (after_all s recs) streams) (sym is) own

one_leaves : (kind : Kind) (s : State) (streams : ℕ → Stream) (added : List Rec) (r : Rec) → added ≡ r ∷ [] → Stands kind (state_after s r) streams → Stands kind (after_all s added) streams
one_leaves kind s streams added r is own = subst (λ recs. Stands kind (after_all s recs) streams) (sym is) own

reads_leave : (kind : Kind) (p : Permit) (s : State) (streams : ℕ → Stream) (i : Intent) (added : List Rec) (e : End) → is_reading i ≡ true → Stands kind s streams → Does p s i added e → Stands kind (after_all s added) streams
reads_leave kind p s streams (Look actor key request) added e reads own (Legal.DoesLook.looks m) = look_leaves kind p s streams actor key request added m own
reads_leave kind p s streams (ReadOn reader) added e reads own (Legal.DoesReadOn.reads_on answer m) = read_leaves kind p s streams reader answer added m own
reads_leave kind p s streams (ReadAll reader) added e reads own (Legal.DoesReadAll.reads_on answer hit m is) = read_leaves kind p s streams reader answer added m own
reads_leave kind p s streams (ReadAll reader) added e reads own (Legal.DoesReadAll.has_none quiet none is d) = none_leaves kind s streams added is own
reads_leave kind p s streams (StopReading reader) added e reads own (Legal.DoesStopReading.closes r quiet found is) = one_leaves kind s streams added _ is (closed_leaves kind s streams reader own)
reads_leave kind p s streams (StopReading reader) added e reads own (Legal.DoesStopReading.closed quiet none is) = none_leaves kind s streams added is own
reads_leave kind p s streams _ added e reads own d = no_truth (sym reads)

pub reads_own : (p : Permit) (s : State) (streams : ℕ → Stream) (i : Intent) (added : List Rec) (e : End) → is_reading i ≡ true → AreOwn s streams → Does p s i added e → AreOwn (after_all s added) streams
reads_own p s streams i added e reads own does = own_stands (after_all s added) streams (reads_leave own_kind p s streams i added e reads (stands_own s streams own) does)

pub reads_keep : (p : Permit) (s : State) (streams : ℕ → Stream) (i : Intent) (added : List Rec) (e : End) → is_reading i ≡ true → ArePayloadsOwn s streams → Does p s i added e → ArePayloadsOwn (after_all s added) streams
reads_keep p s streams i added e reads kept does = kept_stands (after_all s added) streams (reads_leave kept_kind p s streams i added e reads (stands_kept s streams kept) does)
