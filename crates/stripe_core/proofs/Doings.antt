-- Writers and readers that come and go leave the pieces held.
use Rattle.std.proofs.Common.{◌≡◌, ℕ, ◌+◌, ◌-◌, ◌^◌, ◌<◌, ◌≤◌, List, [], ◌∷◌, refl, sym, ◌∙◌, ap, subst, arith, Err, length, true}
use Rattle.std.specs.Prelude.{Option, Some, None, IsSome, option_and_then, IfSome}
use Rattle.tape_base.specs.declared.actors.Actor.{Actor}
use Rattle.tape_base.specs.declared.digests.Digest.{Digest}
use Rattle.tape_base.specs.declared.keys.Key.{Key}
use Rattle.tape_base.specs.declared.pieces.PieceId.{PieceId}
use Rattle.fragment_table.specs.Table.{total_length}
use Rattle.alternate_vector.specs.Field.{Field, AreFields}
use Rattle.alternate_vector.specs.Alternates.{Stored}
use Rattle.cyclone.specs.Cyclone.{Seen}
use Rattle.open_directory.specs.declared.kept.KeptPut.{KeptPut}
use Rattle.open_directory.specs.Directory.{kept_cuts, kept_put, rows_kept}
use Rattle.cache_model.specs.declared.answer.NextAnswer.{NextAnswer}
use Rattle.cache_model.specs.declared.answer.NextAnswer.TheVariants as next
use Rattle.cache_model.specs.declared.answer.ReadAnswer.{ReadAnswer}
use Rattle.cache_model.specs.declared.cause.Cause.TheVariants as cause
use Rattle.cache_model.specs.declared.record.Rec.{Rec}
use Rattle.cache_model.specs.declared.record.Rec.TheVariants as rec
use Rattle.cache_model.specs.State.{Open, PutRow, Row, State, list_of_piece, live_row_of, put_of, row_in, state_after, vector_piece}
use Rattle.cache_model.specs.Verdict.{cuts_of, is_open, live_vector_of, vector_of}
use Rattle.cache_model.specs.Kept.{Kept, state_of, with_records}
use Rattle.cache_model.specs.Permit.{Commit, Done, Exhausted, Fails, GiveUp, ManyWriters, Permit, Remove, Write}
use Rattle.cache_model.specs.Legal.{Does, DoesCommit, DoesGiveUp, DoesLook, DoesReadOn, DoesRemove, DoesStopReading, DoesWrite, IsQuiet, ReadTrouble, answer_record, most_writers, open_writers}
use Rattle.cache_model.specs.Room.{limit}
use Rattle.cache_model.specs.Tape.{IsSound}
use Rattle.cache_model.proofs.Sound.{LeavesTape, later_leaves, leaves_one}
use Rattle.cache_model.proofs.Lists.{own_piece}
use Rattle.cache_model.proofs.Found.{cuts_found, number_of}
use Rattle.cache_model.specs.Contents.{AnyContents, Contents}
use Rattle.stripe_actors.specs.Actors.{ActorsSeen, AreActors, IsKeptAs}
use Rattle.cache_answers.specs.declared.answers.Refusal.{Refusal}
use Rattle.cache_answers.specs.declared.answers.Refusal.TheVariants as refusal
use Rattle.stripe_answers.specs.Acts.{EndsReadAsAsked, IsCommitting, IsGivingUp, IsRefusedPut, LooksAsAsked, MarksAsAsked, NotesAsAsked, OpensAsAsked, RefusesAsAsked, committed_record, write_opened_record}
use Rattle.piece_answers.specs.Covers.{Uses}
use Rattle.held_pieces.specs.Held.{IsHeld}
use Rattle.held_pieces.specs.Records.{IsAlike}
use Rattle.piece_answers.specs.Standing.{AreStanding}
use Rattle.stripe_core.specs.Stripe.{IsSpared}
use Rattle.held_pieces.proofs.Candidates.{live_is}
use Rattle.piece_answers.proofs.RecordsAdded.{state_of-with_records}
use Rattle.held_pieces.proofs.Going.{alike_is_held}
use Rattle.stripe_core.proofs.Sparing.{one_told, spent_calm}
use Rattle.stripe_pieces.proofs.Standing.{standing_alike}

-- ---- records that leave the pieces

-- the record changes neither a piece nor the buffer
pub record LeavesPieces (s t : State) : Type 0 where
  pub geometry : t.geometry ≡ s.geometry
  pub cursor : t.cursor ≡ s.cursor
  pub filled : t.filled ≡ s.filled
  pub rows : t.rows ≡ s.rows
  pub fault : t.fault ≡ s.fault

telling_alike : (s : State) (r : Rec) → LeavesTape r → LeavesPieces s (state_after s r) → IsSound s → IsAlike s (state_after s r)
telling_alike s r tape leaves sound = record {
  geometry = leaves.geometry;
  cursor = leaves.cursor;
  least = (leaves_one s r tape).least;
  filled = leaves.filled;
  rows = leaves.rows;
  sound = (later_leaves s (r ∷ []) (tape, tt) sound).sound;
}

pub telling_is_held : (s : State) (c : Seen) (r : Rec) → LeavesTape r → LeavesPieces s (state_after s r) → IsHeld s c → IsHeld (state_after s r) c
telling_is_held s c r tape leaves held =
    alike_is_held s (state_after s r) c held (telling_alike s r tape leaves held.sound) (rw leaves.fault held.faults)

pub held_behind : (k new : Kept) (c : Seen) (r : Rec) → new ≡ with_records k (r ∷ []) → LeavesTape r → LeavesPieces (state_of k) (state_after (state_of k) r) → IsHeld (state_of k) c → IsHeld (state_of new) c
held_behind k new c r is tape leaves held =
    subst (λ t. IsHeld t c) (sym (ap state_of is ∙ state_of-with_records k (r ∷ []))) (telling_is_held (state_of k) c r tape leaves held)

-- and what is told of the pieces goes on to stand
pub standing_behind : (k new : Kept) (c : Seen) (r : Rec) → new ≡ with_records k (r ∷ []) → LeavesTape r → LeavesPieces (state_of k) (state_after (state_of k) r) → IsHeld (state_of k) c
    → (contents : Contents) → AnyContents contents → AreStanding contents (state_of k) c → AreStanding contents (state_of new) c
standing_behind k new c r is tape leaves held contents told stands =
    subst (λ t. AreStanding contents t c) (sym (ap state_of is ∙ state_of-with_records k (r ∷ [])))
    (standing_alike contents (state_of k) (state_after (state_of k) r) c c (telling_alike (state_of k) r tape leaves held.sound) (record { same = refl; spare = omega arith }) stands)

pub reader_behind : (k new : Kept) (r : Rec) → new ≡ with_records k (r ∷ []) → (state_of new).next_reader ≡ (state_after (state_of k) r).next_reader
reader_behind k new r is = ap (λ (t : State). t.next_reader) (ap state_of is ∙ state_of-with_records k (r ∷ []))

-- what a reader was answered
pub answer_leaves : (s : State) (reader : ℕ) (answer : NextAnswer) → LeavesPieces s (state_after s (answer_record reader answer))
answer_leaves s reader (next.Gave index length) = record { geometry = refl; cursor = refl; filled = refl; rows = refl; fault = refl }
answer_leaves s reader (next.Ended length) = record { geometry = refl; cursor = refl; filled = refl; rows = refl; fault = refl }
answer_leaves s reader (next.Waited cut) = record { geometry = refl; cursor = refl; filled = refl; rows = refl; fault = refl }
answer_leaves s reader (next.Broke why) = record { geometry = refl; cursor = refl; filled = refl; rows = refl; fault = refl }

pub answer_leaves_tape : (reader : ℕ) (answer : NextAnswer) → LeavesTape (answer_record reader answer)
answer_leaves_tape reader (next.Gave index length) = tt
answer_leaves_tape reader (next.Ended length) = tt
answer_leaves_tape reader (next.Waited cut) = tt
answer_leaves_tape reader (next.Broke why) = tt

pub answer_keeps_readers : (s : State) (reader : ℕ) (answer : NextAnswer) → (state_after s (answer_record reader answer)).next_reader ≡ s.next_reader
answer_keeps_readers s reader (next.Gave index length) = refl
answer_keeps_readers s reader (next.Ended length) = refl
answer_keeps_readers s reader (next.Waited cut) = refl
answer_keeps_readers s reader (next.Broke why) = refl

-- ---- memory

pub before_last : (u : ℕ) → 1 ≤ u → u ≡ u - 1 + 1
before_last u h = omega arith

-- one unit less, for one record
pub one_less : (u f room left : ℕ) (c new : Seen) → 1 ≤ u → IsSpared u f room c → Uses 1 0 0 0 room left c new → IsSpared (u - 1) f left new
one_less u f room left c new some h uses =
    spent_calm (u - 1) f room left 1 0 c new (subst (λ n. IsSpared n f room c) (before_last u some) h) uses (omega arith) (omega arith)

pub one_record : (u f room left : ℕ) (c : Seen) → 1 ≤ u → IsSpared u f room c → room ≤ left + 1 → IsSpared (u - 1) f left c
one_record u f room left c some h more = one_told (u - 1) f room left c (subst (λ n. IsSpared n f room c) (before_last u some) h) more

-- ---- what is asked

pub gives_up : (p : Permit) (s : State) (put : ℕ) (key : Key) → IsGivingUp s put key → Does p s (GiveUp put) (rec.Aborted put key ∷ []) Done
gives_up p s put key g =
    DoesGiveUp.aborts g.w g.writing
    (ap (λ n. rec.Aborted n key ∷ []) (sym (number_of s put g.w g.writing.found)) ∙ ap (λ k. rec.Aborted g.w.put k ∷ []) (sym g.key_is))

pub commits : (p : Permit) (s : State) (put : ℕ) (key : Key) (list : List Stored) → IsCommitting s put key → list ≡ list_of_piece s (vector_piece key put)
    → Does p s (Commit put) (committed_record s put key list ∷ []) Done
commits p s put key list g lists =
    DoesCommit.commits g.w g.found g.is_open g.pending
    (ap (λ k. rec.Committed put k (total_length (cuts_of s put)) list ∷ []) (sym g.key_is)
    ∙ (ap (λ cuts. rec.Committed put g.w.key (total_length cuts) list ∷ []) (cuts_found s put g.w g.found)
    ∙ ap (λ l. rec.Committed put g.w.key (total_length g.w.cuts) l ∷ []) (lists ∙ ap (λ k. list_of_piece s (vector_piece k put)) (sym g.key_is))))

-- what is kept of an open put's fragments is what was cut for it
kept_rows : (o : Option KeptPut) (w : PutRow) → is_open w ≡ true → IsKeptAs (Some w) o → rows_kept o ≡ w.cuts
kept_rows None w opened h = cc
kept_rows (Some kept) w opened h = h.cuts

pub open_cuts : (s : State) (a : ActorsSeen) (put : ℕ) (w : PutRow) → AreActors s a → put_of s put ≡ Some w → w.writing ≡ Open
    → kept_cuts put a.held.puts ≡ cuts_of s put
open_cuts s a put w actors found opened =
    kept_rows (kept_put put a.held.puts) w (rw opened refl) (subst (λ o. IsKeptAs o (kept_put put a.held.puts)) found (actors.puts put))
    ∙ sym (cuts_found s put w found)

some_row : (o : Option Row) → IsSome o → (row : Row) × (o ≡ Some row)
some_row (Some row) h = (row, refl)
some_row None h = cc

pub removes : (p : Permit) (s : State) (key : Key) (put : ℕ) → IsQuiet s → IsSome (live_vector_of s key) → vector_of s key ≡ Some (vector_piece key put) → Does p s (Remove key) (rec.Removed put key ∷ []) Done
removes p s key put quiet live is =
    let found = some_row (live_vector_of s key) live in
    let row : Row = found.0 in
    let there : live_row_of s (vector_piece key put) ≡ Some row = ap (option_and_then (live_row_of s)) (sym is) ∙ found.1 in
    let name : row.id ≡ vector_piece key put = own_piece (vector_piece key put) s.rows row (live_is s (row_in s.rows (vector_piece key put)) row there).0 in
    DoesRemove.removes row quiet found.1 (ap (λ (i : PieceId). rec.Removed i.put key ∷ []) (sym name))

pub opens : (p : Permit) (s : State) (who : Actor) (key : Key) (request response : List Field) (pin : ℕ) → IsQuiet s → open_writers s < most_writers → s.next_put + 1 < limit
    → AreFields request → AreFields response → pin < 2 ^ 64 → Does p s (Write who.0 key request response pin) (write_opened_record s who key request response pin ∷ []) Done
opens p s who key request response pin quiet few below asked answered pin_fits = DoesWrite.opens (record {
  who = who;
  number = refl;
  quiet = quiet;
  few = few;
  below = below;
  request_fits = asked;
  response_fits = answered;
  pin_fits = pin_fits;
  is = refl;
})

pub too_many : (p : Permit) (s : State) (who : Actor) (key : Key) (request response : List Field) (pin : ℕ) → IsQuiet s → most_writers ≤ open_writers s
    → Does p s (Write who.0 key request response pin) [] (Fails ManyWriters)
too_many p s who key request response pin quiet many = DoesWrite.many quiet many refl

pub no_number : (p : Permit) (s : State) (who : Actor) (key : Key) (request response : List Field) (pin : ℕ) → IsQuiet s → open_writers s < most_writers → limit ≤ s.next_put + 1
    → Does p s (Write who.0 key request response pin) [] (Fails Exhausted)
no_number p s who key request response pin quiet few above = DoesWrite.exhausted quiet few above refl

pub refused_opens : (s : State) (who : Actor) (key : Key) (request response : List Field) (pin : ℕ) (why : Refusal) → IsQuiet s → IsRefusedPut s (Some why)
    → OpensAsAsked s who key request response pin (Err why)
refused_opens s who key request response pin refusal.TooManyWriters quiet h = (h, λ p. too_many p s who key request response pin quiet h)
refused_opens s who key request response pin (refusal.Exhausted number) quiet h = (h.2, λ p. no_number p s who key request response pin quiet h.0 h.1)
refused_opens s who key request response pin _ quiet h = absurd h

pub refusals_open : (s : State) (why : Option Refusal) → IsQuiet s → IsRefusedPut s why → IfSome why (RefusesAsAsked s)
refusals_open s (Some why) quiet h = λ who key request response pin. refused_opens s who key request response pin why quiet h
refusals_open s None quiet h = tt

-- ---- readers

pub looks : (t : State) (who : Actor) (key : Key) (request : List Field) (answer : ReadAnswer) → LooksAsAsked t who key request answer
looks t who key request answer = λ p s before number quiet right.
    DoesLook.looks (record { who = who; before = before; answer = answer; number = refl; quiet = quiet; right = right; is = refl })

pub notes : (reader : ℕ) (answer : NextAnswer) → NotesAsAsked reader answer
notes reader answer = λ p s r before quiet reading right. DoesReadOn.reads_on answer (record { r = r; before = before; quiet = quiet; reading = reading; right = right; is = refl })

pub marks : (s : State) (id : PieceId) (kept found : Digest) → MarksAsAsked s id kept found
marks s id kept found = λ p row entry live lists read unlike.
    let name : row.id ≡ id = own_piece id s.rows row (live_is s (row_in s.rows id) row live).0 in
    subst (λ (i : PieceId). ReadTrouble p s row entry (rec.Damaged i row.place kept found ∷ []) (cause.Damaged row.place kept found)) name
    (subst (λ (d : Digest). ReadTrouble p s row entry (rec.Damaged row.id row.place d found ∷ []) (cause.Damaged row.place d found)) lists (ReadTrouble.mismatched found read unlike))

pub ends_read : (s : State) (reader : ℕ) → EndsReadAsAsked s reader
ends_read s reader = λ r quiet found p. DoesStopReading.closes r quiet found refl
