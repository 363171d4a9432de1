-- Whose records the calls of a reader add.
use Rattle.std.proofs.Common.{◌≡◌, ℕ, List, [], ◌∷◌, refl, sym, ◌∙◌, ap}
use Rattle.std.specs.declared.alloc.AllocError.{AllocError}
use Rattle.std.specs.Prelude.{Option, Some, None, Result, Ok, Err, IfErr, IfOk, OnErr, OnOk}
use Rattle.std.specs.List.{AllByRecursion}
use Rattle.std.proofs.lemmas.List.{append-nil}
use Rattle.tape_base.specs.declared.actors.Actor.{Actor}
use Rattle.tape_base.specs.declared.keys.Key.{Key}
use Rattle.alternate_vector.specs.Field.{Field}
use Rattle.alternate_vector.proofs.Loops.{each_push}
use Rattle.cache_model.specs.declared.cause.Cause.{Cause}
use Rattle.cache_model.specs.declared.cause.Cause.TheVariants as cause
use Rattle.cache_model.specs.declared.answer.NextAnswer.{NextAnswer}
use Rattle.cache_model.specs.declared.answer.NextAnswer.TheVariants as next
use Rattle.cache_model.specs.declared.answer.ReadAnswer.{ReadAnswer}
use Rattle.cache_model.specs.declared.answer.ReadAnswer.TheVariants as read
use Rattle.cache_model.specs.declared.record.Rec.{Rec}
use Rattle.cache_model.specs.declared.record.Rec.TheVariants as rec
use Rattle.cache_model.specs.State.{Row}
use Rattle.cache_model.specs.Kept.{Kept}
use Rattle.cache_model.specs.Legal.{answer_record, live_next}
use Rattle.cache_model.specs.Verdict.{live_vector_of}
use Rattle.cache_model.specs.Troubles.{cause_records}
use Rattle.cache_model.specs.Subjects.{IsOfReader}
use Rattle.call_laws.specs.Moments.{At}
use Rattle.cache_answers.specs.declared.answers.Opened.{Opened}
use Rattle.cache_answers.specs.declared.answers.NextPiece.{NextPiece}
use Rattle.cache_answers.specs.declared.answers.NextPiece.TheVariants as piece
use Rattle.cache_calls.specs.Actors.{ReaderSeen, as_row}
use Rattle.cache_calls.specs.Adds.{AddsAll, AddsOnly, IsAsItWas}
use Rattle.cache_calls.specs.Keeping.{state_at}
use Rattle.cache_calls.specs.Readers.{answer_in, listed_length, next_trouble, noted, open_adds, read_adds, vector_trouble}
use Rattle.stripe_read.specs.declared.reader.Reader.{Reader}
use Rattle.stripe_read.specs.Lookups.{lookup_adds}

owns_none : (reader : ℕ) (old new : At) → IsAsItWas old new → AddsOnly (IsOfReader reader) old new
owns_none reader old new h = record {
  added = [];
  adds = h ∙ sym (ap (λ recs. let k : Kept = record { told = old.kept.told; base = old.kept.base; since = recs } in k) (append-nil old.kept.since));
  own = tt;
}

owns : (reader : ℕ) (old new : At) (added : List Rec) → AddsAll added old new → AllByRecursion (IsOfReader reader) added
    → AddsOnly (IsOfReader reader) old new
owns reader old new added adds own = record { added = added; adds = adds; own = own }

own_cause : (reader : ℕ) (row : Row) (why : Cause) → AllByRecursion (IsOfReader reader) (cause_records row why)
own_cause reader row cause.NeverPut = tt
own_cause reader row cause.Removed = tt
own_cause reader row (cause.Passed place floor unsaved) = tt
own_cause reader row (cause.NoMatch count) = tt
own_cause reader row (cause.Displaced segment live) = tt
own_cause reader row (cause.Aborted writer) = tt
own_cause reader row (cause.BeforeOpening serial) = tt
own_cause reader row (cause.Unrecorded dropped) = tt
own_cause reader row (cause.DeviceFault count) = (tt, tt)
own_cause reader row (cause.Damaged place kept other) = (tt, tt)

own_next_trouble : (reader : ℕ) (o : Option Row) (answer : NextPiece)
    → AllByRecursion (IsOfReader reader) (next_trouble o answer)
own_next_trouble reader None answer = tt
own_next_trouble reader (Some row) (piece.Piece index size) = tt
own_next_trouble reader (Some row) (piece.End size) = tt
own_next_trouble reader (Some row) (piece.NotYet cut) = tt
own_next_trouble reader (Some row) (piece.Broken why) = own_cause reader row why

own_look_trouble : (reader : ℕ) (o : Option Row) (answer : ReadAnswer)
    → AllByRecursion (IsOfReader reader) (vector_trouble o answer)
own_look_trouble reader None answer = tt
own_look_trouble reader (Some row) (read.Hit put) = tt
own_look_trouble reader (Some row) (read.Follow put) = tt
own_look_trouble reader (Some row) (read.Miss why) = own_cause reader row why

own_answer : (reader : ℕ) (answer : NextAnswer) → IsOfReader reader (answer_record reader answer)
own_answer reader (next.Gave index size) = refl
own_answer reader (next.Ended size) = refl
own_answer reader (next.Waited cut) = refl
own_answer reader (next.Broke why) = refl

-- a reader that opens
pub owns_open : (old new : At) (who : Actor) (key : Key) (request : List Field) (result : Result (Opened Reader) AllocError)
    → IfOk result (λ opened. AddsAll (open_adds (state_at old) who key request (answer_in opened)) old new)
    → OnErr result (IsAsItWas old new) → AddsOnly (IsOfReader (state_at old).next_reader) old new
owns_open old new who key request (Ok opened) adds err =
    let answer = answer_in opened in
    let reader = (state_at old).next_reader in
    owns reader old new _ adds
    (each_push (IsOfReader reader) (lookup_adds (state_at old) key answer) (rec.ReadOpened reader who key request answer)
    (own_look_trouble reader (live_vector_of (state_at old) key) answer) refl)
owns_open old new who key request (Err e) adds err = owns_none (state_at old).next_reader old new err

-- a reader that reads on, or wants memory
pub owns_read : (old new : At) (r : ReaderSeen) (result : Result NextPiece AllocError)
    → IfOk result (λ answer. AddsAll (read_adds (state_at old) r answer) old new)
    → OnErr result (IsAsItWas old new) → AddsOnly (IsOfReader r.reader) old new
owns_read old new r (Ok answer) adds err =
    let is = noted (listed_length (state_at old) r) answer in
    owns r.reader old new _ adds
    (each_push (IsOfReader r.reader) (next_trouble (live_next (state_at old) (as_row r)) answer) (answer_record r.reader is)
    (own_next_trouble r.reader (live_next (state_at old) (as_row r)) answer) (own_answer r.reader is))
owns_read old new r (Err e) adds err = owns_none r.reader old new err

-- a reader that is closed
pub owns_close : (old new : At) (reader : ℕ) (result : Result (Unit {0}) (AllocError × Reader))
    → OnOk result (AddsAll (rec.ReadClosed reader ∷ []) old new)
    → IfErr result (λ e. IsAsItWas old new) → AddsOnly (IsOfReader reader) old new
owns_close old new reader (Ok u) adds err = owns reader old new _ adds (refl, tt)
owns_close old new reader (Err e) adds err = owns_none reader old new err
