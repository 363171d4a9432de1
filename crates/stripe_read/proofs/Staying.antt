-- Readers behind the records of a call.
use Rattle.std.proofs.Common.{◌≡◌, ℕ, ◌+◌, List, [], ◌∷◌, ◌++◌, refl, sym, ◌∙◌, ap, subst, arith, Bool, true, false, cond}
use Rattle.std.specs.Prelude.{Option, Some, None, is_some, option_map, find, ◌==◌}
use Rattle.std.proofs.lemmas.Bool.{eq-eqb}
use Rattle.std.proofs.lemmas.List.{append_assoc}
use Rattle.cache_model.specs.declared.cause.Cause.{Cause}
use Rattle.cache_model.specs.declared.cause.Cause.TheVariants as cause
use Rattle.cache_model.specs.declared.answer.NextAnswer.{NextAnswer}
use Rattle.cache_model.specs.declared.answer.NextAnswer.TheVariants as next
use Rattle.cache_model.specs.declared.record.Rec.{Rec}
use Rattle.cache_model.specs.declared.record.Rec.TheVariants as rec
use Rattle.cache_model.specs.State.{ReaderRow, Row, State, after_all, change_reader, reader_of, state_after}
use Rattle.cache_model.specs.Kept.{Kept, state_of, with_records}
use Rattle.cache_model.specs.Legal.{IsQuiet, answer_record}
use Rattle.cache_model.proofs.Found.{no_truth}
use Rattle.cache_model.proofs.Steps.{after_all-append}
use Rattle.cache_model.proofs.ByNumber.{find-changed}
use Rattle.piece_answers.specs.declared.answer.Found.{Found}
use Rattle.piece_answers.specs.declared.answer.Found.TheVariants as found
use Rattle.cache_model.specs.Troubles.{cause_records}
use Rattle.piece_answers.specs.Find.{found_records}
use Rattle.stripe_vectors.proofs.Finding.{found_same}
use Rattle.stripe_read.specs.declared.reader.Reader.{Reader}
use Rattle.cache_calls.specs.Actors.{IsOpenReader, IsReaderOf, row_by}
use Rattle.stripe_read.specs.Readers.{reading_as}

-- ---- records, one call after the other

pub state_behind : (k new : Kept) (recs : List Rec) → new ≡ with_records k recs → state_of new ≡ after_all (state_of k) recs
state_behind k new recs is = ap state_of is ∙ after_all-append k.base k.since recs

pub two_calls : (k k1 k2 : Kept) (a b : List Rec) → k1 ≡ with_records k a → k2 ≡ with_records k1 b → k2 ≡ with_records k (a ++ b)
two_calls k k1 k2 a b e f =
    f ∙ (ap (λ x. with_records x b) e ∙ ap (λ recs. let new : Kept = record { told = k.told; base = k.base; since = recs } in new) (append_assoc k.since a b))

-- ---- the readers and the pending vector stay

pub record LeavesReaders (s t : State) : Type 0 where
  pub readers : t.readers ≡ s.readers
  pub pending : t.pending ≡ s.pending
  pub number : t.next_reader ≡ s.next_reader

pub cause_leaves : (s : State) (row : Row) (why : Cause) → LeavesReaders s (after_all s (cause_records row why))
cause_leaves s row cause.NeverPut = record { readers = refl; pending = refl; number = refl }
cause_leaves s row cause.Removed = record { readers = refl; pending = refl; number = refl }
cause_leaves s row (cause.Passed place floor unsaved) = record { readers = refl; pending = refl; number = refl }
cause_leaves s row (cause.NoMatch count) = record { readers = refl; pending = refl; number = refl }
cause_leaves s row (cause.Displaced segment live) = record { readers = refl; pending = refl; number = refl }
cause_leaves s row (cause.Aborted writer) = record { readers = refl; pending = refl; number = refl }
cause_leaves s row (cause.BeforeOpening serial) = record { readers = refl; pending = refl; number = refl }
cause_leaves s row (cause.Unrecorded dropped) = record { readers = refl; pending = refl; number = refl }
cause_leaves s row (cause.DeviceFault count) = record { readers = refl; pending = refl; number = refl }
cause_leaves s row (cause.Damaged place kept other) = record { readers = refl; pending = refl; number = refl }

pub found_leaves : (s : State) (o : Option Row) (answer : Found) → LeavesReaders s (after_all s (found_records o answer))
found_leaves s None answer = record { readers = refl; pending = refl; number = refl }
found_leaves s (Some row) (found.Found size) = record { readers = refl; pending = refl; number = refl }
found_leaves s (Some row) (found.Missing why) = cause_leaves s row why

-- an answer that gives nothing leaves them too
abbrev pub is_gave : NextAnswer → Bool
is_gave (next.Gave index length) = true
is_gave (next.Ended length) = false
is_gave (next.Waited cut) = false
is_gave (next.Broke why) = false

pub answer_leaves : (s : State) (reader : ℕ) (answer : NextAnswer) → is_gave answer ≡ false → LeavesReaders s (state_after s (answer_record reader answer))
answer_leaves s reader (next.Gave index length) h = no_truth h
answer_leaves s reader (next.Ended length) h = record { readers = refl; pending = refl; number = refl }
answer_leaves s reader (next.Waited cut) h = record { readers = refl; pending = refl; number = refl }
answer_leaves s reader (next.Broke why) h = record { readers = refl; pending = refl; number = refl }

pub leaves_both : (s t u : State) → LeavesReaders s t → LeavesReaders t u → LeavesReaders s u
leaves_both s t u a b = record { readers = b.readers ∙ a.readers; pending = b.pending ∙ a.pending; number = b.number ∙ a.number }

pub leaves_quiet : (s t : State) → LeavesReaders s t → IsQuiet s → IsQuiet t
leaves_quiet s t h quiet = h.pending ∙ quiet

pub leaves_open : (s t : State) (r : Reader) → LeavesReaders s t → IsOpenReader s (reading_as r) → IsOpenReader t (reading_as r)
leaves_open s t r h own = record {
  row = own.row;
  found = ap (find (λ (x : ReaderRow). x.reader == r.reader)) h.readers ∙ own.found;
  key_is = own.key_is;
  put_is = own.put_is;
  next_is = own.next_is;
  hit = own.hit;
  first = own.first;
}

pub leaves_reader : (s t : State) (r : Reader) → LeavesReaders s t → IsReaderOf s (reading_as r) → IsReaderOf t (reading_as r)
leaves_reader s t r h own = record { actor = own.actor; found = ap (find (λ (x : ReaderRow). x.reader == r.reader)) h.readers ∙ own.found }

-- ---- a reader goes on

abbrev further : ℕ → ReaderRow → ReaderRow
further n row = record row { next = n }

found_further : (s : State) (reader n : ℕ) (row : ReaderRow) → reader_of s reader ≡ Some row → find (λ (x : ReaderRow). x.reader == reader) (change_reader reader n s.readers) ≡ Some (further n row)
found_further s reader n row h =
    find-changed (λ (x : ReaderRow). x.reader) (further n) (λ x. refl) reader reader s.readers
    ∙ (ap (λ (b : Bool). cond b (option_map (further n) (reader_of s reader)) (reader_of s reader)) (eq-eqb reader reader refl) ∙ ap (option_map (further n)) h)

-- a reader behind a fragment
pub record IsBehind (old new : Reader) : Type 0 where
  pub reader : new.reader ≡ old.reader
  pub key : new.key ≡ old.key
  pub put : new.put ≡ old.put
  pub table : new.table ≡ old.table
  pub next : new.next ≡ old.next + 1

pub goes_open : (s : State) (r new : Reader) (size : ℕ) → IsBehind r new → IsOpenReader s (reading_as r) → IsOpenReader (state_after s (rec.Gave r.reader r.next size)) (reading_as new)
goes_open s r new size behind own = record {
  row = further (r.next + 1) own.row;
  found = ap (λ n. find (λ (x : ReaderRow). x.reader == n) (change_reader r.reader (r.next + 1) s.readers)) behind.reader ∙ found_further s r.reader (r.next + 1) own.row own.found;
  key_is = own.key_is ∙ sym behind.key;
  put_is = own.put_is ∙ sym behind.put;
  next_is = sym behind.next;
  hit = own.hit ∙ ap (λ t. is_some (option_map (λ (x : Rattle.fragment_table.specs.Table.Table). x.rows) t)) (sym behind.table);
  first = omega (arith, behind.next);
}

behind_row : (actor : ℕ) (r new : Reader) → IsBehind r new → further (r.next + 1) (row_by actor (reading_as r)) ≡ row_by actor (reading_as new)
behind_row actor r new behind =
    ap (λ n. record (row_by actor (reading_as r)) { next = n }) (sym behind.next)
    ∙ (ap (λ n. record (row_by actor (reading_as r)) { reader = n; next = new.next }) (sym behind.reader)
    ∙ (ap (λ k. record (row_by actor (reading_as r)) { reader = new.reader; key = k; next = new.next }) (sym behind.key)
    ∙ (ap (λ n. record (row_by actor (reading_as r)) { reader = new.reader; key = new.key; put = n; next = new.next }) (sym behind.put)
    ∙ ap (λ t. record (row_by actor (reading_as r)) { reader = new.reader; key = new.key; put = new.put; table = option_map (λ (x : Rattle.fragment_table.specs.Table.Table). x.rows) t; next = new.next }) (sym behind.table))))

pub goes_reader : (s : State) (r new : Reader) (size : ℕ) → IsBehind r new → IsReaderOf s (reading_as r) → IsReaderOf (state_after s (rec.Gave r.reader r.next size)) (reading_as new)
goes_reader s r new size behind own = record {
  actor = own.actor;
  found = ap (λ n. find (λ (x : ReaderRow). x.reader == n) (change_reader r.reader (r.next + 1) s.readers)) behind.reader
      ∙ (found_further s r.reader (r.next + 1) (row_by own.actor (reading_as r)) own.found ∙ ap Some (behind_row own.actor r new behind));
}

-- ---- behind a fragment that was read

found_behind : (k k1 : Kept) (o : Option Row) (answer : Found) → k1 ≡ with_records k (found_records o answer) → LeavesReaders (state_of k) (state_of k1)
found_behind k k1 o answer is = subst (LeavesReaders (state_of k)) (sym (state_behind k k1 (found_records o answer) is)) (found_leaves (state_of k) o answer)

pub given_open : (k k1 k2 : Kept) (o : Option Row) (answer : Found) (r new : Reader) (size : ℕ) → k1 ≡ with_records k (found_records o answer) → k2 ≡ with_records k1 (rec.Gave r.reader r.next size ∷ []) → IsBehind r new
    → IsOpenReader (state_of k) (reading_as r) → IsOpenReader (state_of k2) (reading_as new)
given_open k k1 k2 o answer r new size e f behind own =
    subst (λ t. IsOpenReader t (reading_as new)) (sym (state_behind k1 k2 (rec.Gave r.reader r.next size ∷ []) f))
    (goes_open (state_of k1) r new size behind (leaves_open (state_of k) (state_of k1) r (found_behind k k1 o answer e) own))

pub given_reader : (k k1 k2 : Kept) (o : Option Row) (answer : Found) (r new : Reader) (size : ℕ) → k1 ≡ with_records k (found_records o answer) → k2 ≡ with_records k1 (rec.Gave r.reader r.next size ∷ []) → IsBehind r new
    → IsReaderOf (state_of k) (reading_as r) → IsReaderOf (state_of k2) (reading_as new)
given_reader k k1 k2 o answer r new size e f behind own =
    subst (λ t. IsReaderOf t (reading_as new)) (sym (state_behind k1 k2 (rec.Gave r.reader r.next size ∷ []) f))
    (goes_reader (state_of k1) r new size behind (leaves_reader (state_of k) (state_of k1) r (found_behind k k1 o answer e) own))

pub given_quiet : (k k1 k2 : Kept) (o : Option Row) (answer : Found) (reader index size : ℕ) → k1 ≡ with_records k (found_records o answer)
    → k2 ≡ with_records k1 (rec.Gave reader index size ∷ []) → IsQuiet (state_of k) → IsQuiet (state_of k2)
given_quiet k k1 k2 o answer reader index size e f quiet =
    subst IsQuiet (sym (state_behind k1 k2 (rec.Gave reader index size ∷ []) f))
    (leaves_quiet (state_of k) (state_of k1) (found_behind k k1 o answer e) quiet)

pub told_behind : (k k1 : Kept) (reader : ℕ) (answer : NextAnswer) → k1 ≡ with_records k (answer_record reader answer ∷ []) → is_gave answer ≡ false → LeavesReaders (state_of k) (state_of k1)
told_behind k k1 reader answer is h = subst (LeavesReaders (state_of k)) (sym (state_behind k k1 (answer_record reader answer ∷ []) is)) (answer_leaves (state_of k) reader answer h)

pub broken_behind : (k k1 k2 : Kept) (o : Option Row) (answer : Found) (reader : ℕ) (why : Cause) → k1 ≡ with_records k (found_records o answer) → k2 ≡ with_records k1 (rec.Broke reader why ∷ []) → LeavesReaders (state_of k) (state_of k2)
broken_behind k k1 k2 o answer reader why e f = leaves_both (state_of k) (state_of k1) (state_of k2) (found_behind k k1 o answer e) (told_behind k1 k2 reader (next.Broke why) f refl)

-- what was found is not recorded
pub found_nothing : (k : Kept) (o : Option Row) (size : ℕ) → k ≡ with_records k (found_records o (found.Found size))
found_nothing k o size = sym (found_same k (with_records k (found_records o (found.Found size))) o size refl)

-- ---- a reader that is closed

pub closed_quiet : (k k1 k2 : Kept) (reader : ℕ) → k1 ≡ k → k2 ≡ with_records k1 (rec.ReadClosed reader ∷ []) → IsQuiet (state_of k)
    → IsQuiet (state_of k2)
closed_quiet k k1 k2 reader same adds quiet =
    subst IsQuiet (sym (state_behind k1 k2 (rec.ReadClosed reader ∷ []) adds)) (subst (λ (x : Kept). IsQuiet (state_of x)) (sym same) quiet)
