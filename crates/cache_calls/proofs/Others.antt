-- What the calls of one writer or reader leave of all others.
use Rattle.std.proofs.Common.{◌≡◌, ℕ, ◌+◌, List, [], ◌∷◌, ◌++◌, refl, sym, ◌∙◌, ap, subst, Bool, true, false, cond}
use Rattle.std.specs.Prelude.{None, option_map, find, ◌==◌}
use Rattle.std.specs.List.{AllByRecursion}
use Rattle.std.proofs.lemmas.Bool.{eqb-true}
use Rattle.tape_base.specs.declared.keys.Key.{Key}
use Rattle.tape_base.specs.declared.actors.Actor.{Actor}
use Rattle.alternate_vector.specs.Field.{Field}
use Rattle.cache_model.specs.declared.answer.ReadAnswer.{ReadAnswer}
use Rattle.cache_model.specs.declared.answer.ReadAnswer.TheVariants as read
use Rattle.cache_model.specs.declared.record.Rec.{Rec}
use Rattle.cache_model.specs.declared.record.Rec.TheVariants as rec
use Rattle.cache_model.specs.State.{PutRow, ReaderRow, State, after_all, change_put, opened_reader, reader_of, state_after}
use Rattle.cache_model.proofs.ByNumber.{find-changed, find-without}
use Rattle.call_laws.specs.Moments.{At}
use Rattle.call_laws.proofs.Joined.{state_behind}
use Rattle.cache_calls.specs.Actors.{IsAtHand, IsOpenReader, IsReaderOf, IsWriterOf, ReaderSeen, WriterSeen}
use Rattle.cache_model.specs.Subjects.{IsOfPut, IsOfReader}
use Rattle.cache_calls.specs.Adds.{AddsOnly}
use Rattle.cache_calls.specs.Keeping.{state_at}
use Rattle.cache_calls.specs.Others.{LeavesOtherReaders, LeavesOthers}

-- another number
other_number : (a n : ℕ) → (n ≡ a → ⊥) → (a == n) ≡ false
other_number a n other = by (a == n) refl
  where
    by : (b : Bool) → (a == n) ≡ b → (a == n) ≡ false
    by true e = absurd (other (sym (eqb-true a n e)))
    by false e = e

-- ---- puts

begun_other : (n : ℕ) (row : PutRow) (puts : List PutRow) → (row.put == n) ≡ false → find (λ p. p.put == n) (row ∷ puts) ≡ find (λ p. p.put == n) puts
begun_other n row puts other = rw other refl

changed_other : (q n : ℕ) (f : PutRow → PutRow) (puts : List PutRow) → ((x : PutRow) → (f x).put ≡ x.put) → (q == n) ≡ false
    → find (λ p. p.put == n) (change_put q f puts) ≡ find (λ p. p.put == n) puts
changed_other q n f puts keeps other =
    find-changed (λ (p : PutRow). p.put) f keeps q n puts
    ∙ ap (λ (b : Bool). cond b (option_map f (find (λ p. p.put == n) puts)) (find (λ p. p.put == n) puts)) other

module _ (put : ℕ) (s : State) where
  same_others : (t : State) → t.puts ≡ s.puts → t.readers ≡ s.readers → t.geometry ≡ s.geometry → LeavesOthers put s t
  same_others t p r g = record { puts = λ q other. ap (find (λ (x : PutRow). x.put == q)) p; readers = r; geometry = g }

  -- the number of a record of this put is another
  apart : {q : ℕ} (n : ℕ) → q ≡ put → (n ≡ put → ⊥) → (q == n) ≡ false
  apart {q} n own other = other_number q n (λ e. other (e ∙ own))

  one_of_put : (r : Rec) → IsOfPut put r → LeavesOthers put s (state_after s r)
  one_of_put (rec.Formatted geometry) h = absurd h
  one_of_put (rec.Opened geometry serial cursor floor next_put clean list) h = absurd h
  one_of_put (rec.WriteOpened actor q key request response pin) h =
      record { puts = λ n other. begun_other n _ s.puts (apart n h other); readers = refl; geometry = refl }
  one_of_put (rec.Cut q index size digest) h =
      record { puts = λ n other. changed_other q n _ s.puts (λ x. refl) (apart n h other); readers = refl; geometry = refl }
  one_of_put (rec.Committed q key size list) h =
      record { puts = λ n other. changed_other q n _ s.puts (λ x. refl) (apart n h other); readers = refl; geometry = refl }
  one_of_put (rec.Aborted q key) h =
      record { puts = λ n other. changed_other q n _ s.puts (λ x. refl) (apart n h other); readers = refl; geometry = refl }
  one_of_put (rec.ReadOpened reader actor key request answer) h = absurd h
  one_of_put (rec.Gave reader index size) h = absurd h
  one_of_put (rec.Ended reader size) h = absurd h
  one_of_put (rec.Waited reader cut) h = absurd h
  one_of_put (rec.Broke reader why) h = absurd h
  one_of_put (rec.ReadClosed reader) h = absurd h
  one_of_put _ h = same_others _ refl refl refl

all_of_put : (put : ℕ) (s : State) (recs : List Rec) → AllByRecursion (IsOfPut put) recs → LeavesOthers put s (after_all s recs)
all_of_put put s [] own = same_others put s s refl refl refl
all_of_put put s (r ∷ recs) own =
    let first : LeavesOthers put s (state_after s r) = one_of_put put s r own.0 in
    let others : LeavesOthers put (state_after s r) (after_all (state_after s r) recs) = all_of_put put (state_after s r) recs own.1 in
    record {
      puts = λ q other. others.puts q other ∙ first.puts q other;
      readers = others.readers ∙ first.readers;
      geometry = others.geometry ∙ first.geometry;
    }

pub others_stay : (put : ℕ) (old new : At) → AddsOnly (IsOfPut put) old new → LeavesOthers put (state_at old) (state_at new)
others_stay put old new h =
    subst (LeavesOthers put (state_at old)) (sym (state_behind old.kept new.kept h.added h.adds)) (all_of_put put (state_at old) h.added h.own)

pub writers_stay : (put : ℕ) (s t : State) (w : WriterSeen) → LeavesOthers put s t → (w.put ≡ put → ⊥) → IsWriterOf s w → IsWriterOf t w
writers_stay put s t w leaves other own =
    λ row found o. subst (λ g. IsAtHand g row w) (sym leaves.geometry) (own row (sym (leaves.puts w.put other) ∙ found) o)

-- ---- readers

-- the new reader is found under no other number
opened_other : (s : State) (number n : ℕ) (who : Actor) (key : Key) (request : List Field) (answer : ReadAnswer) → (number == n) ≡ false
    → find (λ (x : ReaderRow). x.reader == n) (opened_reader s number who.0 key request answer ++ s.readers) ≡ reader_of s n
opened_other s number n who key request (read.Hit put) other = rw other refl
opened_other s number n who key request (read.Follow put) other = rw other refl
opened_other s number n who key request (read.Miss why) other = refl

abbrev further : ℕ → ReaderRow → ReaderRow
further n row = record row { next = n }

given_other : (s : State) (number n index : ℕ) → (number == n) ≡ false → reader_of (state_after s (rec.Gave number index 0)) n ≡ reader_of s n
given_other s number n index other =
    find-changed (λ (x : ReaderRow). x.reader) (further (index + 1)) (λ x. refl) number n s.readers
    ∙ ap (λ (b : Bool). cond b (option_map (further (index + 1)) (reader_of s n)) (reader_of s n)) other

closed_other : (s : State) (number n : ℕ) → (number == n) ≡ false → reader_of (state_after s (rec.ReadClosed number)) n ≡ reader_of s n
closed_other s number n other = find-without (λ (x : ReaderRow). x.reader) number n s.readers ∙ ap (λ (b : Bool). cond b None (reader_of s n)) other

module _ (reader : ℕ) (s : State) where
  all_stay : LeavesOtherReaders reader s s
  all_stay = record { readers = λ n other. refl; puts = refl; geometry = refl }

  at_one : (t : State) {number : ℕ} → number ≡ reader → ((n : ℕ) → (number == n) ≡ false → reader_of t n ≡ reader_of s n)
      → t.puts ≡ s.puts → t.geometry ≡ s.geometry → LeavesOtherReaders reader s t
  at_one t {number} own stays puts geometry =
      record { readers = λ n other. stays n (other_number number n (λ e. other (e ∙ own))); puts = puts; geometry = geometry }

  one_of_reader : (r : Rec) → IsOfReader reader r → LeavesOtherReaders reader s (state_after s r)
  one_of_reader (rec.Damaged piece place kept other) h = record { readers = λ n other. refl; puts = refl; geometry = refl }
  one_of_reader (rec.ReadOpened number actor key request answer) h =
      at_one _ h (λ n other. opened_other s number n actor key request answer other) refl refl
  one_of_reader (rec.Gave number index size) h = at_one _ h (λ n other. given_other s number n index other) refl refl
  one_of_reader (rec.Ended number size) h = all_stay
  one_of_reader (rec.Waited number cut) h = all_stay
  one_of_reader (rec.Broke number why) h = all_stay
  one_of_reader (rec.ReadClosed number) h = at_one _ h (λ n other. closed_other s number n other) refl refl
  one_of_reader (rec.Fault count) h = record { readers = λ n other. refl; puts = refl; geometry = refl }
  one_of_reader _ h = absurd h

all_of_reader : (reader : ℕ) (s : State) (recs : List Rec) → AllByRecursion (IsOfReader reader) recs → LeavesOtherReaders reader s (after_all s recs)
all_of_reader reader s [] own = all_stay reader s
all_of_reader reader s (r ∷ recs) own =
    let first : LeavesOtherReaders reader s (state_after s r) = one_of_reader reader s r own.0 in
    let others : LeavesOtherReaders reader (state_after s r) (after_all (state_after s r) recs) = all_of_reader reader (state_after s r) recs own.1 in
    record {
      readers = λ n other. others.readers n other ∙ first.readers n other;
      puts = others.puts ∙ first.puts;
      geometry = others.geometry ∙ first.geometry;
    }

pub reads_leave_others : (reader : ℕ) (old new : At) → AddsOnly (IsOfReader reader) old new → LeavesOtherReaders reader (state_at old) (state_at new)
reads_leave_others reader old new h =
    subst (LeavesOtherReaders reader (state_at old)) (sym (state_behind old.kept new.kept h.added h.adds)) (all_of_reader reader (state_at old) h.added h.own)

pub readers_stay : (s t : State) (r : ReaderSeen) → reader_of t r.reader ≡ reader_of s r.reader
    → (IsOpenReader s r → IsOpenReader t r) × (IsReaderOf s r → IsReaderOf t r)
readers_stay s t r same = (
  λ own. record {
    row = own.row;
    found = same ∙ own.found;
    key_is = own.key_is;
    put_is = own.put_is;
    next_is = own.next_is;
    hit = own.hit;
    first = own.first;
  },
  λ own. record { actor = own.actor; found = same ∙ own.found },
)
