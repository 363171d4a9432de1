-- Records beside a reader leave it as it is, and each put has cut no less behind them.
use Rattle.std.proofs.Common.{◌≡◌, ℕ, ◌+◌, ◌<◌, ◌≤◌, List, [], ◌∷◌, ◌++◌, length, refl, sym, ◌∙◌, ap, subst, arith, cond, length-append}
use Rattle.std.specs.Prelude.{Option, Some, None, find, option_map, unwrap_or, ◌==◌}
use Rattle.tape_base.specs.declared.keys.Key.{Key}
use Rattle.fragment_table.specs.Table.{TableRow, made_row}
use Rattle.alternate_vector.specs.Field.{Field}
use Rattle.cache_model.specs.declared.answer.ReadAnswer.{ReadAnswer}
use Rattle.cache_model.specs.declared.answer.ReadAnswer.TheVariants as read
use Rattle.cache_model.specs.declared.record.Rec.{Rec}
use Rattle.cache_model.specs.declared.record.Rec.TheVariants as rec
use Rattle.cache_model.specs.State.{State, PutRow, ReaderRow, Closed, GivenUp, after_all, change_put, change_reader, opened_reader, put_of, reader_of, state_after, with_cut, with_writing, without_reader, AllAlong}
use Rattle.cache_model.specs.Verdict.{cuts_of}
use Rattle.step_laws.specs.StepLaws.{IsNumbered}
use Rattle.cache_model.proofs.ByNumber.{find-changed, find-without}
use Rattle.script_run.proofs.Changed.{changed, either, found_changed}
use Rattle.script_run.proofs.Values.{other_than}
use Rattle.line_laws.proofs.Beside.{AllBeside, AnyNumber, IsBeside, OtherThan}

-- the reader n is as it was, and the put m has cut no less
pub record KeepsReader (n m : ℕ) (s t : State) : Type 0 where
  pub geometry : t.geometry ≡ s.geometry
  pub opened : n < s.next_reader → n < t.next_reader
  pub reader : n < s.next_reader → reader_of t n ≡ reader_of s n
  pub begun : m < s.next_put → m < t.next_put
  pub cuts : m < s.next_put → length (cuts_of s m) ≤ length (cuts_of t m)

pub keeps_self : (n m : ℕ) (s : State) → KeepsReader n m s s
keeps_self n m s = record { geometry = refl; opened = λ h. h; reader = λ h. refl; begun = λ h. h; cuts = λ h. omega arith }

pub keeps_then : (n m : ℕ) (s t u : State) → KeepsReader n m s t → KeepsReader n m t u → KeepsReader n m s u
keeps_then n m s t u a b = record {
  geometry = b.geometry ∙ a.geometry;
  opened = λ h. b.opened (a.opened h);
  reader = λ h. b.reader (a.opened h) ∙ a.reader h;
  begun = λ h. b.begun (a.begun h);
  cuts = λ h. let first = a.cuts h in let second = b.cuts (a.begun h) in omega (arith, first, second);
}

-- ---- fields that stay

-- the readers, the puts and the geometry stay
pub keeps_same : (n m : ℕ) (s t : State) → t.geometry ≡ s.geometry → t.readers ≡ s.readers → t.next_reader ≡ s.next_reader → t.puts ≡ s.puts → t.next_put ≡ s.next_put → KeepsReader n m s t
keeps_same n m s t geometry readers next_reader puts next_put = record {
  geometry = geometry;
  opened = λ h. subst (λ k. n < k) (sym next_reader) h;
  reader = λ h. ap (find (λ (x : ReaderRow). x.reader == n)) readers;
  begun = λ h. subst (λ k. m < k) (sym next_put) h;
  cuts = λ h. let same : cuts_of t m ≡ cuts_of s m = ap (λ (xs : List PutRow). unwrap_or (option_map (λ (p : PutRow). p.cuts) (find (λ (p : PutRow). p.put == m) xs)) []) puts in omega (arith, ap length same);
}

-- a put that is changed has cut no less
cuts_by : (put : ℕ) (f : PutRow → PutRow) → ((p : PutRow) → length p.cuts ≤ length (f p).cuts) → (o : Option PutRow)
    → length (unwrap_or (option_map (λ (p : PutRow). p.cuts) o) []) ≤ length (unwrap_or (option_map (λ (p : PutRow). p.cuts) (option_map (changed put f) o)) [])
cuts_by put f more None = omega arith
cuts_by put f more (Some w) = either (λ (y : PutRow). length w.cuts ≤ length y.cuts) put f w (λ e. more w) (omega arith)

keeps_changed : (n m : ℕ) (s t : State) (put : ℕ) (f : PutRow → PutRow) → ((p : PutRow) → (f p).put ≡ p.put) → ((p : PutRow) → length p.cuts ≤ length (f p).cuts)
    → t.geometry ≡ s.geometry → t.readers ≡ s.readers → t.next_reader ≡ s.next_reader → t.puts ≡ change_put put f s.puts → t.next_put ≡ s.next_put → KeepsReader n m s t
keeps_changed n m s t put f number more geometry readers next_reader puts next_put = record {
  geometry = geometry;
  opened = λ h. subst (λ k. n < k) (sym next_reader) h;
  reader = λ h. ap (find (λ (x : ReaderRow). x.reader == n)) readers;
  begun = λ h. subst (λ k. m < k) (sym next_put) h;
  cuts = λ h.
      let now : put_of t m ≡ option_map (changed put f) (put_of s m) = ap (find (λ (p : PutRow). p.put == m)) puts ∙ found_changed put f number m s.puts in
      subst (λ (o : Option PutRow). length (cuts_of s m) ≤ length (unwrap_or (option_map (λ (p : PutRow). p.cuts) o) [])) (sym now) (cuts_by put f more (put_of s m));
}

-- other readers
keeps_readers : (n m : ℕ) (s : State) (readers : List ReaderRow) (next : ℕ) → (n < s.next_reader → n < next) → (n < s.next_reader → find (λ (x : ReaderRow). x.reader == n) readers ≡ reader_of s n)
    → KeepsReader n m s (record s { readers = readers; next_reader = next })
keeps_readers n m s readers next on same = record { geometry = refl; opened = on; reader = same; begun = λ h. h; cuts = λ h. omega arith }

-- ---- each record

opened_beside : (n : ℕ) (s : State) (reader actor : ℕ) (key : Key) (request : List Field) (answer : ReadAnswer) → (reader ≡ n → ⊥)
    → find (λ (x : ReaderRow). x.reader == n) (opened_reader s reader actor key request answer ++ s.readers) ≡ reader_of s n
opened_beside n s reader actor key request (read.Hit put) other = other_than _ (reader_of s n) reader n other
opened_beside n s reader actor key request (read.Follow put) other = other_than _ (reader_of s n) reader n other
opened_beside n s reader actor key request (read.Miss why) other = refl

pub gave_reader : (n reader next : ℕ) (rs : List ReaderRow)
    → find (λ (x : ReaderRow). x.reader == n) (change_reader reader next rs) ≡ cond (reader == n) (option_map (λ (r : ReaderRow). record r { next = next }) (find (λ (x : ReaderRow). x.reader == n) rs)) (find (λ (x : ReaderRow). x.reader == n) rs)
gave_reader n reader next rs = find-changed (λ (x : ReaderRow). x.reader) (λ r. record r { next = next }) (λ r. refl) reader n rs

pub closed_reader : (n reader : ℕ) (rs : List ReaderRow)
    → find (λ (x : ReaderRow). x.reader == n) (without_reader reader rs) ≡ cond (reader == n) None (find (λ (x : ReaderRow). x.reader == n) rs)
closed_reader n reader rs = find-without (λ (x : ReaderRow). x.reader) reader n rs

pub keeps_one : (n m : ℕ) (s : State) (r : Rec) → IsNumbered s r → IsBeside (OtherThan n) AnyNumber r → KeepsReader n m s (state_after s r)
keeps_one n m s (rec.Formatted geometry) numbered beside = absurd beside
keeps_one n m s (rec.Opened geometry serial cursor floor next_put clean list) numbered beside = absurd beside
keeps_one n m s (rec.WriteOpened actor put key request response pin) numbered beside =
    let is : put ≡ s.next_put = numbered.0 in
    record {
      geometry = refl;
      opened = λ h. h;
      reader = λ h. refl;
      begun = λ h. omega (arith, h, is);
      cuts = λ h.
          let t : State = state_after s (rec.WriteOpened actor put key request response pin) in
          let same : put_of t m ≡ put_of s m = other_than _ (put_of s m) put m (λ e. omega (arith, h, is, e)) in
          let cuts : cuts_of t m ≡ cuts_of s m = ap (λ (o : Option PutRow). unwrap_or (option_map (λ (p : PutRow). p.cuts) o) []) same in
          omega (arith, ap length cuts);
    }
keeps_one n m s (rec.Cut put index size digest) numbered beside =
    let row : TableRow = made_row size digest.0 in
    keeps_changed n m s _ put (with_cut row) (λ p. refl) (λ p. omega (arith, length-append p.cuts (row ∷ []))) refl refl refl refl refl
keeps_one n m s (rec.Committed put key size listed) numbered beside = keeps_changed n m s _ put (with_writing Closed) (λ p. refl) (λ p. omega arith) refl refl refl refl refl
keeps_one n m s (rec.Aborted put key) numbered beside = keeps_changed n m s _ put (with_writing GivenUp) (λ p. refl) (λ p. omega arith) refl refl refl refl refl
keeps_one n m s (rec.ReadOpened reader actor key request answer) numbered beside =
    keeps_readers n m s _ (reader + 1) (λ h. omega (arith, h, numbered)) (λ h. opened_beside n s reader actor.0 key request answer (λ e. omega (arith, h, numbered, e)))
keeps_one n m s (rec.Gave reader index size) numbered beside =
    keeps_readers n m s _ s.next_reader (λ h. h) (λ h. gave_reader n reader (index + 1) s.readers ∙ other_than _ (reader_of s n) reader n beside)
keeps_one n m s (rec.Ended reader size) numbered beside = keeps_self n m s
keeps_one n m s (rec.Waited reader cut) numbered beside = keeps_self n m s
keeps_one n m s (rec.Broke reader why) numbered beside = keeps_self n m s
keeps_one n m s (rec.ReadClosed reader) numbered beside =
    keeps_readers n m s _ s.next_reader (λ h. h) (λ h. closed_reader n reader s.readers ∙ other_than None (reader_of s n) reader n beside)
keeps_one n m s _ numbered beside = keeps_same n m s _ refl refl refl refl refl

pub keeps_all : (n m : ℕ) (s : State) (recs : List Rec) → AllAlong IsNumbered s recs → AllBeside (OtherThan n) AnyNumber recs → KeepsReader n m s (after_all s recs)
keeps_all n m s [] numbered beside = keeps_self n m s
keeps_all n m s (r ∷ recs) numbered beside =
    keeps_then n m s (state_after s r) (after_all (state_after s r) recs) (keeps_one n m s r numbered.0 beside.0) (keeps_all n m (state_after s r) recs numbered.1 beside.1)
