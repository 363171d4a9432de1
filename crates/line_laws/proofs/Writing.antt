-- Each put that an actor writes is open, and no two actors write the same.
use Rattle.std.proofs.Common.{◌≡◌, ℕ, ◌<◌, List, [], ◌∷◌, refl, sym, ◌∙◌, ap, subst, arith, inl, inr, ◌⊎◌, Bool, true, false}
use Rattle.std.specs.Prelude.{Option, Some, None, find, if◌then◌else◌, is_some, option_and_then, option_map, unwrap_or, ◌==◌}
use Rattle.fragment_table.specs.Table.{made_row}
use Rattle.cache_model.specs.declared.record.Rec.{Rec}
use Rattle.cache_model.specs.declared.record.Rec.TheVariants as rec
use Rattle.cache_model.specs.State.{State, PutRow, Closed, GivenUp, after_all, change_put, put_of, reader_of, state_after, with_cut, with_writing, AllAlong}
use Rattle.cache_model.specs.Verdict.{is_open}
use Rattle.cache_model.specs.Permit.{Intent, GiveUp, ReadOn, StopReading}
use Rattle.cache_model.specs.Legal.{IsStep, is_writing}
use Rattle.step_laws.specs.StepLaws.{IsNumbered, NumbersFollow}
use Rattle.cache_model.proofs.Found.{none_is, number_of}
use Rattle.actor_table.specs.Table.{number_of_name as number_in}
use Rattle.script_grammar.specs.declared.step.Step.{Step}
use Rattle.script_grammar.specs.declared.step.Step.TheVariants as step
use Rattle.script_run.specs.Run.{Holding, HoldsReader, Run, Stream, HoldsWriter, held_by, put_in, put_written_by, reader_by, with_value}
use Rattle.script_run.specs.Asked.{asked}
use Rattle.script_run.specs.Turn.{Turn}
use Rattle.script_run.specs.Behind.{in_session, open_reader_at, or_else, still_open, writer_at}
use Rattle.script_run.specs.Own.{ArePayloadsOwn, AreWriting, IsOwnPut}
use Rattle.script_run.proofs.Changed.{changed, either, found_changed, other_stays}
use Rattle.script_run.proofs.Ended.{IsFoundOpen, open_row}
use Rattle.script_run.proofs.Values.{other_than, value_by}
use Rattle.line_laws.proofs.Beside.{AllBeside, AllOther, AnyNumber, IsBeside, OtherThan, grown_beside}
use Rattle.line_laws.proofs.Asking.{close_other, feeding_other, free_other, get_other, has_other, put_other}

-- ---- a put that records leave

-- the put m is written as it was
pub record KeepsPut (m : ℕ) (s t : State) : Type 0 where
  pub begun : m < s.next_put → m < t.next_put
  pub writing : m < s.next_put → is_writing t m ≡ is_writing s m

keeps_self : (m : ℕ) (s : State) → KeepsPut m s s
keeps_self m s = record { begun = λ h. h; writing = λ h. refl }

keeps_same : (m : ℕ) (s t : State) → t.puts ≡ s.puts → t.next_put ≡ s.next_put → KeepsPut m s t
keeps_same m s t puts next_put = record {
  begun = λ h. subst (λ k. m < k) (sym next_put) h;
  writing = λ h. ap (λ (xs : List PutRow). unwrap_or (option_map is_open (find (λ (p : PutRow). p.put == m) xs)) false) puts;
}

writing_by : (put : ℕ) (f : PutRow → PutRow) (o : Option PutRow) → ((w : PutRow) → o ≡ Some w → is_open (changed put f w) ≡ is_open w)
    → unwrap_or (option_map is_open (option_map (changed put f) o)) false ≡ unwrap_or (option_map is_open o) false
writing_by put f None same = refl
writing_by put f (Some w) same = same w refl

keeps_changed : (m : ℕ) (s t : State) (put : ℕ) (f : PutRow → PutRow) → ((p : PutRow) → (f p).put ≡ p.put) → ((w : PutRow) → put_of s m ≡ Some w → is_open (changed put f w) ≡ is_open w)
    → t.puts ≡ change_put put f s.puts → t.next_put ≡ s.next_put → KeepsPut m s t
keeps_changed m s t put f number same puts next_put = record {
  begun = λ h. subst (λ k. m < k) (sym next_put) h;
  writing = λ h.
      let now : put_of t m ≡ option_map (changed put f) (put_of s m) = ap (find (λ (p : PutRow). p.put == m)) puts ∙ found_changed put f number m s.puts in
      ap (λ (o : Option PutRow). unwrap_or (option_map is_open o) false) now ∙ writing_by put f (put_of s m) same;
}

-- another put is changed
ended_beside : (m : ℕ) (s : State) (put : ℕ) (f : PutRow → PutRow) → (put ≡ m → ⊥) → (w : PutRow) → put_of s m ≡ Some w → is_open (changed put f w) ≡ is_open w
ended_beside m s put f other w found = ap is_open (other_stays put f w (λ here. other (sym here ∙ number_of s m w found)))

keeps_one : (m : ℕ) (s : State) (r : Rec) → IsNumbered s r → IsBeside AnyNumber (OtherThan m) r → KeepsPut m s (state_after s r)
keeps_one m s (rec.Formatted geometry) numbered beside = absurd beside
keeps_one m s (rec.Opened geometry serial cursor floor next_put clean list) numbered beside = absurd beside
keeps_one m s (rec.WriteOpened actor put key request response pin) numbered beside =
    let is : put ≡ s.next_put = numbered.0 in
    record {
      begun = λ h. omega (arith, h, is);
      writing = λ h. ap (λ (o : Option PutRow). unwrap_or (option_map is_open o) false) (other_than _ (put_of s m) put m (λ e. omega (arith, h, is, e)));
    }
keeps_one m s (rec.Cut put index size digest) numbered beside =
    keeps_changed m s _ put (with_cut (made_row size digest.0)) (λ p. refl)
    (λ w found. either (λ (y : PutRow). is_open y ≡ is_open w) put (with_cut (made_row size digest.0)) w (λ e. refl) refl) refl refl
keeps_one m s (rec.Committed put key size listed) numbered beside = keeps_changed m s _ put (with_writing Closed) (λ p. refl) (ended_beside m s put (with_writing Closed) beside) refl refl
keeps_one m s (rec.Aborted put key) numbered beside = keeps_changed m s _ put (with_writing GivenUp) (λ p. refl) (ended_beside m s put (with_writing GivenUp) beside) refl refl
keeps_one m s (rec.Ended reader size) numbered beside = keeps_self m s
keeps_one m s (rec.Waited reader cut) numbered beside = keeps_self m s
keeps_one m s (rec.Broke reader why) numbered beside = keeps_self m s
keeps_one m s _ numbered beside = keeps_same m s _ refl refl

keeps_all : (m : ℕ) (s : State) (recs : List Rec) → AllAlong IsNumbered s recs → AllBeside AnyNumber (OtherThan m) recs → KeepsPut m s (after_all s recs)
keeps_all m s [] numbered beside = keeps_self m s
keeps_all m s (r ∷ recs) numbered beside =
    let one : KeepsPut m s (state_after s r) = keeps_one m s r numbered.0 beside.0 in
    let rest : KeepsPut m (state_after s r) (after_all s (r ∷ recs)) = keeps_all m (state_after s r) recs numbered.1 beside.1 in
    record { begun = λ h. rest.begun (one.begun h); writing = λ h. rest.writing (one.begun h) ∙ one.writing h }

-- ---- what actors have

pub record AreHeld (held : ℕ → Option Holding) (s : State) : Type 0 where
  pub writing : (i put : ℕ) → held i ≡ Some (HoldsWriter put) → is_writing s put ≡ true
  pub apart : (i j put : ℕ) → held i ≡ Some (HoldsWriter put) → held j ≡ Some (HoldsWriter put) → i ≡ j

writer_held : (o : Option Holding) (put : ℕ) → option_and_then put_in o ≡ Some put → o ≡ Some (HoldsWriter put)
writer_held None put h = none_is h
writer_held (Some (HoldsWriter n)) put h = let same : n ≡ put = cc in ap (λ k. Some (HoldsWriter k)) same
writer_held (Some (HoldsReader n)) put h = none_is h

pub are_writing : (run : Run) (s : State) → AreHeld run.held s → AreWriting run s
are_writing run s h name put writes = h.writing (number_in run.actors name) put (writer_held (held_by run name) put writes)

-- an open put has begun
open_begun : (s : State) (streams : ℕ → Stream) (put : ℕ) → ArePayloadsOwn s streams → is_writing s put ≡ true → put < s.next_put
open_begun s streams put own writing =
    let f : IsFoundOpen s put = open_row s put writing in
    let p : IsOwnPut s streams f.w = own.puts put f.w f.found in
    subst (λ k. k < s.next_put) (number_of s put f.w f.found) p.begun

-- what it has now it had, or no one had it
abbrev IsNew : (ℕ → Option Holding) → ℕ → ℕ → Type 0
IsNew held k put = (held k ≡ Some (HoldsWriter put)) ⊎ ((i : ℕ) → held i ≡ Some (HoldsWriter put) → ⊥)

record Changes (held : ℕ → Option Holding) (t : State) (k : ℕ) (new : Option Holding) : Type 0 where
  others : (i put : ℕ) → (i ≡ k → ⊥) → held i ≡ Some (HoldsWriter put) → is_writing t put ≡ true
  here : (put : ℕ) → new ≡ Some (HoldsWriter put) → is_writing t put ≡ true
  fresh : (put : ℕ) → new ≡ Some (HoldsWriter put) → IsNew held k put

module _ (held : ℕ → Option Holding) (s t : State) (k : ℕ) (new : Option Holding) (h : AreHeld held s) (c : Changes held t k new) where
  -- another actor does not have what this one has now
  clash : (j put : ℕ) → (j ≡ k → ⊥) → new ≡ Some (HoldsWriter put) → held j ≡ Some (HoldsWriter put) → ⊥
  clash j put other now has = elim (c.fresh put now) [ inl before ↦ other (h.apart j k put has before) | inr none ↦ none j has ]

  apart_by : (i j put : ℕ) → with_value held k new i ≡ Some (HoldsWriter put) → with_value held k new j ≡ Some (HoldsWriter put) → i ≡ j
  apart_by i j put =
      value_by (λ (a : Option Holding). a ≡ Some (HoldsWriter put) → with_value held k new j ≡ Some (HoldsWriter put) → i ≡ j) new (held i) i k
      (λ first now. value_by (λ (a : Option Holding). a ≡ Some (HoldsWriter put) → i ≡ j) new (held j) j k
      (λ second has. first ∙ sym second) (λ other has. absurd (clash j put other now has)))
      (λ other before. value_by (λ (a : Option Holding). a ≡ Some (HoldsWriter put) → i ≡ j) new (held j) j k
      (λ second has. absurd (clash i put other has before)) (λ others has. h.apart i j put before has))

  held_with : AreHeld (with_value held k new) t
  held_with = record {
    writing = λ i put. value_by (λ (a : Option Holding). a ≡ Some (HoldsWriter put) → is_writing t put ≡ true) new (held i) i k
        (λ same now. c.here put now) (λ other before. c.others i put other before);
    apart = apart_by;
  }

-- ---- what an actor has behind a step

writer_is_open : (t : State) (put m : ℕ) (b : Bool) → is_writing t put ≡ b → (if b then Some (HoldsWriter put) else None) ≡ Some (HoldsWriter m) → (put ≡ m) × (is_writing t m ≡ true)
writer_is_open t put m true e h = let same : put ≡ m = cc in (same, subst (λ k. is_writing t k ≡ true) same e)
writer_is_open t put m false e h = none_is h

reader_is_none : (reader m : ℕ) (b : Bool) → (if b then Some (HoldsReader reader) else None) ≡ Some (HoldsWriter m) → ⊥
reader_is_none reader m true h = cc
reader_is_none reader m false h = cc

still_writes : (t : State) (o : Option Holding) (m : ℕ) → still_open t o ≡ Some (HoldsWriter m) → (o ≡ Some (HoldsWriter m)) × (is_writing t m ≡ true)
still_writes t None m h = none_is h
still_writes t (Some (HoldsWriter put)) m h =
    let is = writer_is_open t put m (is_writing t put) refl h in
    (ap (λ k. Some (HoldsWriter k)) is.0, is.1)
still_writes t (Some (HoldsReader reader)) m h = absurd (reader_is_none reader m (is_some (reader_of t reader)) h)

module _ (numbers : NumbersFollow) (run : Run) (s : State) (turn : Turn) (own : ArePayloadsOwn s run.streams) (h : AreHeld run.held s) where
  abbrev Behind : State
  Behind = after_all s turn.added

  -- a put that is not asked of is open as before
  open_still : (asks : List Intent) (m : ℕ) → IsStep turn.device s asks turn.added turn.refused → AllOther AnyNumber (OtherThan m) asks → is_writing s m ≡ true → is_writing Behind m ≡ true
  open_still asks m legal other writing =
      let k : KeepsPut m s Behind = keeps_all m s turn.added (numbers turn.device s asks turn.added turn.refused legal) (grown_beside AnyNumber (OtherThan m) other legal.grows) in
      k.writing (open_begun s run.streams m own writing) ∙ writing

  -- a step of no actor
  alone_held : (asks : List Intent) → IsStep turn.device s asks turn.added turn.refused → ((m : ℕ) → is_writing s m ≡ true → AllOther AnyNumber (OtherThan m) asks) → AreHeld run.held Behind
  alone_held asks legal other = record {
    writing = λ i put has. let before : is_writing s put ≡ true = h.writing i put has in open_still asks put legal (other put before) before;
    apart = h.apart;
  }

  -- an actor goes on, or has nothing any more
  still_held : (k : ℕ) (asks : List Intent) → IsStep turn.device s asks turn.added turn.refused → ((i m : ℕ) → (i ≡ k → ⊥) → run.held i ≡ Some (HoldsWriter m) → AllOther AnyNumber (OtherThan m) asks)
      → AreHeld (with_value run.held k (still_open Behind (run.held k))) Behind
  still_held k asks legal other = held_with run.held s Behind k (still_open Behind (run.held k)) h (record {
    others = λ i put apart has. open_still asks put legal (other i put apart has) (h.writing i put has);
    here = λ put now. (still_writes Behind (run.held k) put now).1;
    fresh = λ put now. inl (still_writes Behind (run.held k) put now).0;
  })

  -- an actor that asks of its own put
  mine_apart : (name : List ℕ) (i m put : ℕ) → (i ≡ number_in run.actors name → ⊥) → run.held i ≡ Some (HoldsWriter m) → put_written_by run name ≡ Some put → put ≡ m → ⊥
  mine_apart name i m put other has writes same =
      other (h.apart i (number_in run.actors name) m has (writer_held (held_by run name) put writes ∙ ap (λ k. Some (HoldsWriter k)) same))

  -- an actor that has something opens nothing
  kept_changes : (k : ℕ) (asks : List Intent) (o : Option Holding) → run.held k ≡ o → IsStep turn.device s asks turn.added turn.refused → ((m : ℕ) → is_writing s m ≡ true → AllOther AnyNumber (OtherThan m) asks)
      → Changes run.held Behind k o
  kept_changes k asks o e legal other = record {
    others = λ i put apart has. let before : is_writing s put ≡ true = h.writing i put has in open_still asks put legal (other put before) before;
    here = λ put now. let before : is_writing s put ≡ true = h.writing k put (e ∙ now) in open_still asks put legal (other put before) before;
    fresh = λ put now. inl (e ∙ now);
  }

  -- a writer that opens
  opened_changes : (k : ℕ) (asks : List Intent) (o : Option Holding) → run.held k ≡ o → IsStep turn.device s asks turn.added turn.refused → ((m : ℕ) → is_writing s m ≡ true → AllOther AnyNumber (OtherThan m) asks)
      → Changes run.held Behind k (or_else o (writer_at Behind s.next_put))
  opened_changes k asks (Some holding) e legal other = kept_changes k asks (Some holding) e legal other
  opened_changes k asks None e legal other = record {
    others = λ i put apart has. let before : is_writing s put ≡ true = h.writing i put has in open_still asks put legal (other put before) before;
    here = λ put now. (writer_is_open Behind s.next_put put (is_writing Behind s.next_put) refl now).1;
    fresh = λ put now. inr (λ i has.
        let same : s.next_put ≡ put = (writer_is_open Behind s.next_put put (is_writing Behind s.next_put) refl now).0 in
        let below : put < s.next_put = open_begun s run.streams put own (h.writing i put has) in
        omega (arith, same, below));
  }

  -- a reader that opens
  looked_changes : (k : ℕ) (asks : List Intent) (o : Option Holding) → run.held k ≡ o → IsStep turn.device s asks turn.added turn.refused → ((m : ℕ) → is_writing s m ≡ true → AllOther AnyNumber (OtherThan m) asks)
      → Changes run.held Behind k (or_else o (open_reader_at Behind s.next_reader))
  looked_changes k asks (Some holding) e legal other = kept_changes k asks (Some holding) e legal other
  looked_changes k asks None e legal other = record {
    others = λ i put apart has. let before : is_writing s put ≡ true = h.writing i put has in open_still asks put legal (other put before) before;
    here = λ put now. absurd (reader_is_none s.next_reader put (is_some (reader_of Behind s.next_reader)) now);
    fresh = λ put now. absurd (reader_is_none s.next_reader put (is_some (reader_of Behind s.next_reader)) now);
  }

  -- a put that begins is another one than each that is open
  next_other : (m : ℕ) → is_writing s m ≡ true → s.next_put ≡ m → ⊥
  next_other m writing same = let below : m < s.next_put = open_begun s run.streams m own writing in omega (arith, same, below)

  -- ---- each step

  pub held_step : (st : Step) → IsStep turn.device s (asked run s st) turn.added turn.refused → AreHeld (in_session run s Behind turn st).held Behind
  held_step (step.Format name segments buckets content agg reach fragment generation alternates) legal = alone_held [] legal (λ m w. tt)
  held_step (step.Put key body request response) legal = alone_held _ legal (λ m w. put_other AnyNumber (OtherThan m) s key body request response (next_other m w))
  held_step (step.Get key request) legal = alone_held _ legal (λ m w. get_other AnyNumber (OtherThan m) s key request tt)
  held_step (step.OpenWrite actor key pin request response) legal =
      held_with run.held s Behind (number_in run.actors actor) _ h (opened_changes (number_in run.actors actor) _ (held_by run actor) refl legal (λ m w. free_other AnyNumber (OtherThan m) (held_by run actor) _ tt))
  held_step (step.Feed actor body) legal =
      still_held (number_in run.actors actor) _ legal (λ i m apart has. feeding_other AnyNumber (OtherThan m) run s body (put_written_by run actor) (λ put writes. mine_apart actor i m put apart has writes))
  held_step (step.Close actor) legal =
      still_held (number_in run.actors actor) _ legal (λ i m apart has. close_other AnyNumber (OtherThan m) run s (put_written_by run actor) (λ put writes. mine_apart actor i m put apart has writes))
  held_step (step.Abort actor) legal =
      still_held (number_in run.actors actor) _ legal (λ i m apart has. has_other AnyNumber (OtherThan m) (put_written_by run actor) (λ put. GiveUp put) (λ put writes. mine_apart actor i m put apart has writes))
  held_step (step.OpenRead actor key request) legal =
      held_with run.held s Behind (number_in run.actors actor) _ h (looked_changes (number_in run.actors actor) _ (held_by run actor) refl legal (λ m w. free_other AnyNumber (OtherThan m) (held_by run actor) _ tt))
  held_step (step.Next actor) legal = still_held (number_in run.actors actor) _ legal (λ i m apart has. has_other AnyNumber (OtherThan m) (reader_by run actor) (λ reader. ReadOn reader) (λ k e. tt))
  held_step (step.Done actor) legal = still_held (number_in run.actors actor) _ legal (λ i m apart has. has_other AnyNumber (OtherThan m) (reader_by run actor) (λ reader. StopReading reader) (λ k e. tt))
  held_step (step.Remove key) legal = alone_held _ legal (λ m w. (tt, tt))
  held_step step.Flush legal = alone_held _ legal (λ m w. (tt, tt))
  held_step (step.Now at) legal = alone_held _ legal (λ m w. tt)
  held_step (step.Fail nth) legal = alone_held _ legal (λ m w. tt)
  held_step (step.StopAfter calls) legal = alone_held _ legal (λ m w. tt)
  held_step (step.Flip place byte) legal = alone_held _ legal (λ m w. tt)
  held_step (step.Cut choice) legal = alone_held _ legal (λ m w. tt)
