-- What each line gives to a reader, and where it stands behind that.
use Rattle.std.proofs.Common.{arith, ◌≡◌, ℕ, ◌-◌, ◌*◌, ◌<◌, List, [], ◌∷◌, take, refl, sym, ◌∙◌, ap, subst, inl, inr, ◌⊎◌, Bool, true, false, eqb-true}
use Rattle.std.specs.Prelude.{Option, Some, None, is_none, if◌then◌else◌, ◌==◌}
use Rattle.std.proofs.lemmas.Bool.{eq-eqb}
use Rattle.tape_base.specs.declared.geometries.BadGeometry.{BadGeometry}
use Rattle.tape_base.specs.Limits.{first_refusal}
use Rattle.device_log.specs.declared.choice.CutChoice.{CutChoice}
use Rattle.cache_model.specs.declared.record.Rec.{Rec}
use Rattle.cache_model.specs.declared.record.Rec.TheVariants as rec
use Rattle.cache_model.specs.State.{State, ReaderRow, after_all, reader_of, state_after, AllAlong}
use Rattle.cache_model.specs.Permit.{End, Intent, ReadOn, StopReading}
use Rattle.cache_model.specs.Legal
use Rattle.cache_model.specs.Legal.{IsQuiet, IsStep}
use Rattle.step_laws.specs.StepLaws.{IsNumbered, NumbersFollow, OneGroup, ReaderIsClosed}
use Rattle.cache_model.proofs.Found.{no_truth, none_is}
use Rattle.script_grammar.specs.declared.step.Step.{Step}
use Rattle.script_grammar.specs.declared.step.Step.TheVariants as step
use Rattle.script_grammar.specs.declared.line.LineAnswer.{LineAnswer}
use Rattle.script_grammar.specs.declared.line.LineAnswer.TheVariants as line
use Rattle.script_run.specs.Run.{Run, Stream, held_by, put_written_by, reader_by}
use Rattle.script_run.specs.Asked.{asked, asks_if_has}
use Rattle.script_run.specs.Turn.{Turn, told_in}
use Rattle.script_run.specs.Behind.{after_cut, after_format, after_reading, behind, in_session, streams_behind}
use Rattle.script_run.specs.Takes.{IsNextPiece, IsPiece, ReadingTakes, SessionTakes, Takes}
use Rattle.script_run.specs.Goes.{begins_session}
use Rattle.line_laws.specs.Along.{KeepsSession, StandsKept}
use Rattle.line_laws.specs.Given.{given_by_line, given_by_step, given_where}
use Rattle.line_laws.proofs.Beside.{AllBeside, AnyNumber, OtherThan, AllOther, grown_beside}
use Rattle.line_laws.proofs.Keeping.{KeepsReader, keeps_all, keeps_self}
use Rattle.line_laws.proofs.Asking.{close_other, feeding_other, free_other, get_other, has_other, put_other}
use Rattle.line_laws.proofs.Fronts.{fronts}
use Rattle.line_laws.proofs.Nexts.{GoesOn, IsNext, beside, gives, gave, next_is, stays}

-- what holds of each step
pub record OfSteps : Type 0 where
  pub one_group : OneGroup
  pub numbers_follow : NumbersFollow
  pub reader_is_closed : ReaderIsClosed

-- behind a line the session goes on, and so does the reader where it is open still
pub record LineGoes (n : ℕ) (s : State) (old : ℕ → Stream) (after : Run) (given : List ℕ) : Type 0 where
  pub t : State
  pub state : after.state ≡ Some t
  pub geometry : t.geometry ≡ s.geometry
  pub quiet : IsQuiet t
  pub opened : n < t.next_reader
  pub goes : (u : ReaderRow) → reader_of t n ≡ Some u → GoesOn n s.geometry.fragment s t old after.streams given u

-- the session is as it was
unchanged : (n : ℕ) (s : State) (old : ℕ → Stream) (after : Run) → after.state ≡ Some s → after.streams ≡ old → IsQuiet s → n < s.next_reader → LineGoes n s old after []
unchanged n s old after state streams quiet opened = record {
  t = s;
  state = state;
  geometry = refl;
  quiet = quiet;
  opened = opened;
  goes = λ u found. stays n s s old after.streams u opened (keeps_self n u.put s)
      (λ at. ap (λ (f : ℕ → Stream). take ((u.next - 1) * s.geometry.fragment) (f u.put).bytes) (sym streams)) found;
}

-- a reader that was closed
record IsClosed (n : ℕ) (s t : State) : Type 0 where
  geometry : t.geometry ≡ s.geometry
  next_reader : t.next_reader ≡ s.next_reader

closed_by : (n : ℕ) (s : State) (added : List Rec) (e : End) → Legal.DoesStopReading s n added e → IsClosed n s (after_all s added)
closed_by n s added e (Legal.DoesStopReading.closes r q l is) = subst (λ recs. IsClosed n s (after_all s recs)) (sym is) (record { geometry = refl; next_reader = refl })
closed_by n s added e (Legal.DoesStopReading.closed q l is) = subst (λ recs. IsClosed n s (after_all s recs)) (sym is) (record { geometry = refl; next_reader = refl })

module _ (laws : OfSteps) (n : ℕ) (run : Run) (s : State) (turn : Turn) (stands : StandsKept run s) (quiet : IsQuiet s) (opened : n < s.next_reader) where
  abbrev Behind : State
  Behind = after_all s turn.added

  abbrev Goes : Step → List ℕ → Type 0
  Goes st given = LineGoes n s run.streams (in_session run s Behind turn st) given

  -- ---- lines beside the reader

  beside_by : (st : Step) (asks : List Intent) → IsStep turn.device s asks turn.added turn.refused → AllBeside (OtherThan n) AnyNumber turn.added → Goes st []
  beside_by st asks legal besides =
      let numbered : AllAlong IsNumbered s turn.added = laws.numbers_follow turn.device s asks turn.added turn.refused legal in
      let k : KeepsReader n 0 s Behind = keeps_all n 0 s turn.added numbered besides in
      record {
        t = Behind;
        state = refl;
        geometry = k.geometry;
        quiet = legal.quiet;
        opened = k.opened opened;
        goes = λ u found. stays n s Behind run.streams (streams_behind run s Behind turn st) u opened (keeps_all n u.put s turn.added numbered besides)
            (λ at. fronts run s Behind n u stands quiet at turn st) found;
      }

  beside_line : (st : Step) (asks : List Intent) → IsStep turn.device s asks turn.added turn.refused → AllOther (OtherThan n) AnyNumber asks → Goes st []
  beside_line st asks legal other = beside_by st asks legal (grown_beside (OtherThan n) AnyNumber other legal.grows)

  -- ---- a reader that is asked for more

  mine_by : (actor : List ℕ) → IsStep turn.device s (ReadOn n ∷ []) turn.added turn.refused → IsNext n run s turn.added turn.given → Goes (step.Next actor) turn.given
  mine_by actor legal (beside h none) = subst (Goes (step.Next actor)) (sym none) (beside_by (step.Next actor) (ReadOn n ∷ []) legal h)
  mine_by actor legal (gives r size found within is piece) =
      let x : State = state_after s (rec.Gave n r.next size) in
      let same : Behind ≡ x = ap (after_all s) is in
      record {
        t = Behind;
        state = refl;
        geometry = ap (λ (y : State). y.geometry) same;
        quiet = legal.quiet;
        opened = subst (λ (y : State). n < y.next_reader) (sym same) opened;
        goes = λ u now. subst (λ (y : State). GoesOn n s.geometry.fragment s y run.streams run.streams turn.given u) (sym same)
            (gave n s run.streams r size turn.given u found within piece (subst (λ (y : State). reader_of y n ≡ Some u) same now));
      }

  mine : (actor : List ℕ) → IsStep turn.device s (ReadOn n ∷ []) turn.added turn.refused → IsPiece run s n turn.given (told_in turn.added) → Goes (step.Next actor) turn.given
  mine actor legal piece =
      let does = laws.one_group turn.device s (ReadOn n) turn.added turn.refused refl legal in
      mine_by actor legal (next_is n run turn.device s turn.added turn.given does.0 does.1 piece)

  next_at : (actor : List ℕ) (k : ℕ) (b : Bool) → (k == n) ≡ b → IsStep turn.device s (ReadOn k ∷ []) turn.added turn.refused → IsPiece run s k turn.given (told_in turn.added)
      → Goes (step.Next actor) (if b then turn.given else [])
  next_at actor k true e legal piece =
      let same : k ≡ n = eqb-true k n e in
      mine actor (subst (λ j. IsStep turn.device s (ReadOn j ∷ []) turn.added turn.refused) same legal) (subst (λ j. IsPiece run s j turn.given (told_in turn.added)) same piece)
  next_at actor k false e legal piece = beside_line (step.Next actor) (ReadOn k ∷ []) legal ((λ same. no_truth (sym (eq-eqb k n same) ∙ e)), tt)

  next_line : (actor : List ℕ) (o : Option ℕ) → IsStep turn.device s (asks_if_has o (λ reader. ReadOn reader ∷ [])) turn.added turn.refused → IsNextPiece run s turn o
      → Goes (step.Next actor) (given_where n turn.given o)
  next_line actor None legal own = beside_line (step.Next actor) [] legal tt
  next_line actor (Some k) legal own = next_at actor k (k == n) refl legal own

  -- ---- a reader that is closed

  closed_here : (actor : List ℕ) → IsStep turn.device s (StopReading n ∷ []) turn.added turn.refused → Goes (step.Done actor) []
  closed_here actor legal =
      let does = laws.one_group turn.device s (StopReading n) turn.added turn.refused refl legal in
      let c : IsClosed n s Behind = closed_by n s turn.added does.0 does.1 in
      let none : reader_of Behind n ≡ None = laws.reader_is_closed turn.device s (StopReading n ∷ []) turn.added turn.refused n refl legal in
      record {
        t = Behind;
        state = refl;
        geometry = c.geometry;
        quiet = legal.quiet;
        opened = subst (λ k. n < k) (sym c.next_reader) opened;
        goes = λ u found. none_is (sym none ∙ found);
      }

  done_at : (actor : List ℕ) (k : ℕ) (b : Bool) → (k == n) ≡ b → IsStep turn.device s (StopReading k ∷ []) turn.added turn.refused → Goes (step.Done actor) []
  done_at actor k true e legal = closed_here actor (subst (λ j. IsStep turn.device s (StopReading j ∷ []) turn.added turn.refused) (eqb-true k n e) legal)
  done_at actor k false e legal = beside_line (step.Done actor) (StopReading k ∷ []) legal ((λ same. no_truth (sym (eq-eqb k n same) ∙ e)), tt)

  done_line : (actor : List ℕ) (o : Option ℕ) → IsStep turn.device s (asks_if_has o (λ reader. StopReading reader ∷ [])) turn.added turn.refused → Goes (step.Done actor) []
  done_line actor None legal = beside_line (step.Done actor) [] legal tt
  done_line actor (Some k) legal = done_at actor k (k == n) refl legal

  -- ---- each line

  format_line : (name : List ℕ) (o : Option BadGeometry) → run.state ≡ Some s → is_none o ≡ false → LineGoes n s run.streams (after_format run turn name o) []
  format_line name None e keeps = no_truth keeps
  format_line name (Some bad) e keeps = unchanged n s run.streams run e refl quiet opened

  asked_line : (st : Step) → SessionTakes run s turn st → AllOther (OtherThan n) AnyNumber (asked run s st) → Goes st []
  asked_line st takes other = beside_line st (asked run s st) takes.legal other

  -- a cut that was refused
  cut_refused : (choice : CutChoice) → SessionTakes run s turn (step.Cut choice) → LineGoes n s run.streams (after_cut run s turn choice turn.told) []
  cut_refused choice takes = subst (λ told. LineGoes n s run.streams (after_cut run s turn choice told) []) (sym takes.switch) (asked_line (step.Cut choice) takes tt)

  step_line : (st : Step) → run.state ≡ Some s → begins_session st ≡ false → Takes run turn (Some s) st
      → LineGoes n s run.streams (behind run turn (Some s) st) (given_by_step n run turn st) ⊎ ((behind run turn (Some s) st).state ≡ None)
  step_line (step.Format name segments buckets content agg reach fragment generation alternates) e keeps takes =
      inl (format_line name (first_refusal segments buckets content agg reach fragment alternates) e keeps)
  step_line (step.Put key body request response) e keeps takes = inl (asked_line (step.Put key body request response) takes (put_other (OtherThan n) AnyNumber s key body request response tt))
  step_line (step.Get key request) e keeps takes = inl (asked_line (step.Get key request) takes (get_other (OtherThan n) AnyNumber s key request (λ e. omega (arith, opened, e))))
  step_line (step.OpenWrite actor key pin request response) e keeps takes = inl (asked_line (step.OpenWrite actor key pin request response) takes (free_other (OtherThan n) AnyNumber (held_by run actor) _ tt))
  step_line (step.Feed actor body) e keeps takes = inl (asked_line (step.Feed actor body) takes (feeding_other (OtherThan n) AnyNumber run s body (put_written_by run actor) (λ put h. tt)))
  step_line (step.Close actor) e keeps takes = inl (asked_line (step.Close actor) takes (close_other (OtherThan n) AnyNumber run s (put_written_by run actor) (λ put h. tt)))
  step_line (step.Abort actor) e keeps takes = inl (asked_line (step.Abort actor) takes (has_other (OtherThan n) AnyNumber (put_written_by run actor) _ (λ k h. tt)))
  step_line (step.OpenRead actor key request) e keeps takes = inl (asked_line (step.OpenRead actor key request) takes (free_other (OtherThan n) AnyNumber (held_by run actor) _ tt))
  step_line (step.Next actor) e keeps takes = inl (next_line actor (reader_by run actor) takes.legal takes.own)
  step_line (step.Done actor) e keeps takes = inl (done_line actor (reader_by run actor) takes.legal)
  step_line (step.Remove key) e keeps takes = inl (asked_line (step.Remove key) takes (tt, tt))
  step_line step.Flush e keeps takes = inl (asked_line step.Flush takes (tt, tt))
  step_line (step.Now at) e keeps takes = inl (unchanged n s run.streams _ e refl quiet opened)
  step_line (step.Fail nth) e keeps takes = inl (asked_line (step.Fail nth) takes tt)
  step_line (step.StopAfter calls) e keeps takes = inl (asked_line (step.StopAfter calls) takes tt)
  step_line (step.Flip place byte) e keeps takes = inl (asked_line (step.Flip place byte) takes tt)
  step_line (step.Cut choice) e keeps (inl takes) = inl (cut_refused choice takes.0)
  step_line (step.Cut choice) e keeps (inr cut) = inr (ap (λ told. (after_cut run s turn choice told).state) cut.told)

  -- the session goes on, or the line cuts it
  pub line_goes : (l : LineAnswer) → run.state ≡ Some s → KeepsSession l → ReadingTakes run turn l
      → LineGoes n s run.streams (after_reading run turn l) (given_by_line n run turn l) ⊎ ((after_reading run turn l).state ≡ None)
  line_goes (line.Step st) e keeps takes =
      subst (λ (o : Option State). LineGoes n s run.streams (behind run turn o st) (given_by_step n run turn st) ⊎ ((behind run turn o st).state ≡ None)) (sym e)
      (step_line st e keeps (subst (λ (o : Option State). Takes run turn o st) e takes))
  line_goes line.Nothing e keeps takes = inl (unchanged n s run.streams run e refl quiet opened)
  line_goes (line.Bad fault) e keeps takes = absurd takes
