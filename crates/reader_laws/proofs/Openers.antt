-- Behind each legal script the reader that an actor has was opened by a line of the session, of a put that an earlier line
-- opened under the asked key.
use Rattle.std.proofs.Common.{◌≡◌, ℕ, ◌<◌, List, [], ◌∷◌, ◌++◌, refl, sym, ◌∙◌, ap, subst, arith, inl, inr, ◌⊎◌}
use Rattle.std.specs.Prelude.{Option, Some, cond, ◌==◌}
use Rattle.tape_base.specs.declared.actors.Actor.{Actor}
use Rattle.tape_base.specs.declared.keys.Key.{Key}
use Rattle.alternate_vector.specs.Field.{Field}
use Rattle.actor_table.specs.Table.{number_of_name}
use Rattle.cache_model.specs.declared.answer.ReadAnswer.{ReadAnswer}
use Rattle.cache_model.specs.declared.answer.ReadAnswer.TheVariants as read
use Rattle.cache_model.specs.declared.record.Rec.{Rec}
use Rattle.cache_model.specs.declared.record.Rec.TheVariants as rec
use Rattle.cache_model.specs.State.{State, ReaderRow, after_all, reader_of, state_after}
use Rattle.cache_model.specs.Verdict.{lookup_verdict}
use Rattle.cache_model.specs.Permit.{End, Look, Permit}
use Rattle.cache_model.specs.Given
use Rattle.cache_model.specs.Legal
use Rattle.cache_model.specs.Legal.{IsStep}
use Rattle.cache_model.proofs.Found.{none_is, same_some}
use Rattle.step_laws.specs.StepLaws.{OneGroup}
use Rattle.script_grammar.specs.declared.line.LineAnswer.TheVariants as line
use Rattle.script_grammar.specs.declared.step.Step.{Step}
use Rattle.script_grammar.specs.declared.step.Step.TheVariants as step
use Rattle.script_grammar.specs.Grammar.{reading_of}
use Rattle.script_run.specs.Run.{Holding, Run, fresh, reader_by}
use Rattle.script_run.specs.Asked
use Rattle.script_run.specs.Turn.{Turn, lookup_in}
use Rattle.script_run.specs.Answers.{hit_length, if_free, lookup_said, step_answer, step_said}
use Rattle.script_run.specs.Behind.{after_line}
use Rattle.script_run.specs.Laws.{HitIsPut}
use Rattle.script_run.specs.Takes.{IsRun, ReadingTakes, SessionTakes, StepTakes, Takes, run_after}
use Rattle.script_run.proofs.Values.{value_here}
use Rattle.line_laws.specs.Along.{LineOpens, StandsWhere}
use Rattle.line_laws.specs.Laws
use Rattle.line_laws.specs.Laws.{WasPutFor}
use Rattle.line_laws.specs.Given.{given_to}
use Rattle.line_laws.specs.Actors as Opened
use Rattle.line_laws.specs.Actors.{IsOpenedBy, IsSaidToOpen, given_by_name}
use Rattle.reader_laws.proofs.Actors.{AreApart, Has, IsKnown, Makes, all_given, apart_after, fresh_apart, known_on, known_opened, line_before, reader_held, reading_apart, run_extends}
use Rattle.line_laws.proofs.Fronts.{own_begun}
use Rattle.reader_laws.proofs.Hits.{follow_is_asked, hit_is_asked}
use Rattle.reader_laws.proofs.Names.{same_number}
use Rattle.line_laws.proofs.Since.{AnyTurn, MadeAlong, made_along}
use Rattle.line_laws.proofs.Standing.{Keeps, KeepsIn, OfKept, keeps_after, reading_keeps}

-- ---- what a lookup was answered that opened a reader

-- it hit the reader's put, or follows it
abbrev IsOf : List Rec → ReaderRow → Type 0
IsOf added r = (lookup_in added ≡ Some (read.Hit r.put)) ⊎ (lookup_in added ≡ Some (read.Follow r.put))

front : (row r : ReaderRow) (rest : Option ReaderRow) (n : ℕ) → row.reader ≡ n → cond (row.reader == n) (Some row) rest ≡ Some r → row.put ≡ r.put
front row r rest n same h = ap (λ (x : ReaderRow). x.put) (same_some row r (Some row) refl (sym (value_here (Some row) rest row.reader n same) ∙ h))

module _ (s : State) (none : (r : ReaderRow) → reader_of s s.next_reader ≡ Some r → ⊥) (who : Actor) (key : Key) (request : List Field) where
  opened_of : (answer : ReadAnswer) (r : ReaderRow) → reader_of (state_after s (rec.ReadOpened s.next_reader who key request answer)) s.next_reader ≡ Some r
      → (answer ≡ read.Hit r.put) ⊎ (answer ≡ read.Follow r.put)
  opened_of (read.Hit put) r found = inl (ap read.Hit (front _ r (reader_of s s.next_reader) s.next_reader refl found))
  opened_of (read.Follow put) r found = inr (ap read.Follow (front _ r (reader_of s s.next_reader) s.next_reader refl found))
  opened_of (read.Miss why) r found = absurd (none r found)

  looked_of : (p : Permit) (before : List Rec) (answer : ReadAnswer) (r : ReaderRow) → Legal.IsLookup p s key request before answer
      → reader_of (after_all s (before ++ rec.ReadOpened s.next_reader who key request answer ∷ [])) s.next_reader ≡ Some r
      → IsOf (before ++ rec.ReadOpened s.next_reader who key request answer ∷ []) r
  looked_of p before answer r (Legal.IsLookup.verdict x) found = elim (opened_of (lookup_verdict s key request) r found) [
    | inl hit ↦ inl (ap Some hit)
    | inr follow ↦ inr (ap Some follow)
  ]
  looked_of p before answer r (Legal.IsLookup.trouble row b why live (Given.Trouble.faulted count w m)) found = absurd (none r found)
  looked_of p before answer r (Legal.IsLookup.trouble row b why live (Given.Trouble.damaged other d)) found = absurd (none r found)

look_of : (p : Permit) (s : State) (actor : ℕ) (key : Key) (request : List Field) (added : List Rec) (e : End) (r : ReaderRow)
    → ((x : ReaderRow) → reader_of s s.next_reader ≡ Some x → ⊥)
    → Legal.DoesLook p s actor key request added e → reader_of (after_all s added) s.next_reader ≡ Some r → IsOf added r
look_of p s actor key request added e r none (Legal.DoesLook.looks m) found =
    subst (λ recs. IsOf recs r) (sym m.is)
    (looked_of s none m.who key request p m.before m.answer r m.right (subst (λ recs. reader_of (after_all s recs) s.next_reader ≡ Some r) m.is found))

-- ---- the line that opened it

module _ (laws : OfKept) (one : OneGroup) (hits : HitIsPut) (k n : ℕ) where
  module _ (lines : List (List ℕ)) (turns : List Turn) (turn : Turn) (bytes : List ℕ) (legal : IsRun fresh lines turns) (m : Makes k n (run_after fresh lines turns) turn (reading_of bytes)) (takes : ReadingTakes (run_after fresh lines turns) turn (reading_of bytes)) where
    abbrev Before : Run
    Before = run_after fresh lines turns

    abbrev Asks : Step
    Asks = step.OpenRead m.name m.opens.key m.opens.request

    reading : reading_of bytes ≡ line.Step Asks
    reading = m.is ∙ ap line.Step m.opens.asks

    step_takes : StepTakes Before turn Asks
    step_takes = subst (ReadingTakes Before turn) reading takes

    session : SessionTakes Before m.s turn Asks
    session = subst (λ (o : Option State). Takes Before turn o Asks) m.state step_takes

    abbrev opens : LineOpens Before m.s turn bytes m.opens.r
    opens = record { actor = m.name; key = m.opens.key; request = m.opens.request; state = m.state; reading = reading; takes = takes; found = m.opens.found }

    keeps : Keeps Before m.s
    keeps = subst (StandsWhere Keeps Before) m.state (keeps_after laws lines turns fresh legal tt)

    none_yet : (r : ReaderRow) → reader_of m.s m.s.next_reader ≡ Some r → ⊥
    none_yet r found = let below : m.s.next_reader < m.s.next_reader = own_begun m.s Before.streams m.s.next_reader r keeps.kept found in omega (arith, below)

    looks : IsStep turn.device m.s (Look (number_of_name Before.actors m.name) m.opens.key m.opens.request ∷ []) turn.added turn.refused
    looks = subst (λ (o : Option Holding). IsStep turn.device m.s (Asked.asks_if_free o (Look (number_of_name Before.actors m.name) m.opens.key m.opens.request ∷ [])) turn.added turn.refused) m.opens.free session.legal

    is_of : IsOf turn.added m.opens.r
    is_of =
        let does = one turn.device m.s (Look (number_of_name Before.actors m.name) m.opens.key m.opens.request) turn.added turn.refused refl looks in
        look_of turn.device m.s (number_of_name Before.actors m.name) m.opens.key m.opens.request turn.added does.0 m.opens.r none_yet does.1 m.opens.found

    said : (look : ReadAnswer) → lookup_in turn.added ≡ Some look → step_answer Before turn Asks ≡ lookup_said (after_all m.s turn.added) m.s.next_reader (Some look)
    said look e =
        ap (λ (o : Option State). step_said Before turn o Asks) m.state
        ∙ (ap (λ (o : Option Holding). if_free o (lookup_said (after_all m.s turn.added) m.s.next_reader (lookup_in turn.added))) m.opens.free
        ∙ ap (lookup_said (after_all m.s turn.added) m.s.next_reader) e)

    told : IsSaidToOpen Before turn m.name m.opens.key m.opens.request m.opens.r.put
    told = elim is_of [
      | inl hit ↦ Opened.IsSaidToOpen.hits (hit_length (after_all m.s turn.added) m.s.next_reader) (said (read.Hit m.opens.r.put) hit)
      | inr follow ↦ Opened.IsSaidToOpen.follows (said (read.Follow m.opens.r.put) follow)
    ]

    put_for : WasPutFor lines turns m.opens.key m.opens.request m.opens.r.put
    put_for = elim is_of [
      | inl hit ↦ hit_is_asked laws hits lines turns turn Asks m.opens.key m.opens.request m.opens.r.put (hit_length (after_all m.s turn.added) m.s.next_reader) legal step_takes
          (Laws.AnswersHit.opens m.name (said (read.Hit m.opens.r.put) hit))
      | inr follow ↦ follow_is_asked lines turns turn Asks m.opens.key m.opens.request m.opens.r.put legal step_takes
          (Laws.AnswersFollow.opens m.name (said (read.Follow m.opens.r.put) follow))
    ]

module _ (laws : OfKept) (one : OneGroup) (hits : HitIsPut) (lines : List (List ℕ)) (turns : List Turn) (name : List ℕ) (reader : ℕ) (legal : IsRun fresh lines turns) (by : reader_by (run_after fresh lines turns) name ≡ Some reader) where
  abbrev Last : Run
  Last = run_after fresh lines turns

  abbrev Number : ℕ
  Number = number_of_name Last.actors name

  by_made : MadeAlong (Has Number reader) AnyTurn (Makes Number reader) fresh lines turns → IsOpenedBy lines turns name reader
  by_made m =
      let before : Run = run_after fresh m.before m.earlier in
      let opened : Run = after_line before m.turn m.bytes in
      let known : IsKnown opened m.made.name Number = known_opened Number reader before m.turn (reading_of m.bytes) m.made in
      let last : IsKnown (run_after opened m.later m.rest) m.made.name Number = known_on opened (run_after opened m.later m.rest) m.made.name Number (run_extends m.later m.rest opened m.goes) known in
      let known_last : IsKnown Last m.made.name Number = subst (λ (run : Run). IsKnown run m.made.name Number) (sym m.ends) last in
      let same : m.made.name ≡ name = same_number Last.actors m.made.name name known_last.number known_last.known in
      let keeps : KeepsIn before = keeps_after laws m.before m.earlier fresh m.legal tt in
      let keeps_opened : KeepsIn opened = reading_keeps laws before m.turn (reading_of m.bytes) m.takes keeps in
      let apart : AreApart opened = reading_apart laws before m.turn (reading_of m.bytes) m.takes keeps_opened (apart_after laws m.before m.earlier fresh m.legal tt fresh_apart) in
      let given = all_given laws m.made.name Number reader m.later m.rest opened m.goes keeps_opened apart known m.since in
      record {
        before = m.before;
        earlier = m.earlier;
        bytes = m.bytes;
        turn = m.turn;
        later = m.later;
        rest = m.rest;
        lines_are = m.lines_are;
        turns_are = m.turns_are;
        legal = m.legal;
        s = m.made.s;
        r = m.made.opens.r;
        opens = opens laws one hits Number reader m.before m.earlier m.turn m.bytes m.legal m.made m.takes;
        actor_is = same;
        number = m.made.opens.number;
        same_session = m.same_session.1;
        goes = m.goes;
        ends = m.ends;
        said = told laws one hits Number reader m.before m.earlier m.turn m.bytes m.legal m.made m.takes;
        put_for = put_for laws one hits Number reader m.before m.earlier m.turn m.bytes m.legal m.made m.takes;
        given = subst (λ (x : List ℕ). given_to reader opened m.later m.rest ≡ given_by_name x m.later m.rest) same given;
      }

  pub reader_is_opened : IsOpenedBy lines turns name reader
  reader_is_opened = elim (made_along (Has Number reader) AnyTurn (Makes Number reader) (line_before Number reader) lines turns fresh legal (reader_held (Last.held Number) reader by)) [
    | inl old ↦ none_is old.0
    | inr made ↦ by_made made
  ]
