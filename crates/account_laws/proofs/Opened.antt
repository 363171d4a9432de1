-- The reader that an actor has reads the put with which a line opened it, and was given no more than is cut.
use Rattle.std.proofs.Common.{◌≡◌, ℕ, List, [], ◌∷◌, ◌++◌, refl, sym, ◌∙◌, ap, subst}
use Rattle.std.specs.Prelude.{Option, Some, is_some}
use Rattle.cache_model.specs.State.{State, ReaderRow, after_all, reader_of}
use Rattle.cache_model.specs.Legal.{IsQuiet}
use Rattle.cache_model.proofs.Found.{same_some}
use Rattle.script_grammar.specs.declared.line.LineAnswer.{LineAnswer}
use Rattle.script_grammar.specs.declared.line.LineAnswer.TheVariants as line
use Rattle.script_grammar.specs.declared.step.Step.{Step}
use Rattle.script_grammar.specs.declared.step.Step.TheVariants as step
use Rattle.script_run.specs.Run.{Run, fresh}
use Rattle.script_run.specs.Turn.{Turn}
use Rattle.script_run.specs.Behind.{after_line, after_reading, behind}
use Rattle.script_run.specs.Takes.{IsRun, LineTakes, ReadingTakes, SessionTakes, Takes, run_after}
use Rattle.line_laws.specs.Along.{IsOpenAt, KeptAlong, QuietWhere, StandsKept, StandsWhere}
use Rattle.line_laws.specs.Actors.{IsOpenedBy, ReaderIsOpened}
use Rattle.line_laws.specs.Given.{given_to}
use Rattle.line_laws.specs.Laws.{LegalIsKept, OpensFirst}
use Rattle.line_laws.proofs.Fronts.{reader_begun}
use Rattle.line_laws.proofs.Lines.{OfSteps}
use Rattle.line_laws.proofs.Running.{RunGoes, run_goes}

-- what a legal script leaves is kept, and no vector is pending in it
pub kept_here : (law : LegalIsKept) (lines : List (List ℕ)) (turns : List Turn) (s : State) → IsRun fresh lines turns → (run_after fresh lines turns).state ≡ Some s
    → StandsKept (run_after fresh lines turns) s × IsQuiet s
kept_here law lines turns s legal state =
    let k = law lines [] turns [] legal tt tt in
    (subst (StandsWhere StandsKept (run_after fresh lines turns)) state k.0, subst QuietWhere state k.1)

-- a line behind others
record OneMore (run : Run) (lines : List (List ℕ)) (turns : List Turn) (bytes : List ℕ) (turn : Turn) : Type 0 where
  legal : IsRun run (lines ++ bytes ∷ []) (turns ++ turn ∷ [])
  ends : run_after run (lines ++ bytes ∷ []) (turns ++ turn ∷ []) ≡ after_line (run_after run lines turns) turn bytes

one_more : (run : Run) (lines : List (List ℕ)) (turns : List Turn) (bytes : List ℕ) (turn : Turn) → IsRun run lines turns → LineTakes (run_after run lines turns) turn bytes → OneMore run lines turns bytes turn
one_more run [] [] bytes turn is takes = record { legal = (takes, tt); ends = refl }
one_more run [] (x ∷ turns) bytes turn is takes = absurd is
one_more run (b ∷ lines) [] bytes turn is takes = absurd is
one_more run (b ∷ lines) (x ∷ turns) bytes turn is takes =
    let more : OneMore (after_line run x b) lines turns bytes turn = one_more (after_line run x b) lines turns bytes turn is.1 takes in
    record { legal = (is.0, more.legal); ends = more.ends }

-- what holds of readers
pub record OfReaders : Type 0 where
  pub opened : ReaderIsOpened
  pub first : OpensFirst
  pub kept : LegalIsKept
  pub steps : OfSteps

-- the reader is open, and reads this put
pub record StaysOpen (s : State) (number put : ℕ) (u : ReaderRow) : Type 0 where
  pub is_open : IsOpenAt s number u
  pub put_is : u.put ≡ put

module _ (laws : OfReaders) (lines : List (List ℕ)) (turns : List Turn) (name : List ℕ) (number : ℕ) (o : IsOpenedBy lines turns name number) where
  abbrev Before : Run
  Before = run_after fresh o.before o.earlier

  abbrev Begins : State
  Begins = after_all o.s o.turn.added

  abbrev Opened : Run
  Opened = after_line Before o.turn o.bytes

  abbrev Asks : Step
  Asks = step.OpenRead o.opens.actor o.opens.key o.opens.request

  takes : SessionTakes Before o.s o.turn Asks
  takes =
      let asked : ReadingTakes Before o.turn (line.Step Asks) = subst (ReadingTakes Before o.turn) o.opens.reading o.opens.takes in
      subst (λ (x : Option State). Takes Before o.turn x Asks) o.opens.state asked

  state_opened : Opened.state ≡ Some Begins
  state_opened = ap (λ (x : LineAnswer). (after_reading Before o.turn x).state) o.opens.reading ∙ ap (λ (x : Option State). (behind Before o.turn x Asks).state) o.opens.state

  first_open : IsOpenAt Begins o.s.next_reader o.r
  first_open = (laws.first Before o.s o.turn o.opens.actor o.opens.key o.opens.request o.r (kept_here laws.kept o.before o.earlier o.s o.legal o.opens.state).0.kept takes o.opens.found).0

  along : KeptAlong Opened o.later o.rest × QuietWhere Opened.state
  along =
      let more : OneMore fresh o.before o.earlier o.bytes o.turn = one_more fresh o.before o.earlier o.bytes o.turn o.legal o.opens.takes in
      subst (λ (run : Run). IsRun run o.later o.rest → KeptAlong run o.later o.rest × QuietWhere run.state) more.ends
      (λ goes. laws.kept (o.before ++ o.bytes ∷ []) o.later (o.earlier ++ o.turn ∷ []) o.rest more.legal goes o.same_session) o.goes

  stands : StandsKept Opened Begins × IsQuiet Begins
  stands =
      let more : OneMore fresh o.before o.earlier o.bytes o.turn = one_more fresh o.before o.earlier o.bytes o.turn o.legal o.opens.takes in
      let state : (run_after fresh (o.before ++ o.bytes ∷ []) (o.earlier ++ o.turn ∷ [])).state ≡ Some Begins = ap (λ (run : Run). run.state) more.ends ∙ state_opened in
      subst (λ (run : Run). StandsKept run Begins × IsQuiet Begins) more.ends (kept_here laws.kept (o.before ++ o.bytes ∷ []) (o.earlier ++ o.turn ∷ []) Begins more.legal state)

  pub stays_open : (s : State) (u : ReaderRow) → (run_after fresh lines turns).state ≡ Some s → reader_of s number ≡ Some u → StaysOpen s number o.r.put u
  stays_open s u state found =
      let n : ℕ = o.s.next_reader in
      let after : Run = run_after Opened o.later o.rest in
      let last : after.state ≡ Some s = subst (λ (run : Run). run.state ≡ Some s) o.ends state in
      let all : RunGoes n Begins Opened.streams after (given_to n Opened o.later o.rest) =
      run_goes laws.steps n o.later o.rest Opened Begins state_opened o.goes along.0 stands.1 (reader_begun Opened Begins n o.r stands.0 o.opens.found) (ap is_some last) in
      let same : all.t ≡ s = same_some all.t s after.state all.state last in
      let there : reader_of all.t n ≡ Some u = subst (λ k. reader_of all.t k ≡ Some u) (sym o.number) (subst (λ (x : State). reader_of x number ≡ Some u) (sym same) found) in
      let g = all.goes u there in
      let first : g.r ≡ o.r = same_some g.r o.r (reader_of Begins n) g.found first_open.found in
      record {
        is_open = subst (λ (x : State). IsOpenAt x number u) same (subst (λ k. IsOpenAt all.t k u) o.number (g.opens (subst (IsOpenAt Begins n) (sym first) first_open)));
        put_is = g.put ∙ ap (λ (x : ReaderRow). x.put) first;
      }
