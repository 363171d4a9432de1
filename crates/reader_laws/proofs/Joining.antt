-- All that a reader is given from the line that opened it on.
use Rattle.std.proofs.Common.{◌≡◌, ℕ, ◌-◌, ◌*◌, List, drop, take, sym, ◌∙◌, ap, subst, arith}
use Rattle.std.specs.Prelude.{Option, Some, is_some}
use Rattle.tape_base.specs.declared.geometries.Geometry.{Geometry}
use Rattle.cache_model.specs.State.{State, ReaderRow, after_all, reader_of}
use Rattle.step_laws.specs.StepLaws.{NothingAsked}
use Rattle.cache_model.proofs.Found.{same_some}
use Rattle.script_grammar.specs.declared.answer.StepAnswer.TheVariants as answer
use Rattle.script_grammar.specs.declared.step.Step.{Step}
use Rattle.script_grammar.specs.declared.step.Step.TheVariants as step
use Rattle.script_grammar.specs.declared.line.LineAnswer.{LineAnswer}
use Rattle.script_grammar.specs.declared.line.LineAnswer.TheVariants as line
use Rattle.script_grammar.specs.Grammar.{reading_of}
use Rattle.script_run.specs.Run.{Run, fresh, reader_by}
use Rattle.script_run.specs.Turn.{Turn}
use Rattle.script_run.specs.Answers.{step_answer}
use Rattle.script_run.specs.Behind.{after_line, after_reading, behind}
use Rattle.script_run.specs.Takes.{IsRun, ReadingTakes, SessionTakes, StepTakes, Takes, run_after}
use Rattle.line_laws.specs.Along.{AreOfSession, IsOfScript, IsOpenAt, KeptAlong, LineOpens, StandsWhere}
use Rattle.line_laws.specs.Given.{given_to}
use Rattle.line_laws.specs.Laws.{HasGiven, HasGivenAll}
use Rattle.line_laws.proofs.Fronts.{own_begun}
use Rattle.line_laws.proofs.Lines.{OfSteps}
use Rattle.line_laws.proofs.Running.{RunGoes, fragments_given, run_goes}
use Rattle.reader_laws.proofs.Ending.{end_is_all}
use Rattle.reader_laws.proofs.Opening.{opens_first}
use Rattle.line_laws.proofs.Standing.{Keeps, KeepsIn, OfKept, kept_along, keeps_after, reading_keeps}

pub record OfReaders : Type 0 where
  pub steps : OfSteps
  pub lines : OfKept
  pub nothing_asked : NothingAsked

module _ (laws : OfReaders) (run : Run) (s : State) (turn : Turn) (bytes : List ℕ) (r : ReaderRow) (legal : IsOfScript run) (opens : LineOpens run s turn bytes r) where
  abbrev Opened : Run
  Opened = after_line run turn bytes

  abbrev Begins : State
  Begins = after_all s turn.added

  abbrev Asks : Step
  Asks = step.OpenRead opens.actor opens.key opens.request

  takes : SessionTakes run s turn Asks
  takes =
      let asked : ReadingTakes run turn (line.Step Asks) = subst (ReadingTakes run turn) opens.reading opens.takes in
      subst (λ (o : Option State). Takes run turn o Asks) opens.state asked

  state : Opened.state ≡ Some Begins
  state =
      ap (λ (l : LineAnswer). (after_reading run turn l).state) opens.reading
      ∙ ap (λ (o : Option State). (behind run turn o Asks).state) opens.state

  keeps_before : KeepsIn run
  keeps_before = subst KeepsIn (sym legal.is) (keeps_after laws.lines legal.lines legal.turns fresh legal.legal tt)

  keeps : Keeps run s
  keeps = subst (StandsWhere Keeps run) opens.state keeps_before

  keeps_opened : KeepsIn Opened
  keeps_opened = reading_keeps laws.lines run turn (reading_of bytes) opens.takes keeps_before

  keeps_now : Keeps Opened Begins
  keeps_now = subst (StandsWhere Keeps Opened) state keeps_opened

  first : IsOpenAt Begins s.next_reader r × (r.next ≡ 1)
  first = opens_first laws.steps.one_group laws.nothing_asked run s turn opens.actor opens.key opens.request r keeps.kept takes opens.found

  from_first : (fragment : ℕ) → (r.next - 1) * fragment ≡ 0
  from_first fragment = let none : r.next - 1 ≡ 0 = omega (arith, first.1) in ap (λ k. k * fragment) none ∙ omega arith

  pub first_given : (t : State) (lines : List (List ℕ)) (turns : List Turn) (u : ReaderRow) → IsRun Opened lines turns → AreOfSession lines
      → (run_after Opened lines turns).state ≡ Some t → reader_of t s.next_reader ≡ Some u
      → given_to s.next_reader Opened lines turns ≡ take ((u.next - 1) * t.geometry.fragment) ((run_after Opened lines turns).streams r.put).bytes
  first_given t lines turns u goes same_session last found =
      let along : KeptAlong Opened lines turns = kept_along laws.lines lines turns Opened goes same_session keeps_opened in
      let h : HasGiven Begins.geometry.fragment ((run_after Opened lines turns).streams r.put).bytes (given_to s.next_reader Opened lines turns) r u =
      fragments_given laws.steps Opened lines turns Begins t s.next_reader r u goes along state keeps_now.quiet first.0 last found in
      let all : RunGoes s.next_reader Begins Opened.streams (run_after Opened lines turns) (given_to s.next_reader Opened lines turns) =
      run_goes laws.steps s.next_reader lines turns Opened Begins state goes along keeps_now.quiet (own_begun Begins Opened.streams s.next_reader r keeps_now.kept opens.found) (ap is_some last) in
      let same : all.t ≡ t = same_some all.t t (run_after Opened lines turns).state all.state last in
      let fragment : Begins.geometry.fragment ≡ t.geometry.fragment = ap (λ (g : Geometry). g.fragment) (sym all.geometry ∙ ap (λ (x : State). x.geometry) same) in
      let body : List ℕ = ((run_after Opened lines turns).streams r.put).bytes in
      h.is
      ∙ (ap (λ k. drop k (take ((u.next - 1) * Begins.geometry.fragment) body)) (from_first Begins.geometry.fragment)
      ∙ ap (λ f. take ((u.next - 1) * f) body) fragment)

  pub all_given : (lines : List (List ℕ)) (turns : List Turn) (actor : List ℕ) (last : Turn) (size : ℕ) → IsRun Opened lines turns → AreOfSession lines
      → reader_by (run_after Opened lines turns) actor ≡ Some s.next_reader → StepTakes (run_after Opened lines turns) last (step.Next actor)
      → step_answer (run_after Opened lines turns) last (step.Next actor) ≡ answer.End size
      → HasGivenAll 0 ((run_after Opened lines turns).streams r.put).bytes (given_to s.next_reader Opened lines turns) size
  all_given lines turns actor last size goes same_session by asked said =
      let along : KeptAlong Opened lines turns = kept_along laws.lines lines turns Opened goes same_session keeps_opened in
      subst (λ from. HasGivenAll from ((run_after Opened lines turns).streams r.put).bytes (given_to s.next_reader Opened lines turns) size) (from_first Begins.geometry.fragment)
      (end_is_all laws.steps Opened lines turns Begins s.next_reader r actor last size goes along state keeps_now.quiet first.0 by asked said)
