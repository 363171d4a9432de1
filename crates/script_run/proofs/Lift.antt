-- What holds of a run before its lines and is kept by each kind of step (`StepGoes`) holds behind them.
use Rattle.std.proofs.Common.{◌≡◌, ℕ, List, [], ◌∷◌, refl, sym, subst, false, true, inl, inr}
use Rattle.std.specs.Prelude.{Option, Some, None, is_none}
use Rattle.tape_base.specs.declared.geometries.BadGeometry.{BadGeometry}
use Rattle.tape_base.specs.declared.geometries.Geometry.{Geometry}
use Rattle.tape_base.specs.Limits.{first_refusal}
use Rattle.device_log.specs.declared.choice.CutChoice.{CutChoice}
use Rattle.device_log.specs.Calls.{Call}
use Rattle.cache_model.specs.Permit.{Faulted, Reason}
use Rattle.cache_model.specs.State.{State, after_all, nothing_yet}
use Rattle.cache_model.specs.Legal.{format_records}
use Rattle.script_grammar.specs.declared.answer.StepAnswer.{StepAnswer}
use Rattle.script_grammar.specs.declared.answer.StepAnswer.TheVariants as answer
use Rattle.script_grammar.specs.declared.line.LineAnswer.{LineAnswer}
use Rattle.script_grammar.specs.declared.line.LineAnswer.TheVariants as line
use Rattle.script_grammar.specs.declared.step.Step.{Step}
use Rattle.script_grammar.specs.declared.step.Step.TheVariants as step
use Rattle.script_grammar.specs.Grammar.{reading_of}
use Rattle.script_run.specs.Run.{Run}
use Rattle.script_run.specs.Turn.{Turn}
use Rattle.script_run.specs.Answers.{bare_said, format_said, step_answer, step_said, switch_said, tried_said}
use Rattle.script_run.specs.Behind.{after_cut, after_format, after_line, after_reading, after_step, at_moment, behind, cut_off, in_session, tried_format, with_calls_of, with_format, without_session}
use Rattle.stripe_copies.specs.Format.{format_calls}
use Rattle.script_run.specs.Takes.{BareTakes, CutTakes, FormatTakes, FormatsOn, IsRun, ReadingTakes, SessionTakes, StepTakes, StopsFormat, Takes, run_after}
use Rattle.script_run.proofs.Formats.{stopped_refused}
use Rattle.script_run.specs.Switch.{CutsPower, OnlyTells}
use Rattle.script_run.specs.Goes.{StepGoes, begins, begins_session, cuts_off, fails, stays, tells_bare, waits, works}

-- ---- each step is of one kind

tried_goes : (run : Run) (turn : Turn) (asks : Step) (name : List ℕ) (g : Geometry) (o : Option Reason) → begins_session asks ≡ true → FormatsOn turn g o
    → StepGoes run turn asks (tried_said turn.added o) (tried_format run turn name o)
tried_goes run turn asks name g None same takes = begins name g same takes.0
tried_goes run turn asks name g (Some (Faulted count)) same takes =
    let stops : StopsFormat g count turn.device.events = takes.2 in
    fails name count same takes.0 (stopped_refused (format_calls g stops.0) count [] turn.device.events stops.2, takes.1)
tried_goes run turn asks name g (Some _) same takes = absurd takes

format_goes : (run : Run) (turn : Turn) (asks : Step) (name : List ℕ) (segments buckets content agg reach fragment generation alternates : ℕ) (bad : Option BadGeometry)
    → begins_session asks ≡ is_none bad → FormatTakes turn segments buckets content agg reach fragment generation alternates bad
    → StepGoes run turn asks (format_said turn bad) (after_format run turn name bad)
format_goes run turn asks name segments buckets content agg reach fragment generation alternates (Some bad) same takes = stays bad same takes.0
format_goes run turn asks name segments buckets content agg reach fragment generation alternates None same takes =
    tried_goes run turn asks name takes.0 turn.refused same takes.2

cut_goes : (run : Run) (turn : Turn) (choice : CutChoice) (s : State) → run.state ≡ Some s → CutTakes run s turn choice
    → StepGoes run turn (step.Cut choice) (switch_said turn.told answer.Cut) (after_cut run s turn choice turn.told)
cut_goes run turn choice s e (inl takes) =
    subst (λ told. StepGoes run turn (step.Cut choice) (switch_said turn.told answer.Cut) (after_cut run s turn choice told)) (sym takes.1.told)
    (works s refl e takes.0)
cut_goes run turn choice s e (inr cut) =
    subst (λ told. StepGoes run turn (step.Cut choice) (switch_said told answer.Cut) (after_cut run s turn choice told)) (sym cut.told)
    (cuts_off choice s e cut)

pub only_tells : (turn : Turn) (t : State) (asks : Step) → BareTakes turn (Some t) asks → OnlyTells turn
only_tells turn t (step.Fail nth) takes = takes.0
only_tells turn t (step.StopAfter calls) takes = takes.0
only_tells turn t (step.Cut choice) (inl cut) = cut.only
only_tells turn t (step.Cut choice) (inr none) = none.only
only_tells turn t _ takes = absurd takes

-- a line that a bare device takes begins no session
begins_none : (turn : Turn) (t : State) (asks : Step) → BareTakes turn (Some t) asks → begins_session asks ≡ false
begins_none turn t (step.Format name segments buckets content agg reach fragment generation alternates) takes = absurd takes
begins_none turn t _ takes = refl

pub no_bare : {X : Type 0} (turn : Turn) (asks : Step) → BareTakes turn None asks → X
no_bare turn (step.Fail nth) takes = absurd takes
no_bare turn (step.StopAfter calls) takes = absurd takes
no_bare turn (step.Cut choice) takes = absurd takes
no_bare turn _ takes = absurd takes

bare_goes : (run : Run) (turn : Turn) (asks : Step) (o : Option State) → run.state ≡ None → run.last ≡ o → BareTakes turn o asks
    → StepGoes run turn asks (bare_said turn asks) (with_calls_of run turn)
bare_goes run turn asks None e last takes = no_bare turn asks takes
bare_goes run turn asks (Some t) e last takes = tells_bare t (begins_none turn t asks takes) e last takes (only_tells turn t asks takes)

goes_by : (run : Run) (turn : Turn) (o : Option State) (asks : Step) → run.state ≡ o → Takes run turn o asks → StepGoes run turn asks (step_said run turn o asks) (behind run turn o asks)
goes_by run turn o (step.Format name segments buckets content agg reach fragment generation alternates) e takes =
    format_goes run turn _ name segments buckets content agg reach fragment generation alternates (first_refusal segments buckets content agg reach fragment alternates) refl takes
goes_by run turn o (step.Now at) e takes = waits at refl takes
goes_by run turn (Some s) (step.Cut choice) e takes = cut_goes run turn choice s e takes
goes_by run turn (Some s) _ e takes = works s refl e takes
goes_by run turn None asks e takes = bare_goes run turn asks run.last e refl takes

pub goes : (run : Run) (turn : Turn) (asks : Step) → StepTakes run turn asks → StepGoes run turn asks (step_answer run turn asks) (after_step run turn asks)
goes run turn asks takes = goes_by run turn run.state asks refl takes

-- ---- what holds of a run

-- the moment keeps it, and so does a step of the session, the format of another one, one whose device refused a call, a cut,
-- and what a bare device is told
pub record EachKeeps (Has : Run → Type 0) : Type 0 where
  pub moments : (run : Run) (at : ℕ) → Has run → Has (at_moment run at)
  pub steps : (run : Run) (s : State) (turn : Turn) (asks : Step) → run.state ≡ Some s → SessionTakes run s turn asks → Has run → Has (in_session run s (after_all s turn.added) turn asks)
  pub formats : (run : Run) (name : List ℕ) (calls : List Call) (g : Geometry) → Has run → Has (with_format run name calls (format_records g))
  pub fails : (run : Run) (name : List ℕ) (calls : List Call) (count : ℕ) → Has run → Has (without_session run name calls count)
  pub ends : (run : Run) (s : State) (turn : Turn) (choice : CutChoice) → run.state ≡ Some s → CutsPower choice turn → Has run → Has (cut_off run s turn)
  pub tells : (run : Run) (turn : Turn) → run.state ≡ None → OnlyTells turn → Has run → Has (with_calls_of run turn)

module _ (Has : Run → Type 0) (kept : EachKeeps Has) where
  step_keeps : (run : Run) (turn : Turn) {asks : Step} {said : StepAnswer} {after : Run} → StepGoes run turn asks said after → Has run → Has after
  step_keeps run turn (stays bad same none) h = h
  step_keeps run turn (waits at same none) h = kept.moments run at h
  step_keeps run turn {asks = asks} (works s same e takes) h = kept.steps run s turn asks e takes h
  step_keeps run turn (begins name g same is) h = subst (λ recs. Has (with_format run name turn.device.events recs)) (sym is) (kept.formats run name turn.device.events g h)
  step_keeps run turn (fails name count same is refuses) h = kept.fails run name turn.device.events count h
  step_keeps run turn (cuts_off choice s e cut) h = kept.ends run s turn choice e cut h
  step_keeps run turn (tells_bare t same e last takes only) h = kept.tells run turn e only h

  pub line_keeps : (run : Run) (turn : Turn) (l : LineAnswer) → ReadingTakes run turn l → Has run → Has (after_reading run turn l)
  line_keeps run turn (line.Step asks) takes h = step_keeps run turn (goes run turn asks takes) h
  line_keeps run turn line.Nothing takes h = h
  line_keeps run turn (line.Bad fault) takes h = absurd takes

  pub lines_keep : (lines : List (List ℕ)) (turns : List Turn) (run : Run) → IsRun run lines turns → Has run → Has (run_after run lines turns)
  lines_keep [] turns run is h = h
  lines_keep (bytes ∷ lines) [] run is h = absurd is
  lines_keep (bytes ∷ lines) (turn ∷ turns) run is h = lines_keep lines turns (after_line run turn bytes) is.1 (line_keeps run turn (reading_of bytes) is.0 h)

-- ---- what holds of the state, where there is a session

module _ (Has : Option State → Type 0)
    (steps : (run : Run) (s : State) (turn : Turn) (asks : Step) → SessionTakes run s turn asks → Has (Some s) → Has (Some (after_all s turn.added)))
    (formats : (g : Geometry) → Has (Some (after_all nothing_yet (format_records g)))) (none : Has None) where
  pub states_keep : (lines : List (List ℕ)) (turns : List Turn) (run : Run) → IsRun run lines turns → Has run.state → Has (run_after run lines turns).state
  states_keep = lines_keep (λ run. Has run.state) (record {
    moments = λ run at h. h;
    steps = λ run s turn asks e takes h. steps run s turn asks takes (subst Has e h);
    formats = λ run name calls g h. formats g;
    fails = λ run name calls count h. none;
    ends = λ run s turn choice e cut h. none;
    tells = λ run turn e only h. h;
  })
