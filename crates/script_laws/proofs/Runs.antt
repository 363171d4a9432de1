-- What holds of every line of a script, by what holds of what was told of the devices in the end.
use Rattle.std.proofs.Common.{◌≡◌, ℕ, ◌<◌, List, [], ◌∷◌, ◌++◌, Bool, true, false, refl, sym, ◌∙◌, subst, arith}
use Rattle.std.specs.Prelude.{All, Option, Some, None, option_map, suc, unwrap_or, zero}
use Rattle.std.proofs.lemmas.Bool.{false_from_ne_true}
use Rattle.std.proofs.lemmas.List.Elements.{All-append, All-cons, All-head, All-nil, All-tail}
use Rattle.tape_base.specs.declared.geometries.BadGeometry.{BadGeometry}
use Rattle.tape_base.specs.declared.geometries.Geometry.{Geometry}
use Rattle.cache_model.specs.declared.cause.Cause.{Cause}
use Rattle.cache_model.specs.declared.record.Rec.{Rec}
use Rattle.cache_model.specs.State.{State, after_all, nothing_yet}
use Rattle.cache_model.specs.Legal.{format_records}
use Rattle.cache_model.proofs.Found.{no_truth}
use Rattle.cache_model.specs.Damage.{has_damage, is_damage}
use Rattle.script_grammar.specs.declared.step.Step.{Step}
use Rattle.script_grammar.specs.declared.step.Step.TheVariants as step
use Rattle.script_grammar.specs.declared.line.LineAnswer.{LineAnswer}
use Rattle.script_grammar.specs.declared.line.LineAnswer.TheVariants as line
use Rattle.script_grammar.specs.declared.answer.Refused.TheVariants as refused
use Rattle.script_grammar.specs.declared.answer.StepAnswer.{StepAnswer}
use Rattle.script_grammar.specs.declared.answer.StepAnswer.TheVariants as answer
use Rattle.script_grammar.specs.Grammar.{reading_of}
use Rattle.device_log.specs.declared.choice.CutChoice.TheVariants as choice
use Rattle.device_log.specs.Calls.{Call, PowerCut}
use Rattle.script_run.specs.Run.{Harm, Run, at_hand, fresh}
use Rattle.script_run.specs.Turn.{Turn, calls_in, no_turn}
use Rattle.script_run.specs.Asked.{asked}
use Rattle.script_run.specs.Answers.{bare_said, number_of_bad, session_said, switch_said, tried_said}
use Rattle.script_run.specs.Behind.{after_line, after_reading, harm_in, harm_of, harm_of_format, harms_of, in_session}
use Rattle.script_run.specs.Goes.{StepGoes, begins, cuts_off, fails, stays, tells_bare, waits, works}
use Rattle.script_run.specs.Takes.{IsRun, ReadingTakes, SessionTakes, run_after}
use Rattle.script_laws.specs.Causes.{cause_answered}
use Rattle.script_run.specs.Losses.{NoLossIsAFault, is_fault}
use Rattle.script_laws.specs.Runs.{NoneAnswers, ReadsWithout, answers_damage, answers_fault}
use Rattle.script_run.proofs.Lift.{goes}
use Rattle.script_run.proofs.Losses.{formats_lose_none, losses_stay}
use Rattle.script_laws.proofs.Walking.{fault_stays}
use Rattle.script_laws.proofs.Faults.{fault_is_recorded, named_is_recorded}
use Rattle.script_laws.proofs.Damages.{damage_is_recorded, damage_stays}

-- ---- lists

pub all_front : {X : Type 0} (P : X → Type 0) (xs ys : List X) → All P (xs ++ ys) → All P xs
all_front P [] ys all = All-nil P
all_front P (x ∷ xs) ys all = All-cons P x xs (All-head P x (xs ++ ys) all) (all_front P xs ys (All-tail P x (xs ++ ys) all))

pub all_behind : {X : Type 0} (P : X → Type 0) (xs ys : List X) → All P (xs ++ ys) → All P ys
all_behind P [] ys all = all
all_behind P (x ∷ xs) ys all = all_behind P xs ys (All-tail P x (xs ++ ys) all)

-- ---- a line of a session

-- what is asked of a way to answer: what was told of the device behind a line shows that the line was not
-- answered so, and was told before it
record IsWitnessed (test : StepAnswer → Bool) (Fine : Harm → Type 0) (Sound : State → Type 0) : Type 0 where
  formats : (geometry : Geometry) → Sound (after_all nothing_yet (format_records geometry))
  stays : (run : Run) (s : State) (turn : Turn) (step : Step) → SessionTakes run s turn step → Sound s → Sound (after_all s turn.added)
  before : (run : Run) (s : State) (turn : Turn) (step : Step) (old new : List Call) → SessionTakes run s turn step → Fine (harm_in new (after_all s turn.added)) → Fine (harm_in old s)
  without : (run : Run) (s : State) (turn : Turn) (step : Step) (new : List Call) → SessionTakes run s turn step → Sound s → Fine (harm_in new (after_all s turn.added))
      → test (session_said run s (after_all s turn.added) turn step) ≡ false
  format : (added : List Rec) → test (tried_said added None) ≡ false
  refused : (bad : BadGeometry) → test (answer.Refused (refused.Geometry (number_of_bad bad)) None) ≡ false
  fails : (calls : List Call) (count : ℕ) → 0 < count → Fine (harm_of_format calls count) → test (answer.DeviceFault count None) ≡ false
  moment : (at : ℕ) → test (answer.Now at) ≡ false
  same : (s : State) (old new : List Call) → Fine (harm_in new s) → Fine (harm_in old s)
  bare : (turn : Turn) (step : Step) → test (bare_said turn step) ≡ false

module _ (test : StepAnswer → Bool) (Fine : Harm → Type 0) (Sound : State → Type 0) (w : IsWitnessed test Fine Sound) where
  abbrev IsSound : Option State → Type 0
  IsSound None = Unit {0}
  IsSound (Some s) = Sound s

  abbrev AreFine : List Harm → Type 0
  AreFine harms = All Fine harms

  -- what a line leaves, and what was told behind it shows
  record IsPlayed (run next : Run) (Without : Type 0) : Type 0 where
    sound : IsSound next.state
    back : AreFine (harms_of next) → Without × AreFine (harms_of run)

  on_session : (run : Run) (s : State) (turn : Turn) (step : Step) → run.state ≡ Some s → Sound s → SessionTakes run s turn step
      → IsPlayed run (in_session run s (after_all s turn.added) turn step) (test (session_said run s (after_all s turn.added) turn step) ≡ false)
  on_session run s turn step e sound takes =
      let t : State = after_all s turn.added in
      let calls : List Call = calls_in turn ++ run.calls in
      let new : Harm = harm_in calls t in
      let old : Harm = harm_in run.calls s in
      record {
        sound = w.stays run s turn step takes sound;
        back = λ (fine : AreFine (run.ended ++ new ∷ [])).
            let last : Fine new = All-head Fine new [] (all_behind Fine run.ended (new ∷ []) fine) in
            let here : Fine old = w.before run s turn step run.calls calls takes last in (
              w.without run s turn step calls takes sound last,
              subst (λ (x : Option State). AreFine (run.ended ++ harm_of run.calls (at_hand x run.last))) (sym e)
                  (All-append Fine run.ended (old ∷ []) (all_front Fine run.ended (new ∷ []) fine) (All-cons Fine old [] here (All-nil Fine))),
            );
      }

  -- what is told of a device, whatever calls it made
  last_fine : (run : Run) (s : State) (calls : List Call) → AreFine (run.ended ++ harm_in calls s ∷ []) → AreFine (run.ended ++ harm_in run.calls s ∷ [])
  last_fine run s calls fine =
      All-append Fine run.ended (harm_in run.calls s ∷ []) (all_front Fine run.ended (harm_in calls s ∷ []) fine)
      (All-cons Fine (harm_in run.calls s) [] (w.same s run.calls calls (All-head Fine (harm_in calls s) [] (all_behind Fine run.ended (harm_in calls s ∷ []) fine))) (All-nil Fine))

  -- a turn that tells of a cut
  abbrev cutting : Turn
  cutting = record no_turn { told = PowerCut choice.Lost [] ∷ [] }

  -- ---- each line

  played : (run : Run) (turn : Turn) {step : Step} {said : StepAnswer} {next : Run} → StepGoes run turn step said next → IsSound run.state → IsPlayed run next (test said ≡ false)
  played run turn (stays bad same none) sound = record { sound = sound; back = λ fine. (w.refused bad, fine) }
  played run turn (waits at same none) sound = record { sound = sound; back = λ fine. (w.moment at, fine) }
  played run turn {step = step} (works s same e takes) sound = on_session run s turn step e (subst IsSound e sound) takes
  played run turn (begins name g same is) sound = record {
    sound = subst (λ added. Sound (after_all nothing_yet added)) (sym is) (w.formats g);
    back = λ fine. (w.format turn.added, all_front Fine (harms_of run) (harm_in turn.device.events (after_all nothing_yet turn.added) ∷ []) fine);
  }
  played run turn (fails name count same is refuses) sound =
      let h : Harm = harm_of_format turn.device.events count in
      let whole : (fine : AreFine ((harms_of run ++ h ∷ []) ++ [])) → AreFine (harms_of run ++ h ∷ []) = λ fine. all_front Fine (harms_of run ++ h ∷ []) [] fine in
      record {
        sound = tt;
        back = λ fine. (
          w.fails turn.device.events count refuses.1 (All-head Fine h [] (all_behind Fine (harms_of run) (h ∷ []) (whole fine))),
          all_front Fine (harms_of run) (h ∷ []) (whole fine),
        );
      }
  played run turn (cuts_off choice s e cut) sound = record {
    sound = tt;
    back = λ fine. (
      w.bare cutting (step.Cut choice),
      subst (λ (x : Option State). AreFine (run.ended ++ harm_of run.calls (at_hand x run.last))) (sym e) (last_fine run s (calls_in turn ++ run.calls) fine),
    );
  }
  played run turn {step = step} (tells_bare t same e last takes only) sound = record {
    sound = sound;
    back = λ fine. (
      w.bare turn step,
      subst (λ (x : Option State). AreFine (run.ended ++ harm_of run.calls (at_hand x run.last))) (sym e)
          (subst (λ (x : Option State). AreFine (run.ended ++ harm_of run.calls x)) (sym last)
          (last_fine run t (calls_in turn ++ run.calls)
          (subst (λ (x : Option State). AreFine (run.ended ++ harm_of (calls_in turn ++ run.calls) x)) last
          (subst (λ (x : Option State). AreFine (run.ended ++ harm_of (calls_in turn ++ run.calls) (at_hand x run.last))) e fine)))),
    );
  }

  read : (run : Run) (turn : Turn) (reading : LineAnswer) → IsSound run.state → ReadingTakes run turn reading
      → IsPlayed run (after_reading run turn reading) (ReadsWithout test run turn reading)
  read run turn (line.Step s) sound takes = played run turn (goes run turn s takes) sound
  read run turn line.Nothing sound takes = record { sound = sound; back = λ fine. (tt, fine) }
  read run turn (line.Bad fault) sound takes = absurd takes

  -- ---- all lines

  along : (run : Run) (lines : List (List ℕ)) (turns : List Turn) → IsRun run lines turns → IsSound run.state → AreFine (harms_of (run_after run lines turns))
      → NoneAnswers test run lines turns × AreFine (harms_of run)
  along run [] [] is sound fine = (tt, fine)
  along run [] (turn ∷ turns) is sound fine = absurd is
  along run (bytes ∷ lines) [] is sound fine = absurd is
  along run (bytes ∷ lines) (turn ∷ turns) is sound fine =
      let one : IsPlayed run (after_line run turn bytes) (ReadsWithout test run turn (reading_of bytes)) = read run turn (reading_of bytes) sound is.0 in
      let rest : NoneAnswers test (after_line run turn bytes) lines turns × AreFine (harms_of (after_line run turn bytes)) = along (after_line run turn bytes) lines turns is.1 one.sound fine in
      let here = one.back rest.1 in
      ((here.0, rest.0), here.1)

  whole : (lines : List (List ℕ)) (turns : List Turn) → IsRun fresh lines turns → AreFine (harms_of (run_after fresh lines turns)) → NoneAnswers test fresh lines turns
  whole lines turns is fine = (along fresh lines turns is tt fine).0

-- ---- causes

none_named : (test : Cause → Bool) (o : Option Cause) → ((why : Cause) → o ≡ Some why → test why ≡ true → ⊥) → unwrap_or (option_map test o) false ≡ false
none_named test None h = refl
none_named test (Some why) h = false_from_ne_true (test why) (h why refl)

-- the answer of a switch tells none
told_without : (test : StepAnswer → Bool) → test (answer.Refused refused.NoSwitch None) ≡ false → (told : StepAnswer) (calls : List Call) → test told ≡ false
    → test (switch_said calls told) ≡ false
told_without test none told [] is = none
told_without test none told (call ∷ calls) is = is

bare_without : (test : StepAnswer → Bool)
    → (test answer.Armed ≡ false) × (test answer.Cut ≡ false) × (test (answer.Refused refused.NoSwitch None) ≡ false) × (test answer.Done ≡ false)
    → (turn : Turn) (step : Step) → test (bare_said turn step) ≡ false
bare_without test none turn (step.Fail nth) = told_without test none.2 answer.Armed turn.told none.0
bare_without test none turn (step.StopAfter calls) = told_without test none.2 answer.Armed turn.told none.0
bare_without test none turn (step.Cut choice) = told_without test none.2 answer.Cut turn.told none.1
bare_without test none turn _ = none.3

-- ---- device faults

no_fault : (a : StepAnswer) → ((count : ℕ) (took : Option ℕ) → a ≡ answer.DeviceFault count took → ⊥) → ((why : Cause) → cause_answered a ≡ Some why → is_fault why ≡ true → ⊥)
    → answers_fault a ≡ false
no_fault (answer.DeviceFault count took) h named = absurd (h count took refl)
no_fault x h named = none_named is_fault (cause_answered x) named

pub none_below : (n : ℕ) → n ≡ 0 → 0 < n → ⊥
none_below n e h = omega (arith, e, h)

none_before : (n m : ℕ) → (0 < n → 0 < m) → m ≡ 0 → n ≡ 0
none_before zero m rises e = refl
none_before (suc n) m rises e = absurd (none_below m e (rises (omega arith)))

faultless : IsWitnessed answers_fault (λ harm. harm.fault ≡ 0) NoLossIsAFault
faultless = record {
  formats = λ geometry. formats_lose_none nothing_yet geometry;
  stays = λ run s turn step takes sound. losses_stay s turn.added sound;
  before = λ run s turn step old new takes fine. none_before s.fault (after_all s turn.added).fault (fault_stays turn.device s (asked run s step) turn.added turn.refused takes.legal) fine;
  without = λ run s turn step new takes sound fine. no_fault (session_said run s (after_all s turn.added) turn step)
      (λ count took answered. none_below (after_all s turn.added).fault fine (fault_is_recorded run s turn step count took takes sound answered).told)
      (λ why answered fault. none_below (after_all s turn.added).fault fine (named_is_recorded run s turn step why takes sound answered fault));
  format = λ added. refl;
  refused = λ bad. refl;
  fails = λ calls count some fine. absurd (none_below count fine some);
  moment = λ at. refl;
  same = λ s old new fine. fine;
  bare = λ turn step. bare_without answers_fault (refl, refl, refl, refl) turn step;
}

pub faultless_runs : (lines : List (List ℕ)) (turns : List Turn) → IsRun fresh lines turns → All (λ (harm : Harm). harm.fault ≡ 0) (harms_of (run_after fresh lines turns)) → NoneAnswers answers_fault fresh lines turns
faultless_runs = whole answers_fault (λ harm. harm.fault ≡ 0) NoLossIsAFault faultless

-- ---- damage

was_not_true : (a b : Bool) → (a ≡ true → b ≡ true) → b ≡ false → a ≡ false
was_not_true a b rises e = false_from_ne_true a (λ h. no_truth (sym (rises h) ∙ e))

undamaged : IsWitnessed answers_damage (λ harm. harm.damaged ≡ false) (λ s. Unit {0})
undamaged = record {
  formats = λ geometry. tt;
  stays = λ run s turn step takes sound. tt;
  before = λ run s turn step old new takes fine. was_not_true (has_damage s) (has_damage (after_all s turn.added)) (damage_stays turn.device s (asked run s step) turn.added turn.refused takes.legal) fine;
  without = λ run s turn step new takes sound fine. none_named is_damage (cause_answered (session_said run s (after_all s turn.added) turn step))
      (λ why answered damage. no_truth (sym (damage_is_recorded run s turn step why takes answered damage) ∙ fine));
  format = λ added. refl;
  refused = λ bad. refl;
  fails = λ calls count some fine. refl;
  moment = λ at. refl;
  same = λ s old new fine. fine;
  bare = λ turn step. bare_without answers_damage (refl, refl, refl, refl) turn step;
}

pub undamaged_runs : (lines : List (List ℕ)) (turns : List Turn) → IsRun fresh lines turns → All (λ (harm : Harm). harm.damaged ≡ false) (harms_of (run_after fresh lines turns)) → NoneAnswers answers_damage fresh lines turns
undamaged_runs = whole answers_damage (λ harm. harm.damaged ≡ false) (λ s. Unit {0}) undamaged

-- ---- what was told before

-- no answer is asked about: what was told is followed back alone
module _ (Fine : Harm → Type 0) (before : (run : Run) (s : State) (turn : Turn) (step : Step) (old new : List Call) → SessionTakes run s turn step → Fine (harm_in new (after_all s turn.added)) → Fine (harm_in old s))
    (same : (s : State) (old new : List Call) → Fine (harm_in new s) → Fine (harm_in old s)) where
  followed : IsWitnessed (λ a. false) Fine (λ s. Unit {0})
  followed = record {
    formats = λ geometry. tt;
    stays = λ run s turn step takes sound. tt;
    before = before;
    without = λ run s turn step new takes sound fine. refl;
    format = λ added. refl;
    refused = λ bad. refl;
    fails = λ calls count some fine. refl;
    moment = λ at. refl;
    same = same;
    bare = λ turn step. refl;
  }

  any_session : (o : Option State) → IsSound (λ a. false) Fine (λ s. Unit {0}) followed o
  any_session None = tt
  any_session (Some s) = tt

  fine_before : (run : Run) (lines : List (List ℕ)) (turns : List Turn) → IsRun run lines turns → All Fine (harms_of (run_after run lines turns)) → All Fine (harms_of run)
  fine_before run lines turns is fine = (along (λ a. false) Fine (λ s. Unit {0}) followed run lines turns is (any_session run.state) fine).1

-- what was told of no device behind lines was told of none before them
pub faultless_before : (run : Run) (lines : List (List ℕ)) (turns : List Turn) → IsRun run lines turns
    → All (λ (harm : Harm). harm.fault ≡ 0) (harms_of (run_after run lines turns)) → All (λ (harm : Harm). harm.fault ≡ 0) (harms_of run)
faultless_before = fine_before (λ harm. harm.fault ≡ 0) faultless.before faultless.same

pub undamaged_before : (run : Run) (lines : List (List ℕ)) (turns : List Turn) → IsRun run lines turns
    → All (λ (harm : Harm). harm.damaged ≡ false) (harms_of (run_after run lines turns)) → All (λ (harm : Harm). harm.damaged ≡ false) (harms_of run)
undamaged_before = fine_before (λ harm. harm.damaged ≡ false) undamaged.before undamaged.same
