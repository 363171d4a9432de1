-- The line of a legal history that was answered so: what it did, in the run that the lines before it left.
use Rattle.std.proofs.Common.{◌≡◌, ℕ, List, [], ◌∷◌, ◌++◌, length, refl, sym, ap, subst, arith, inl, inr, ◌⊎◌, false, true}
use Rattle.std.specs.Prelude.{Option, Some, None}
use Rattle.cache_model.specs.State.{State, after_all}
use Rattle.cache_model.proofs.Found.{same_some}
use Rattle.script_grammar.specs.declared.line.LineAnswer.{LineAnswer}
use Rattle.script_grammar.specs.declared.line.LineAnswer.TheVariants as line
use Rattle.device_log.specs.Calls.{Call}
use Rattle.script_grammar.specs.declared.step.Step.{Step}
use Rattle.script_grammar.specs.declared.step.Step.TheVariants as step
use Rattle.script_grammar.specs.declared.answer.StepAnswer.{StepAnswer}
use Rattle.script_grammar.specs.declared.answer.StepAnswer.TheVariants as answer
use Rattle.script_grammar.specs.Grammar.{reading_of}
use Rattle.script_run.specs.Run.{Run, fresh}
use Rattle.script_run.specs.Turn.{Turn}
use Rattle.script_run.specs.Answers.{bare_said, session_said, step_answer, step_said, switch_said}
use Rattle.script_run.specs.Behind.{after_line, after_reading, after_step, behind, in_session, without_session}
use Rattle.script_run.specs.Takes.{IsRun, ReadingTakes, SessionTakes, StepTakes, run_after, RefusesCall}
use Rattle.script_run.specs.Goes.{StepGoes, begins, begins_session, cuts_off, fails, stays, tells_bare, waits, works}
use Rattle.script_run.proofs.Lift.{goes}
use Rattle.script_laws.specs.Causes.{cause_answered}
use Rattle.script_laws.specs.Runs.{answers_damage, answers_fault}
use Rattle.run_promise.specs.Lines.{answers_of, reading_answer}
use Rattle.headline.specs.Account.{Account, HistoryTells, RunLogs}

-- the line behind these: its turn among the others, and the run that goes on behind it
pub record Found (run : Run) (turns : List Turn) (before : List (List ℕ)) (asks : Step) (said : StepAnswer) (end : Run) : Type 0 where
  pub earlier : List Turn
  pub turn : Turn
  pub later : List Turn
  pub turns_are : turns ≡ earlier ++ turn ∷ later
  pub legal : IsRun run before earlier
  pub takes : StepTakes (run_after run before earlier) turn asks
  pub is : said ≡ step_answer (run_after run before earlier) turn asks
  pub after : List (List ℕ)
  pub goes : IsRun (after_step (run_after run before earlier) turn asks) after later
  pub ends : end ≡ run_after (after_step (run_after run before earlier) turn asks) after later

module _ (asks : Step) (said : StepAnswer) where
  found : (run : Run) (before : List (List ℕ)) (bytes : List ℕ) (after : List (List ℕ)) (turns : List Turn) (front rest : List (Option StepAnswer))
      → IsRun run (before ++ bytes ∷ after) turns → reading_of bytes ≡ line.Step asks → answers_of run (before ++ bytes ∷ after) turns ≡ front ++ Some said ∷ rest
      → length front ≡ length before → Found run turns before asks said (run_after run (before ++ bytes ∷ after) turns)
  found run [] bytes after [] front rest is reading answers n = absurd is
  found run [] bytes after (turn ∷ turns) [] rest is reading answers n =
      let first : reading_answer run turn (reading_of bytes) ≡ Some said = cc in
      record {
        earlier = [];
        turn = turn;
        later = turns;
        turns_are = refl;
        legal = tt;
        takes = subst (ReadingTakes run turn) reading is.0;
        is = same_some said (step_answer run turn asks) (reading_answer run turn (reading_of bytes)) first (ap (reading_answer run turn) reading);
        after = after;
        goes = subst (λ (l : LineAnswer). IsRun (after_reading run turn l) after turns) reading is.1;
        ends = ap (λ (l : LineAnswer). run_after (after_reading run turn l) after turns) reading;
      }
  found run [] bytes after (turn ∷ turns) (f ∷ front) rest is reading answers n = absurd (omega (arith, n))
  found run (b ∷ before) bytes after [] front rest is reading answers n = absurd is
  found run (b ∷ before) bytes after (turn ∷ turns) [] rest is reading answers n = absurd (omega (arith, n))
  found run (b ∷ before) bytes after (turn ∷ turns) (f ∷ front) rest is reading answers n =
      let tail : answers_of (after_line run turn b) (before ++ bytes ∷ after) turns ≡ front ++ Some said ∷ rest = cc in
      let h = found (after_line run turn b) before bytes after turns front rest is.1 reading tail (omega (arith, n)) in
      record {
        earlier = turn ∷ h.earlier;
        turn = h.turn;
        later = h.later;
        turns_are = ap (λ (xs : List Turn). turn ∷ xs) h.turns_are;
        legal = (is.0, h.legal);
        takes = h.takes;
        is = h.is;
        after = h.after;
        goes = h.goes;
        ends = h.ends;
      }

-- a line that an account tells
pub told_line : (l : RunLogs) (a : Account l) (before : List (List ℕ)) (asks : Step) (said : StepAnswer) → HistoryTells a before asks said
    → Found fresh a.turns before asks said (run_after fresh a.told a.turns)
told_line l a before asks said at =
    let h = found asks said fresh before at.bytes at.later a.turns at.front at.rest
    (subst (λ (xs : List (List ℕ)). IsRun fresh xs a.turns) at.lines_are a.legal) at.reading
    (subst (λ (xs : List (List ℕ)). answers_of fresh xs a.turns ≡ at.front ++ Some said ∷ at.rest) at.lines_are at.answers_are) at.as_many in
    subst (λ (end : Run). Found fresh a.turns before asks said end) (sym (ap (λ (xs : List (List ℕ)). run_after fresh xs a.turns) at.lines_are)) h

-- ---- lines on a session

-- the step is one of a session
pub record OnSession (run : Run) (turn : Turn) (o : Option State) (asks : Step) : Type 0 where
  pub s : State
  pub session : begins_session asks ≡ false
  pub state : o ≡ Some s
  pub takes : SessionTakes run s turn asks
  pub said : step_said run turn o asks ≡ session_said run s (after_all s turn.added) turn asks
  pub next : behind run turn o asks ≡ in_session run s (after_all s turn.added) turn asks

-- the step is a format whose device refused a call
pub record OnFormat (run : Run) (turn : Turn) (asks : Step) : Type 0 where
  pub name : List ℕ
  pub count : ℕ
  pub begins : begins_session asks ≡ true
  pub refuses : RefusesCall turn count
  pub said : step_answer run turn asks ≡ answer.DeviceFault count None
  pub next : after_step run turn asks ≡ without_session run name turn.device.events count

-- the answer tells no trouble, and no cause
pub record IsUntroubled (said : StepAnswer) : Type 0 where
  pub no_fault : answers_fault said ≡ false
  pub no_damage : answers_damage said ≡ false
  pub no_cause : cause_answered said ≡ None

-- what a bare device is told
switch_untroubled : (told : StepAnswer) (calls : List Call) → IsUntroubled told → IsUntroubled (switch_said calls told)
switch_untroubled told [] is = record { no_fault = refl; no_damage = refl; no_cause = refl }
switch_untroubled told (call ∷ calls) is = is

bare_untroubled : (turn : Turn) (asks : Step) → IsUntroubled (bare_said turn asks)
bare_untroubled turn (step.Fail nth) = switch_untroubled answer.Armed turn.told (record { no_fault = refl; no_damage = refl; no_cause = refl })
bare_untroubled turn (step.StopAfter calls) = switch_untroubled answer.Armed turn.told (record { no_fault = refl; no_damage = refl; no_cause = refl })
bare_untroubled turn (step.Cut choice) = switch_untroubled answer.Cut turn.told (record { no_fault = refl; no_damage = refl; no_cause = refl })
bare_untroubled turn _ = record { no_fault = refl; no_damage = refl; no_cause = refl }

kinds : (run : Run) (turn : Turn) {asks : Step} {said : StepAnswer} {after : Run} → StepGoes run turn asks said after → step_answer run turn asks ≡ said → after_step run turn asks ≡ after
    → OnSession run turn run.state asks ⊎ OnFormat run turn asks ⊎ IsUntroubled said
kinds run turn (stays bad same none) answered next = inr (inr (record { no_fault = refl; no_damage = refl; no_cause = refl }))
kinds run turn (waits at same none) answered next = inr (inr (record { no_fault = refl; no_damage = refl; no_cause = refl }))
kinds run turn (works s same e takes) answered next = inl (record { s = s; session = same; state = e; takes = takes; said = answered; next = next })
kinds run turn (cuts_off choice s e cut) answered next = inr (inr (record { no_fault = refl; no_damage = refl; no_cause = refl }))
kinds run turn {asks = asks} (tells_bare t same e last takes only) answered next = inr (inr (bare_untroubled turn asks))
kinds run turn (begins name g same is) answered next = inr (inr (record { no_fault = refl; no_damage = refl; no_cause = refl }))
kinds run turn (fails name count same is refuses) answered next =
    inr (inl (record { name = name; count = count; begins = same; refuses = refuses; said = answered; next = next }))

pub kind_of : (run : Run) (turn : Turn) (asks : Step) → StepTakes run turn asks → OnSession run turn run.state asks ⊎ OnFormat run turn asks ⊎ IsUntroubled (step_answer run turn asks)
kind_of run turn asks takes = kinds run turn (goes run turn asks takes) refl refl
