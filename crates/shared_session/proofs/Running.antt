-- Steps that a session answers, one behind the other, are those of a run that it plays.
use Rattle.std.proofs.Common.{◌≡◌, List, [], ◌∷◌, Option, Some, None, Result, Ok, Err, IfOk, subst, inl, inr}
use Rattle.cache_calls.specs.declared.calls.Calls.{Ghosts as CallsGhosts}
use Rattle.script_grammar.specs.declared.answer.StepAnswer.{StepAnswer}
use Rattle.script_run.specs.Run.{Run}
use Rattle.script_run.specs.Behind.{after_step}
use Rattle.cache_replay.specs.declared.session.Part.{Part}
use Rattle.cache_replay.specs.declared.session.Session.{Session}
use Rattle.cache_replay.specs.declared.stop.Stop.{Stop}
use Rattle.cache_replay.specs.declared.stop.Stop.TheVariants as stop
use Rattle.cache_replay.specs.OneLine.{AnswersLine}
use Rattle.cache_replay.specs.Plays.{Plays, PlaysAt}
use Rattle.cache_replay.specs.Session.{slots_in}
use Rattle.cache_replay.specs.Stop.{IsSessionStop}
use Rattle.shared_steps.specs.declared.shared.Taken.TheVariants.{Said, Stopped, Left}
use Rattle.shared_steps.specs.declared.shared.StepRecord.{StepRecord}
use Rattle.shared_steps.specs.declared.shared.StepRecord.TheVariants.{Began, Took}
use Rattle.shared_steps.specs.Histories.{Goes}
use Rattle.shared_session.specs.declared.session.SharedSession.{SharedSession}
use Rattle.shared_session.specs.declared.step.JobStep.{JobStep}
use Rattle.shared_session.specs.Runs.{RunsOn, StopsAt}

module _ {S V R : Type 0} {c : CallsGhosts S V R} where
  none_at : (run : Run) (part : Option (Part S V R c)) → part ≡ None → (slots : _) → PlaysAt run part slots → run.state ≡ None
  none_at run None e slots plays = plays.state
  none_at run (Some part) e slots plays = absurd cc

  stops : (run : Run) (old : Session S V R c) (why : Stop) → Plays run old → IsSessionStop old why → StopsAt run why
  stops run old stop.NoCache plays is = none_at run old.part is (slots_in old) plays.at
  stops run old stop.BayFault plays is = is
  stops run old stop.Memory plays is = tt

  pub runs_on : (first : SharedSession S V R c) (rs : List (StepRecord (SharedSession S V R c) JobStep StepAnswer Stop)) (last : SharedSession S V R c) (run : Run)
      → Goes (λ old job new result. AnswersLine job.step old.session new.session result) first rs last → Plays run first.session → RunsOn run rs last
  runs_on first [] last run goes plays = subst (λ (s : SharedSession S V R c). Plays run s.session) goes plays
  runs_on first (Took job (Said said) ∷ rs) last run goes plays = elim (goes.1.ends run plays) [
    | inl m ↦ inl (m.turn, m.takes, m.says, runs_on goes.0 rs last (after_step run m.turn job.step) goes.2 m.plays)
    | inr p ↦ inr (p.turn, p.shows)
  ]
  runs_on first (Took job (Stopped why) ∷ rs) last run goes plays = stops run first.session why plays goes.0.stop
  runs_on first (Took job Left ∷ rs) last run goes plays = absurd goes
  runs_on first (Began s ∷ rs) last run goes plays = absurd goes

  -- so it is where there is a state behind them
  pub all_run : {Y E : Type 0} (records : Y → List (StepRecord (SharedSession S V R c) JobStep StepAnswer Stop)) (last : Y → SharedSession S V R c) (first : SharedSession S V R c) (result : Result Y E)
      → IfOk result (λ y. Goes (λ old job new said. AnswersLine job.step old.session new.session said) first (records y) (last y))
      → IfOk result (λ y. (run : Run) → Plays run first.session → RunsOn run (records y) (last y))
  all_run records last first (Ok y) goes = λ run plays. runs_on first (records y) (last y) run goes plays
  all_run records last first (Err e) goes = tt
