-- Where the causes come from that a step tells and a line answers.
use Rattle.std.specs.Prelude.{◌≡◌, Bool, true, false, List, Option, Some, None}
use Rattle.tape_base.specs.declared.pieces.PieceId.{PieceId}
use Rattle.cache_model.specs.declared.cause.Cause.{Cause}
use Rattle.cache_model.specs.declared.cause.Cause.TheVariants as cause
use Rattle.cache_model.specs.declared.answer.ReadAnswer.TheVariants as read
use Rattle.cache_model.specs.declared.record.Rec.{Rec}
use Rattle.cache_model.specs.declared.record.Rec.TheVariants as rec
use Rattle.cache_model.specs.State.{State, after_all}
use Rattle.cache_model.specs.Permit.{Intent, IsAmong, Permit, Reason}
use Rattle.cache_model.specs.Legal.{IsStep}
use Rattle.script_grammar.specs.declared.step.Step.{Step}
use Rattle.script_grammar.specs.declared.answer.Refused.TheVariants as refused
use Rattle.script_grammar.specs.declared.answer.StepAnswer.{StepAnswer}
use Rattle.script_grammar.specs.declared.answer.StepAnswer.TheVariants as answer
use Rattle.script_run.specs.Run.{Run}
use Rattle.script_run.specs.Turn.{Turn}
use Rattle.script_run.specs.Answers.{session_said}
use Rattle.script_run.specs.Takes.{SessionTakes}

-- the cause that a record tells to the one who reads
abbrev pub cause_told : Rec → Option Cause
cause_told (rec.ReadOpened reader actor key request (read.Miss why)) = Some why
cause_told (rec.Broke reader why) = Some why
cause_told _ = None

-- the cause that a record of a displacement, of damage or of a fault stands for
abbrev pub cause_given : Rec → Option Cause
cause_given (rec.Displaced piece segment live) = Some (cause.Displaced segment live)
cause_given (rec.Damaged piece place kept found) = Some (cause.Damaged place kept found)
cause_given (rec.Fault count) = Some (cause.DeviceFault count)
cause_given _ = None

-- no such record stands for the cause: it is how a key, a put or a place stands
abbrev pub is_standing : Cause → Bool
is_standing (cause.Displaced segment live) = false
is_standing (cause.DeviceFault count) = false
is_standing (cause.Damaged place kept found) = false
is_standing _ = true

-- a record among these stands for the cause
pub record IsGivenBy (added : List Rec) (why : Cause) : Type 0 where
  pub r : Rec
  pub among : IsAmong r added
  pub gives : cause_given r ≡ Some why

-- where a cause comes from that is told in a step: from how things stand, from a piece that was lost
-- before, or from a record of the step
pub data IsTraced (s : State) (added : List Rec) (why : Cause) : Type 0 where
  stands : is_standing why ≡ true → IsTraced s added why
  lost : (piece : PieceId) → IsAmong (piece, why) s.lost → IsTraced s added why
  recorded : IsGivenBy added why → IsTraced s added why

-- each cause that a step tells to the one who reads comes from somewhere
abbrev pub CausesAreTraced : Type 0
CausesAreTraced = (p : Permit) (s : State) (intents : List Intent) (added : List Rec) (reason : Option Reason) → IsStep p s intents added reason
    → (r : Rec) (why : Cause) → IsAmong r added → cause_told r ≡ Some why → IsTraced s added why

-- the cause that a line answers: of a miss, of a break, of what is absent, or of a fragment that is gone
abbrev pub cause_answered : StepAnswer → Option Cause
cause_answered (answer.Miss why) = Some why
cause_answered (answer.Broken why) = Some why
cause_answered (answer.Absent why) = Some why
cause_answered (answer.Refused (refused.Lost index why) took) = Some why
cause_answered _ = None

-- each cause that a line on a session answers comes from somewhere
abbrev pub AnswersAreTraced : Type 0
AnswersAreTraced = (run : Run) (s : State) (turn : Turn) (step : Step) (why : Cause) → SessionTakes run s turn step
    → cause_answered (session_said run s (after_all s turn.added) turn step) ≡ Some why → IsTraced s turn.added why
