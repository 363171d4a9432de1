-- What lines for the switch of a session's device come to.
use Rattle.std.specs.Prelude.{◌≡◌, Bool, true, false, None, Option, Some, Result, Ok, Err, length}
use Rattle.std.specs.declared.alloc.AllocError.{AllocError}
use Rattle.cache_answers.specs.declared.answers.SwitchOrder.{SwitchOrder}
use Rattle.cache_answers.specs.declared.answers.SwitchOrder.TheVariants as order
use Rattle.cache_answers.specs.Orders.{TellsSwitch, call_of_order}
use Rattle.cache_model.specs.Contents.{AnyContents}
use Rattle.cache_calls.specs.declared.calls.Calls.{Ghosts as CallsGhosts}
use Rattle.cache_calls.specs.Keeping.{RestsOn, state_at}
use Rattle.cache_calls.specs.Standing.{StaysStanding}
use Rattle.script_grammar.specs.declared.step.Step.{Step}
use Rattle.script_grammar.specs.declared.step.Step.TheVariants as step
use Rattle.script_grammar.specs.declared.answer.Refused.TheVariants as refused
use Rattle.script_grammar.specs.declared.answer.StepAnswer.{StepAnswer}
use Rattle.script_grammar.specs.declared.answer.StepAnswer.TheVariants as answer
use Rattle.run_promise.specs.Outline.{IsSwitchAnswer, has_switch_in}
use Rattle.cache_replay.specs.declared.session.Part.{Part}
use Rattle.cache_replay.specs.declared.stop.Stop.{Stop}
use Rattle.cache_replay.specs.declared.stop.Stop.TheVariants.{Memory}
use Rattle.cache_replay.specs.Session.{at_in}

-- the line of an order
abbrev pub step_of_order : SwitchOrder → Step
step_of_order (order.Fail nth) = step.Fail nth
step_of_order (order.StopAfter calls) = step.StopAfter calls
step_of_order (order.Flip place byte) = step.Flip place byte

-- what is answered where a switch was told it
abbrev pub told_answer : SwitchOrder → StepAnswer
told_answer (order.Fail nth) = answer.Armed
told_answer (order.StopAfter calls) = answer.Armed
told_answer (order.Flip place byte) = answer.Flipped

-- what is answered by what the cache answered
abbrev pub switch_answer : SwitchOrder → Result Bool AllocError → Result StepAnswer Stop
switch_answer o (Ok true) = Ok (told_answer o)
switch_answer o (Ok false) = Ok (answer.Refused refused.NoSwitch None)
switch_answer o (Err e) = Err Memory

module _ {S W R : Type 0} {c : CallsGhosts S W R} where
  -- an order to a part: what its cache answered to that, and what the line answers
  pub record AnswersOrder (o : SwitchOrder) (old new : Part S W R c) (result : Result StepAnswer Stop) : Type 0 where
    pub asked : Result Bool AllocError
    pub answers : result ≡ switch_answer o asked
    pub tells : TellsSwitch (call_of_order (state_at (at_in old)).geometry o) (at_in old).device (at_in new).device asked
    pub keeps : RestsOn c.at c.holds old.cache new.cache
    pub stands : StaysStanding c.stands AnyContents old.cache new.cache
    pub page : length new.page.items ≡ length old.page.items

  -- the answer to an order is one of two, by whether the session's device has a switch
  abbrev pub AnswerTellsSwitch : SwitchOrder → Option (Part S W R c) → StepAnswer → Type 0
  AnswerTellsSwitch o None said = ⊥
  AnswerTellsSwitch o (Some part) said = IsSwitchAnswer (told_answer o) said × ((at_in part).device.has_switch ≡ has_switch_in said)
