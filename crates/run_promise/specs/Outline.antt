-- What the answers of a run tell of its devices, whatever its records are worth: whether a session stands, which
-- devices were given back, and up to which count their faults were told.
use Rattle.std.specs.Prelude.{ℕ, ◌≡◌, ◌<◌, ◌⊎◌, max, Bool, false, true, IsSome, List, [], ◌∷◌, ◌++◌, Option, Some, None, is_some, option_map, ⊤}
use Rattle.tape_base.specs.declared.geometries.BadGeometry.{BadGeometry}
use Rattle.tape_base.specs.Limits.{first_refusal}
use Rattle.cache_model.specs.declared.cause.Cause.{Cause}
use Rattle.cache_model.specs.declared.cause.Cause.TheVariants as cause
use Rattle.script_grammar.specs.declared.step.Step.{Step}
use Rattle.script_grammar.specs.declared.step.Step.TheVariants as step
use Rattle.script_grammar.specs.declared.answer.Refused.{Refused}
use Rattle.script_grammar.specs.declared.answer.Refused.TheVariants as refused
use Rattle.script_grammar.specs.declared.answer.StepAnswer.{StepAnswer}
use Rattle.script_grammar.specs.declared.answer.StepAnswer.TheVariants as answer
use Rattle.script_run.specs.Run.{Harm, Run, at_hand, loosened, no_harm}
use Rattle.script_run.specs.Switch.{is_of_device}
use Rattle.script_run.specs.Answers.{number_of_bad}
use Rattle.script_run.specs.Behind.{harm_in}
use Rattle.run_promise.specs.Needs.{NeedsSession}

-- ---- the counts that answers tell

-- the count of a cause that is a device fault; 0 of any other
abbrev pub count_of_cause : Cause → ℕ
count_of_cause (cause.DeviceFault count) = count
count_of_cause _ = 0

-- that of the cause for which a fragment is lost; 0 of any other refusal
abbrev pub count_in_refusal : Refused → ℕ
count_in_refusal (refused.Lost index why) = count_of_cause why
count_in_refusal _ = 0

-- the count of the device fault that an answer tells; 0 where it tells none
abbrev pub count_in : StepAnswer → ℕ
count_in (answer.Miss why) = count_of_cause why
count_in (answer.Broken why) = count_of_cause why
count_in (answer.Absent why) = count_of_cause why
count_in (answer.Refused why took) = count_in_refusal why
count_in (answer.DeviceFault count took) = count
count_in _ = 0

-- ---- outlines

-- what was told of the device at hand, that of the session or a bare one, and whether a session stands on it; what was told
-- of each device that was given back; and the name of each device that was attached
pub record Outline : Type 0 where
  pub session : Option Harm
  pub stands : Bool
  pub ended : List Harm
  pub names : List (List ℕ)

-- before the first line
abbrev pub blank_outline : Outline
blank_outline = record { session = None; stands = false; ended = []; names = [] }

-- what a run tells of its devices, of which the one at hand may make more calls then
abbrev pub outline_in : Run → Outline
outline_in run = record {
  session = option_map (λ s. loosened (harm_in run.calls s)) (at_hand run.state run.last);
  stands = is_some run.state;
  ended = run.ended;
  names = run.names;
}

-- what an outline tells of the session's device is doubted: where that told its content to the end, it is not so
abbrev pub doubted : Outline → Outline
doubted o = record o { session = option_map (λ (harm : Harm). record harm { damaged = true }) o.session }

-- a count that is told raises what was told; of damage it tells nothing, nor of the calls that were made meanwhile
abbrev pub raised : ℕ → Harm → Harm
raised count harm = record { fault = max count harm.fault; damaged = harm.damaged; calls = harm.calls; whole = false; switches = harm.switches }

-- of the device of a session, where there is one
abbrev pub told_of : Option Harm → List Harm
told_of None = []
told_of (Some harm) = harm ∷ []

-- of all devices, once the last one is given back
abbrev pub all_told : Outline → List Harm
all_told o = o.ended ++ told_of o.session

-- the device of this name is attached, and the session before it has ended; where that device refused a call it was given back
abbrev pub attached : Outline → List ℕ → StepAnswer → Outline
attached o name (answer.DeviceFault count took) =
    record { session = None; stands = false; ended = all_told o ++ raised count no_harm ∷ []; names = o.names ++ name ∷ [] }
attached o name _ = record { session = Some (loosened no_harm); stands = true; ended = all_told o; names = o.names ++ name ∷ [] }

-- a format whose numbers are accepted ends the session before it, and begins one on the device of its name
abbrev pub begun : Outline → List ℕ → StepAnswer → Option BadGeometry → Outline
begun o name said (Some bad) = o
begun o name said None = attached o name said

-- no other step begins a session
abbrev pub begun_by : Outline → Step → StepAnswer → Outline
begun_by o (step.Format name segments buckets content agg reach fragment generation alternates) said =
    begun o name said (first_refusal segments buckets content agg reach fragment alternates)
begun_by o _ said = o

-- a count that is told of the session's device
abbrev pub with_told_count : Outline → ℕ → Outline
with_told_count o count = record o { session = option_map (raised count) o.session }

-- whether a device has a switch, by the answer of a line that is for it
abbrev pub has_switch_in : StepAnswer → Bool
has_switch_in (answer.Refused refused.NoSwitch took) = false
has_switch_in _ = true

-- the same of any line; another one does not tell it
abbrev pub switch_told : Step → StepAnswer → Option Bool
switch_told (step.Fail nth) said = Some (has_switch_in said)
switch_told (step.StopAfter calls) said = Some (has_switch_in said)
switch_told (step.Flip place byte) said = Some (has_switch_in said)
switch_told (step.Cut choice) said = Some (has_switch_in said)
switch_told _ said = None

-- that is told of the session's device
abbrev pub switched : Bool → Harm → Harm
switched has harm = record harm { switches = has ∷ harm.switches }

-- where it is told
abbrev pub with_told_switch : Option Bool → Outline → Outline
with_told_switch None o = o
with_told_switch (Some has) o = record o { session = option_map (switched has) o.session }

-- whether the session stands behind a step: a cut ends it, where that is answered
abbrev pub stands_behind : Step → StepAnswer → Bool → Bool
stands_behind (step.Cut choice) answer.Cut stands = false
stands_behind _ said stands = stands

-- what is told of devices behind a step, by its answer
abbrev pub told_behind : Outline → Step → StepAnswer → Outline
told_behind o step said = with_told_switch (switch_told step said) (with_told_count (begun_by o step said) (count_in said))

-- the outline behind a step, by its answer
abbrev pub outline_after : Outline → Step → StepAnswer → Outline
outline_after o step said = record (told_behind o step said) { stands = stands_behind step said (told_behind o step said).stands }

-- what a line needs is not there: no device is at hand, or no session stands on it, for a line that works on one
abbrev pub Lacks : Outline → Step → Type 0
Lacks o step = (o.session ≡ None) ⊎ ((is_of_device step ≡ false) × (o.stands ≡ false))

-- what a format answers, by its numbers: the first one that is refused, or where cursor and floor then stand, if its device
-- refused no call
abbrev pub IsFormatAnswer : (content agg : ℕ) → StepAnswer → Option BadGeometry → Type 0
IsFormatAnswer content agg said (Some bad) = said ≡ answer.Refused (refused.Geometry (number_of_bad bad)) None
IsFormatAnswer content agg said None = (said ≡ answer.Formatted 1 content agg) ⊎ ((count : ℕ) × (0 < count) × (said ≡ answer.DeviceFault count None))

-- the device has a switch, and was told; or it has none
abbrev pub IsSwitchAnswer : (told said : StepAnswer) → Type 0
IsSwitchAnswer told said = (said ≡ told) ⊎ (said ≡ answer.Refused refused.NoSwitch None)

-- the answer that is the step's alone, whatever was recorded: that of a format, of a moment, and of a line for the switch
abbrev pub IsAnswerOf : Step → StepAnswer → Type 0
IsAnswerOf (step.Format name segments buckets content agg reach fragment generation alternates) said =
    IsFormatAnswer content agg said (first_refusal segments buckets content agg reach fragment alternates)
IsAnswerOf (step.Now moment) said = said ≡ answer.Now moment
IsAnswerOf (step.Fail nth) said = IsSwitchAnswer answer.Armed said
IsAnswerOf (step.StopAfter calls) said = IsSwitchAnswer answer.Armed said
IsAnswerOf (step.Flip place byte) said = IsSwitchAnswer answer.Flipped said
IsAnswerOf (step.Cut choice) said = IsSwitchAnswer answer.Cut said
IsAnswerOf _ said = ⊤

-- a step that needs a session or a device is answered where there is one, and what no record decides is answered as the step
-- has it
pub record IsAnswered (o : Outline) (step : Step) (said : StepAnswer) : Type 0 where
  pub session : NeedsSession step → IsSome o.session
  pub stands : NeedsSession step → is_of_device step ≡ false → o.stands ≡ true
  pub fixed : IsAnswerOf step said
