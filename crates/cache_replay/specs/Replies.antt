-- What lines answer by what a cache answered.
use Rattle.std.specs.Prelude.{ℕ, Option, Some, None, Result, Ok, Err}
use Rattle.cache_answers.specs.declared.answers.Receipt.{Receipt}
use Rattle.cache_answers.specs.declared.answers.Refusal.{Refusal}
use Rattle.cache_answers.specs.declared.answers.Refusal.TheVariants as refusal
use Rattle.script_grammar.specs.declared.answer.Refused.TheVariants as refused
use Rattle.script_grammar.specs.declared.answer.StepAnswer.{StepAnswer}
use Rattle.script_grammar.specs.declared.answer.StepAnswer.TheVariants as answer
use Rattle.run_promise.specs.Outline.{count_of_cause}
use Rattle.cache_replay.specs.declared.stop.Stop.{Stop}
use Rattle.cache_replay.specs.declared.stop.Stop.TheVariants as stop

-- a refusal as a line tells it, with how many bytes were taken where that is told
abbrev pub refusal_answer : Refusal → Option ℕ → StepAnswer
refusal_answer refusal.TooManyWriters took = answer.Refused refused.TooManyWriters took
refusal_answer refusal.TooManyFragments took = answer.Refused refused.TooManyFragments took
refusal_answer (refusal.VectorTooLarge bytes) took = answer.Refused (refused.VectorTooLarge bytes) took
refusal_answer (refusal.Lost index why) took = answer.Refused (refused.Lost index why) took
refusal_answer refusal.Sealed took = answer.Refused refused.Sealed took
refusal_answer (refusal.Exhausted number) took = answer.Refused refused.Exhausted took
refusal_answer (refusal.DeviceFault count) took = answer.DeviceFault count took
refusal_answer refusal.NoSuchWriter took = answer.Refused refused.Idle took
refusal_answer (refusal.Memory e) took = answer.Refused refused.Idle took

-- what a put answers: the receipt, or the refusal without how many bytes were taken
abbrev pub receipt_answer : Result Receipt Refusal → StepAnswer
receipt_answer (Ok receipt) = answer.Put receipt.put receipt.length receipt.fragments
receipt_answer (Err why) = refusal_answer why None

-- a refusal as a line tells it; of want of memory none does
abbrev pub refused_answer : Refusal → Option ℕ → Option StepAnswer
refused_answer (refusal.Memory e) took = None
refused_answer refusal.TooManyWriters took = Some (refusal_answer refusal.TooManyWriters took)
refused_answer refusal.TooManyFragments took = Some (refusal_answer refusal.TooManyFragments took)
refused_answer (refusal.VectorTooLarge bytes) took = Some (refusal_answer (refusal.VectorTooLarge bytes) took)
refused_answer (refusal.Lost index why) took = Some (refusal_answer (refusal.Lost index why) took)
refused_answer refusal.Sealed took = Some (refusal_answer refusal.Sealed took)
refused_answer (refusal.Exhausted number) took = Some (refusal_answer (refusal.Exhausted number) took)
refused_answer (refusal.DeviceFault count) took = Some (refusal_answer (refusal.DeviceFault count) took)
refused_answer refusal.NoSuchWriter took = Some (refusal_answer refusal.NoSuchWriter took)

-- of a line of so many bytes, of which so many were taken
abbrev pub fed_answer : (size taken : ℕ) → Option Refusal → Option StepAnswer
fed_answer size taken None = Some (answer.Took size)
fed_answer size taken (Some why) = refused_answer why (Some taken)

-- what came of a writer that was closed
abbrev pub closed_answer : Result Receipt Refusal → Option StepAnswer
closed_answer (Ok receipt) = Some (answer.Put receipt.put receipt.length receipt.fragments)
closed_answer (Err why) = refused_answer why None

-- why a flush was refused
abbrev pub flush_refused : Refusal → Result StepAnswer Stop
flush_refused (refusal.DeviceFault count) = Ok (answer.DeviceFault count None)
flush_refused (refusal.Exhausted number) = Ok (answer.Refused refused.Exhausted None)
flush_refused _ = Err stop.Memory

-- the count of the device fault that a refusal tells; 0 where it tells none
abbrev pub count_of_refusal : Refusal → ℕ
count_of_refusal (refusal.DeviceFault count) = count
count_of_refusal (refusal.Lost index why) = count_of_cause why
count_of_refusal _ = 0
