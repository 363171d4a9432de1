-- How the lines of `work` are read that other runs have not: `split`, and behind it the jobs of workers.
use Rattle.std.specs.Prelude.{ℕ, ◌+◌, ◌^◌, ◌==◌, ◌||◌, Bool, true, false, nat_lt, if◌then◌else◌, List, length, codes, Option, Some, None, Result, Ok, Err}
use Rattle.script_grammar.specs.declared.line.BadKind.TheVariants as kind
use Rattle.script_grammar.specs.declared.line.BadLine.{BadLine}
use Rattle.script_grammar.specs.declared.step.Step.{Step}
use Rattle.script_grammar.specs.declared.verb.Verb.{Verb}
use Rattle.script_grammar.specs.declared.verb.Verb.TheVariants as verb
use Rattle.script_grammar.specs.Words.{WordAt, bad, take_word, take_end, words_from, ◌>>=◌}
use Rattle.script_grammar.specs.Tokens.{number_below}
use Rattle.script_grammar.specs.Verbs.{same_word, verb_of}
use Rattle.script_grammar.specs.Grammar.{is_passed_over, step_by}
use Rattle.script_lang.specs.declared.jobs.JobLine.{JobLine}
use Rattle.script_lang.specs.declared.jobs.JobLine.TheVariants as job

-- a number from 1 to that of the workers
abbrev pub in_range : ℕ → WordAt → ℕ → Result ℕ BadLine
in_range workers w n = if (n == 0) || nat_lt workers n then Err (bad w.column kind.Number) else Ok n

-- the number of a worker
abbrev pub worker_of : ℕ → WordAt → Result ℕ BadLine
worker_of workers w = number_below (2 ^ 32) w >>= in_range workers w

-- a verb whose step works on a session: any but that of a format, of a moment, and of a line for a device's switch
abbrev pub is_job_verb : Verb → Bool
is_job_verb verb.Format = false
is_job_verb verb.Now = false
is_job_verb verb.Fail = false
is_job_verb verb.StopAfter = false
is_job_verb verb.Flip = false
is_job_verb verb.Cut = false
is_job_verb _ = true

-- a word that is no such verb is the fault, whatever follows
abbrev pub job_named : ℕ → WordAt → Option Verb → List WordAt → Result Step BadLine
job_named end w None words = Err (bad w.column kind.Verb)
job_named end w (Some verb) words = if is_job_verb verb then step_by end verb words else Err (bad w.column kind.Verb)

-- the step of a job, from the words behind its worker's number
unfoldable pub job_step_of : ℕ → List WordAt → Result Step BadLine
job_step_of end words = do
  v ← take_word end words
  job_named end v.0 (verb_of v.0.bytes) v.1

-- W LINE: the worker, and the step of its line
unfoldable pub job_of : ℕ → List ℕ → Result (ℕ × Step) BadLine
job_of workers line = do
  w ← take_word (length line + 1) (words_from 1 line)
  worker ← worker_of workers w.0
  step ← job_step_of (length line + 1) w.1
  Ok (worker, step)

-- a line that is not passed over: its job, or the fault of the first word that does not fit
abbrev pub job_answer : Result (ℕ × Step) BadLine → JobLine
job_answer (Ok asked) = job.Job asked.0 asked.1
job_answer (Err fault) = job.Bad fault

-- how a line behind `split` is read
unfoldable pub job_reading : ℕ → List ℕ → JobLine
job_reading workers line = if is_passed_over line then job.Nothing else job_answer (job_of workers line)

-- a first word `split`, behind which no word may follow
abbrev pub split_by : Result (WordAt × List WordAt) BadLine → Option (Result Unit BadLine)
split_by (Ok w) = if same_word w.0.bytes (codes "split") then Some (take_end w.1) else None
split_by (Err fault) = None

-- the line that ends the lines before the jobs, if it is one
unfoldable pub split_of : List ℕ → Option (Result Unit BadLine)
split_of line = split_by (take_word (length line + 1) (words_from 1 line))
