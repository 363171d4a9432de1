-- A line behind `split` names a worker that there is, and a step that works on a session.
use Rattle.std.proofs.Common.{◌≡◌, ℕ, ◌+◌, ◌^◌, ◌==◌, ◌≤◌, Bool, true, false, ◌||◌, if◌then◌else◌, List, length, Result, Ok, Err, refl, ap, subst, arith}
use Rattle.std.specs.Prelude.{nat_lt, Option, Some, None}
use Rattle.std.proofs.lemmas.Bool.Decides.{nat_tests}
use Rattle.script_grammar.specs.declared.line.BadKind.TheVariants as kind
use Rattle.script_grammar.specs.declared.line.BadLine.{BadLine}
use Rattle.script_grammar.specs.declared.step.Step.{Step}
use Rattle.script_grammar.specs.declared.step.Step.TheVariants as step
use Rattle.script_grammar.specs.declared.verb.Verb.{Verb}
use Rattle.script_grammar.specs.declared.verb.Verb.TheVariants as verb
use Rattle.script_grammar.specs.Words.{WordAt, bad, ◌>>=◌, take_word, take_end, words_from}
use Rattle.script_grammar.specs.Grammar.{step_by, take_actor, take_number, put_line_of, get_of, open_write_of, data_of, open_read_of, only_actor, remove_of, is_passed_over}
use Rattle.script_grammar.specs.Verbs.{verb_of}
use Rattle.script_grammar.specs.Tokens.{body_of_word, number_below, object_of}
use Rattle.script_grammar.specs.Fields.{fields_after, no_fields}
use Rattle.script_grammar.specs.declared.sides.FieldKinds.TheVariants.{Request, Both}
use Rattle.script_lang.specs.declared.jobs.JobLine.{JobLine}
use Rattle.script_lang.specs.declared.jobs.JobLine.TheVariants as job
use Rattle.script_lang.specs.Jobs.{in_range, is_job_verb, job_answer, job_named, job_of, job_reading, job_step_of, worker_of}
use Rattle.shared_session.specs.Steps.{is_on_session}
use Rattle.job_lines.specs.Owned.{own_step}

-- where it is not a fault, this holds of it
record Holds {A : Type 0} (P : A → Type 0) (r : Result A BadLine) : Type 0 where
  holds : (x : A) → r ≡ Ok x → P x

value_or : {A : Type 0} → A → Result A BadLine → A
value_or x (Ok y) = y
value_or x (Err fault) = x

kept : {A : Type 0} (P : A → Type 0) (x : A) → P x → Holds P (Ok x)
unfolding value_or
kept P x p = record { holds = λ y e. subst P (ap (value_or x) e) p }

none : {A : Type 0} (P : A → Type 0) (fault : BadLine) → Holds P (Err fault)
none P fault = record { holds = λ y e. absurd cc }

bound : {A B : Type 0} (P : B → Type 0) (r : Result A BadLine) (f : A → Result B BadLine) → ((x : A) → Holds P (f x)) → Holds P (r >>= f)
bound P (Ok x) f h = h x
bound P (Err fault) f h = none P fault

abbrev Works : Step → Type 0
Works s = is_on_session s ≡ true

put_works : (end : ℕ) (words : List WordAt) → Holds Works (put_line_of end words)
unfolding put_line_of
put_works end words =
    bound Works (take_word end words) _ (λ w. bound Works (object_of w.0) _ (λ object. bound Works (take_word end w.1) _ (λ v. bound Works (body_of_word v.0) _ (λ body. bound Works (fields_after Both no_fields v.1) _ (λ sides. kept Works (step.Put object body sides.request sides.response) refl)))))

get_works : (end : ℕ) (words : List WordAt) → Holds Works (get_of end words)
unfolding get_of
get_works end words =
    bound Works (take_word end words) _ (λ w. bound Works (object_of w.0) _ (λ object. bound Works (fields_after Request no_fields w.1) _ (λ sides. kept Works (step.Get object sides.request) refl)))

open_write_works : (end : ℕ) (words : List WordAt) → Holds Works (open_write_of end words)
unfolding open_write_of
open_write_works end words =
    bound Works (take_actor end words) _ (λ actor. bound Works (take_word end actor.1) _ (λ w. bound Works (object_of w.0) _ (λ object. bound Works (take_number (2 ^ 64) end w.1) _ (λ pin. bound Works (fields_after Both no_fields pin.1) _ (λ sides. kept Works (step.OpenWrite actor.0 object pin.0 sides.request sides.response) refl)))))

data_works : (end : ℕ) (words : List WordAt) → Holds Works (data_of end words)
unfolding data_of
data_works end words =
    bound Works (take_actor end words) _ (λ actor. bound Works (take_word end actor.1) _ (λ w. bound Works (body_of_word w.0) _ (λ body. bound Works (take_end w.1) _ (λ done. kept Works (step.Feed actor.0 body) refl))))

open_read_works : (end : ℕ) (words : List WordAt) → Holds Works (open_read_of end words)
unfolding open_read_of
open_read_works end words =
    bound Works (take_actor end words) _ (λ actor. bound Works (take_word end actor.1) _ (λ w. bound Works (object_of w.0) _ (λ object. bound Works (fields_after Request no_fields w.1) _ (λ sides. kept Works (step.OpenRead actor.0 object sides.request) refl))))

remove_works : (end : ℕ) (words : List WordAt) → Holds Works (remove_of end words)
unfolding remove_of
remove_works end words =
    bound Works (take_word end words) _ (λ w. bound Works (object_of w.0) _ (λ object. bound Works (take_end w.1) _ (λ done. kept Works (step.Remove object) refl)))

verb_works : (end : ℕ) (v : Verb) (words : List WordAt) → is_job_verb v ≡ true → Holds Works (step_by end v words)
verb_works end verb.Format words e = absurd cc
verb_works end verb.Now words e = absurd cc
verb_works end verb.Fail words e = absurd cc
verb_works end verb.StopAfter words e = absurd cc
verb_works end verb.Flip words e = absurd cc
verb_works end verb.Cut words e = absurd cc
verb_works end verb.Put words e = put_works end words
verb_works end verb.Get words e = get_works end words
verb_works end verb.OpenWrite words e = open_write_works end words
verb_works end verb.Data words e = data_works end words
verb_works end verb.Close words e = bound Works (only_actor end words) _ (λ actor. kept Works (step.Close actor) refl)
verb_works end verb.Abort words e = bound Works (only_actor end words) _ (λ actor. kept Works (step.Abort actor) refl)
verb_works end verb.OpenRead words e = open_read_works end words
verb_works end verb.Next words e = bound Works (only_actor end words) _ (λ actor. kept Works (step.Next actor) refl)
verb_works end verb.Done words e = bound Works (only_actor end words) _ (λ actor. kept Works (step.Done actor) refl)
verb_works end verb.Remove words e = remove_works end words
verb_works end verb.Flush words e = bound Works (take_end words) _ (λ done. kept Works step.Flush refl)

-- a verb whose step works on a session, or the fault
chosen_works : (end : ℕ) (w : WordAt) (v : Verb) (words : List WordAt) (b : Bool) → is_job_verb v ≡ b → Holds Works (if b then step_by end v words else Err (bad w.column kind.Verb))
chosen_works end w v words true e = verb_works end v words e
chosen_works end w v words false e = none Works _

named_works : (end : ℕ) (w : WordAt) (v : Option Verb) (words : List WordAt) → Holds Works (job_named end w v words)
named_works end w None words = none Works _
named_works end w (Some v) words = chosen_works end w v words (is_job_verb v) refl

step_works : (end : ℕ) (words : List WordAt) → Holds Works (job_step_of end words)
unfolding job_step_of
step_works end words = bound Works (take_word end words) _ (λ v. named_works end v.0 (verb_of v.0.bytes) v.1)

-- ---- the worker

abbrev InRange : ℕ → ℕ → Type 0
InRange workers n = (1 ≤ n) × (n ≤ workers)

ranged : (workers n : ℕ) (w : WordAt) (b : Bool) → ((n == 0) || nat_lt workers n) ≡ b → Holds (InRange workers) (if b then Err (bad w.column kind.Number) else Ok n)
ranged workers n w true e = none (InRange workers) _
ranged workers n w false e = kept (InRange workers) n (grind (arith, nat_tests), grind (arith, nat_tests))

worker_ranged : (workers : ℕ) (w : WordAt) → Holds (InRange workers) (worker_of workers w)
worker_ranged workers w = bound (InRange workers) (number_below (2 ^ 32) w) (in_range workers w) (λ n. ranged workers n w ((n == 0) || nat_lt workers n) refl)

-- ---- both

abbrev IsJob : ℕ → ℕ × Step → Type 0
IsJob workers asked = InRange workers asked.0 × Works asked.1

bound_so : {A B : Type 0} (Q : A → Type 0) (P : B → Type 0) (r : Result A BadLine) (f : A → Result B BadLine) → Holds Q r → ((x : A) → Q x → Holds P (f x)) → Holds P (r >>= f)
bound_so Q P (Ok x) f q h = h x (q.holds x refl)
bound_so Q P (Err fault) f q h = none P fault

job_is : (workers : ℕ) (line : List ℕ) → Holds (IsJob workers) (job_of workers line)
unfolding job_of
job_is workers line =
    bound (IsJob workers) (take_word (length line + 1) (words_from 1 line)) _ (λ w. bound_so (InRange workers) (IsJob workers) (worker_of workers w.0) _ (worker_ranged workers w.0)
    (λ worker within. bound_so Works (IsJob workers) (job_step_of (length line + 1) w.1) _ (step_works (length line + 1) w.1) (λ s works. kept (IsJob workers) (worker, s) (within, works))))

abbrev worker_in : JobLine → ℕ
worker_in (job.Job worker s) = worker
worker_in _ = 0

abbrev step_in : JobLine → Step
step_in (job.Job worker s) = s
step_in _ = step.Flush

answer_is : (workers : ℕ) (r : Result (ℕ × Step) BadLine) (worker : ℕ) (s : Step) → Holds (IsJob workers) r → job_answer r ≡ job.Job worker s → IsJob workers (worker, s)
answer_is workers (Ok asked) worker s h e = let is = h.holds asked refl in (
  subst (InRange workers) (ap worker_in e) is.0,
  subst Works (ap step_in e) is.1,
)
answer_is workers (Err fault) worker s h e = absurd cc

read_by : (workers : ℕ) (line : List ℕ) (b : Bool) (worker : ℕ) (s : Step) → (if b then job.Nothing else job_answer (job_of workers line)) ≡ job.Job worker s → IsJob workers (worker, s)
read_by workers line true worker s e = absurd cc
read_by workers line false worker s e = answer_is workers (job_of workers line) worker s (job_is workers line) e

-- the worker and the step of a line
pub reading_works : (workers : ℕ) (line : List ℕ) (worker : ℕ) (s : Step) → job_reading workers line ≡ job.Job worker s → (1 ≤ worker) × (worker ≤ workers) × (is_on_session s ≡ true)
unfolding job_reading
reading_works workers line worker s e = let h = read_by workers line (is_passed_over line) worker s e in (h.0.0, h.0.1, h.1)

-- a worker's own step works on a session too
pub own_works : (worker : ℕ) (s : Step) → is_on_session (own_step worker s) ≡ is_on_session s
own_works worker (step.Format name segments buckets content agg reach fragment generation alternates) = refl
own_works worker (step.Put key body request response) = refl
own_works worker (step.Get key request) = refl
own_works worker (step.OpenWrite actor object pin request response) = refl
own_works worker (step.Feed actor body) = refl
own_works worker (step.Close actor) = refl
own_works worker (step.Abort actor) = refl
own_works worker (step.OpenRead actor object request) = refl
own_works worker (step.Next actor) = refl
own_works worker (step.Done actor) = refl
own_works worker (step.Remove object) = refl
own_works worker step.Flush = refl
own_works worker (step.Now moment) = refl
own_works worker (step.Fail nth) = refl
own_works worker (step.StopAfter calls) = refl
own_works worker (step.Flip place byte) = refl
own_works worker (step.Cut choice) = refl
