-- One line more, and what it asks workers for.
use Rattle.std.proofs.Common.{◌≡◌, ℕ, zero, suc, ◌+◌, ◌==◌, ◌<◌, Bool, true, false, if◌then◌else◌, List, [], ◌∷◌, ◌++◌, length, Option, Some, None, refl, sym, ◌∙◌, ap, subst, map, slice_set, Vec, Global, get_or, arith, append-nil}
use Rattle.std.proofs.lemmas.Bool.Decides.{nat_tests}
use Rattle.script_grammar.specs.declared.step.Step.{Step}
use Rattle.script_lang.specs.declared.jobs.JobLine.{JobLine}
use Rattle.script_lang.specs.declared.jobs.JobLine.TheVariants as job
use Rattle.script_lang.specs.Jobs.{job_reading}
use Rattle.shared_steps.specs.declared.job.StepJob.{StepJob}
use Rattle.shared_session.specs.declared.step.JobStep.{JobStep}
use Rattle.job_lines.specs.Owned.{own_step}
use Rattle.job_lines.specs.Lanes.{AreBlank, AreJobLines, AreLanes, IsJobLine, Lane, first_job, first_with, lane_of, numbered, onto_steps, or_first, steps_for, with_job}

-- ---- numbers

numbered_length : (n : ℕ) (steps : List Step) → length (numbered n steps) ≡ length steps
numbered_length n [] = refl
numbered_length n (s ∷ steps) = ap suc (numbered_length (n + 1) steps)

numbered_more : (n : ℕ) (steps : List Step) (s : Step) → numbered n (steps ++ s ∷ []) ≡ numbered n steps ++ (n + length steps, s) ∷ []
numbered_more n [] s = let same : n ≡ n + 0 = omega arith in ap (λ (m : ℕ). (m, s) ∷ []) same
numbered_more n (t ∷ steps) s =
    let same : n + 1 + length steps ≡ n + suc (length steps) = omega arith in
    ap (λ (l : Lane). (n, t) ∷ l) (numbered_more (n + 1) steps s ∙ ap (λ (m : ℕ). numbered (n + 1) steps ++ (m, s) ∷ []) same)

-- ---- steps

onto_more : (worker : ℕ) (answer : JobLine) (xs ys : List Step) → onto_steps worker answer (xs ++ ys) ≡ onto_steps worker answer xs ++ ys
onto_more worker (job.Job other s) xs ys = by_case (other == worker)
  where
    by_case : (b : Bool) → (if b then own_step worker s ∷ (xs ++ ys) else (xs ++ ys)) ≡ (if b then own_step worker s ∷ xs else xs) ++ ys
    by_case true = refl
    by_case false = refl
onto_more worker job.Nothing xs ys = refl
onto_more worker (job.Bad fault) xs ys = refl

steps_more : (workers worker : ℕ) (lines : List (List ℕ)) (line : List ℕ) → steps_for workers worker (lines ++ line ∷ []) ≡ steps_for workers worker lines ++ onto_steps worker (job_reading workers line) []
steps_more workers worker [] line = refl
steps_more workers worker (l ∷ lines) line =
    ap (onto_steps worker (job_reading workers l)) (steps_more workers worker lines line)
    ∙ onto_more worker (job_reading workers l) (steps_for workers worker lines) (onto_steps worker (job_reading workers line) [])

onto_own : (worker other : ℕ) (s : Step) → other ≡ worker → onto_steps worker (job.Job other s) [] ≡ own_step other s ∷ []
onto_own worker other s e = subst (λ (w : ℕ). onto_steps w (job.Job other s) [] ≡ own_step other s ∷ []) e (by_case (other == other) (grind (arith, nat_tests)))
  where
    by_case : (b : Bool) → b ≡ true → (if b then own_step other s ∷ [] else []) ≡ own_step other s ∷ []
    by_case true e = refl
    by_case false e = absurd cc

onto_other : (worker other : ℕ) (s : Step) → (other ≡ worker → ⊥) → onto_steps worker (job.Job other s) [] ≡ []
onto_other worker other s differ = by_case (other == worker) (grind (arith, nat_tests, differ))
  where
    by_case : (b : Bool) → b ≡ false → (if b then own_step worker s ∷ [] else []) ≡ []
    by_case true e = absurd cc
    by_case false e = refl

-- the steps of a worker whom a line asks for nothing
module _ (workers : ℕ) (lines : List (List ℕ)) (line : List ℕ) where
  same_steps : (worker : ℕ) → onto_steps worker (job_reading workers line) [] ≡ [] → steps_for workers worker (lines ++ line ∷ []) ≡ steps_for workers worker lines
  same_steps worker none = steps_more workers worker lines line ∙ (ap (λ (l : List Step). steps_for workers worker lines ++ l) none ∙ append-nil (steps_for workers worker lines))

  same_lanes : (k : ℕ) (lanes : List Lane) → ((worker : ℕ) → k < suc worker → onto_steps worker (job_reading workers line) [] ≡ []) → AreLanes workers k lines lanes → AreLanes workers k (lines ++ line ∷ []) lanes
  same_lanes k [] none all = tt
  same_lanes k (lane ∷ lanes) none all = (
    all.0 ∙ ap (numbered 1) (sym (same_steps k (none k (omega arith)))),
    same_lanes (suc k) lanes (λ worker above. none worker (omega arith)) all.1,
  )

  -- a line that is none
  pub lanes_passed : (k : ℕ) (lanes : List Lane) → job_reading workers line ≡ job.Nothing → AreLanes workers k lines lanes → AreLanes workers k (lines ++ line ∷ []) lanes
  lanes_passed k lanes is all = same_lanes k lanes (λ worker above. ap (λ (a : JobLine). onto_steps worker a []) is) all

  module _ (w : ℕ) (s : Step) (is : job_reading workers line ≡ job.Job w s) where
    others : (worker : ℕ) → (w ≡ worker → ⊥) → onto_steps worker (job_reading workers line) [] ≡ []
    others worker differ = ap (λ (a : JobLine). onto_steps worker a []) is ∙ onto_other worker w s differ

    own_lane : (lane : Lane) → lane ≡ numbered 1 (steps_for workers w lines) → lane ++ (length lane + 1, own_step w s) ∷ [] ≡ numbered 1 (steps_for workers w (lines ++ line ∷ []))
    own_lane lane e =
        let steps = steps_for workers w lines in
        let count : length lane + 1 ≡ 1 + length steps = omega (arith, ap length e, numbered_length 1 steps) in
        let own : steps_for workers w (lines ++ line ∷ []) ≡ steps ++ own_step w s ∷ [] =
        steps_more workers w lines line ∙ ap (λ (l : List Step). steps ++ l) (ap (λ (a : JobLine). onto_steps w a []) is ∙ onto_own w w s refl) in
        ap (λ (n : ℕ). lane ++ (n, own_step w s) ∷ []) count
        ∙ (ap (λ (l : Lane). l ++ (1 + length steps, own_step w s) ∷ []) e ∙ (sym (numbered_more 1 steps (own_step w s)) ∙ ap (numbered 1) (sym own)))

    -- a job goes to its worker
    pub lanes_more : (d k : ℕ) (lanes : List Lane) → w ≡ k + d → AreLanes workers k lines lanes → AreLanes workers k (lines ++ line ∷ []) (with_job d (own_step w s) lanes)
    lanes_more zero k [] at all = tt
    lanes_more (suc d) k [] at all = tt
    lanes_more zero k (lane ∷ lanes) at all =
        let same : w ≡ k = omega (arith, at) in (
          subst (λ (n : ℕ). lane ++ (length lane + 1, own_step w s) ∷ [] ≡ numbered 1 (steps_for workers n (lines ++ line ∷ []))) same
              (own_lane lane (subst (λ (n : ℕ). lane ≡ numbered 1 (steps_for workers n lines)) (sym same) all.0)),
          same_lanes (suc k) lanes (λ worker above. others worker (λ e. absurd (omega (arith, e, same, above)))) all.1,
        )
    lanes_more (suc d) k (lane ∷ lanes) at all = (
      all.0 ∙ ap (numbered 1) (sym (same_steps k (others k (λ e. absurd (omega (arith, e, at)))))),
      lanes_more d (suc k) lanes (omega (arith, at)) all.1,
    )

-- before the first line
pub lanes_blank : (workers k : ℕ) (lanes : List Lane) → AreBlank lanes → AreLanes workers k [] lanes
lanes_blank workers k [] blank = tt
lanes_blank workers k (lane ∷ lanes) blank = (blank.0, lanes_blank workers (suc k) lanes blank.1)

pub blank_more : (lanes : List Lane) (lane : Lane) → lane ≡ [] → AreBlank lanes → AreBlank (lanes ++ lane ∷ [])
blank_more [] lane e blank = (e, tt)
blank_more (l ∷ lanes) lane e blank = (blank.0, blank_more lanes lane e blank.1)

-- ---- the first job

first_passed_by : (n : ℕ) (answer : JobLine) (later : Option ℕ) → answer ≡ job.Nothing → first_with n answer later ≡ later
first_passed_by n (job.Job worker s) later e = absurd cc
first_passed_by n job.Nothing later e = refl
first_passed_by n (job.Bad fault) later e = refl

pub first_passed : (workers n : ℕ) (lines : List (List ℕ)) (line : List ℕ) → job_reading workers line ≡ job.Nothing → first_job workers n (lines ++ line ∷ []) ≡ first_job workers n lines
first_passed workers n [] line e = first_passed_by (n + 1) (job_reading workers line) None e
first_passed workers n (l ∷ lines) line e = ap (first_with (n + 1) (job_reading workers l)) (first_passed workers (n + 1) lines line e)

first_job_by : (n : ℕ) (answer : JobLine) (worker : ℕ) (s : Step) → answer ≡ job.Job worker s → first_with n answer None ≡ Some n
first_job_by n (job.Job w t) worker s e = refl
first_job_by n job.Nothing worker s e = absurd cc
first_job_by n (job.Bad fault) worker s e = absurd cc

or_with : (n m : ℕ) (answer : JobLine) (later : Option ℕ) → first_with n answer (or_first later m) ≡ or_first (first_with n answer later) m
or_with n m (job.Job worker s) later = refl
or_with n m job.Nothing later = refl
or_with n m (job.Bad fault) later = refl

pub first_more : (workers n m : ℕ) (lines : List (List ℕ)) (line : List ℕ) (worker : ℕ) (s : Step) → m ≡ n + length lines + 1 → job_reading workers line ≡ job.Job worker s
    → first_job workers n (lines ++ line ∷ []) ≡ or_first (first_job workers n lines) m
first_more workers n m [] line worker s at e =
    let same : n + 1 ≡ m = omega (arith, at) in first_job_by (n + 1) (job_reading workers line) worker s e ∙ ap Some same
first_more workers n m (l ∷ lines) line worker s at e =
    ap (first_with (n + 1) (job_reading workers l)) (first_more workers (n + 1) m lines line worker s (omega (arith, at)) e)
    ∙ or_with (n + 1) m (job_reading workers l) (first_job workers (n + 1) lines)

-- ---- lines in the grammar

pub jobs_more : (workers : ℕ) (lines : List (List ℕ)) (line : List ℕ) → AreJobLines workers lines → IsJobLine (job_reading workers line) → AreJobLines workers (lines ++ line ∷ [])
jobs_more workers [] line all last = (last, tt)
jobs_more workers (l ∷ lines) line all last = (all.0, jobs_more workers lines line all.1 last)

-- ---- vectors of lanes

-- one lane more is empty
pub blank_push : (lanes : List (Vec (StepJob JobStep) Global)) (lane : Vec (StepJob JobStep) Global) → lane.items ≡ [] → AreBlank (map lane_of (map (λ l. l.items) lanes))
    → AreBlank (map lane_of (map (λ l. l.items) (lanes ++ lane ∷ [])))
blank_push [] lane e blank = (ap lane_of e, tt)
blank_push (l ∷ lanes) lane e blank = (blank.0, blank_push lanes lane e blank.1)

-- a lane takes a job more
lane_more : (xs : List (StepJob JobStep)) (j : StepJob JobStep) → lane_of (xs ++ j ∷ []) ≡ lane_of xs ++ (j.number, j.step.step) ∷ []
lane_more [] j = refl
lane_more (x ∷ xs) j = ap (λ (l : Lane). (x.number, x.step.step) ∷ l) (lane_more xs j)

lane_length : (xs : List (StepJob JobStep)) → length (lane_of xs) ≡ length xs
lane_length [] = refl
lane_length (x ∷ xs) = ap suc (lane_length xs)

pub given : (lanes : List (Vec (StepJob JobStep) Global)) (place : ℕ) (old new : Vec (StepJob JobStep) Global) (j : StepJob JobStep) → place < length lanes → old ≡ get_or lanes place old
    → new.items ≡ old.items ++ j ∷ [] → j.number ≡ length old.items + 1
    → map lane_of (map (λ l. l.items) (slice_set lanes place new)) ≡ with_job place j.step.step (map lane_of (map (λ l. l.items) lanes))
given [] place old new j within at grown number = absurd (omega arith)
given (l ∷ lanes) zero old new j within at grown number =
    ap (λ (x : Lane). x ∷ map lane_of (map (λ l. l.items) lanes))
    (ap lane_of grown ∙ (lane_more old.items j ∙ (ap (λ (n : ℕ). lane_of old.items ++ (n, j.step.step) ∷ []) (number ∙ ap (λ (n : ℕ). n + 1) (sym (lane_length old.items)))
    ∙ ap (λ (v : Vec (StepJob JobStep) Global). lane_of v.items ++ (length (lane_of v.items) + 1, j.step.step) ∷ []) at)))
given (l ∷ lanes) (suc place) old new j within at grown number = ap (λ (x : List Lane). lane_of l.items ∷ x) (given lanes place old new j (omega arith) at grown number)
