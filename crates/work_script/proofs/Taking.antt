-- Rows of a shared session are turns that take steps, and those under each number are the jobs of its worker.
use Rattle.std.proofs.Common.{◌≡◌, ℕ, suc, ◌+◌, ◌==◌, ◌<◌, Bool, true, false, cond, eqb, if◌then◌else◌, List, [], ◌∷◌, ◌++◌, length, map, Result, refl, sym, ◌∙◌, ap, subst, arith, inl, inr, append-nil}
use Rattle.std.proofs.lemmas.Bool.{eq-eqb}
use Rattle.std.proofs.lemmas.Bool.Decides.{eqb_tells}
use Rattle.cache_calls.specs.declared.calls.Calls.{Ghosts as CallsGhosts}
use Rattle.script_grammar.specs.declared.step.Step.{Step}
use Rattle.script_grammar.specs.declared.answer.StepAnswer.{StepAnswer}
use Rattle.cache_replay.specs.declared.stop.Stop.{Stop}
use Rattle.cache_replay.specs.OneLine.{AnswersLine}
use Rattle.stripe_lock.specs.declared.view.StripeTurn.{StripeTurn}
use Rattle.stripe_lock.specs.History.{AreBelow}
use Rattle.lock_workers.specs.Jobs.{AreJobsFrom, AreTurnsOf, turns_under}
use Rattle.lock_workers.specs.Workers.{AreFronts, IsShared}
use Rattle.shared_steps.specs.declared.job.StepJob.{StepJob}
use Rattle.shared_steps.specs.declared.shared.StepRow.{StepRow}
use Rattle.shared_steps.specs.declared.shared.Taken.{Taken}
use Rattle.shared_steps.specs.declared.shared.Taken.TheVariants.{Said, Stopped, Left}
use Rattle.shared_steps.specs.declared.shared.StepRecord.{StepRecord}
use Rattle.shared_steps.specs.declared.shared.StepRecord.TheVariants.{Took}
use Rattle.shared_steps.specs.Histories.{Goes, TakesOwn, records_of, turn_of, turns_of}
use Rattle.shared_steps.specs.Orders.{StepFits, step_number}
use Rattle.shared_session.specs.declared.session.SharedSession.{SharedSession}
use Rattle.shared_session.specs.declared.step.JobStep.{JobStep}
use Rattle.job_lines.specs.Lanes.{Lane, lane_of}
use Rattle.work_script.specs.Turns.{AreSaid, IsSaid, WorkTurn, jobs_under, turn_in, turns_in}
use Rattle.work_script.specs.Jobs.{AreWorkers}
use Rattle.work_script.specs.Taking.{AreUnder, TakesTurns}

abbrev Row : Type 0
Row = StepRow JobStep StepAnswer Stop

-- ---- whose turns they are

-- the jobs of a worker, by its number from 0
row_jobs : (n : ℕ) (rows : List Row) → Lane
row_jobs n [] = []
row_jobs n (r ∷ rows) = cond (eqb r.worker n) ((r.job, r.step.value.step) ∷ row_jobs n rows) (row_jobs n rows)

by_worker : (a b : Bool) (j : ℕ × Step) (xs ys : Lane) → a ≡ b → xs ≡ ys → (if a then j ∷ xs else xs) ≡ cond b (j ∷ ys) ys
by_worker true true j xs ys e same = ap (λ (l : Lane). j ∷ l) same
by_worker true false j xs ys e same = absurd cc
by_worker false true j xs ys e same = absurd cc
by_worker false false j xs ys e same = same

eqb_more : (m n : ℕ) → (m + 1 == n + 1) ≡ eqb m n
eqb_more m n = elim (eqb_tells m n) [
  | inl h ↦ eq-eqb (m + 1) (n + 1) (ap (λ (k : ℕ). k + 1) h.1) ∙ sym h.0
  | inr h ↦ elim (eqb_tells (m + 1) (n + 1)) [
    | inl k ↦ absurd (h.1 (omega (arith, k.1)))
    | inr k ↦ k.0 ∙ sym h.0
  ]
]

under_row : (n : ℕ) (r : Row) (taken : Taken StepAnswer Stop) (turns : List WorkTurn) (rest : Lane) → IsSaid taken → jobs_under (n + 1) turns ≡ rest
    → jobs_under (n + 1) (turn_in r.worker r.job r.step.value.step taken turns) ≡ cond (eqb r.worker n) ((r.job, r.step.value.step) ∷ rest) rest
under_row n r (Said answer) turns rest ok same = by_worker (r.worker + 1 == n + 1) (eqb r.worker n) (r.job, r.step.value.step) (jobs_under (n + 1) turns) rest (eqb_more r.worker n) same
under_row n r (Stopped why) turns rest ok same = absurd ok
under_row n r Left turns rest ok same = absurd ok

under_rows : (n : ℕ) (rows : List Row) → AreSaid rows → jobs_under (n + 1) (turns_in rows) ≡ row_jobs n rows
unfolding row_jobs
under_rows n [] said = refl
under_rows n (r ∷ rows) said = under_row n r r.taken (turns_in rows) (row_jobs n rows) said.0 (under_rows n rows said.1)

whole : (dones jobs : List (List (StepJob JobStep))) → AreFronts false dones jobs → dones ≡ jobs
whole [] [] all = refl
whole [] (js ∷ jobs) all = absurd all
whole (d ∷ dones) [] all = absurd all
whole (d ∷ dones) (js ∷ jobs) all =
    let same : js ≡ d = all.0.split ∙ (ap (λ (l : List (StepJob JobStep)). d ++ l) (all.0.whole refl) ∙ append-nil d) in
    ap (λ (l : List (StepJob JobStep)). l ∷ dones) (sym same) ∙ ap (λ (l : List (List (StepJob JobStep))). js ∷ l) (whole dones jobs all.1)

worker_row : (n : ℕ) (r : Row) (taken : Taken StepAnswer Stop) (turns : List WorkTurn) → IsSaid taken → r.worker < n → AreWorkers n turns → AreWorkers n (turn_in r.worker r.job r.step.value.step taken turns)
worker_row n r (Said answer) turns ok below rest = (omega arith, omega (arith, below), rest)
worker_row n r (Stopped why) turns ok below rest = absurd ok
worker_row n r Left turns ok below rest = absurd ok

module _ {S W R : Type 0} (c : CallsGhosts S W R) where
  abbrev Rec' : Type 0
  Rec' = StepRecord (SharedSession S W R c) JobStep StepAnswer Stop

  abbrev Takes : SharedSession S W R c → JobStep → SharedSession S W R c → Result StepAnswer Stop → Type 0
  Takes old job new result = AnswersLine job.step old.session new.session result

  abbrev Turns : List Row → List (StripeTurn Rec')
  Turns rows = turns_of rows

  -- ---- what the rows took

  taken_row : (r : Row) (taken : Taken StepAnswer Stop) (rest : List Rec') (turns : List WorkTurn) (old new : SharedSession S W R c) → IsSaid taken
      → ((mid : SharedSession S W R c) → Goes Takes mid rest new → TakesTurns mid.session turns new.session) → Goes Takes old (Took r.step.value taken ∷ rest) new
      → TakesTurns old.session (turn_in r.worker r.job r.step.value.step taken turns) new.session
  taken_row r (Said answer) rest turns old new ok next goes = (goes.0.session, r.step.value.needs, goes.1, next goes.0 goes.2)
  taken_row r (Stopped why) rest turns old new ok next goes = absurd ok
  taken_row r Left rest turns old new ok next goes = absurd ok

  pub takes_turns : (rows : List Row) (old new : SharedSession S W R c) → AreSaid rows → Goes Takes old (records_of (Turns rows)) new → TakesTurns old.session (turns_in rows) new.session
  takes_turns [] old new said goes = ap (λ (s : SharedSession S W R c). s.session) goes
  takes_turns (r ∷ rows) old new said goes = taken_row r r.taken (records_of (Turns rows)) (turns_in rows) old new said.0 (λ mid g. takes_turns rows mid new said.1 g) goes

  -- ---- a row's step is that of the job whose turn it is

  module _ (chronicle : List Rec') (all : List (StripeTurn Rec')) where
    abbrev AreOf : List (StepJob JobStep) → List (StripeTurn Rec') → Type 0
    AreOf = AreTurnsOf step_number StepFits chronicle all

    step_of : JobStep → List Rec' → JobStep
    step_of or (Took s t ∷ l) = s
    step_of or _ = or

    same_step : (r : Row) (j : StepJob JobStep) → TakesOwn j.step (turn_of {S = SharedSession S W R c} r) → r.step.value ≡ j.step
    unfolding step_of
    same_step r j own = ap (step_of r.step.value) own.records

    job_row : (b : Bool) (r : Row) (rest : Lane) (turns : List (StripeTurn Rec')) (jobs : List (StepJob JobStep)) → ((js : List (StepJob JobStep)) → AreOf js turns → rest ≡ lane_of js) → AreOf jobs (cond b (turn_of r ∷ turns) turns)
        → cond b ((r.job, r.step.value.step) ∷ rest) rest ≡ lane_of jobs
    job_row true r rest turns [] next are = absurd are
    job_row true r rest turns (j ∷ jobs) next are =
        ap (λ (m : ℕ). (m, r.step.value.step) ∷ rest) are.0.number_is
        ∙ (ap (λ (s : JobStep). (j.number, s.step) ∷ rest) (same_step r j are.0.fit) ∙ ap (λ (l : Lane). (j.number, j.step.step) ∷ l) (next jobs are.1))
    job_row false r rest turns jobs next are = next jobs are

    under_jobs : (n : ℕ) (rows : List Row) (jobs : List (StepJob JobStep)) → AreOf jobs (turns_under n (Turns rows)) → row_jobs n rows ≡ lane_of jobs
    unfolding row_jobs
    under_jobs n [] [] are = refl
    under_jobs n [] (j ∷ jobs) are = absurd are
    under_jobs n (r ∷ rows) jobs are = job_row (eqb r.worker n) r (row_jobs n rows) (turns_under n (Turns rows)) jobs (λ js a. under_jobs n rows js a) are

  under_all : (chronicle : List Rec') (k : ℕ) (rows : List Row) (jobs : List (List (StepJob JobStep))) → AreSaid rows → AreJobsFrom step_number StepFits chronicle (Turns rows) k jobs → AreUnder (suc k) (map lane_of jobs) (turns_in rows)
  under_all chronicle k rows [] said are = tt
  under_all chronicle k rows (js ∷ jobs) said are =
      let next : k + 1 ≡ suc k = omega arith in (
        subst (λ (n : ℕ). jobs_under n (turns_in rows) ≡ lane_of js) next (under_rows k rows said ∙ under_jobs chronicle (Turns rows) k rows js are.0),
        under_all chronicle (suc k) rows jobs said are.1,
      )

  pub are_under : (chronicle : List Rec') (rows : List Row) (jobs : List (List (StepJob JobStep))) (short : Bool) → short ≡ false → AreSaid rows
      → IsShared step_number StepFits chronicle (Turns rows) jobs short → AreUnder 1 (map lane_of jobs) (turns_in rows)
  are_under chronicle rows jobs short none said shared =
      let dones : shared.dones ≡ jobs = whole shared.dones jobs (subst (λ (b : Bool). AreFronts b shared.dones jobs) none shared.fronts) in
      under_all chronicle 0 rows jobs said (subst (λ (l : List (List (StepJob JobStep))). AreJobsFrom step_number StepFits chronicle (Turns rows) 0 l) dones shared.each)

  below_workers : (n : ℕ) (rows : List Row) → AreSaid rows → AreBelow n (Turns rows) → AreWorkers n (turns_in rows)
  below_workers n [] said below = tt
  below_workers n (r ∷ rows) said below = worker_row n r r.taken (turns_in rows) said.0 below.0 (below_workers n rows said.1 below.1)

  pub are_workers : (chronicle : List Rec') (rows : List Row) (jobs : List (List (StepJob JobStep))) (short : Bool) (n : ℕ) → n ≡ length jobs → AreSaid rows
      → IsShared step_number StepFits chronicle (Turns rows) jobs short → AreWorkers n (turns_in rows)
  are_workers chronicle rows jobs short n many said shared =
      below_workers n rows said (subst (λ (m : ℕ). AreBelow m (Turns rows)) (sym many) shared.no_others)
