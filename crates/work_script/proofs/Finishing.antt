-- What a run of `work` concludes once its device came back.
use Rattle.std.proofs.Common.{◌≡◌, ℕ, suc, ◌+◌, ◌<◌, ◌≤◌, List, [], ◌∷◌, length, map, Option, None, Some, Vec, Global, sym, ◌∙◌, subst, inl, inr, arith}
use Rattle.std.specs.Prelude.{IfSome, option_map}
use Rattle.std.proofs.lemmas.Bool.Decides.{eqb_tells}
use Rattle.device_log.specs.Streams.{SourceRead, SinkWrite}
use Rattle.device_bay.specs.Calls.{BayCall}
use Rattle.cache_calls.specs.declared.calls.Calls.{Ghosts as CallsGhosts}
use Rattle.script_run.specs.Run.{Harm, loosened}
use Rattle.script_run.specs.Ledger.{AreReached, ComeBack, Deals, Ledger, ledger_behind}
use Rattle.logged_disk.specs.declared.device.Disk.{Ghosts as DiskGhosts}
use Rattle.cache_replay.specs.declared.session.Replay.{Replay}
use Rattle.cache_replay.specs.Replay.{IsReplay, devices_in, returns_in, IsOutlined, PlaysOn}
use Rattle.cache_replay.specs.Session.{AreLater}
use Rattle.cache_replay.proofs.Outlines.{reached_later}
use Rattle.run_promise.specs.declared.status.Status.{Status}
use Rattle.run_promise.specs.Story.{DevicesTold, IsReadThrough, Owes, OwesOrGave, Refusals, SendsAll, own_loosened}
use Rattle.run_promise.specs.Top.{EachBack, EachBackOrMore}
use Rattle.run_script.specs.declared.run.Ending.{Ending}
use Rattle.run_script.specs.Ending.{IsOfRun}
use Rattle.run_script.proofs.Ends.{gave_settled, still, wants_settled}
use Rattle.run_script.proofs.Halts.{Took-kept, plays_reach}
use Rattle.run_script.proofs.Stories.{Deals-settled}
use Rattle.job_lines.specs.Lanes.{AreLanes, Lane, numbered, steps_for}
use Rattle.work_script.specs.Before.{EndsBy}
use Rattle.work_script.specs.Turns.{WorkTurn, jobs_under, turns_in}
use Rattle.work_script.specs.Jobs.{AnswersOn, AreJobsOf, AreWorkers, RunsOn}
use Rattle.work_script.specs.Taking.{AreUnder, TakesTurns}
use Rattle.work_script.specs.Ending.{AreDone, ComesToJobs, ConcludesWork, HasJobs, WantsInTurns, WorkBecause}
use Rattle.work_script.specs.Printing.{SaysTurns}
use Rattle.work_script.proofs.Rows.{Row}
use Rattle.work_script.proofs.Ending.{ends_with}
use Rattle.work_script.proofs.Running.{answers_on, runs_on}
use Rattle.work_script.proofs.Concluding.{concludes_turns, story_on}

-- ---- the jobs of workers

each_lane : (workers : ℕ) (lines : List (List ℕ)) (turns : List WorkTurn) (k : ℕ) (lanes : List Lane) → AreLanes workers k lines lanes → AreUnder k lanes turns
    → (worker : ℕ) → k ≤ worker → worker < k + length lanes → jobs_under worker turns ≡ numbered 1 (steps_for workers worker lines)
each_lane workers lines turns k [] all under worker low high = absurd (omega (arith, low, high))
each_lane workers lines turns k (lane ∷ lanes) all under worker low high = elim (eqb_tells k worker) [
  | inl same ↦ subst (λ (n : ℕ). jobs_under n turns ≡ numbered 1 (steps_for workers n lines)) same.1 (under.0 ∙ all.0)
  | inr other ↦ each_lane workers lines turns (suc k) lanes all.1 under.1 worker (omega (arith, low, other.1)) (omega (arith, high))
]

jobs_are : (workers : ℕ) (lines : List (List ℕ)) (turns : List WorkTurn) (lanes : List Lane) → length lanes ≡ workers → AreLanes workers 1 lines lanes → AreUnder 1 lanes turns → AreWorkers workers turns → AreJobsOf workers lines turns
jobs_are workers lines turns lanes many all under each = record {
  each = λ worker low high. each_lane workers lines turns 1 lanes all under worker low (omega (arith, high, many));
  no_others = each;
}

has_with : (workers given : ℕ) (held : List ℕ) (Here Here' : List (List ℕ) → List ℕ → ℕ → Type 0) → ((lines : List (List ℕ)) (unread : List ℕ) (count : ℕ) → Here lines unread count → Here' lines unread count)
    → HasJobs workers given held Here → HasJobs workers given held Here'
has_with workers given held Here Here' f h = record {
  bytes = h.bytes;
  splits = h.splits;
  lines = h.lines;
  unread = h.unread;
  all = h.all;
  each = h.each;
  within = h.within;
  jobs = h.jobs;
  here = f h.lines h.unread (given + 1 + length h.lines) h.here;
}

-- ---- the session's device came back

module _ {D S W R : Type 0} {d : DiskGhosts D} {c : CallsGhosts S W R} (workers : ℕ) (first read : List SourceRead) (old mid new : List SinkWrite) (bay : Refusals) (before closed : Ledger) (past : List BayCall) (last : Replay D S W R d c) (is_last : IsReplay last)
    (back : (harms : List Harm) → AreReached harms (returns_in last) → ComeBack (ledger_behind past).returned closed.returned harms) (names : closed.names ≡ (ledger_behind past).names) where
  -- a run that ended before its jobs were done
  pub finish_early : (e : Ending) → IsOfRun e
      → EndsBy (WorkBecause workers bay read) first read old mid (Owes before (ledger_behind past) (λ harms. AreReached harms (returns_in last))) (OwesOrGave before (ledger_behind past) (devices_in last) (λ harms. AreReached harms (returns_in last))) e
      → EndsBy (WorkBecause workers bay read) first read old mid (EachBack before closed) (EachBackOrMore before closed) e
  finish_early e begun ends =
      let settle : (t : DevicesTold) → Owes before (ledger_behind past) (λ harms. AreReached harms (returns_in last)) t → EachBack before closed t =
      λ t owes. Deals-settled _ _ _ t.ended _ t.names owes.deals (back t.own owes.reached) names in
      ends_with (WorkBecause workers bay read) (WorkBecause workers bay read) (λ held given o w b. b) first read old mid (Owes before (ledger_behind past) (λ harms. AreReached harms (returns_in last))) (EachBack before closed)
      (OwesOrGave before (ledger_behind past) (devices_in last) (λ harms. AreReached harms (returns_in last))) (EachBackOrMore before closed) settle
      (λ held given t. wants_settled before _ closed _ _ held given t settle (λ none gave. gave_settled last _ _ _ held given t back names none gave)) e ends

  module _ (session : Replay D S W R d c) (is : IsReplay session) (same : last.bare ≡ session.bare) (lanes : List Lane)
      (comes : ComesToJobs workers first old before read mid (ledger_behind past) (λ o. IsOutlined o session) (λ run. PlaysOn run session) lanes) where
    -- what holds of the replay before them holds beside what is bare behind them
    beside_last : (P : Replay D S W R d c → Type 0) → P session → P (record { session = session.session; bare = last.bare })
    beside_last P h = subst (λ b. P (record { session = session.session; bare = b })) (sym same) h

    -- or behind them
    pub finish_turns : (turns : List WorkTurn) → length lanes ≡ workers → TakesTurns session.session turns last.session → AreUnder 1 lanes turns → AreWorkers workers turns
        → (s : Status) → SaysTurns mid new (Some turns) s → ConcludesWork workers first read old new bay before closed s
    finish_turns turns many takes under each s says =
        let settle : (t : DevicesTold) → Deals before (ledger_behind past) t.ended t.names → AreReached t.own (returns_in last) → EachBack before closed t =
        λ t deals reached. Deals-settled _ _ _ t.ended _ t.names deals (back t.own reached) names in
        let done : AreDone workers comes.given comes.held read turns =
        has_with workers comes.given comes.held _ _ (λ lines unread count here. (here.0, jobs_are workers lines turns lanes many here.1 under each)) comes.jobs in
        concludes_turns workers first read old mid new bay before closed comes.held comes.given turns done
        (story_on first read comes.held comes.given (SendsAll old mid) (SendsAll old mid) (λ t. Deals before (ledger_behind past) t.ended t.names) (λ o. IsOutlined o session) (λ o. AnswersOn o turns (EachBack before closed))
        (λ run. PlaysOn run session) (λ run. RunsOn run turns (EachBack before closed)) (λ out all text. text)
        (λ o deals out. answers_on before past last.bare last.session is_last (EachBack before closed) settle turns session.session o (beside_last IsReplay is) takes (beside_last (IsOutlined o) out) deals)
        (λ run deals plays. runs_on before past last.bare last.session is_last (EachBack before closed) settle turns session.session run (beside_last IsReplay is) takes (beside_last (PlaysOn run) plays) deals) comes.goes) s says

    -- or memory was wanting for a turn
    pub finish_short : AreLater (returns_in session) (returns_in last) → new ≡ mid → WantsInTurns workers first read old new before closed
    finish_short later keeps = record {
      held = comes.held;
      given = comes.given;
      story = still first read old mid before (ledger_behind past) comes.held comes.given _ _ (λ harms. AreReached harms (returns_in session)) 0 (λ o out. out.reached) (plays_reach session is) comes.goes
          (SendsAll old new) (λ t. EachBack before closed (own_loosened t)) (λ o. HasJobs workers comes.given comes.held (λ lines unread count. IsReadThrough read unread)) (Took-kept old mid new _ comes.goes.text keeps)
          (λ t deals reached. Deals-settled _ _ _ t.ended _ t.names deals (back (map loosened t.own) (reached_later t.own (returns_in session) (returns_in last) later reached)) names)
          (λ o out. has_with workers comes.given comes.held _ _ (λ lines unread count here. here.0) comes.jobs);
    }

    -- whichever it was
    pub finish : (rows : Option (Vec Row Global)) → length lanes ≡ workers → IfSome rows (λ all. TakesTurns session.session (turns_in all.items) last.session) → IfSome rows (λ all. AreUnder 1 lanes (turns_in all.items))
        → IfSome rows (λ all. AreWorkers workers (turns_in all.items)) → AreLater (returns_in session) (returns_in last) → (s : Status) → SaysTurns mid new (option_map (λ all. turns_in all.items) rows) s
        → ConcludesWork workers first read old new bay before closed s
    finish None many takes under each later s says =
        subst (ConcludesWork workers first read old new bay before closed) (sym says.0) (inr (inl (finish_short later says.1)))
    finish (Some all) many takes under each later s says = finish_turns (turns_in all.items) many takes under each s says
