-- The turns of a session that plays a run are steps of that run.
use Rattle.std.proofs.Common.{◌≡◌, ℕ, true, List, [], ◌∷◌, ◌++◌, Ok, Option, refl, sym, subst, inl, inr}
use Rattle.cache_calls.specs.declared.calls.Calls.{Ghosts as CallsGhosts}
use Rattle.device_bay.specs.Calls.{BayCall}
use Rattle.script_grammar.specs.declared.step.Step.{Step}
use Rattle.script_grammar.specs.declared.answer.StepAnswer.{StepAnswer}
use Rattle.script_run.specs.Run.{Harm, Run}
use Rattle.script_run.specs.Behind.{after_step, with_calls_of}
use Rattle.script_run.specs.Ledger.{AreReached, Deals, Ledger, ledger_behind}
use Rattle.logged_disk.specs.declared.device.Disk.{Ghosts as DiskGhosts}
use Rattle.cache_replay.specs.declared.session.Bare.{Bare}
use Rattle.cache_replay.specs.declared.session.Replay.{Replay}
use Rattle.cache_replay.specs.declared.session.Session.{Session}
use Rattle.cache_replay.specs.Replay.{IsReplay, returns_in, IsOutlined, Outlines, PlaysOn}
use Rattle.cache_replay.specs.OneLine.{AnswersLine}
use Rattle.cache_replay.specs.Deals.{AnswersStep}
use Rattle.cache_replay.proofs.Dispatch.{line_step, of_no_switch, silent_line, works_on}
use Rattle.run_promise.specs.Outline.{Outline, doubted, outline_after, outline_in}
use Rattle.run_promise.specs.Story.{DevicesTold, told_by, told_by_records}
use Rattle.run_script.proofs.Halts.{plays_reach}
use Rattle.run_script.proofs.Stories.{Deals-trans}
use Rattle.shared_session.specs.Steps.{is_on_session}
use Rattle.shared_session.proofs.Needs.{needs_of, not_of_switch}
use Rattle.work_script.specs.Turns.{WorkTurn}
use Rattle.work_script.specs.Jobs.{AnswersOn, RunsOn}
use Rattle.work_script.specs.Taking.{TakesTurns}

-- the same devices and names with more behind them
deals_with : (a b : Ledger) (ended more all : List Harm) (names others called : List (List ℕ)) → all ≡ ended ++ more → called ≡ names ++ others → Deals a b ended names → Deals b b more others → Deals a b all called
deals_with a b ended more all names others called e n first second =
    subst (λ (l : List Harm). Deals a b l called) (sym e) (subst (λ (l : List (List ℕ)). Deals a b (ended ++ more) l) (sym n) (Deals-trans a b b ended more names others first second))

module _ {D S W R : Type 0} {d : DiskGhosts D} {c : CallsGhosts S W R} (first : Ledger) (past : List BayCall) (bare : Option (Bare D d)) where
  -- a session, and what is bare beside it
  abbrev pub beside : Session S W R c → Replay D S W R d c
  beside session = record { session = session; bare = bare }

  -- a turn as a step of which the bay knows nothing
  as_step : (s : Step) (old new : Session S W R c) (said : StepAnswer) → IsReplay (beside old) → is_on_session s ≡ true → AnswersLine s old new (Ok said)
      → AnswersStep s (beside old) (beside new) past past (Ok said)
  as_step s old new said is on line =
      line_step s (beside old) (beside new) is (works_on s (needs_of s on) (not_of_switch s on)) refl line.device past (Ok said)
      (λ of_device. of_no_switch s (not_of_switch s on) of_device) line (silent_line (Ok said) s new.part (needs_of s on) (not_of_switch s on))

  module _ (last : Session S W R c) (is_last : IsReplay (beside last))
      (Devices : DevicesTold → Type 0) (settle : (t : DevicesTold) → Deals first (ledger_behind past) t.ended t.names → AreReached t.own (returns_in (beside last)) → Devices t) where
    pub answers_on : (turns : List WorkTurn) (old : Session S W R c) (o : Outline) → IsReplay (beside old) → TakesTurns old turns last → IsOutlined o (beside old)
        → Deals first (ledger_behind past) o.ended o.names → AnswersOn o turns Devices
    answers_on [] old o is takes outlined deals =
        settle (told_by o) deals (subst (λ (s : Session S W R c). AreReached (told_by o).own (returns_in (beside s))) takes outlined.reached)
    answers_on (t ∷ turns) old o is takes outlined deals =
        let step = as_step t.step old takes.0 t.said is takes.1 takes.2 in
        let out : Outlines o t.step (beside takes.0) t.said (ledger_behind past) (ledger_behind past) = step.outline o outlined in (
          out.answered,
          answers_on turns takes.0 (outline_after o t.step t.said) step.replay takes.3 out.outlined
              (deals_with first (ledger_behind past) o.ended out.harms _ o.names out.names _ out.ended out.named deals out.deals),
        )

    pub runs_on : (turns : List WorkTurn) (old : Session S W R c) (run : Run) → IsReplay (beside old) → TakesTurns old turns last → PlaysOn run (beside old)
        → Deals first (ledger_behind past) run.ended run.names → RunsOn run turns Devices
    runs_on [] old run is takes plays deals =
        settle (told_by_records run) deals (plays_reach (beside last) is_last run (subst (λ (s : Session S W R c). PlaysOn run (beside s)) takes plays))
    runs_on (t ∷ turns) old run is takes plays deals =
        let step = as_step t.step old takes.0 t.said is takes.1 takes.2 in
        elim (step.ends run plays) [
          | inl m ↦ inl (
            m.moves.turn,
            m.moves.takes,
            m.moves.says,
            runs_on turns takes.0 (after_step run m.moves.turn t.step) step.replay takes.3 m.moves.plays
                (deals_with first (ledger_behind past) run.ended m.harms _ run.names m.names _ m.ended m.named deals m.deals),
          )
          | inr shown ↦ inr (
            shown.turn,
            shown.shows,
            (
              shown.outlines.answered,
              answers_on turns takes.0 (outline_after (doubted (outline_in (with_calls_of run shown.turn))) t.step t.said) step.replay takes.3 shown.outlines.outlined
                  (deals_with first (ledger_behind past) run.ended shown.outlines.harms _ run.names shown.outlines.names _ shown.outlines.ended shown.outlines.named deals shown.outlines.deals),
            ),
          )
        ]
