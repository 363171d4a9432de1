-- A device fault that is answered is recorded.
use Rattle.std.proofs.Common.{◌≡◌, ℕ, ◌<◌, List, true, false, sym, subst, inl, inr}
use Rattle.std.specs.Prelude.{Option, Some}
use Rattle.tape_base.specs.declared.pieces.PieceId.{PieceId}
use Rattle.cache_model.specs.declared.cause.Cause.{Cause}
use Rattle.cache_model.specs.declared.cause.Cause.TheVariants as cause
use Rattle.cache_model.specs.declared.record.Rec.{Rec}
use Rattle.cache_model.specs.declared.record.Rec.TheVariants as rec
use Rattle.cache_model.specs.State.{State, after_all}
use Rattle.cache_model.specs.Permit.{Faulted, Intent, IsAmong, Permit, Reason}
use Rattle.cache_model.specs.Legal.{IsStep}
use Rattle.cache_model.proofs.Found.{no_truth, none_is}
use Rattle.script_grammar.specs.declared.step.Step.{Step}
use Rattle.script_grammar.specs.declared.answer.StepAnswer.TheVariants as answer
use Rattle.script_run.specs.Run.{Run}
use Rattle.script_run.specs.Turn.{Turn}
use Rattle.script_run.specs.Asked.{asked}
use Rattle.script_run.specs.Answers.{session_said}
use Rattle.script_run.specs.Takes.{SessionTakes}
use Rattle.script_run.proofs.Listed.{is_among}
use Rattle.script_laws.specs.Causes
use Rattle.script_laws.specs.Causes.{IsTraced, cause_answered, cause_given}
use Rattle.script_run.specs.Losses.{NoLossIsAFault, is_fault}
use Rattle.script_laws.specs.Troubles.{IsFaultRecorded}
use Rattle.script_laws.proofs.Walking.{fault_is_told, refusal_recorded}
use Rattle.script_laws.proofs.Said.{IsSaid, answers_are_traced, line_said}

-- the record that stands for a fault is that of the fault
fault_given : (r : Rec) (count : ℕ) → cause_given r ≡ Some (cause.DeviceFault count) → r ≡ rec.Fault count
fault_given (rec.Fault other) count h = cc
fault_given (rec.Displaced piece segment live) count h = absurd cc
fault_given (rec.Damaged piece place kept found) count h = absurd cc
fault_given _ count h = none_is h

fault_traced : (s : State) (added : List Rec) (count : ℕ) → NoLossIsAFault s → IsTraced s added (cause.DeviceFault count) → IsAmong (rec.Fault count) added
fault_traced s added count none (Causes.IsTraced.stands e) = no_truth (sym e)
fault_traced s added count none (Causes.IsTraced.lost piece h) =
    no_truth (is_among (λ (lost : PieceId × Cause). is_fault lost.1 ≡ false) (piece, cause.DeviceFault count) s.lost none h)
fault_traced s added count none (Causes.IsTraced.recorded g) = subst (λ r. IsAmong r added) (fault_given g.r count g.gives) g.among

pub refusal_is_recorded : (p : Permit) (s : State) (intents : List Intent) (added : List Rec) (count : ℕ)
    → IsStep p s intents added (Some (Faulted count)) → IsFaultRecorded p s added count
refusal_is_recorded p s intents added count h = fault_is_told p s intents added (Some (Faulted count)) count h (refusal_recorded p s intents added count h)

pub fault_is_recorded : (run : Run) (s : State) (turn : Turn) (step : Step) (count : ℕ) (took : Option ℕ) → SessionTakes run s turn step → NoLossIsAFault s
    → session_said run s (after_all s turn.added) turn step ≡ answer.DeviceFault count took
    → IsFaultRecorded turn.device s turn.added count
fault_is_recorded run s turn step count took takes none answered =
    let from : IsSaid s turn.refused turn.added (answer.DeviceFault count took) = subst (IsSaid s turn.refused turn.added) answered (line_said run s turn step takes.legal) in
    elim from [
      | inl refused ↦ refusal_is_recorded turn.device s (asked run s step) turn.added count (subst (IsStep turn.device s (asked run s step) turn.added) refused takes.legal)
      | inr traced ↦ fault_is_told turn.device s (asked run s step) turn.added turn.refused count takes.legal (fault_traced s turn.added count none traced)
    ]

-- a fault that is named as a cause is recorded too
cause_recorded : (p : Permit) (s : State) (intents : List Intent) (added : List Rec) (refused : Option Reason) (why : Cause) → IsStep p s intents added refused → NoLossIsAFault s
    → is_fault why ≡ true → IsTraced s added why → 0 < (after_all s added).fault
cause_recorded p s intents added refused (cause.DeviceFault count) h none fault traced = (fault_is_told p s intents added refused count h (fault_traced s added count none traced)).told
cause_recorded p s intents added refused _ h none fault traced = no_truth (sym fault)

pub named_is_recorded : (run : Run) (s : State) (turn : Turn) (step : Step) (why : Cause) → SessionTakes run s turn step → NoLossIsAFault s
    → cause_answered (session_said run s (after_all s turn.added) turn step) ≡ Some why → is_fault why ≡ true → 0 < (after_all s turn.added).fault
named_is_recorded run s turn step why takes none answered fault =
    cause_recorded turn.device s (asked run s step) turn.added turn.refused why takes.legal none fault (answers_are_traced run s turn step why takes answered)
