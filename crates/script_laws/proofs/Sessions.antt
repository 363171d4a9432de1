-- Each session of a script goes from its format on by legal steps of one setting.
use Rattle.std.proofs.Common.{ℕ, List, [], ◌∷◌, ◌++◌, refl, sym, ◌∙◌, ap, subst, append_assoc, inl, inr}
use Rattle.std.specs.Prelude.{Option, Some, None}
use Rattle.tape_base.specs.declared.geometries.Geometry.{Geometry}
use Rattle.device_log.specs.Calls.{Call}
use Rattle.cache_answers.specs.declared.answers.SwitchOrder.{SwitchOrder}
use Rattle.cache_answers.specs.declared.answers.SwitchOrder.TheVariants as order
use Rattle.cache_answers.specs.Orders.{call_of_order}
use Rattle.cache_model.specs.declared.record.Rec.{Rec}
use Rattle.cache_model.specs.State.{State, after_all, nothing_yet}
use Rattle.cache_model.specs.Permit.{IsSetBy}
use Rattle.cache_model.specs.Legal
use Rattle.cache_model.specs.Legal.{Course, IsLegal, IsOfSwitch, IsStep, format_records}
use Rattle.cache_model.proofs.Steps.{after_all-append}
use Rattle.script_grammar.specs.declared.step.Step.{Step}
use Rattle.script_run.specs.Asked.{asked}
use Rattle.script_run.specs.Run.{Run, fresh}
use Rattle.script_run.specs.Takes.{IsRun, SessionTakes, run_after}
use Rattle.script_run.specs.Turn.{Turn, calls_in}
use Rattle.script_run.specs.Switch.{TreatsSwitch, order_of_step}
use Rattle.script_run.proofs.Lift.{lines_keep}
use Rattle.cache_calls.specs.Keeping.{plain_setting}
use Rattle.script_laws.specs.Sessions.{IsLegalWhere, IsOfLegal}

-- a line is a step behind the calls of the run
set_by : (run : Run) (s : State) (turn : Turn) (step : Step) → SessionTakes run s turn step → IsSetBy plain_setting run.calls turn.device
set_by run s turn step takes = record { packed = takes.packs; syncs = takes.unsynced; past = takes.past }

-- what a switch is told is a call of a switch
order_is : (g : Geometry) (o : SwitchOrder) → IsOfSwitch (call_of_order g o)
order_is g (order.Fail nth) = tt
order_is g (order.StopAfter calls) = tt
order_is g (order.Flip place byte) = tt

-- and behind it the chronicle is legal too
told_on : (g : Geometry) (o : Option SwitchOrder) (turn : Turn) (past : List Call) (courses : List Course) (recs : List Rec) → TreatsSwitch g o turn
    → IsLegal plain_setting past courses recs → IsLegal plain_setting (turn.told ++ past) courses recs
told_on g None turn past courses recs none legal = subst (λ (calls : List Call). IsLegal plain_setting (calls ++ past) courses recs) (sym none) legal
told_on g (Some o) turn past courses recs treats legal = elim treats.1 [
  | inl is ↦
      subst (λ (calls : List Call). IsLegal plain_setting (calls ++ past) courses recs) (sym is)
      (Legal.IsLegal.tells (call_of_order g o) (order_is g o) legal)
  | inr none ↦ subst (λ (calls : List Call). IsLegal plain_setting (calls ++ past) courses recs) (sym none) legal
]

goes_on : (run : Run) (s : State) (turn : Turn) (step : Step) → IsOfLegal run.calls s → SessionTakes run s turn step
    → IsOfLegal ((turn.told ++ turn.device.events) ++ run.calls) (after_all s turn.added)
goes_on run s turn step h takes =
    let course : Course = record { permit = turn.device; intents = asked run s step; refused = turn.refused } in
    let legal : IsLegal plain_setting (turn.device.events ++ run.calls) (h.courses ++ course ∷ []) (h.recs ++ turn.added) =
    Legal.IsLegal.steps course (set_by run s turn step takes) h.legal
    (subst (λ (t : State). IsStep turn.device t (asked run s step) turn.added turn.refused) h.comes_to takes.legal) in
    record {
      courses = h.courses ++ course ∷ [];
      recs = h.recs ++ turn.added;
      legal = subst (λ (calls : List Call). IsLegal plain_setting calls (h.courses ++ course ∷ []) (h.recs ++ turn.added))
          (sym (append_assoc turn.told turn.device.events run.calls))
          (told_on s.geometry (order_of_step step) turn (turn.device.events ++ run.calls) (h.courses ++ course ∷ []) (h.recs ++ turn.added) takes.switch legal);
      comes_to = ap (λ (t : State). after_all t turn.added) h.comes_to ∙ sym (after_all-append nothing_yet h.recs turn.added);
    }

-- ---- a script

pub sessions_are_legal : (lines : List (List ℕ)) (turns : List Turn) → IsRun fresh lines turns → IsLegalWhere (run_after fresh lines turns).calls (run_after fresh lines turns).state
sessions_are_legal lines turns is = lines_keep (λ run. IsLegalWhere run.calls run.state) (record {
  moments = λ run at h. h;
  steps = λ run s turn asks e takes h. goes_on run s turn asks (subst (IsLegalWhere run.calls) e h) takes;
  formats = λ run name calls g h. record { courses = []; recs = format_records g; legal = Legal.IsLegal.begins g; comes_to = refl };
  fails = λ run name calls count h. tt;
  ends = λ run s turn choice e cut h. tt;
  tells = λ run turn e only h. subst (IsLegalWhere (calls_in turn ++ run.calls)) (sym e) tt;
}) lines turns fresh is tt
