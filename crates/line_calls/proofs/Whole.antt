-- A line whose calls serve what it asks is a step beside each run.
use Rattle.std.proofs.Common.{◌≡◌, ℕ, ◌++◌, ◌∙◌, true, false, List, [], refl, sym, ap, subst, inl, inr}
use Rattle.std.specs.Prelude.{Option, None}
use Rattle.device_log.specs.Calls.{Call}
use Rattle.logged_disk.specs.Device.{DeviceState as Device, IsAfter}
use Rattle.logged_disk.proofs.GoingOn.{told_before}
use Rattle.cache_model.specs.declared.record.Rec.{Rec}
use Rattle.cache_model.specs.State.{State}
use Rattle.cache_model.specs.Legal.{IsQuiet, IsStep}
use Rattle.cache_model.specs.Pair.{Documents, ShowsPair}
use Rattle.cache_model.specs.Permit.{Intent, Permit, Reason, to_do}
use Rattle.cache_model.specs.Vectors.{IsVectorAs}
use Rattle.step_laws.proofs.Pairs.{also_shows}
use Rattle.call_laws.specs.Untold.{Untold}
use Rattle.call_laws.specs.Moments.{At, Facts, permit_of}
use Rattle.call_laws.specs.Happens.{Happens}
use Rattle.call_laws.specs.Progress.{EndsWith, Progress}
use Rattle.call_laws.specs.Serves.{ServesFrom}
use Rattle.call_laws.specs.Whole.{IsWholeStep}
use Rattle.call_laws.proofs.Joined.{state_behind}
use Rattle.call_laws.proofs.Kept.{shows_untold, untold_later}
use Rattle.call_laws.proofs.Whole.{serves_step}
use Rattle.cache_calls.specs.Keeping.{plain_setting, state_at}
use Rattle.script_grammar.specs.declared.answer.StepAnswer.{StepAnswer}
use Rattle.script_grammar.specs.declared.step.Step.{Step}
use Rattle.script_run.specs.Ledger.{IsLeftAlone}
use Rattle.script_run.specs.Run.{Run, Stream}
use Rattle.script_run.specs.Turn.{Turn}
use Rattle.script_run.specs.Answers.{session_said}
use Rattle.script_run.specs.Asked.{asked}
use Rattle.script_run.specs.Own.{IsPlacedAs}
use Rattle.script_run.specs.Switch.{TreatsSwitch, order_of_step}
use Rattle.script_run.specs.Takes.{GivesOwn, TakesBehind, streams_with}
use Rattle.line_calls.specs.Moves.{MovesOrShows, ShowsIn}
use Rattle.script_run.proofs.Alone.{are_left_alone}

-- ---- a pair of a vector is one of a piece

pub shows_placed : (streams : ℕ → Stream) (p : Permit) (s : State) (asks : List Intent) (added : List Rec) → ShowsPair IsVectorAs p s asks added
    → ShowsPair (IsPlacedAs streams) p s asks added
shows_placed streams p s asks added h = also_shows IsVectorAs (IsPlacedAs streams) (λ s row document is. inl is) p s (to_do asks) added h

-- so it is of one on a device that did not tell its content
pub shows_piece : (streams : ℕ → Stream) (last : Device) (p : Permit) (s : State) (asks : List Intent) (added : List Rec) → ShowsPair (Untold last IsVectorAs) p s asks added
    → ShowsPair (Untold last (IsPlacedAs streams)) p s asks added
shows_piece streams last p s asks added h =
    also_shows (Untold last IsVectorAs) (Untold last (IsPlacedAs streams)) (λ s row document is. (inl is.0, is.1)) p s (to_do asks) added h

-- a device that told its content up to a later moment told it up to an earlier one: so pairs on this one are pairs on that one
pub later_shows : (streams : ℕ → Stream) (one other : Device) → IsAfter one other → (p : Permit) (s : State) (asks : List Intent) (added : List Rec)
    → ShowsPair (Untold one (IsPlacedAs streams)) p s asks added → ShowsPair (Untold other (IsPlacedAs streams)) p s asks added
later_shows streams one other goes p s asks added shows =
    also_shows (Untold one (IsPlacedAs streams)) (Untold other (IsPlacedAs streams)) (untold_later (IsPlacedAs streams) one other (told_before one other goes))
    p s (to_do asks) added shows

-- ---- calls that serve all that is asked, or are refused, are a step

pub serves_whole : {P : Documents} {now : ℕ} {a b : At} {asks : List Intent} {o : Progress} {before known : Facts} (why : Option Reason) → EndsWith o why
    → a.setting ≡ plain_setting → IsQuiet (state_at b) → before (state_at a) → ServesFrom P now a b asks o before known
    → IsWholeStep P now a b asks why known
serves_whole why ends plain quiet first serves = serves_step why ends quiet first serves

-- ---- beside a run

module _ (run : Run) (step : Step) (a b : At) (now : ℕ) (plain : a.setting ≡ plain_setting) (moment : run.now ≡ now) where
  -- the turn of a line that made these calls alone
  abbrev pub turn_by : List Rec → Option Reason → List Call → List ℕ → Turn
  turn_by added why calls given = record { added = added; refused = why; device = permit_of now a calls; given = given; told = [] }

  -- a pair is shown by its calls
  pub shows_line : (asks : List Intent) (calls : List Call) (added : List Rec) → asked run (state_at a) step ≡ asks → order_of_step step ≡ None
      → b.device.past ≡ calls ++ a.device.past → IsLeftAlone calls
      → ShowsPair (Untold b.device (IsPlacedAs (streams_with run (state_at a) step))) (permit_of now a calls) (state_at a) asks added → ShowsIn run step a b
  shows_line asks calls added same silent past alone shown =
      let shows = shows_untold (IsPlacedAs (streams_with run (state_at a) step)) b.device (permit_of now a calls) (state_at a) (to_do asks) added shown in record {
        turn = turn_by added None calls [];
        calls = past;
        shows = record {
          packs = ap (λ (setting : Rattle.cache_model.specs.Permit.Setting). setting.packed) plain;
          unsynced = ap (λ (setting : Rattle.cache_model.specs.Permit.Setting). setting.syncs) plain;
          moment = sym moment;
          past = refl;
          alone = alone;
          switch = subst (λ o. TreatsSwitch (state_at a).geometry o (turn_by added None calls [])) (sym silent) refl;
          shows = subst (λ is. ShowsPair (IsPlacedAs (streams_with run (state_at a) step)) (permit_of now a calls) (state_at a) is added) (sym same) shows.0;
        };
        untold = shows.1;
      }

  -- its calls are so where their records tell all that they did
  pub left_by : (calls : List Call) (added : List Rec) → Happens a b calls added → IsLeftAlone calls
  left_by calls added happens =
      are_left_alone added calls (happens.effects (ap (λ (setting : Rattle.cache_model.specs.Permit.Setting). setting.syncs) plain))

  -- the line is a step by its calls, with these bytes
  pub takes_line : {known : Facts} (asks : List Intent) (why : Option Reason) (given : List ℕ) → asked run (state_at a) step ≡ asks → order_of_step step ≡ None
      → (w : IsWholeStep (Untold b.device IsVectorAs) now a b asks why known)
      → GivesOwn run (state_at a) (turn_by w.added why w.calls given) step
      → IsStep (permit_of now a w.calls) (state_at a) asks w.added why
      → TakesBehind a.device.past run (state_at a) (turn_by w.added why w.calls given) step
  takes_line asks why given same silent w own legal = record {
    packs = ap (λ (setting : Rattle.cache_model.specs.Permit.Setting). setting.packed) plain;
    unsynced = ap (λ (setting : Rattle.cache_model.specs.Permit.Setting). setting.syncs) plain;
    moment = sym moment;
    past = refl;
    legal = subst (λ is. IsStep (permit_of now a w.calls) (state_at a) is w.added why) (sym same) legal;
    own = own;
    switch = subst (λ o. TreatsSwitch (state_at a).geometry o (turn_by w.added why w.calls given)) (sym silent) refl;
  }

  -- so it is, with this answer, or such a pair is shown
  pub moves_line : {known : Facts} (asks : List Intent) (why : Option Reason) (given : List ℕ) (said : StepAnswer) → asked run (state_at a) step ≡ asks → order_of_step step ≡ None
      → (w : IsWholeStep (Untold b.device IsVectorAs) now a b asks why known)
      → GivesOwn run (state_at a) (turn_by w.added why w.calls given) step
      → (known (state_at b) → session_said run (state_at a) (state_at b) (turn_by w.added why w.calls given) step ≡ said)
      → MovesOrShows run step a b said
  moves_line asks why given said same silent w own says =
      elim w.ends [
        | inr pair ↦ inr (shows_line asks w.calls w.added same silent w.happens.past (left_by w.calls w.added w.happens)
            (shows_piece (streams_with run (state_at a) step) b.device (permit_of now a w.calls) (state_at a) asks w.added pair))
        | inl v ↦ inl (record {
          turn = turn_by w.added why w.calls given;
          takes = takes_line asks why given same silent w own v.0;
          calls = w.happens.past;
          state = state_behind a.kept b.kept w.added w.happens.adds;
          says = says v.1;
        })
      ]
