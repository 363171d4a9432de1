-- Where records tell all that a device's calls did, nobody told its switch anything, cut its power or turned a bit; so it is
-- in a turn that shows a pair.
use Rattle.std.proofs.Common.{◌≡◌, ◌∙◌, Bool, true, false, List, [], ◌∷◌, ◌++◌, refl, sym, ap}
use Rattle.device_log.specs.Calls.{Call, Read, RefusedCall, Wrote}
use Rattle.device_log.specs.Faults.{is_untold}
use Rattle.logged_disk.specs.Device.{has_cut, has_flip}
use Rattle.cache_model.specs.declared.record.Rec.{Rec}
use Rattle.cache_model.specs.declared.record.Rec.TheVariants as rec
use Rattle.cache_model.specs.Given.{Denied, Effect, Took, Unasked, effects_in, effects_told}
use Rattle.cache_model.specs.Pair.{ShowsPair}
use Rattle.cache_model.specs.State.{State}
use Rattle.script_grammar.specs.declared.step.Step.{Step}
use Rattle.script_run.specs.Asked.{asked}
use Rattle.script_run.specs.Ledger.{IsLeftAlone}
use Rattle.script_run.specs.Own.{IsPlacedAs}
use Rattle.script_run.specs.Run.{Run}
use Rattle.script_run.specs.Takes.{ShowsBehind, TakesBehind, streams_with}
use Rattle.script_run.specs.Turn.{Turn}

-- whether a call did what no step asks for
abbrev has_unasked : List Effect → Bool
has_unasked [] = false
has_unasked (Unasked ∷ effects) = true
has_unasked (effect ∷ effects) = has_unasked effects

none_told : (added : List Rec) → has_unasked (effects_told added) ≡ false
none_told [] = refl
none_told (rec.Fault count ∷ added) = none_told added
none_told (rec.Began cursor floor ∷ added) = none_told added
none_told (r ∷ added) = none_told added

none_before : (effects : List Effect) (last : Effect) → has_unasked (effects ++ last ∷ []) ≡ false → has_unasked effects ≡ false
none_before [] last none = refl
none_before (Took ∷ effects) last none = none_before effects last none
none_before (Denied count ∷ effects) last none = none_before effects last none
none_before (Unasked ∷ effects) last none = none

one_behind : (effects : List Effect) → has_unasked (effects ++ Unasked ∷ []) ≡ true
one_behind [] = refl
one_behind (Took ∷ effects) = one_behind effects
one_behind (Denied count ∷ effects) = one_behind effects
one_behind (Unasked ∷ effects) = refl

no_truth : true ≡ false → ⊥
no_truth is = cc

left_alone : (calls : List Call) → has_unasked (effects_in calls) ≡ false → IsLeftAlone calls
unfolding is_untold has_cut has_flip
left_alone [] none = record { untold = refl; uncut = refl; unturned = refl }
left_alone (Read at bytes ∷ calls) none =
    let before = left_alone calls none in record { untold = before.untold; uncut = before.uncut; unturned = before.unturned }
left_alone (Wrote at bytes ∷ calls) none =
    let before = left_alone calls (none_before (effects_in calls) Took none) in
    record { untold = before.untold; uncut = before.uncut; unturned = before.unturned }
left_alone (RefusedCall asked count ∷ calls) none =
    let before = left_alone calls (none_before (effects_in calls) (Denied count) none) in
    record { untold = before.untold; uncut = before.uncut; unturned = before.unturned }
left_alone (call ∷ calls) none = absurd (no_truth (sym (one_behind (effects_in calls)) ∙ none))

pub are_left_alone : (added : List Rec) (calls : List Call) → effects_told added ≡ effects_in calls → IsLeftAlone calls
are_left_alone added calls same = left_alone calls (ap has_unasked (sym same) ∙ none_told added)

-- a line that does what it must shows each pair that its turn shows
pub shows_taken : (calls : List Call) (run : Run) (s : State) (turn : Turn) (step : Step) → TakesBehind calls run s turn step
    → ShowsPair (IsPlacedAs (streams_with run s step)) turn.device s (asked run s step) turn.added → ShowsBehind calls run s turn step
shows_taken calls run s turn step takes shown = record {
  packs = takes.packs;
  unsynced = takes.unsynced;
  moment = takes.moment;
  past = takes.past;
  alone = are_left_alone turn.added turn.device.events (takes.legal.effects takes.unsynced);
  switch = takes.switch;
  shows = shown;
}
