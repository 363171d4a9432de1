-- Two runs of the same lines in which nothing is displaced, and no device is in trouble, print the same.
use Rattle.std.proofs.Common.{◌≡◌, ℕ, List, [], ◌∷◌, false, refl, sym, ◌∙◌, subst, inl, inr, ◌⊎◌}
use Rattle.std.specs.List.{AllByRecursion}
use Rattle.std.proofs.lemmas.List.Elements.{All-weaker}
use Rattle.cache_model.specs.declared.record.Rec.{Rec}
use Rattle.cache_model.specs.declared.record.Rec.TheVariants as rec
use Rattle.cache_model.specs.Damage.{TellNoDamage, tells_damage}
use Rattle.cache_model.proofs.Found.{no_truth}
use Rattle.cache_model.proofs.Steps.{all_parts}
use Rattle.model_laws.specs.Purging.{TellNoDeviceTrouble, is_device_trouble}
use Rattle.model_laws.specs.RoomLaws.{TellNoDisplacement, is_displacement}
use Rattle.script_run.specs.Run.{Harm, IsHarmless, Run}
use Rattle.script_run.specs.Turn.{Turn}
use Rattle.script_run.specs.Behind.{harms_of}
use Rattle.script_run.specs.Takes.{IsRun, run_after}
use Rattle.script_run.proofs.Listed.{is_among}
use Rattle.script_laws.specs.Agreeing.{AreSame, NoneDisplaced, NoneHarmed}
use Rattle.script_laws.specs.Parting.{AreToldApart, DisplacesPiece, IsUntroubledUpTo, LinesAgreeBeforeTrouble, LinesPart, MeetsDeviceTrouble, both_displace, first_in_trouble, second_in_trouble, told_apart}
use Rattle.script_laws.specs.TurnTroubles.{TellNoFault, tells_fault}
use Rattle.script_laws.proofs.TurnTroubles.{faultless_turns, undamaged_turns}

-- ---- turns without trouble

record_quiet : (r : Rec) → tells_fault r ≡ false → tells_damage r ≡ false → is_device_trouble r ≡ false
record_quiet (rec.Fault count) faultless undamaged = no_truth faultless
record_quiet (rec.Damaged piece place kept found) faultless undamaged = no_truth undamaged
record_quiet _ faultless undamaged = refl

records_quiet : (recs : List Rec) → TellNoFault recs → TellNoDamage recs → TellNoDeviceTrouble recs
records_quiet [] faultless undamaged = tt
records_quiet (r ∷ recs) faultless undamaged = (record_quiet r faultless.0 undamaged.0, records_quiet recs faultless.1 undamaged.1)

-- such a turn is not where two runs part
module _ (run : Run) (lines before : List (List ℕ)) (turns : List Turn) (is : IsRun run lines turns) (stay : NoneDisplaced turns)
    (clean : NoneHarmed (run_after run lines turns)) (f : IsUntroubledUpTo run before turns) where
  at_turn : (P : Turn → Type 0) → AllByRecursion P turns → P f.turn
  at_turn P each = (all_parts P f.earlier (f.turn ∷ f.later) (subst (AllByRecursion P) f.turns_are each)).1.0

  abbrev Harms : List Harm
  Harms = harms_of (run_after run lines turns)

  not_in_trouble : MeetsDeviceTrouble f.turn → ⊥
  not_in_trouble t =
      let faultless : TellNoFault f.turn.added =
      at_turn (λ (turn : Turn). TellNoFault turn.added) (faultless_turns run lines turns is (All-weaker IsHarmless (λ harm. harm.fault ≡ 0) (λ harm fine. fine.faultless) Harms clean)) in
      let undamaged : TellNoDamage f.turn.added =
      at_turn (λ (turn : Turn). TellNoDamage turn.added) (undamaged_turns run lines turns is (All-weaker IsHarmless (λ harm. harm.damaged ≡ false) (λ harm fine. fine.undamaged) Harms clean)) in
      no_truth (sym t.tells ∙ is_among (λ r. is_device_trouble r ≡ false) t.told f.turn.added (records_quiet f.turn.added faultless undamaged) t.among)

  displaces_none : DisplacesPiece f.turn → ⊥
  displaces_none d =
      no_truth (is_among (λ r. is_displacement r ≡ false) (rec.Displaced d.piece d.segment d.live) f.turn.added (at_turn (λ (turn : Turn). TellNoDisplacement turn.added) stay) d.recorded)

pub output_is_fixed : (agree : LinesAgreeBeforeTrouble) (run : Run) (lines : List (List ℕ)) (one other : List Turn) → IsRun run lines one
    → IsRun run lines other
    → NoneDisplaced one → NoneDisplaced other → NoneHarmed (run_after run lines one) → NoneHarmed (run_after run lines other)
    → AreSame run lines one other ⊎ ((p : LinesPart run lines one other) × AreToldApart p.first.turn p.second.turn)
output_is_fixed agree run lines one other legal other_legal stay other_stay clean other_clean = elim (agree run lines one other legal other_legal) [
  | inl same ↦ inl same
  | inr p ↦ elim p.part [
    | first_in_trouble t ↦ absurd (not_in_trouble run lines p.before one legal stay clean p.first t)
    | second_in_trouble t ↦ absurd (not_in_trouble run lines p.before other other_legal other_stay other_clean p.second t)
    | both_displace d e ↦ absurd (displaces_none run lines p.before one legal stay clean p.first d)
    | told_apart t ↦ inr (p, t)
  ]
]
