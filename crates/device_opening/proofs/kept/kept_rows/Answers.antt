use Rattle.std.proofs.Common.{◌≡◌, map, reverse, List, ap, subst, ◌∙◌}
use Rattle.cache_model.specs.declared.findings.FoundRow.{FoundRow}
use Rattle.reopening.specs.Later.{kept_rows, latest, measure_of, with_lengths}
use Rattle.reopening.proofs.ByName.{latest_apart}
use Rattle.device_opening.specs.Kept.{HasMeasures}
use Rattle.device_opening.proofs.Answering.{ok_map}
use Rattle.device_opening.proofs.Keeping.{twice_back}
use Rattle.device_opening.proofs.kept.kept_rows.Goals as goal

pub returns : goal.returns
returns c =
    let all = c.args.all.items in
    let kept = latest all in
    let back = c.in_ok-back.back.items in
    let there : reverse back ≡ kept = ap reverse c.in_ok-back.ensures ∙ twice_back kept in
    let has : HasMeasures c.in_ok-measures.measures (map measure_of kept) =
    subst (λ (l : List FoundRow). HasMeasures c.in_ok-measures.measures (map measure_of l)) (ap reverse c.deref.ensures.value ∙ there) c.in_ok-measures.ensures in
    ok_map c.with_measures.result (λ found. found ≡ kept_rows all)
    (λ found is. is (map measure_of kept) has (latest_apart all) ∙ ap (with_lengths (map measure_of kept)) there) c.with_measures.ensures
