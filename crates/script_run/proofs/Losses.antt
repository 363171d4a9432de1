-- The pieces that were lost, record by record.
use Rattle.std.proofs.Common.{List, [], ◌∷◌, refl}
use Rattle.tape_base.specs.declared.geometries.Geometry.{Geometry}
use Rattle.cache_model.specs.declared.record.Rec.{Rec}
use Rattle.cache_model.specs.declared.record.Rec.TheVariants as rec
use Rattle.cache_model.specs.State.{State, after_all, state_after}
use Rattle.cache_model.specs.Legal.{format_records}
use Rattle.script_run.specs.Losses.{NoLossIsAFault}

record_stays : (s : State) (r : Rec) → NoLossIsAFault s → NoLossIsAFault (state_after s r)
record_stays s (rec.Formatted geometry) h = tt
record_stays s (rec.Opened geometry serial cursor floor next_put clean list) h = tt
record_stays s (rec.Displaced piece segment live) h = (refl, h)
record_stays s (rec.Damaged piece place kept found) h = (refl, h)
record_stays s _ h = h

pub losses_stay : (s : State) (added : List Rec) → NoLossIsAFault s → NoLossIsAFault (after_all s added)
losses_stay s [] h = h
losses_stay s (r ∷ recs) h = losses_stay (state_after s r) recs (record_stays s r h)

pub formats_lose_none : (s : State) (geometry : Geometry) → NoLossIsAFault (after_all s (format_records geometry))
formats_lose_none s geometry = tt
