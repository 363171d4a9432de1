-- A fault that a call adds was refused by the device.
use Rattle.std.proofs.Common.{◌≡◌, List, sym, ◌∙◌, ap, subst}
use Rattle.std.proofs.lemmas.List.{append_cancel_left}
use Rattle.cache_model.specs.declared.record.Rec.{Rec}
use Rattle.cache_model.specs.declared.record.Rec.TheVariants as rec
use Rattle.cache_model.specs.Kept.{Kept, with_records}
use Rattle.cache_model.specs.Permit.{IsAmong}
use Rattle.call_laws.proofs.Backed.{faults_are_refusals}
use Rattle.cache_calls.specs.Adds.{AddedFaultsAreRefusals}

-- what was added between two moments are the same records
same_added : (k l : Kept) (a b : List Rec) → l ≡ with_records k a → l ≡ with_records k b → a ≡ b
same_added k l a b first second = append_cancel_left k.since a b (ap (λ (j : Kept). j.since) (sym first ∙ second))

pub added_faults : AddedFaultsAreRefusals
added_faults old new calls added count h f =
    let same : f.added ≡ added = same_added old.kept new.kept f.added added f.adds h.adds in
    faults_are_refusals old new calls added count h (subst (IsAmong (rec.Fault count)) same f.among)
