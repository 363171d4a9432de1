use Rattle.std.proofs.Common.{[], refl, arith, inl}
use Rattle.cache_model.specs.Legal.{more, nothing}
use Rattle.cache_model.specs.Permit.{Fails, Faulted}
use Rattle.cache_model.specs.Syncing
use Rattle.cache_model.specs.Given
use Rattle.record_rows.proofs.a_refused_part_is_a_step.Goals as goal

pub returns : goal.returns
returns c = record {
  grows = more _ _ (Fails (Faulted 1), Syncing.DoesSyncStep.stays 1 refl refl (record { runs = refl; counts = record { asked = _; changes = refl; counts = record { rose = omega arith; refused = inl refl } }; is = refl }), refl) nothing;
  quiet = refl;
  faults = refl;
  effects = λ off. cc;
}
