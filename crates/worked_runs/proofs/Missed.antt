-- A lookup that finds nothing is a step, before anything was put.
use Rattle.std.proofs.Common.{[], refl}
use Rattle.tape_base.specs.declared.keys.Key.{Key}
use Rattle.cache_model.specs.declared.answer.ReadAnswer.TheVariants as read
use Rattle.cache_model.specs.declared.cause.Cause.TheVariants as cause
use Rattle.cache_model.specs.Legal
use Rattle.cache_model.specs.Legal.{IsLookup, more, nothing}
use Rattle.cache_model.specs.Permit.{Done}
use Rattle.worked_runs.specs.Script.{silent}
use Rattle.worked_runs.specs.Steps.{AMissIsAStep, behind_script}

finds_nothing : (key : Key) → IsLookup silent (behind_script []) key [] [] (read.Miss cause.NeverPut)
finds_nothing key = Legal.IsLookup.verdict tt

pub miss_is_a_step : AMissIsAStep
miss_is_a_step key = record {
  grows = more _ _ (
    Done,
    Legal.DoesLook.looks
        (record { who = record { 0 = 0 }; before = []; answer = _; number = refl; quiet = refl; right = finds_nothing key; is = refl }),
    refl,
  )
      (more [] _ (Done, Legal.DoesReadAll.has_none refl refl refl refl, refl)
      (more [] _ (Done, Legal.DoesStopReading.closed refl refl refl, refl) nothing));
  quiet = refl;
  faults = refl;
  effects = λ off. refl;
}
