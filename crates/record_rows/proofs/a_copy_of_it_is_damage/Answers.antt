use Rattle.std.proofs.Common.{refl, arith}
use Rattle.cache_model.specs.Legal.{more, nothing}
use Rattle.cache_model.specs.Permit.{Done}
use Rattle.cache_model.specs.Given
use Rattle.cache_model.specs.Legal
use Rattle.record_rows.proofs.a_copy_of_it_is_damage.Goals as goal

pub returns : goal.returns
returns c = λ there others. record {
  grows = more _ _ (
    Done,
    Legal.DoesReadOn.reads_on _ (record {
      r = _;
      before = _;
      quiet = refl;
      reading = refl;
      right = Legal.IsReading.trouble _ _ _ _ refl refl (Legal.ReadTrouble.mismatched _
          (Given.IsRead.buffered (omega arith)) (record { payload = _; has = refl; found_is = refl; differ = others.differ }));
      is = refl;
    }),
    refl,
  ) nothing;
  quiet = refl;
  faults = refl;
  effects = λ off. cc;
}
