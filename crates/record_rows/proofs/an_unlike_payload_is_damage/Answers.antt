use Rattle.std.proofs.Common.{refl, arith, inl}
use Rattle.tape_base.specs.Place.{directory_blocks}
use Rattle.cache_model.specs.Legal.{more, nothing}
use Rattle.cache_model.specs.Permit.{Done}
use Rattle.cache_model.specs.Given
use Rattle.cache_model.specs.Legal
use Rattle.record_rows.proofs.an_unlike_payload_is_damage.Goals as goal

pub returns : goal.returns
unfolding directory_blocks
returns c = λ there block others its. record {
  grows = more _ _ (
    Done,
    Legal.DoesReadOn.reads_on _ (record {
      r = _;
      before = _;
      quiet = refl;
      reading = refl;
      right = Legal.IsReading.trouble _ _ _ _ refl refl (Legal.ReadTrouble.mismatched _
          (Given.IsRead.given block (record { written = omega arith; given = inl refl; whole = its.whole; of_bytes = its.of_bytes }) its.digest)
          (record { payload = _; has = refl; found_is = refl; differ = others.differ }));
      is = refl;
    }),
    refl,
  ) nothing;
  quiet = refl;
  faults = refl;
  effects = λ off. cc;
}
