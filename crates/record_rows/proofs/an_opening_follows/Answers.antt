use Rattle.std.proofs.Common.{refl, inl, arith, false}
use Rattle.cache_model.specs.State.{mark_now}
use Rattle.record_rows.specs.Worked.{a, behind_format, put_at}
use Rattle.record_rows.proofs.an_opening_follows.Goals as goal

pub returns : goal.returns
returns c = record {
  mark = mark_now (behind_format (put_at 64 1 a)) 2 66 false;
  same = refl;
  allowed = (inl refl, omega arith);
  taken = refl;
}
