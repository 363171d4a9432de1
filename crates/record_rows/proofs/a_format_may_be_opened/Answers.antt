use Rattle.std.proofs.Common.{refl, arith}
use Rattle.record_rows.proofs.a_format_may_be_opened.Goals as goal

pub returns : goal.returns
returns c = record {
  copy = record {
    serial = (omega arith, omega arith);
    from = omega arith;
    lap = omega arith;
    below = omega arith;
    number = (omega arith, omega arith);
    floor = record { clean = λ e. cc; other = λ e. refl };
  };
  rising = omega arith;
  apart = tt;
  keys = λ i j d less within. absurd (omega (arith, within));
  each = tt;
  puts = tt;
  lengths = tt;
  vectors = tt;
  fits = λ packed segment. omega arith;
}
