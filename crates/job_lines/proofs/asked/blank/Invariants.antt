use Rattle.std.proofs.Common.{◌≡◌, map, vec_len}
use Rattle.job_lines.specs.Lanes.{AreBlank, lane_of}
use Rattle.job_lines.proofs.asked.blank.Given as goal

abbrev pub invariant-loop : goal.invariant-loop
invariant-loop l = record {
  width : vec_len l.lanes ≡ l.counter;
  blank : AreBlank (map lane_of (map (λ lane. lane.items) l.lanes.items));
}
