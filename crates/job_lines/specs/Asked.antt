-- The jobs that were asked for, as contracts see them.
use Rattle.std.specs.Prelude.{List, map}
use Rattle.job_lines.specs.declared.asked.Asked.{Asked}
use Rattle.job_lines.specs.Lanes.{Lane, lane_of}

-- the jobs of each worker
abbrev pub lanes_in : Asked → List Lane
lanes_in asked = map lane_of (map (λ lane. lane.items) asked.lanes.items)
