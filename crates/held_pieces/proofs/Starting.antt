-- A fresh cyclone holds what a format begins with.
use Rattle.std.proofs.Common.{[], ap, arith, false, refl}
use Rattle.tape_base.specs.declared.geometries.Geometry.{Geometry}
use Rattle.agg_buffer.specs.Buffer.{Buffer, filled_of}
use Rattle.dir_table.specs.declared.rows.DirRow.{DirRow}
use Rattle.dir_table.specs.Window.{is_in_range}
use Rattle.std.specs.List.{filter}
use Rattle.cyclone.specs.Cyclone.{Seen, IsFresh, IsTurning}
use Rattle.cache_model.specs.State.{after_all, nothing_yet}
use Rattle.cache_model.specs.Legal
use Rattle.cache_model.specs.Legal.{format_records}
use Rattle.cache_model.proofs.Onward.{legal_is_sound}
use Rattle.held_pieces.specs.Held.{IsHeld, times}

pub fresh_is_held : (g : Geometry) (c : Seen) → IsFresh c g → IsTurning c → IsHeld (after_all nothing_yet (format_records g)) c
fresh_is_held g c fresh turning = record {
  turning = turning;
  sound = legal_is_sound (record { packed = false; syncs = false }) [] [] (format_records g) (Legal.IsLegal.begins g);
  geometry = fresh.geometry;
  cursor = ap (λ (b : Buffer). b.cursor) fresh.buffer;
  filled = ap filled_of fresh.buffer;
  entered = λ x. ap (λ rs. times x (filter (λ (r : DirRow). is_in_range c.window r.place) rs)) fresh.rows;
  buffered = tt;
  intact = λ told. tt;
  laps = tt;
  faults = omega arith;
  least = fresh.least;
}
