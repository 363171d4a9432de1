use Rattle.std.proofs.Common.{◌≡◌, ◌*◌, take}
use Rattle.device_log.specs.Image.{span}
use Rattle.logged_disk.specs.Blocks.{written_image}
use Rattle.logged_disk.proofs.blocks.read_blocks.Given as goal

abbrev pub invariant-loop-k : goal.invariant-loop-k
invariant-loop-k l = take (512 * l.k) l.into ≡ span (written_image l.written) l.first l.k
