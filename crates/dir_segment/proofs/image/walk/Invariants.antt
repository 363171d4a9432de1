use Rattle.std.proofs.Common.{◌≡◌, ◌-◌, length}
use Rattle.dir_segment.specs.Image.{walk}
use Rattle.dir_segment.proofs.image.walk.Given as goal

abbrev pub invariant-loop : goal.invariant-loop
invariant-loop l = record {
  size : length l.reached ≡ length l.slots;
  end : l.end ≡ length l.slots;
  walks : walk l.used l.slots (length l.slots - l.counter) l.slot l.reached ≡ walk l.used l.slots (length l.slots) l.fn.first l.initial.reached;
}
