use Rattle.std.proofs.Common.{◌≡◌, ◌+◌, ◌-◌, ◌*◌, ◌≤◌, length}
use Rattle.dir_segment.specs.Lists.{slots_behind_roots}
use Rattle.dir_segment.specs.Purging.{behind_roots, offer_slots}
use Rattle.dir_segment.proofs.segment.Segment.offer_all.Given as goal

abbrev pub invariant-loop-bucket : goal.invariant-loop-bucket
invariant-loop-bucket l = record {
  buckets : l.out.buckets ≡ l.initial.out.buckets;
  room : 10 * length l.out.entries ≤ 3 * l.bucket + l.out.skip;
  skip : l.out.skip ≤ 9;
  offered : offer_slots (slots_behind_roots l.bucket (length l.self.chains - l.bucket)) (behind_roots l.self.chains) l.out
      ≡ offer_slots (slots_behind_roots 0 (length l.self.chains)) (behind_roots l.self.chains) l.initial.out;
}
