use Rattle.std.proofs.Common.{◌<◌, length, ◌∙◌, arith}
use Rattle.dir_segment.specs.Lists.{slots_behind_roots}
use Rattle.dir_segment.specs.Purging.{behind_roots, offer_slots}
use Rattle.dir_segment.proofs.Purging.{bucket_offered}
use Rattle.dir_segment.proofs.segment.Segment.offer_all.Goals as goal

pub loop-bucket-preserved : goal.loop-bucket-preserved
loop-bucket-preserved c =
    let n = length c.args.self.now.chains in
    let lt : c.loop-bucket.bucket < length c.args.self.now.chains = omega (arith, c.loop-bucket-test.true, c.bucket_count-bucket-end.ensures.count) in
    record {
      buckets = c.offer_slot-in-loop-bucket-2.ensures.buckets ∙ c.offer_slot-in-loop-bucket.ensures.buckets ∙ c.offer_slot.ensures.buckets ∙ c.loop-bucket.invariant.buckets;
      room = omega (arith, c.loop-bucket.invariant.room, c.offer_slot.ensures.room, c.offer_slot-in-loop-bucket.ensures.room, c.offer_slot-in-loop-bucket-2.ensures.room);
      skip = c.offer_slot-in-loop-bucket-2.ensures.skip (c.offer_slot-in-loop-bucket.ensures.skip (c.offer_slot.ensures.skip c.loop-bucket.invariant.skip));
      offered = bucket_offered (behind_roots c.args.self.now.chains) c.loop-bucket.bucket n c.root_of-root.result c.loop-bucket.out c.offer_slot.new.out c.offer_slot-in-loop-bucket.new.out c.offer_slot-in-loop-bucket-2.new.out
          (offer_slots (slots_behind_roots 0 n) (behind_roots c.args.self.now.chains) c.args.out.now) lt c.root_of-root.ensures
          c.offer_slot.ensures.offered c.offer_slot-in-loop-bucket.ensures.offered c.offer_slot-in-loop-bucket-2.ensures.offered c.loop-bucket.invariant.offered;
    }
