use Rattle.std.proofs.Common.{◌<◌, length, ◌∙◌, arith}
use Rattle.dir_segment.specs.Cleaning.{clean_bucket, clean_buckets}
use Rattle.dir_segment.proofs.Sweeping.{buckets_step}
use Rattle.dir_segment.proofs.segment.Segment.clean.Goals as goal

pub loop-bucket-preserved : goal.loop-bucket-preserved
loop-bucket-preserved g c =
    let lt : c.loop-bucket.bucket < length c.args.self.now.chains = omega (arith, c.loop-bucket-test.true, c.bucket_count-bucket-end.ensures.count) in
    record {
      width = c.clean_bucket.ensures.width ∙ c.loop-bucket.invariant.width;
      fewer = omega (arith, c.clean_bucket.ensures.fewer, c.loop-bucket.invariant.fewer);
      lists = λ test h. buckets_step (clean_bucket test) c.loop-bucket.bucket (length c.args.self.now.chains) c.loop-bucket.self c.clean_bucket.new.self (clean_buckets test 0 (length c.args.self.now.chains) c.args.self.now) lt
          (c.clean_bucket.ensures.lists test h) (c.loop-bucket.invariant.lists test h);
    }
