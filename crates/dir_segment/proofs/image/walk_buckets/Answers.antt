use Rattle.std.proofs.lemmas.Result.{err_from_is_err_and}
use Rattle.dir_segment.specs.Image.{walk_buckets}
use Rattle.dir_segment.proofs.Marking.{buckets_fault, buckets_on}
use Rattle.dir_segment.proofs.image.walk_buckets.Goals as goal

pub returns-in_err-walk_bucket-clause-walks : goal.returns-in_err-walk_bucket-clause-walks
returns-in_err-walk_bucket-clause-walks c =
    let p = err_from_is_err_and c.from_residual.result c.from_residual.ensures.1 in
    rw (p.1, p.2)
    (buckets_fault c.args.slots.now c.args.buckets c.loop-bucket.bucket c.loop-bucket.reached (walk_buckets c.args.slots.now 0 c.args.buckets c.args.reached.now) c.in_err-walk_bucket.field-0.0
    c.loop-bucket-test.true c.loop-bucket.invariant.walks c.in_err-walk_bucket.ensures.walks)

pub loop-bucket-preserved : goal.loop-bucket-preserved
loop-bucket-preserved c = record {
  size = c.in_ok-walk_bucket.ensures.size;
  walks = buckets_on c.args.slots.now c.args.buckets c.loop-bucket.bucket c.loop-bucket.reached c.walk_bucket.new.reached (walk_buckets c.args.slots.now 0 c.args.buckets c.args.reached.now)
      c.loop-bucket-test.true c.loop-bucket.invariant.walks c.in_ok-walk_bucket.ensures.walks;
}
