use Rattle.dir_segment.proofs.Housing.{purge_takes_lem}
use Rattle.dir_segment.proofs.Walks.{seen}
use Rattle.dir_segment.proofs.segment.Segment.purge_takes.Goals as goal

pub returns : goal.returns
returns c =
    let s = c.self.inside in
    purge_takes_lem s.slots s.free s.free_count s.used s.buckets c.args.self.now (seen s.slots s.free s.free_count s.used s.buckets c.args.self.now c.self.view_is c.self.invariant)
