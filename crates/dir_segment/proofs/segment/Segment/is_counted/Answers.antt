use Rattle.dir_segment.proofs.Counting.{counted, stored}
use Rattle.dir_segment.proofs.Walks.{seen}
use Rattle.dir_segment.proofs.segment.Segment.is_counted.Goals as goal

pub returns-clause-counted : goal.returns-clause-counted
returns-clause-counted c =
    let s = c.self.inside in
    counted s.slots s.free s.free_count s.used s.buckets c.args.self.now (seen s.slots s.free s.free_count s.used s.buckets c.args.self.now c.self.view_is c.self.invariant)

pub returns-clause-stored : goal.returns-clause-stored
returns-clause-stored c =
    let s = c.self.inside in
    stored s.slots s.free s.free_count s.used s.buckets c.args.self.now (seen s.slots s.free s.free_count s.used s.buckets c.args.self.now c.self.view_is c.self.invariant) c.fit.ensures
