use Rattle.dir_segment.proofs.Purging.{full_behind, tenth_purged}
use Rattle.dir_segment.proofs.Walks.{seen}
use Rattle.dir_segment.proofs.segment.Segment.bucket_count.Goals as goal

pub returns-clause-full : goal.returns-clause-full
returns-clause-full c = λ none.
    let s = c.self.inside in
    full_behind s.slots s.free s.free_count s.used s.buckets c.args.self.now (seen s.slots s.free s.free_count s.used s.buckets c.args.self.now c.self.view_is c.self.invariant) none

pub returns-clause-tenth : goal.returns-clause-tenth
returns-clause-tenth c = λ none.
    let s = c.self.inside in
    tenth_purged s.slots s.free s.free_count s.used s.buckets c.args.self.now (seen s.slots s.free s.free_count s.used s.buckets c.args.self.now c.self.view_is c.self.invariant) none
