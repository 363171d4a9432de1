use Rattle.dir_segment.specs.Lists.{is_that}
use Rattle.dir_segment.proofs.Searching.{deleted_none}
use Rattle.dir_segment.proofs.segment.Segment.delete.Goals as goal

pub returns-in-None-clause-lists : goal.returns-in-None-clause-lists
returns-in-None-clause-lists c = deleted_none c.args.self.now c.args.bucket (is_that c.args.tag c.args.offset c.args.phase) c.in-None.ensures.none
