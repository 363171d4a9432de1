use Rattle.std.proofs.Common.{sym, ◌∙◌}
use Rattle.dir_segment.proofs.Sweeping.{no_chain}
use Rattle.dir_segment.proofs.segment.Segment.clean_bucket.Goals as goal

pub returns-in_default-clause-lists : goal.returns-in_default-clause-lists
returns-in_default-clause-lists g c = λ test h. sym (no_chain test c.clean_root.new.self c.args.bucket c.in_default.ensures.root) ∙ c.in_default.ensures.lists test h
