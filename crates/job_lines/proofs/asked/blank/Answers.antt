use Rattle.std.proofs.Common.{rules}
use Rattle.job_lines.proofs.Lanes.{blank_push}
use Rattle.job_lines.proofs.asked.blank.Goals as goal

pub loop-preserved : goal.loop-preserved
loop-preserved c = record {
  width = search rules;
  blank = rw c.in_ok-push.ensures.items (blank_push c.loop.lanes.items c.new.result c.new.ensures.items c.loop.invariant.blank);
}
