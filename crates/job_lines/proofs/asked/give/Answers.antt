use Rattle.std.proofs.Common.{rules, ◌≡◌, ◌+◌, length, vec_len, arith}
use Rattle.job_lines.proofs.Lanes.{given}
use Rattle.job_lines.proofs.asked.give.Goals as goal

pub returns-clause-job : goal.returns-clause-job
returns-clause-job c =
    let old = c.index_mut-lane.result.now in
    let many : vec_len old ≡ length old.items = search rules in
    let all : vec_len c.args.lanes.now ≡ length c.args.lanes.now.items = search rules in
    given c.args.lanes.now.items c.args.place old c.push.new.self (record { number = c.len.result + 1; step = c.args.step }) (omega (arith, all, c.requires)) c.index_mut-lane.ensures.value
    c.in_ok-push.ensures.items (omega (arith, c.len.ensures, many))
