use Rattle.std.proofs.Common.{◌≤◌, length, sym, subst}
use Rattle.std.specs.Prelude.{IfSome, option_map}
use Rattle.cache_calls.specs.Keeping.{state_at}
use Rattle.run_promise.specs.Outline.{count_in}
use Rattle.cache_replay.specs.WriterLines.{FeedsLine, WriterDoes}
use Rattle.cache_replay.proofs.Closings.{some_when}
use Rattle.cache_replay.proofs.Fed.{fed_counts, feeds_line}
use Rattle.cache_replay.proofs.WriterSteps.{is_left, left_seen}
use Rattle.cache_replay.proofs.writer_lines.give_bytes.Goals as goal

pub returns-clause-leaves : goal.returns-clause-leaves
returns-clause-leaves g c =
    let b = g.S.Calls.at c.feed-taken.new.cache in
    let w = g.S.Calls.written c.args.writer in
    let last = g.S.Calls.written c.feed-taken.new.writer in
    let h = c.feed-taken.ensures in
    record {
      keeps = h.keeps;
      own = h.fed.own;
      left_is = is_left (state_at b) w.put last (option_map g.S.Calls.written c.keep_open.result) h.fed.fed.put h.fed.writer
          (left_seen g.S.Calls.written (state_at b) c.feed-taken.new.writer c.keep_open.result c.keep_open.ensures);
      counts = some_when (λ said. count_in said ≤ b.device.faults) c.fed_answer.result (λ none.
          subst (λ o. IfSome o (λ said. count_in said ≤ b.device.faults)) (sym c.fed_answer.ensures)
          (fed_counts (length c.args.body.now) c.feed-taken.result.taken c.feed-taken.result.refused b.device.faults h.fed.counts));
    }

pub returns-clause-does : goal.returns-clause-does
returns-clause-does g c =
    let a = g.S.Calls.at c.args.cache.now in
    let b = g.S.Calls.at c.feed-taken.new.cache in
    let w = g.S.Calls.written c.args.writer in
    let last = g.S.Calls.written c.feed-taken.new.writer in
    let left = option_map g.S.Calls.written c.keep_open.result in
    let h = c.feed-taken.ensures in
    subst (WriterDoes c.args.now a b (FeedsLine c.args.body.now) w left) (sym c.fed_answer.ensures)
    (feeds_line c.args.now a b c.requires.plain (g.met.S.Calls.at_rest c.feed-taken.new.cache h.keeps.goes_on.holds_then).quiet
    w last c.args.body.now c.feed-taken.result.taken left c.requires.writer h.fed.fed h.fed.most
    (left_seen g.S.Calls.written (state_at b) c.feed-taken.new.writer c.keep_open.result c.keep_open.ensures)
    c.feed-taken.result.refused h.feeds h.fed.taken_is)
