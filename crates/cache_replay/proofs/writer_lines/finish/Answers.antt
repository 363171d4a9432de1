use Rattle.std.proofs.Common.{◌≤◌, sym, subst}
use Rattle.std.specs.Prelude.{IfSome, option_map}
use Rattle.cache_calls.specs.Keeping.{state_at}
use Rattle.run_promise.specs.Outline.{count_in}
use Rattle.cache_replay.specs.WriterLines.{ClosesLine, WriterDoes}
use Rattle.cache_replay.proofs.Frames.{losses_kept}
use Rattle.cache_replay.proofs.Closings.{closed_counts, closes_as_open, closes_line, rested_put, some_when}
use Rattle.cache_replay.proofs.WriterSteps.{is_left, left_seen}
use Rattle.cache_replay.proofs.writer_lines.finish.Goals as goal

pub returns-clause-leaves : goal.returns-clause-leaves
returns-clause-leaves g c =
    let a = g.S.Calls.at c.args.cache.now in
    let b = g.S.Calls.at c.close_write-result.new.self in
    let w = g.S.Calls.written c.args.writer in
    let last = g.S.Calls.written c.close_write-result.new.writer in
    let h = c.close_write-result.ensures in
    record {
      keeps = h.keeps;
      own = h.own;
      left_is = is_left (state_at b) w.put last (option_map g.S.Calls.written c.keep_open.result) (rested_put w last h.writer.rested) h.writer.writer
          (left_seen g.S.Calls.written (state_at b) c.close_write-result.new.writer c.keep_open.result c.keep_open.ensures);
      counts = some_when (λ said. count_in said ≤ b.device.faults) c.closed_answer.result (λ none.
          subst (λ o. IfSome o (λ said. count_in said ≤ b.device.faults)) (sym c.closed_answer.ensures)
          (closed_counts a b w c.close_write-result.result (losses_kept a b h.own.added h.own.adds none)
          (closes_as_open a b w c.close_write-result.result c.requires.writer.writing h.gives)));
    }

pub returns-clause-does : goal.returns-clause-does
returns-clause-does g c =
    let a = g.S.Calls.at c.args.cache.now in
    let b = g.S.Calls.at c.close_write-result.new.self in
    let w = g.S.Calls.written c.args.writer in
    let last = g.S.Calls.written c.close_write-result.new.writer in
    let left = option_map g.S.Calls.written c.keep_open.result in
    let h = c.close_write-result.ensures in
    subst (WriterDoes c.args.now a b ClosesLine w left) (sym c.closed_answer.ensures)
    (closes_line c.args.now a b c.requires.plain (g.met.S.Calls.at_rest c.close_write-result.new.self h.keeps.goes_on.holds_then).quiet
    w last left c.requires.writer h.writer.rested (left_seen g.S.Calls.written (state_at b) c.close_write-result.new.writer c.keep_open.result c.keep_open.ensures)
    c.close_write-result.result h.gives h.serves h.writer.seals)
