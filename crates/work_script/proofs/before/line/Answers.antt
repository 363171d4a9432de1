use Rattle.std.proofs.Common.{[], refl}
use Rattle.edge_io.specs.LineReader.{lines_given, held, source_of}
use Rattle.edge_io.specs.Text.{text_after}
use Rattle.cache_replay.specs.Replay.{devices_in, returns_in}
use Rattle.script_run.specs.Ledger.{AreReached, ledger_of}
use Rattle.device_bay.specs.Calls.{refusals_of}
use Rattle.cache_replay.proofs.Order.{order_same}
use Rattle.run_promise.specs.Story.{Owes, OwesOrGave, refusals_around}
use Rattle.run_script.proofs.Halts.{plays_reach}
use Rattle.run_script.proofs.Stories.{passed_more, read_more}
use Rattle.run_script.proofs.Ends.{done_ends, memory_ends, fault_ends, fault_failed, halt_failed, read_through, step_goes, step_ends, ending_of-begun, last_of-begun}
use Rattle.work_script.proofs.BeforeSplit.{bad_before, fault_as, halt_as, nothing_before, step_before}
use Rattle.work_script.proofs.before.line.Goals as goal

pub returns-in-End-clause-ends : goal.returns-in-End-clause-ends
returns-in-End-clause-ends g c =
    let old = g.S.Source.reads (source_of c.args.reader.now).now in
    let new = g.S.Source.reads (source_of c.next_reading.new.reader).now in
    let given = lines_given c.args.reader.now in
    let next = c.in-End.ensures in
    let more = next.draws.more in
    let unread = text_after (held c.args.reader.now) more in
    λ first told back story. done_ends first new told _ back _ unread given _ _ (λ harms. AreReached harms (returns_in c.args.replay.now)) (devices_in c.args.replay.now) (λ o is. is.reached) (plays_reach c.args.replay.now c.requires.replay) (read_more first old new more (held c.args.reader.now) given _ _ _ _ next.draws.grew story)
    (refusals_around [] []) (read_through given more old new unread (held c.next_reading.new.reader) next.draws.grew next.answers)

pub returns-in-Fault-clause-ends : goal.returns-in-Fault-clause-ends
returns-in-Fault-clause-ends g c =
    let old = g.S.Source.reads (source_of c.args.reader.now).now in
    let new = g.S.Source.reads (source_of c.next_reading.new.reader).now in
    let given = lines_given c.args.reader.now in
    let next = c.in-Fault.ensures in
    let more = next.draws.more in
    let unread = text_after (held c.args.reader.now) more in
    let bay = refusals_around (refusals_of (g.B.Bay.past c.args.bay.now)) (refusals_of (g.B.Bay.past c.args.bay.now)) in
    rw c.last_of.ensures
    (λ first told back story. fault_as bay first new told _ (Owes back (ledger_of g.B.Bay c.args.bay.now) (λ harms. AreReached harms (returns_in c.args.replay.now))) (OwesOrGave back (ledger_of g.B.Bay c.args.bay.now) (devices_in c.args.replay.now) (λ harms. AreReached harms (returns_in c.args.replay.now))) c.in-Fault.fault (fault_ends first new told _ back _ unread given _ _ (λ harms. AreReached harms (returns_in c.args.replay.now)) (devices_in c.args.replay.now) (λ o is. is.reached) (plays_reach c.args.replay.now c.requires.replay) (read_more first old new more (held c.args.reader.now) given _ _ _ _ next.draws.grew story)
    (held c.args.reader.now) old more (held c.next_reading.new.reader) bay c.in-Fault.fault refl next.draws.grew next.needed next.failed next.answers))

pub returns-in-Fault-clause-begun : goal.returns-in-Fault-clause-begun
returns-in-Fault-clause-begun g c = rw c.last_of.ensures (last_of-begun c.in-Fault.fault)

pub returns-in-Fault-clause-reads : goal.returns-in-Fault-clause-reads
returns-in-Fault-clause-reads g c = rw c.last_of.ensures (fault_failed _ _ c.in-Fault.fault c.in-Fault.ensures.failed)

pub returns-in-Memory-clause-ends : goal.returns-in-Memory-clause-ends
returns-in-Memory-clause-ends g c =
    let old = g.S.Source.reads (source_of c.args.reader.now).now in
    let new = g.S.Source.reads (source_of c.next_reading.new.reader).now in
    let given = lines_given c.args.reader.now in
    let next = c.in-Memory.ensures.1 in
    let more = next.draws.more in
    let unread = text_after (held c.args.reader.now) more in
    λ first told back story. memory_ends first new told _ back _ unread given _ _ (λ harms. AreReached harms (returns_in c.args.replay.now)) (devices_in c.args.replay.now) (λ o is. is.reached) (plays_reach c.args.replay.now c.requires.replay) (read_more first old new more (held c.args.reader.now) given _ _ _ _ next.draws.grew story)
    (refusals_around [] [])

pub returns-in-Line-Nothing-clause-goes : goal.returns-in-Line-Nothing-clause-goes
returns-in-Line-Nothing-clause-goes g c =
    let read = c.in-Line-Nothing.ensures in
    let old = g.S.Source.reads (source_of c.args.reader.now).now in
    let new = g.S.Source.reads (source_of c.next_reading.new.reader).now in
    let given = lines_given c.args.reader.now in
    let next = read.2 in
    let more = next.draws.more in
    let unread = text_after (held c.args.reader.now) more in
    λ first told back story. passed_more first new told _ back _ unread (held c.next_reading.new.reader) given (lines_given c.next_reading.new.reader) _ _ (read_more first old new more (held c.args.reader.now) given _ _ _ _ next.draws.grew story) read.0 next.answers next.given (nothing_before read.0 (rw c.in-Line-Nothing.field-0-is at read.1))

pub returns-in-Line-Bad-clause-ends : goal.returns-in-Line-Bad-clause-ends
returns-in-Line-Bad-clause-ends g c =
    let read = c.in-Line-Bad.ensures in
    let old = g.S.Source.reads (source_of c.args.reader.now).now in
    let new = g.S.Source.reads (source_of c.next_reading.new.reader).now in
    let given = lines_given c.args.reader.now in
    let next = read.2 in
    let more = next.draws.more in
    let unread = text_after (held c.args.reader.now) more in
    let bay = refusals_around (refusals_of (g.B.Bay.past c.args.bay.now)) (refusals_of (g.B.Bay.past c.args.bay.now)) in
    rw c.lines_given.ensures
    (λ first told back story. bad_before first new told _ back _ unread given _ _ (λ harms. AreReached harms (returns_in c.args.replay.now)) (devices_in c.args.replay.now) (λ o is. is.reached) (plays_reach c.args.replay.now c.requires.replay) (read_more first old new more (held c.args.reader.now) given _ _ _ _ next.draws.grew story)
    read.0 (held c.next_reading.new.reader) (lines_given c.next_reading.new.reader) next.answers next.given bay c.in-Line-Bad.fault (rw c.in-Line-Bad.field-0-is at read.1))

pub returns-in-Ok-clause-goes : goal.returns-in-Ok-clause-goes
returns-in-Ok-clause-goes g c =
    let read = c.in-Line-Step.ensures in
    let old = g.S.Source.reads (source_of c.args.reader.now).now in
    let new = g.S.Source.reads (source_of c.next_reading.new.reader).now in
    let given = lines_given c.args.reader.now in
    let next = read.2 in
    let more = next.draws.more in
    let unread = text_after (held c.args.reader.now) more in
    let asks = step_before read.0 c.in-Line-Step.asked (rw c.in-Line-Step.field-0-is at read.1) in
    λ first told back story.
    step_goes c.args.replay.now first new told _ back _ unread (held c.next_reading.new.reader) given (lines_given c.next_reading.new.reader) (read_more first old new more (held c.args.reader.now) given _ _ _ _ next.draws.grew story)
    read.0 next.answers next.given c.in-Line-Step.asked asks c.take_step.new.replay _ _ c.requires.replay c.in-Ok.ensures.done

pub returns-in-Err-clause-ends : goal.returns-in-Err-clause-ends
returns-in-Err-clause-ends g c =
    let read = c.in-Line-Step.ensures in
    let old = g.S.Source.reads (source_of c.args.reader.now).now in
    let new = g.S.Source.reads (source_of c.next_reading.new.reader).now in
    let given = lines_given c.args.reader.now in
    let next = read.2 in
    let more = next.draws.more in
    let unread = text_after (held c.args.reader.now) more in
    let asks = step_before read.0 c.in-Line-Step.asked (rw c.in-Line-Step.field-0-is at read.1) in
    rw (c.ending_of.ensures, c.lines_given-in-Err.ensures)
    (λ first told back story.
    halt_as (refusals_around (refusals_of (g.B.Bay.past c.args.bay.now)) (refusals_of (g.B.Bay.past c.take_step.new.bay))) first new told _ _ _ _ c.in-Err.halt (step_ends c.args.replay.now first new told _ back _ unread (held c.next_reading.new.reader) given (lines_given c.next_reading.new.reader) (read_more first old new more (held c.args.reader.now) given _ _ _ _ next.draws.grew story)
    read.0 next.answers next.given c.in-Line-Step.asked asks c.take_step.new.replay _ _ c.requires.replay c.take_step.ensures.replay (g.B.Bay.past c.args.bay.now) (g.B.Bay.past c.take_step.new.bay) c.in-Err.halt c.in-Err.ensures.halted))

pub returns-in-Err-clause-begun : goal.returns-in-Err-clause-begun
returns-in-Err-clause-begun g c = rw c.ending_of.ensures (ending_of-begun _ c.in-Err.halt)

pub returns-in-Err-clause-reads : goal.returns-in-Err-clause-reads
returns-in-Err-clause-reads g c = rw c.ending_of.ensures (halt_failed _ _ _ c.in-Err.halt c.in-Line-Step.ensures.2.failed)

pub returns-in-End-clause-order : goal.returns-in-End-clause-order
returns-in-End-clause-order g c = order_same _ _

pub returns-in-Memory-clause-order : goal.returns-in-Memory-clause-order
returns-in-Memory-clause-order g c = order_same _ _

pub returns-in-Line-Nothing-clause-order : goal.returns-in-Line-Nothing-clause-order
returns-in-Line-Nothing-clause-order g c = order_same _ _

pub returns-in-Line-Bad-clause-order : goal.returns-in-Line-Bad-clause-order
returns-in-Line-Bad-clause-order g c = order_same _ _

pub returns-in-Fault-clause-order : goal.returns-in-Fault-clause-order
returns-in-Fault-clause-order g c = order_same (returns_in c.args.replay.now) (g.B.Bay.past c.args.bay.now)

pub returns-in-Split-clause-goes : goal.returns-in-Split-clause-goes
returns-in-Split-clause-goes g c =
    let read = c.in-Split.ensures in
    let old = g.S.Source.reads (source_of c.args.reader.now).now in
    let new = g.S.Source.reads (source_of c.next_reading.new.reader).now in
    let given = lines_given c.args.reader.now in
    let next = read.2 in
    let more = next.draws.more in
    λ first told back story. record {
      held = text_after (held c.args.reader.now) more;
      behind = given;
      goes = read_more first old new more (held c.args.reader.now) given _ _ _ _ next.draws.grew story;
      bytes = read.0;
      splits = read.1;
      next = next.answers;
      counted = next.given;
    }

pub returns-in-Split-clause-order : goal.returns-in-Split-clause-order
returns-in-Split-clause-order g c = order_same _ _
