use Rattle.std.proofs.Common.{sym, ◌∙◌, refl, ap, arith}
use Rattle.job_lines.specs.Lanes.{or_first}
use Rattle.edge_io.specs.LineReader.{held, lines_given, source_of}
use Rattle.edge_io.specs.Text.{text_after}
use Rattle.job_lines.proofs.JobSteps.{reading_works}
use Rattle.job_lines.proofs.Read.{asked_job, asked_passed, asked_read, stops_bad, stops_fault, stops_memory}
use Rattle.job_lines.proofs.reading.read_job.Goals as goal

pub add-requires-clause-worker : goal.add-requires-clause-worker
add-requires-clause-worker g c =
    let read = c.in-Line-Job.ensures in
    let works = reading_works c.args.workers read.0 c.in-Line-Job.worker c.in-Line-Job.step (sym read.1 ∙ c.in-Line-Job.field-0-is) in
    (works.0, omega (arith, works.1, c.requires.width))

pub add-requires-clause-step : goal.add-requires-clause-step
add-requires-clause-step g c =
    let read = c.in-Line-Job.ensures in
    (reading_works c.args.workers read.0 c.in-Line-Job.worker c.in-Line-Job.step (sym read.1 ∙ c.in-Line-Job.field-0-is)).2

pub returns-in-End-clause-goes : goal.returns-in-End-clause-goes
returns-in-End-clause-goes g c =
    let next = c.in-End.ensures in
    λ given before first a. asked_read c.args.workers given before first _ _ _ c.args.asked.now a _ next.draws.more _ _ next.draws.grew (next.answers.1 ∙ sym next.answers.2) next.given

pub returns-in-Fault-clause-ends : goal.returns-in-Fault-clause-ends
returns-in-Fault-clause-ends g c =
    let next = c.in-Fault.ensures in
    let old = g.S.Source.reads (source_of c.args.reader.now).now in
    let more = next.draws.more in
    let unread = text_after (held c.args.reader.now) more in
    rw c.last_of.ensures
    (λ given before first a. stops_fault c.args.workers given before first _ unread (lines_given c.args.reader.now) c.args.asked.now
    (asked_read c.args.workers given before first _ _ _ c.args.asked.now a _ more unread _ next.draws.grew refl refl)
    (held c.args.reader.now) old more (held c.next_reading.new.reader) c.in-Fault.fault refl next.draws.grew next.needed next.failed next.answers)

pub returns-in-Memory-clause-ends : goal.returns-in-Memory-clause-ends
returns-in-Memory-clause-ends g c =
    let next = c.in-Memory.ensures.1 in
    let more = next.draws.more in
    λ given before first a. stops_memory c.args.workers given before first _ _ (lines_given c.args.reader.now) c.args.asked.now
    (asked_read c.args.workers given before first _ _ _ c.args.asked.now a _ more (text_after (held c.args.reader.now) more) _ next.draws.grew refl refl)

pub returns-in-Line-Nothing-clause-goes : goal.returns-in-Line-Nothing-clause-goes
returns-in-Line-Nothing-clause-goes g c =
    let read = c.in-Line-Nothing.ensures in
    let next = read.2 in
    let more = next.draws.more in
    let unread = text_after (held c.args.reader.now) more in
    λ given before first a. asked_passed c.args.workers given before first _ unread (lines_given c.args.reader.now) c.args.asked.now
    (asked_read c.args.workers given before first _ _ _ c.args.asked.now a _ more unread _ next.draws.grew refl refl)
    read.0 _ _ next.answers next.given (sym read.1 ∙ c.in-Line-Nothing.field-0-is)

pub returns-in-Line-Bad-clause-ends : goal.returns-in-Line-Bad-clause-ends
returns-in-Line-Bad-clause-ends g c =
    let read = c.in-Line-Bad.ensures in
    let next = read.2 in
    let more = next.draws.more in
    let unread = text_after (held c.args.reader.now) more in
    rw c.lines_given.ensures
    (λ given before first a. stops_bad c.args.workers given before first _ unread (lines_given c.args.reader.now) c.args.asked.now
    (asked_read c.args.workers given before first _ _ _ c.args.asked.now a _ more unread _ next.draws.grew refl refl)
    read.0 _ _ next.answers next.given c.in-Line-Bad.fault (sym read.1 ∙ c.in-Line-Bad.field-0-is))

pub returns-in-Ok-clause-goes : goal.returns-in-Ok-clause-goes
returns-in-Ok-clause-goes g c =
    let read = c.in-Line-Job.ensures in
    let next = read.2 in
    let more = next.draws.more in
    let unread = text_after (held c.args.reader.now) more in
    let is = sym read.1 ∙ c.in-Line-Job.field-0-is in
    let works = reading_works c.args.workers read.0 c.in-Line-Job.worker c.in-Line-Job.step is in
    λ given before first a. asked_job c.args.workers given before first _ unread (lines_given c.args.reader.now) c.args.asked.now
    (asked_read c.args.workers given before first _ _ _ c.args.asked.now a _ more unread _ next.draws.grew refl refl)
    read.0 _ _ next.answers next.given c.in-Line-Job.worker c.in-Line-Job.step c.add.new.self is works.0 c.in-Ok.ensures.job
    (c.in-Ok.ensures.first ∙ ap (or_first c.args.asked.now.first) c.lines_given-in-Line-Job.ensures)

pub returns-in-Err-clause-ends : goal.returns-in-Err-clause-ends
returns-in-Err-clause-ends g c =
    let next = c.in-Line-Job.ensures.2 in
    let more = next.draws.more in
    λ given before first a. stops_memory c.args.workers given before first _ _ (lines_given c.args.reader.now) c.args.asked.now
    (asked_read c.args.workers given before first _ _ _ c.args.asked.now a _ more (text_after (held c.args.reader.now) more) _ next.draws.grew refl refl)
