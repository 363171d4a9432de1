use Rattle.std.proofs.Common.{inl, ◌∙◌}
use Rattle.edge_io.specs.LineReader.{held, lines_given, source_of}
use Rattle.edge_io.proofs.Draws.{draws_more}
use Rattle.device_bay.specs.Calls.{refusals_of}
use Rattle.script_run.specs.Ledger.{AreReached, ledger_of}
use Rattle.cache_replay.specs.Replay.{devices_in, returns_in}
use Rattle.run_promise.specs.Story.{Owes, OwesOrGave, refusals_around}
use Rattle.run_script.proofs.Ends.{failed_earlier}
use Rattle.run_script.proofs.Halts.{plays_reach}
use Rattle.work_script.specs.Before.{BeforeBecause}
use Rattle.work_script.specs.Ending.{WorkBecause}
use Rattle.work_script.proofs.Ending.{come, ends_with, jobs_stop, lacks_cache}
use Rattle.work_script.proofs.work.read_script.Goals as goal

pub returns-in-Err-clause-ends : goal.returns-in-Err-clause-ends
returns-in-Err-clause-ends g c =
    let bay = refusals_around (refusals_of (g.B.Bay.past c.args.bay.now)) (refusals_of (g.B.Bay.past c.run_before.new.bay)) in
    let read = g.S.Source.reads (source_of c.run_before.new.reader).now in
    let ledger = ledger_of g.B.Bay c.args.bay.now in
    let ledger' = ledger_of g.B.Bay c.run_before.new.bay in
    let devices = Owes ledger ledger' (λ harms. AreReached harms (returns_in c.run_before.new.replay)) in
    let wanting = OwesOrGave ledger ledger' (devices_in c.run_before.new.replay) (λ harms. AreReached harms (returns_in c.run_before.new.replay)) in
    ends_with (BeforeBecause bay) (WorkBecause c.args.workers bay read) (λ held given o e b. inl b) (g.S.Source.reads (source_of c.args.reader.now).now) read (g.K.Sink.writes c.args.sink.now) (g.K.Sink.writes c.run_before.new.sink)
    devices devices wanting wanting (λ t d. d) (λ held given t w. w) c.in-Err.ending c.in-Err.ensures.ends

pub returns-in-Some-clause-ends : goal.returns-in-Some-clause-ends
returns-in-Some-clause-ends g c =
    let bay = refusals_around (refusals_of (g.B.Bay.past c.args.bay.now)) (refusals_of (g.B.Bay.past c.run_before.new.bay)) in
    let session = c.run_before.new.replay in
    let first = g.S.Source.reads (source_of c.args.reader.now).now in
    let old = g.S.Source.reads (source_of c.run_before.new.reader).now in
    let new = g.S.Source.reads (source_of c.read_jobs.new.reader).now in
    lacks_cache c.args.workers first old new (g.K.Sink.writes c.args.sink.now) (g.K.Sink.writes c.run_before.new.sink) (ledger_of g.B.Bay c.args.bay.now) (ledger_of g.B.Bay c.run_before.new.bay)
    (held c.run_before.new.reader) (lines_given c.run_before.new.reader) _ _ c.in-Ok.ensures.splits (λ harms. AreReached harms (returns_in session)) (devices_in session) (λ o is. is.reached) (plays_reach session c.run_before.ensures.replay) bay
    (held c.read_jobs.new.reader) (lines_given c.read_jobs.new.reader) c.in-Some.line c.in-Ok-read_jobs.asked c.in-Ok-read_jobs.ensures.asked c.in-Ok-read_jobs.ensures.through c.in-Some.ensures.some.0
    (λ o out. out.stands ∙ c.in-Some.ensures.some.1)

pub returns-in-None-clause-comes : goal.returns-in-None-clause-comes
returns-in-None-clause-comes g c =
    let first = g.S.Source.reads (source_of c.args.reader.now).now in
    let old = g.S.Source.reads (source_of c.run_before.new.reader).now in
    let new = g.S.Source.reads (source_of c.read_jobs.new.reader).now in
    come c.args.workers first old new (g.K.Sink.writes c.args.sink.now) (g.K.Sink.writes c.run_before.new.sink) (ledger_of g.B.Bay c.args.bay.now) (ledger_of g.B.Bay c.run_before.new.bay)
    (held c.run_before.new.reader) (lines_given c.run_before.new.reader) _ _ c.in-Ok.ensures.splits
    (held c.read_jobs.new.reader) (lines_given c.read_jobs.new.reader) c.in-Ok-read_jobs.asked c.in-Ok-read_jobs.ensures.asked c.in-Ok-read_jobs.ensures.through

pub returns-in-Err-read_jobs-clause-ends : goal.returns-in-Err-read_jobs-clause-ends
returns-in-Err-read_jobs-clause-ends g c =
    let bay = refusals_around (refusals_of (g.B.Bay.past c.args.bay.now)) (refusals_of (g.B.Bay.past c.run_before.new.bay)) in
    let session = c.run_before.new.replay in
    let first = g.S.Source.reads (source_of c.args.reader.now).now in
    let old = g.S.Source.reads (source_of c.run_before.new.reader).now in
    let new = g.S.Source.reads (source_of c.read_jobs.new.reader).now in
    jobs_stop c.args.workers first old new (g.K.Sink.writes c.args.sink.now) (g.K.Sink.writes c.run_before.new.sink) (ledger_of g.B.Bay c.args.bay.now) (ledger_of g.B.Bay c.run_before.new.bay)
    (held c.run_before.new.reader) (lines_given c.run_before.new.reader) _ _ c.in-Ok.ensures.splits (λ harms. AreReached harms (returns_in session)) (devices_in session) (λ o is. is.reached) (plays_reach session c.run_before.ensures.replay) bay
    c.in-Err-read_jobs.ending c.in-Err-read_jobs.ensures.ends

pub returns-in-Err-read_jobs-clause-reads : goal.returns-in-Err-read_jobs-clause-reads
returns-in-Err-read_jobs-clause-reads g c = failed_earlier _ _ _ c.in-Err-read_jobs.ending c.in-Ok.ensures.reads c.in-Err-read_jobs.ensures.reads

pub returns-in-Some-clause-draws : goal.returns-in-Some-clause-draws
returns-in-Some-clause-draws g c = draws_more g.S.Source.reads g.S.Source.left _ _ _ c.run_before.ensures.draws c.read_jobs.ensures.draws

pub returns-in-None-clause-draws : goal.returns-in-None-clause-draws
returns-in-None-clause-draws g c = draws_more g.S.Source.reads g.S.Source.left _ _ _ c.run_before.ensures.draws c.read_jobs.ensures.draws

pub returns-in-Err-read_jobs-clause-draws : goal.returns-in-Err-read_jobs-clause-draws
returns-in-Err-read_jobs-clause-draws g c = draws_more g.S.Source.reads g.S.Source.left _ _ _ c.run_before.ensures.draws c.read_jobs.ensures.draws
