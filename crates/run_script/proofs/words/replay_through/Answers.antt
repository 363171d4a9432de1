use Rattle.script_run.specs.Ledger.{ledger_of}
use Rattle.std.proofs.Common.{[]}
use Rattle.device_bay.specs.Calls.{refusals_of}
use Rattle.run_promise.specs.Story.{refusals_around}
use Rattle.run_script.proofs.Halts.{grows_more}
use Rattle.run_script.proofs.Tops.{concludes_stopped, reads_stopped, refusals_stopped}
use Rattle.run_script.proofs.words.replay_through.Goals as goal

pub returns-in-Stopped-clause-concludes : goal.returns-in-Stopped-clause-concludes
returns-in-Stopped-clause-concludes g c =
    let bay = refusals_around (refusals_of (g.B.Bay.past c.args.bay.now)) (refusals_of (g.B.Bay.past c.replay.new.bay)) in
    concludes_stopped _ _ _ (g.K.Sink.writes c.replay.new.sink) _ bay _ _ c.in-Stopped.last c.in-Stopped.ensures.begun c.in-Stopped.ensures.ends c.conclude.result c.conclude.ensures.said

pub returns-in-Stopped-clause-reads : goal.returns-in-Stopped-clause-reads
returns-in-Stopped-clause-reads g c =
    let ledger = ledger_of g.B.Bay c.args.bay.now in
    let sink = g.K.Sink.writes c.replay.new.sink in
    reads_stopped _ _ sink sink (g.K.Sink.writes c.conclude.new.sink) (refusals_around [] []) ledger ledger c.in-Stopped.last c.in-Stopped.ensures.reads c.conclude.result c.conclude.ensures.said

pub returns-in-Stopped-clause-sink : goal.returns-in-Stopped-clause-sink
returns-in-Stopped-clause-sink g c = grows_more _ _ _ c.replay.ensures.sink c.conclude.ensures.grows

pub returns-in-Stopped-clause-refusals : goal.returns-in-Stopped-clause-refusals
returns-in-Stopped-clause-refusals g c =
    let bay = refusals_around (refusals_of (g.B.Bay.past c.args.bay.now)) (refusals_of (g.B.Bay.past c.replay.new.bay)) in
    refusals_stopped _ _ _ (g.K.Sink.writes c.replay.new.sink) _ bay _ _ c.in-Stopped.last c.in-Stopped.ensures.refusals c.in-Stopped.ensures.ends c.conclude.result c.conclude.ensures.said
