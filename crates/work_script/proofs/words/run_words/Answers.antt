use Rattle.device_bay.specs.Calls.{refusals_of}
use Rattle.script_run.specs.Ledger.{ledger_of}
use Rattle.run_promise.specs.Story.{refusals_around}
use Rattle.edge_io.proofs.Draws.{draws_nothing}
use Rattle.work_script.proofs.Unread.{unread_all}
use Rattle.work_script.proofs.words.run_words.Goals as goal

pub returns-in-Err-clause-concludes : goal.returns-in-Err-clause-concludes
returns-in-Err-clause-concludes g c =
    let past = g.B.Bay.past c.args.bay.now in
    unread_all (g.S.Source.reads c.args.source.now) (g.K.Sink.writes c.args.sink.now) (refusals_around (refusals_of past) (refusals_of past)) (ledger_of g.B.Bay c.args.bay.now) _ c.in-Err.ensures.wanting

pub returns-in-Err-clause-source : goal.returns-in-Err-clause-source
returns-in-Err-clause-source g c = draws_nothing g.S.Source.reads g.S.Source.left c.args.source.now
