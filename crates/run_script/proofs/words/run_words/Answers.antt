use Rattle.std.proofs.Common.{Option, subst}
use Rattle.command_words.specs.Words.{Wish}
use Rattle.device_bay.specs.Calls.{refusals_of}
use Rattle.script_run.specs.Ledger.{ledger_of}
use Rattle.run_promise.specs.Story.{refusals_around}
use Rattle.edge_io.proofs.Draws.{draws_nothing}
use Rattle.run_script.specs.Commands.{ConcludesAs, IsUsageBy, RefusesAs}
use Rattle.run_script.proofs.Commands.{unread_refusals, unread_usage, unread_words}
use Rattle.run_script.proofs.words.run_words.Goals as goal

pub returns-in-Err-clause-concludes : goal.returns-in-Err-clause-concludes
returns-in-Err-clause-concludes g c =
    let past = g.B.Bay.past c.args.bay.now in
    unread_words (g.S.Source.reads c.args.source.now) (g.K.Sink.writes c.args.sink.now) (refusals_around (refusals_of past) (refusals_of past)) (ledger_of g.B.Bay c.args.bay.now) _ c.in-Err.ensures.wanting

pub returns-in-Err-clause-usage : goal.returns-in-Err-clause-usage
returns-in-Err-clause-usage g c = unread_usage _

pub returns-in-Err-clause-source : goal.returns-in-Err-clause-source
returns-in-Err-clause-source g c = draws_nothing g.S.Source.reads g.S.Source.left c.args.source.now

pub returns-in-Ok-clause-concludes : goal.returns-in-Ok-clause-concludes
returns-in-Ok-clause-concludes g c =
    subst (λ (wish : Option Wish). ConcludesAs wish (g.S.Source.reads c.args.source.now) (g.S.Source.reads c.run_command.new.source) (g.K.Sink.writes c.args.sink.now) (g.K.Sink.writes c.run_command.new.sink)
    (refusals_around (refusals_of (g.B.Bay.past c.args.bay.now)) (refusals_of (g.B.Bay.past c.run_command.new.bay))) (ledger_of g.B.Bay c.args.bay.now) (ledger_of g.B.Bay c.run_command.new.bay) c.run_command.result)
    c.in-Ok.ensures.asked c.run_command.ensures.concludes

pub returns-in-Ok-clause-usage : goal.returns-in-Ok-clause-usage
returns-in-Ok-clause-usage g c = subst (λ (wish : Option Wish). IsUsageBy wish c.run_command.result) c.in-Ok.ensures.asked c.run_command.ensures.usage

pub returns-in-Err-clause-refusals : goal.returns-in-Err-clause-refusals
returns-in-Err-clause-refusals g c = unread_refusals _ (refusals_of (g.B.Bay.past c.args.bay.now))

pub returns-in-Ok-clause-refusals : goal.returns-in-Ok-clause-refusals
returns-in-Ok-clause-refusals g c =
    subst (λ (wish : Option Wish). RefusesAs wish (refusals_of (g.B.Bay.past c.args.bay.now)) (refusals_of (g.B.Bay.past c.run_command.new.bay)) c.run_command.result)
    c.in-Ok.ensures.asked c.run_command.ensures.refusals
