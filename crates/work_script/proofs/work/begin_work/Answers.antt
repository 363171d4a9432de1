use Rattle.std.proofs.Common.{◌≡◌, [], sym, ◌∙◌}
use Rattle.edge_io.specs.LineReader.{source_of}
use Rattle.edge_io.proofs.Draws.{draws_nothing}
use Rattle.script_run.specs.Ledger.{AreReached, ledger_of}
use Rattle.cache_replay.specs.Replay.{devices_in, returns_in}
use Rattle.run_promise.specs.Story.{Owes, OwesOrGave, refusals_around}
use Rattle.run_script.proofs.Ends.{nothing_ends}
use Rattle.work_script.proofs.Ending.{nothing_owed}
use Rattle.work_script.proofs.work.begin_work.Goals as goal

pub returns-in_default-clause-ends : goal.returns-in_default-clause-ends
returns-in_default-clause-ends g c =
    let ledger = ledger_of g.B.Bay c.args.bay.now in
    let session = c.args.replay.now in
    nothing_ends (g.S.Source.reads c.args.source.now) (g.K.Sink.writes c.args.sink.now) (Owes ledger ledger (λ harms. AreReached harms (returns_in session)))
    (OwesOrGave ledger ledger (devices_in session) (λ harms. AreReached harms (returns_in session)))
    (nothing_owed ledger (returns_in session) (devices_in session) c.requires.none) (refusals_around [] [])

pub returns-in_default-clause-source : goal.returns-in_default-clause-source
returns-in_default-clause-source g c = draws_nothing g.S.Source.reads g.S.Source.left c.args.source.now

pub returns-clause-comes : goal.returns-clause-comes
returns-clause-comes g c =
    let after = c.read_script-asked.new.reader in
    let back : c.source-1.given.0 ≡ (source_of after).now =
    c.source-1.given.1 (sym c.with_buffer-reader.ensures.source ∙ sym c.read_script-asked.ensures.source ∙ sym c.into_source-source.ensures.source) ∙ c.into_source-source.ensures.now in
    rw (back, ← c.with_buffer-reader.ensures.now) c.read_script-asked.ensures.comes

pub returns-clause-ends : goal.returns-clause-ends
returns-clause-ends g c =
    let after = c.read_script-asked.new.reader in
    let back : c.source-1.given.0 ≡ (source_of after).now =
    c.source-1.given.1 (sym c.with_buffer-reader.ensures.source ∙ sym c.read_script-asked.ensures.source ∙ sym c.into_source-source.ensures.source) ∙ c.into_source-source.ensures.now in
    rw (back, ← c.with_buffer-reader.ensures.now) c.read_script-asked.ensures.ends
