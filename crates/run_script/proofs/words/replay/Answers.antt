use Rattle.std.proofs.Common.{◌≡◌, [], inl, refl, sym, ◌∙◌, List, length, subst}
use Rattle.edge_io.proofs.Draws.{draws_nothing}
use Rattle.edge_io.specs.LineReader.{source_of}
use Rattle.device_bay.specs.Calls.{gifts_of, refusals_of}
use Rattle.cache_replay.specs.Replay.{returns_in}
use Rattle.cache_replay.proofs.Order.{none_back, none_out, order_closed, order_then}
use Rattle.logged_disk.specs.Device.{DeviceState as Device}
use Rattle.script_run.specs.Ledger.{AreLast, AreReached, ledger_of}
use Rattle.run_promise.specs.Story.{Owes, DevicesTold, refusals_around}
use Rattle.run_promise.specs.Top.{EachBack, EachBackOrMore}
use Rattle.run_script.proofs.Stories.{Deals-settled}
use Rattle.run_script.proofs.Ends.{nothing_back, none_own, nothing_ends, Ends-settled, gave_settled, wants_settled}
use Rattle.run_script.proofs.Steady.{steady_in_order}
use Rattle.run_script.proofs.words.replay.Goals as goal

pub returns-in_default-clause-ends : goal.returns-in_default-clause-ends
returns-in_default-clause-ends g c =
    let ledger = ledger_of g.B.Bay c.args.bay.now in
    nothing_ends (g.S.Source.reads c.args.source.now) (g.K.Sink.writes c.args.sink.now) (EachBack ledger ledger) (EachBackOrMore ledger ledger)
    (λ t none own names. inl (nothing_back ledger t none own names)) (refusals_around [] [])

pub returns-clause-ends : goal.returns-clause-ends
returns-clause-ends g c =
    let reader = c.with_buffer-reader.result in
    let after = c.run_lines-ending.new.reader in
    let back : c.source-1.given.0 ≡ (source_of after).now =
    c.source-1.given.1 (sym c.with_buffer-reader.ensures.source ∙ sym c.run_lines-ending.ensures.source ∙ sym c.into_source-source.ensures.source) ∙ c.into_source-source.ensures.now in
    let bay = refusals_around (refusals_of (g.B.Bay.past c.args.bay.now)) (refusals_of (g.B.Bay.past c.run_lines-ending.new.bay)) in
    let ledger = ledger_of g.B.Bay c.args.bay.now in
    let closed = ledger_of g.B.Bay c.close.new.bay in
    let settle : (t : DevicesTold) → Owes ledger (ledger_of g.B.Bay c.run_lines-ending.new.bay) (λ harms. AreReached harms (returns_in c.run_lines-ending.new.replay)) t → EachBack ledger closed t =
    λ t owes. Deals-settled _ _ _ t.ended _ t.names owes.deals (c.close.ensures.back t.own owes.reached) c.close.ensures.gives.names in
    let ends = Ends-settled bay (g.S.Source.reads (source_of reader).now) (g.S.Source.reads (source_of after).now) (g.K.Sink.writes c.args.sink.now) (g.K.Sink.writes c.run_lines-ending.new.sink) _ (EachBack ledger closed)
    _ (EachBackOrMore ledger closed) settle
    (λ held given t. wants_settled ledger _ closed _ _ held given t settle (λ none gave. gave_settled c.run_lines-ending.new.replay _ _ _ held given t c.close.ensures.back c.close.ensures.gives.names none gave)) c.run_lines-ending.result c.run_lines-ending.ensures.ends in
    rw (back, c.close.ensures.gives.refusals, ← c.with_buffer-reader.ensures.now) ends

pub returns-clause-reads : goal.returns-clause-reads
returns-clause-reads g c =
    let after = c.run_lines-ending.new.reader in
    let back : c.source-1.given.0 ≡ (source_of after).now =
    c.source-1.given.1 (sym c.with_buffer-reader.ensures.source ∙ sym c.run_lines-ending.ensures.source ∙ sym c.into_source-source.ensures.source) ∙ c.into_source-source.ensures.now in
    rw (back, ← c.with_buffer-reader.ensures.now) c.run_lines-ending.ensures.reads

pub returns-clause-source : goal.returns-clause-source
returns-clause-source g c =
    let after = c.run_lines-ending.new.reader in
    let back : c.source-1.given.0 ≡ (source_of after).now =
    c.source-1.given.1 (sym c.with_buffer-reader.ensures.source ∙ sym c.run_lines-ending.ensures.source ∙ sym c.into_source-source.ensures.source) ∙ c.into_source-source.ensures.now in
    rw (back, ← c.with_buffer-reader.ensures.now) c.run_lines-ending.ensures.draws

pub returns-in_default-clause-source : goal.returns-in_default-clause-source
returns-in_default-clause-source g c = draws_nothing g.S.Source.reads g.S.Source.left c.args.source.now

pub returns-in_default-clause-sink : goal.returns-in_default-clause-sink
returns-in_default-clause-sink g c = ([], refl)

pub returns-in_default-clause-order : goal.returns-in_default-clause-order
returns-in_default-clause-order g c = none_back _ [] _ _ refl (none_out (g.B.Bay.past c.args.bay.now))

pub returns-clause-order : goal.returns-clause-order
returns-clause-order g c =
    let past = g.B.Bay.past c.args.bay.now in
    let none = none_own (returns_in c.begin-replay.result) c.begin-replay.ensures.devices in
    order_then _ _ _ _ _ _ c.run_lines-ending.ensures.order (order_closed _ [] _ _ (c.close.ensures.gives.order [])) _
    (subst (λ (own : List Device). AreLast (length (gifts_of past)) own past) (sym none) (none_out past))

pub returns-clause-refusals : goal.returns-clause-refusals
returns-clause-refusals g c = λ other. c.close.ensures.gives.refusals ∙ c.run_lines-ending.ensures.refusals other

pub returns-in_default-clause-steady : goal.returns-in_default-clause-steady
returns-in_default-clause-steady g c = steady_in_order _ [] _ _ (returns-in_default-clause-order g c) (g.met.B.Bay.is_log c.args.bay.now)

pub returns-clause-steady : goal.returns-clause-steady
returns-clause-steady g c = steady_in_order _ [] _ _ (returns-clause-order g c) (g.met.B.Bay.is_log c.close.new.bay)
