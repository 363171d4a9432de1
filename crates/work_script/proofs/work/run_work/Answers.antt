use Rattle.std.proofs.Common.{rules, ◌≡◌, ℕ, [], length, map, sym, subst, List, vec_len, arith}
use Rattle.std.specs.Prelude.{IfSome}
use Rattle.std.proofs.lemmas.List.{length-map}
use Rattle.device_bay.specs.Calls.{gifts_of, refusals_of}
use Rattle.logged_disk.specs.Device.{DeviceState as Device}
use Rattle.script_run.specs.Ledger.{AreLast, ledger_of}
use Rattle.cache_replay.specs.Replay.{returns_in}
use Rattle.cache_replay.proofs.Order.{none_out, order_closed, order_stays, order_then}
use Rattle.run_promise.specs.Story.{refusals_around}
use Rattle.run_script.proofs.Ends.{none_own}
use Rattle.run_script.proofs.Halts.{grows_more}
use Rattle.run_script.proofs.Steady.{steady_in_order}
use Rattle.job_lines.specs.Asked.{lanes_in}
use Rattle.job_lines.specs.Lanes.{lane_of}
use Rattle.work_script.specs.Jobs.{AreWorkers}
use Rattle.work_script.specs.Turns.{turns_in}
use Rattle.work_script.proofs.Concluding.{concludes, refusals}
use Rattle.work_script.proofs.Finishing.{finish, finish_early}
use Rattle.work_script.proofs.work.run_work.Goals as goal

pub returns-in-Ok-clause-concludes : goal.returns-in-Ok-clause-concludes
returns-in-Ok-clause-concludes g c =
    let past = g.B.Bay.past c.begin_work.new.bay in
    let bay = refusals_around (refusals_of (g.B.Bay.past c.args.bay.now)) (refusals_of (g.B.Bay.past c.close.new.bay)) in
    let asked = c.in-Ok.field-0 in
    let vectors = map (λ lane. lane.items) asked.lanes.items in
    let rows = c.do_jobs_beside-replay.result.1 in
    let each : vec_len asked.lanes ≡ length asked.lanes.items = search rules in
    let many : length (lanes_in asked) ≡ c.args.workers = omega (arith, length-map vectors lane_of, length-map asked.lanes.items (λ lane. lane.items), each, c.in-Ok.ensures.width) in
    finish c.args.workers (g.S.Source.reads c.args.source.now) (g.S.Source.reads c.begin_work.new.source) (g.K.Sink.writes c.args.sink.now) (g.K.Sink.writes c.begin_work.new.sink) (g.K.Sink.writes c.say_turns.new.sink) bay
    (ledger_of g.B.Bay c.args.bay.now) (ledger_of g.B.Bay c.close.new.bay) past c.do_jobs_beside-replay.result.0 c.do_jobs_beside-replay.ensures.replay c.close.ensures.back c.close.ensures.gives.names
    c.begin_work.new.replay c.begin_work.ensures.replay c.do_jobs_beside-replay.ensures.bare (lanes_in asked) c.in-Ok.ensures.comes rows many c.do_jobs_beside-replay.ensures.takes c.do_jobs_beside-replay.ensures.order
    (subst (λ (n : ℕ). IfSome rows (λ all. AreWorkers n (turns_in all.items))) c.in-Ok.ensures.width c.do_jobs_beside-replay.ensures.workers) c.do_jobs_beside-replay.ensures.device c.say_turns.result c.say_turns.ensures.says

pub returns-in-Ok-clause-sink : goal.returns-in-Ok-clause-sink
returns-in-Ok-clause-sink g c = grows_more _ _ _ c.begin_work.ensures.sink c.say_turns.ensures.grows

pub returns-in-Ok-clause-order : goal.returns-in-Ok-clause-order
returns-in-Ok-clause-order g c =
    let past = g.B.Bay.past c.args.bay.now in
    let none = none_own (returns_in c.begin-replay.result) c.begin-replay.ensures.devices in
    let jobs = order_stays (returns_in c.begin_work.new.replay) (returns_in c.do_jobs_beside-replay.result.0) (g.B.Bay.past c.begin_work.new.bay) c.do_jobs_beside-replay.ensures.device in
    order_then _ _ _ _ _ _ (order_then _ _ _ _ _ _ c.begin_work.ensures.order jobs) (order_closed _ [] _ _ (c.close.ensures.gives.order [])) _
    (subst (λ (own : List Device). AreLast (length (gifts_of past)) own past) (sym none) (none_out past))

pub returns-in-Ok-clause-steady : goal.returns-in-Ok-clause-steady
returns-in-Ok-clause-steady g c = steady_in_order _ [] _ _ (returns-in-Ok-clause-order g c) (g.met.B.Bay.is_log c.close.new.bay)

pub returns-in-Err-clause-concludes : goal.returns-in-Err-clause-concludes
returns-in-Err-clause-concludes g c =
    let past = g.B.Bay.past c.begin_work.new.bay in
    let bay = refusals_around (refusals_of (g.B.Bay.past c.args.bay.now)) (refusals_of past) in
    let first = g.S.Source.reads c.args.source.now in
    let read = g.S.Source.reads c.begin_work.new.source in
    let old = g.K.Sink.writes c.args.sink.now in
    let mid = g.K.Sink.writes c.begin_work.new.sink in
    let new = g.K.Sink.writes c.say.new.sink in
    let before = ledger_of g.B.Bay c.args.bay.now in
    let closed = ledger_of g.B.Bay c.close-in-Err.new.bay in
    let last = c.begin_work.new.replay in
    rw c.close-in-Err.ensures.gives.refusals
    (concludes c.args.workers first read old mid new bay before closed c.in-Err.ending c.in-Err.ensures.begun
    (finish_early c.args.workers first read old mid new bay before closed past last c.begin_work.ensures.replay c.close-in-Err.ensures.back c.close-in-Err.ensures.gives.names c.in-Err.ending c.in-Err.ensures.begun c.in-Err.ensures.ends)
    c.say.result c.say.ensures.says)

pub returns-in-Err-clause-sink : goal.returns-in-Err-clause-sink
returns-in-Err-clause-sink g c = grows_more _ _ _ c.begin_work.ensures.sink c.say.ensures.grows

pub returns-in-Err-clause-order : goal.returns-in-Err-clause-order
returns-in-Err-clause-order g c =
    let past = g.B.Bay.past c.args.bay.now in
    let none = none_own (returns_in c.begin-replay.result) c.begin-replay.ensures.devices in
    order_then _ _ _ _ _ _ c.begin_work.ensures.order (order_closed _ [] _ _ (c.close-in-Err.ensures.gives.order [])) _
    (subst (λ (own : List Device). AreLast (length (gifts_of past)) own past) (sym none) (none_out past))

pub returns-in-Err-clause-refusals : goal.returns-in-Err-clause-refusals
returns-in-Err-clause-refusals g c =
    let past = g.B.Bay.past c.begin_work.new.bay in
    let bay = refusals_around (refusals_of (g.B.Bay.past c.args.bay.now)) (refusals_of past) in
    let first = g.S.Source.reads c.args.source.now in
    let read = g.S.Source.reads c.begin_work.new.source in
    let old = g.K.Sink.writes c.args.sink.now in
    let mid = g.K.Sink.writes c.begin_work.new.sink in
    let new = g.K.Sink.writes c.say.new.sink in
    let before = ledger_of g.B.Bay c.args.bay.now in
    let closed = ledger_of g.B.Bay c.close-in-Err.new.bay in
    let last = c.begin_work.new.replay in
    rw c.close-in-Err.ensures.gives.refusals
    (refusals c.args.workers first read old mid new bay before closed c.in-Err.ending c.in-Err.ensures.refusals
    (finish_early c.args.workers first read old mid new bay before closed past last c.begin_work.ensures.replay c.close-in-Err.ensures.back c.close-in-Err.ensures.gives.names c.in-Err.ending c.in-Err.ensures.begun c.in-Err.ensures.ends)
    c.say.result c.say.ensures.says)

pub returns-in-Err-clause-steady : goal.returns-in-Err-clause-steady
returns-in-Err-clause-steady g c = steady_in_order _ [] _ _ (returns-in-Err-clause-order g c) (g.met.B.Bay.is_log c.close-in-Err.new.bay)
