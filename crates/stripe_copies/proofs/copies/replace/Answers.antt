use Rattle.std.proofs.Common.{◌≡◌, ◌-◌, true, refl, sym, ◌∙◌, ap, subst}
use Rattle.device_log.specs.Faults.{faults_of}
use Rattle.dir_sync.specs.Laws.{Halts, begun_pass, past_done}
use Rattle.dir_sync.specs.RunState.{RunState}
use Rattle.dir_sync.specs.Runs.{left_of, spelled_body}
use Rattle.dir_sync.specs.SyncCalls.{past_behind}
use Rattle.stripe_header.specs.Layout.{body_blocks}
use Rattle.stripe_copies.specs.declared.copies.SyncStop.{SyncStop}
use Rattle.stripe_copies.specs.Copies.{StopsAt, sync_calls}
use Rattle.stripe_copies.proofs.Calls.{all_writing, begun_is, behind_went, done_all, none_failed, stops_somewhere}
use Rattle.stripe_copies.proofs.Copy.{spelled_length}
use Rattle.stripe_copies.proofs.copies.replace.Goals as goal

pub returns-in-Ok-finish-clause-went : goal.returns-in-Ok-finish-clause-went
returns-in-Ok-finish-clause-went g c =
    let a = c.args.area.now in
    let side = c.args.target in
    let s = c.args.state in
    let body = spelled_body a s c.args.body.items in
    let old = g.D.Disk.state c.args.disk.now in
    let mid = g.D.Disk.state c.begin.new.disk in
    let new = g.D.Disk.state c.finish.new.disk in
    let begun = c.in-Ok.ensures.run in
    let same = begun_is a side s c.args.body.items c.in-Ok.run' begun.0 in
    let went = c.in-Ok-finish.ensures.went in
    let calls = sync_calls a side c.args.shut body in
    let is : new.past ≡ past_behind calls old.past =
    went.1.calls
    ∙ (ap (λ (r : RunState). past_done r.area r.side r.body r.progress (left_of r) mid.past) same
    ∙ done_all a side body (spelled_length a s c.args.body.items c.requires.whole) c.args.shut old.past mid.past begun.1) in
    let faults = g.met.D.Disk.counted c.finish.new.disk
    ∙ (ap faults_of is
    ∙ (none_failed calls old.past (all_writing a side c.args.shut body) ∙ sym (g.met.D.Disk.counted c.args.disk.now))) in
    (went.0 ∙ ap (λ (r : RunState). r.state.serial) same, record { went = behind_went calls old.past new.past is; faults = faults })

pub returns-in-Err-finish-clause-stopped : goal.returns-in-Err-finish-clause-stopped
returns-in-Err-finish-clause-stopped g c =
    let a = c.args.area.now in
    let side = c.args.target in
    let s = c.args.state in
    let body = spelled_body a s c.args.body.items in
    let old = (g.D.Disk.state c.args.disk.now).past in
    let mid = (g.D.Disk.state c.begin.new.disk).past in
    let new = (g.D.Disk.state c.finish.new.disk).past in
    let begun = c.in-Ok.ensures.run in
    let same = begun_is a side s c.args.body.items c.in-Ok.run' begun.0 in
    let halted = c.in-Err-finish.ensures.halts in
    let shut = c.finish.new.self.progress.shut in
    let count = c.in-Err-finish.field-0.count in
    let stop : SyncStop = record { count = count; durable = true } in
    let halts : Halts a side body begun_pass (body_blocks a - 0) count shut mid new =
    subst (λ (r : RunState). Halts r.area r.side r.body r.progress (left_of r) count shut mid new) same halted.0.calls in (
      subst (λ b. StopsAt a side c.args.shut body stop b old new) (sym c.shut-in-Err-finish.ensures)
          (stops_somewhere a side body (spelled_length a s c.args.body.items c.requires.whole) c.args.shut old mid begun.1 stop shut new refl halts),
      halted.1,
    )
