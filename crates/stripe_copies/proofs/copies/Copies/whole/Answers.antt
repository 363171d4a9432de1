use Rattle.std.proofs.Common.{sym, subst}
use Rattle.std.specs.Prelude.{IsTrue}
use Rattle.stripe_header.specs.Spelling.{may_say}
use Rattle.dir_sync.specs.Runs.{spelled_body}
use Rattle.stripe_copies.specs.Copies.{CopiesState, IsBrokenOff, IsSynced, sync_calls}
use Rattle.stripe_copies.proofs.Calls.{all_writing, stops_all, was_broken_off, was_synced}
use Rattle.stripe_copies.proofs.Going.{stopped_goes, went_goes}
use Rattle.stripe_copies.proofs.copies.Copies.whole.Goals as goal

pub returns-in-Ok-clause-goes : goal.returns-in-Ok-clause-goes
returns-in-Ok-clause-goes g c =
    let a = c.self.inside.area in
    let calls = sync_calls a c.other-target.result c.self.inside.shut (spelled_body a c.args.state c.with_directory-body.result.items) in
    let went = rw c.in-Ok.is at c.replace-body-2.ensures.went in
    went_goes _ _ (g.D.Disk.state c.args.disk.now) (g.D.Disk.state c.replace-body-2.new.disk) calls c.replace-body-2.ensures.keeps
    (all_writing a c.other-target.result c.self.inside.shut _) went.1.went

pub returns-in-Ok-clause-went : goal.returns-in-Ok-clause-went
returns-in-Ok-clause-went g c =
    let state = c.args.state in
    let rows = g.R.Directory.rows c.args.directory.now in
    let old = g.D.Disk.state c.args.disk.now in
    let new = g.D.Disk.state c.replace-body-2.new.disk in
    let went = rw c.in-Ok.is at c.replace-body-2.ensures.went in
    let k : CopiesState = record {
      area = c.self.inside.area;
      newest = c.self.inside.newest;
      finished = c.self.inside.finished;
      synced = c.self.inside.synced;
      begun = c.self.inside.begun;
      shut = c.self.inside.shut;
    } in
    let says = subst (λ (x : CopiesState). IsTrue (may_say x.area.geometry state)) (sym c.self.view_is) c.requires.says in (
      went.0,
      subst (λ (x : CopiesState). IsSynced x state rows old new) c.self.view_is
          (was_synced k state rows c.with_directory-body.result.items says c.with_directory-body.ensures.image c.other-target.result c.other-target.ensures old new went.1),
    )

pub returns-in_default-clause-goes : goal.returns-in_default-clause-goes
returns-in_default-clause-goes g c =
    let a = c.self.inside.area in
    let body = spelled_body a c.args.state c.with_directory-body.result.items in
    let old = g.D.Disk.state c.args.disk.now in
    let new = g.D.Disk.state c.replace-body-2.new.disk in
    let stopped = rw c.in_default.is at c.replace-body-2.ensures.stopped in
    stopped_goes _ _ c.in_default.field-0.count old new (sync_calls a c.other-target.result c.self.inside.shut body) c.replace-body-2.ensures.keeps
    (all_writing a c.other-target.result c.self.inside.shut body)
    (stops_all a c.other-target.result c.self.inside.shut body c.in_default.field-0 c.replace-body-2.result.shut old.past new.past stopped.0)

pub returns-in_default-clause-stopped : goal.returns-in_default-clause-stopped
returns-in_default-clause-stopped g c =
    let state = c.args.state in
    let rows = g.R.Directory.rows c.args.directory.now in
    let old = g.D.Disk.state c.args.disk.now in
    let new = g.D.Disk.state c.replace-body-2.new.disk in
    let shut = c.replace-body-2.result.shut in
    let stopped = rw c.in_default.is at c.replace-body-2.ensures.stopped in
    let k : CopiesState = record {
      area = c.self.inside.area;
      newest = c.self.inside.newest;
      finished = c.self.inside.finished;
      synced = c.self.inside.synced;
      begun = c.self.inside.begun;
      shut = c.self.inside.shut;
    } in
    let says = subst (λ (x : CopiesState). IsTrue (may_say x.area.geometry state)) (sym c.self.view_is) c.requires.says in
    rw c.in_default.is (subst (λ (x : CopiesState). IsBrokenOff x state rows c.in_default.field-0 shut old new) c.self.view_is
    (was_broken_off k state rows c.with_directory-body.result.items says c.with_directory-body.ensures.image c.other-target.result c.other-target.ensures old new
    c.in_default.field-0 shut stopped.0 stopped.1 (g.met.D.Disk.counted c.replace-body-2.new.disk)))
