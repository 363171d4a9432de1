use Rattle.std.proofs.Common.{refl, arith}
use Rattle.cyclone.specs.Cyclone.{seen_cyclone}
use Rattle.buffer_sync.proofs.Buffered.{on_synced}
use Rattle.buffer_sync.proofs.Holding.{later_by, sync_held}
use Rattle.buffer_sync.proofs.buffer.sync_buffer.Goals as goal

pub returns-in-Ok-clause-on : goal.returns-in-Ok-clause-on
returns-in-Ok-clause-on g c =
    on_synced c.args.copies.now c.sync_copy.new.copies c.args.state c.args.on.now _ (seen_cyclone c.args.cyclone.now) (seen_cyclone c.sync_copy.new.self) _ c.requires.on c.sync_copy.ensures.same
    c.requires.may c.in-Ok.ensures.syncs refl (omega arith)

pub returns-then-stop-clause-on : goal.returns-then-stop-clause-on
returns-then-stop-clause-on g c =
    on_synced c.args.copies.now c.sync_copy.new.copies c.args.state c.args.on.now _ (seen_cyclone c.args.cyclone.now) (seen_cyclone c.sync_copy.new.self) _ c.requires.on c.sync_copy.ensures.same
    c.requires.may c.in-Err.ensures.syncs refl (omega arith)

pub returns-else-stop-clause-on : goal.returns-else-stop-clause-on
returns-else-stop-clause-on g c =
    on_synced c.args.copies.now c.sync_copy.new.copies c.args.state c.args.on.now _ (seen_cyclone c.args.cyclone.now) (seen_cyclone c.sync_copy.new.self) _ c.requires.on c.sync_copy.ensures.same
    c.requires.may c.in-Err.ensures.syncs refl c.requires.on.durable

pub returns-in-Ok-clause-held : goal.returns-in-Ok-clause-held
returns-in-Ok-clause-held g c = λ s held.
    let old = seen_cyclone c.args.cyclone.now in
    let new = seen_cyclone c.sync_copy.new.self in
    sync_held c.args.copies.now c.sync_copy.new.copies c.args.state s old new c.sync_copy.result c.requires.may c.sync_copy.ensures.syncs c.sync_copy.ensures.same c.sync_copy.ensures.turns
    (later_by old.device new.device (g.met.D.Disk.counted c.args.cyclone.now.disk) (g.met.D.Disk.counted c.sync_copy.new.self.disk) c.sync_copy.ensures.syncs.goes) held

pub returns-then-stop-clause-held : goal.returns-then-stop-clause-held
returns-then-stop-clause-held g c = λ s held.
    let old = seen_cyclone c.args.cyclone.now in
    let new = seen_cyclone c.sync_copy.new.self in
    sync_held c.args.copies.now c.sync_copy.new.copies c.args.state s old new c.sync_copy.result c.requires.may c.sync_copy.ensures.syncs c.sync_copy.ensures.same c.sync_copy.ensures.turns
    (later_by old.device new.device (g.met.D.Disk.counted c.args.cyclone.now.disk) (g.met.D.Disk.counted c.sync_copy.new.self.disk) c.sync_copy.ensures.syncs.goes) held

pub returns-else-stop-clause-held : goal.returns-else-stop-clause-held
returns-else-stop-clause-held g c = λ s held.
    let old = seen_cyclone c.args.cyclone.now in
    let new = seen_cyclone c.sync_copy.new.self in
    sync_held c.args.copies.now c.sync_copy.new.copies c.args.state s old new c.sync_copy.result c.requires.may c.sync_copy.ensures.syncs c.sync_copy.ensures.same c.sync_copy.ensures.turns
    (later_by old.device new.device (g.met.D.Disk.counted c.args.cyclone.now.disk) (g.met.D.Disk.counted c.sync_copy.new.self.disk) c.sync_copy.ensures.syncs.goes) held
