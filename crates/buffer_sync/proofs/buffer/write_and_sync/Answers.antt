use Rattle.std.proofs.Common.{◌≡◌, false, Ok, Err, refl, sym, ◌∙◌, ap, subst}
use Rattle.logged_disk.specs.Device.{DeviceState as Device}
use Rattle.agg_buffer.specs.Buffer.{filled_of}
use Rattle.cyclone.specs.Cyclone.{Seen, seen_cyclone}
use Rattle.buffer_sync.specs.declared.buffer.BufferOnDevice.{BufferOnDevice}
use Rattle.buffer_sync.specs.OnDevice
use Rattle.buffer_sync.specs.OnDevice.{WentOut, on_behind_sync}
use Rattle.buffer_sync.proofs.Buffered.{still_whole}
use Rattle.buffer_sync.proofs.buffer.write_and_sync.Goals as goal

pub returns-in-Err-clause-goes : goal.returns-in-Err-clause-goes
returns-in-Err-clause-goes g c =
    let old = seen_cyclone c.args.cyclone.now in
    let new = seen_cyclone c.write_buffer.new.cyclone in
    let count : c.faults.result ≡ new.device.faults = c.faults.ensures ∙ ap (λ (d : Device). d.faults) c.disk.ensures in
    subst (λ n. WentOut c.args.due c.args.on.now c.write_buffer.new.on c.args.copies.now c.args.copies.now old new (Err (record { count = n; begun = false }))) (sym count)
    (OnDevice.WentOut.refused _ refl c.in-Err.ensures.device c.in-Err.ensures.numbers)

pub returns-in-None-clause-goes : goal.returns-in-None-clause-goes
returns-in-None-clause-goes g c = OnDevice.WentOut.written c.in-None.is refl c.in-Ok.ensures.device c.in-Ok.ensures.numbers

pub returns-in-Ok-sync_buffer-clause-goes : goal.returns-in-Ok-sync_buffer-clause-goes
returns-in-Ok-sync_buffer-clause-goes g c =
    let serial = c.in-Ok-sync_buffer.field-0 in
    OnDevice.WentOut.synced c.in-Some.state (seen_cyclone c.write_buffer.new.cyclone) serial c.in-Some.is c.write_buffer.ensures.same c.in-Ok.ensures.device c.in-Ok-sync_buffer.ensures.syncs
    (c.in-Ok-sync_buffer.ensures.numbers ∙ ap (on_behind_sync (Ok serial)) c.in-Ok.ensures.numbers)

pub returns-in-Ok-sync_buffer-clause-whole : goal.returns-in-Ok-sync_buffer-clause-whole
returns-in-Ok-sync_buffer-clause-whole g c =
    let mid = seen_cyclone c.write_buffer.new.cyclone in
    let new = seen_cyclone c.sync_buffer.new.cyclone in
    let written : c.write_buffer.new.on.written ≡ filled_of mid.buffer =
    ap (λ (b : BufferOnDevice). b.written) c.in-Ok.ensures.numbers ∙ sym (ap (λ (y : Seen). filled_of y.buffer) c.write_buffer.ensures.same) in
    still_whole c.write_buffer.new.on c.sync_buffer.new.on mid new c.write_buffer.ensures.on c.sync_buffer.ensures.on written
    (ap (λ (b : BufferOnDevice). b.written) c.in-Ok-sync_buffer.ensures.numbers ∙ written)
    c.sync_buffer.ensures.same c.in-Ok-sync_buffer.ensures.syncs.goes c.in-Ok.ensures.whole

pub returns-in-Err-sync_buffer-clause-goes : goal.returns-in-Err-sync_buffer-clause-goes
returns-in-Err-sync_buffer-clause-goes g c =
    let stop = c.in-Err-sync_buffer.field-0 in
    OnDevice.WentOut.stopped c.in-Some.state (seen_cyclone c.write_buffer.new.cyclone) stop c.in-Some.is c.write_buffer.ensures.same c.in-Ok.ensures.device c.in-Err-sync_buffer.ensures.syncs
    (c.in-Err-sync_buffer.ensures.numbers ∙ ap (on_behind_sync (Err stop)) c.in-Ok.ensures.numbers)

pub returns-in-Ok-sync_buffer-clause-held : goal.returns-in-Ok-sync_buffer-clause-held
returns-in-Ok-sync_buffer-clause-held g c = λ s held. c.sync_buffer.ensures.held s (c.write_buffer.ensures.held s held)

pub returns-in-Err-sync_buffer-clause-held : goal.returns-in-Err-sync_buffer-clause-held
returns-in-Err-sync_buffer-clause-held g c = λ s held. c.sync_buffer.ensures.held s (c.write_buffer.ensures.held s held)
