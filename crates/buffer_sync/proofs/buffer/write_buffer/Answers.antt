use Rattle.std.proofs.Common.{◌≡◌, refl, ap, arith}
use Rattle.logged_disk.proofs.GoingOn.{told_before}
use Rattle.agg_buffer.specs.Buffer.{filled_of}
use Rattle.cyclone.specs.Cyclone.{Seen, seen_cyclone}
use Rattle.buffer_sync.proofs.Buffered.{front_told, on_refused, on_written, rest_goes}
use Rattle.buffer_sync.proofs.Holding.{rest_held}
use Rattle.buffer_sync.proofs.buffer.write_buffer.Goals as goal

pub returns-in-Ok-clause-whole : goal.returns-in-Ok-clause-whole
returns-in-Ok-clause-whole g c = λ told.
    let old = seen_cyclone c.args.cyclone.now in
    let new = seen_cyclone c.write_rest.new.self in
    c.in-Ok.ensures.whole (front_told c.args.on.now old c.requires.on
    (told_before old.device new.device (rest_goes c.args.on.now.durable old new c.write_rest.result c.write_rest.ensures.device) told))

pub returns-in-Ok-clause-on : goal.returns-in-Ok-clause-on
returns-in-Ok-clause-on g c =
    let old = seen_cyclone c.args.cyclone.now in
    let new = seen_cyclone c.write_rest.new.self in
    let filled : filled_of new.buffer ≡ filled_of old.buffer = ap (λ (y : Seen). filled_of y.buffer) c.write_rest.ensures.same in
    on_written c.args.on.now old new c.requires.on c.write_rest.ensures.same _ c.in-Ok.ensures.device (omega (arith, c.next_place.ensures, c.cursor.ensures, filled)) refl

pub returns-in-Err-clause-on : goal.returns-in-Err-clause-on
returns-in-Err-clause-on g c =
    on_refused c.args.on.now (seen_cyclone c.args.cyclone.now) (seen_cyclone c.write_rest.new.self) c.requires.on c.write_rest.ensures.same _ _ c.in-Err.ensures.device refl refl

pub returns-in-Ok-clause-held : goal.returns-in-Ok-clause-held
returns-in-Ok-clause-held g c = λ s held.
    rest_held c.args.on.now.durable (seen_cyclone c.args.cyclone.now) (seen_cyclone c.write_rest.new.self) c.write_rest.result c.write_rest.ensures.device s
    c.write_rest.ensures.same c.write_rest.ensures.turns held

pub returns-in-Err-clause-held : goal.returns-in-Err-clause-held
returns-in-Err-clause-held g c = λ s held.
    rest_held c.args.on.now.durable (seen_cyclone c.args.cyclone.now) (seen_cyclone c.write_rest.new.self) c.write_rest.result c.write_rest.ensures.device s
    c.write_rest.ensures.same c.write_rest.ensures.turns held
