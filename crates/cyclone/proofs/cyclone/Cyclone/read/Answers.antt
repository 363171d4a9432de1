use Rattle.std.proofs.Common.{◌≡◌, ◌/◌, ◌<◌, length, Ok, Err, subst, arith}
use Rattle.std.specs.Prelude.{OnOk}
use Rattle.tape_base.specs.Place.{block_of}
use Rattle.device_log.specs.Image.{span}
use Rattle.device_log.specs.Calls.{Read}
use Rattle.logged_disk.specs.Device.{IsTrusted, Logs, seen as content_of}
use Rattle.logged_disk.proofs.GoingOn.{cause_of}
use Rattle.cyclone.proofs.cyclone.Cyclone.read.Goals as goal

pub returns-then-place-cursor-clause-reads : goal.returns-then-place-cursor-clause-reads
returns-then-place-cursor-clause-reads g c =
    let disk = c.args.self.now.disk in
    let old = g.D.Disk.state disk in
    let new = g.D.Disk.state c.read.new.self in
    let Gives = IsTrusted new → c.read.new.into ≡ span (content_of old) (block_of c.args.self.now.geometry c.args.place) (length c.args.into.now / 512) in
    record {
      keeps = c.read.ensures.keeps;
      logs = λ below. subst (λ b. Logs (Read b c.read.new.into) c.read.result old new) c.block.ensures.value c.read.ensures.logs;
      none = λ above. absurd (omega (arith, above, c.if-place-cursor.true, c.cursor.ensures));
      length = omega (arith, c.read.auto.into, c.requires.whole.whole);
      of_bytes = λ i. omega (arith, c.type_inv.into i);
      buffered = λ above. absurd (omega (arith, above, c.if-place-cursor.true, c.cursor.ensures));
      given = elim c.read.result as (λ r. OnOk r Gives → OnOk r (c.args.place < c.args.self.now.buffer.cursor → Gives)) [
        | Ok x ↦ λ gives below. gives
        | Err e ↦ λ none. none
      ] (subst (λ at. OnOk c.read.result (IsTrusted new → c.read.new.into ≡ span (content_of old) at (length c.args.into.now / 512))) c.block.ensures.value c.read.ensures.gives);
      cause = cause_of c.read.result (Read c.block.result c.read.new.into) old new (g.met.D.Disk.counted disk) c.read.ensures.logs;
    }
