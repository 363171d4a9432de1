use Rattle.std.proofs.Common.{◌≡◌, ℕ, ◌+◌, ◌*◌, ◌/◌, ◌%◌, ◌≤◌, ◌∙◌, ap, subst, arith}
use Rattle.std.specs.Prelude.{OnOk, length}
use Rattle.agg_buffer.specs.Buffer.{filled_of}
use Rattle.tape_base.specs.Place.{block_of, device_blocks_of}
use Rattle.device_log.specs.Image.{span}
use Rattle.device_log.specs.Calls.{Wrote}
use Rattle.logged_disk.specs.Device.{Keeps, Logs, seen as content_of}
use Rattle.logged_disk.proofs.GoingOn.{cause_of}
use Rattle.logged_disk.proofs.Moments.{write_puts}
use Rattle.cyclone.proofs.Turning.{block_fits}
use Rattle.cyclone.proofs.cyclone.Cyclone.write_out.Goals as goal

pub write-requires-clause-within : goal.write-requires-clause-within
write-requires-clause-within g c =
    let b = c.args.self.now.buffer in
    let t = c.requires.turns in
    let fits : block_of c.args.self.now.geometry b.cursor + filled_of b ≤ device_blocks_of c.args.self.now.geometry = block_fits c.args.self.now.geometry b.cursor (filled_of b) t.lap t.few in
    let first : c.block-first.result ≡ block_of c.args.self.now.geometry b.cursor = c.block-first.ensures.value ∙ ap (block_of c.args.self.now.geometry) c.cursor.ensures in
    omega (arith, fits, first, c.bytes.ensures.whole, t.sized)

blocks : (filled bytes : ℕ) → bytes ≡ 512 * filled → bytes / 512 ≡ filled
blocks filled bytes h = omega arith

pub returns-clause-device : goal.returns-clause-device
returns-clause-device g c =
    let b = c.args.self.now.buffer in
    let old = g.D.Disk.state c.args.self.now.disk in
    let new = g.D.Disk.state c.write.new.self in
    let first : c.block-first.result ≡ block_of c.args.self.now.geometry b.cursor = c.block-first.ensures.value ∙ ap (block_of c.args.self.now.geometry) c.cursor.ensures in
    let logs : Logs (Wrote (block_of c.args.self.now.geometry b.cursor) b.bytes) c.write.result old new =
    subst (λ bytes. Logs (Wrote (block_of c.args.self.now.geometry b.cursor) bytes) c.write.result old new) c.bytes.ensures.bytes
    (subst (λ at. Logs (Wrote at c.bytes.result.now) c.write.result old new) first c.write.ensures.logs) in
    record {
      keeps = subst (λ n. Keeps 1 n old new) (blocks (filled_of c.args.self.now.buffer) (length c.bytes.result.now) c.bytes.ensures.whole) c.write.ensures.keeps;
      logs = logs;
      cause = cause_of c.write.result (Wrote (block_of c.args.self.now.geometry b.cursor) b.bytes) old new (g.met.D.Disk.counted c.args.self.now.disk) logs;
    }

pub returns-clause-ok : goal.returns-clause-ok
returns-clause-ok g c =
    let b = c.args.self.now.buffer in
    let old = g.D.Disk.state c.args.self.now.disk in
    let new = g.D.Disk.state c.write.new.self in
    let first : c.block-first.result ≡ block_of c.args.self.now.geometry b.cursor = c.block-first.ensures.value ∙ ap (block_of c.args.self.now.geometry) c.cursor.ensures in
    let whole : length c.bytes.result.now % 512 ≡ 0 = omega (arith, c.bytes.ensures.whole) in
    subst (λ bytes. OnOk c.write.result (span (content_of new) (block_of c.args.self.now.geometry b.cursor) (filled_of b) ≡ bytes)) c.bytes.ensures.bytes
    (subst (λ n. OnOk c.write.result (span (content_of new) (block_of c.args.self.now.geometry b.cursor) n ≡ c.bytes.result.now)) (blocks (filled_of c.args.self.now.buffer) (length c.bytes.result.now) c.bytes.ensures.whole)
    (subst (λ at. OnOk c.write.result (span (content_of new) at (length c.bytes.result.now / 512) ≡ c.bytes.result.now)) first
    (write_puts c.write.result old new c.block-first.result c.bytes.result.now whole c.write.ensures.logs c.write.ensures.keeps.first)))
