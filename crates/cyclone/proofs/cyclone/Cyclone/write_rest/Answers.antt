use Rattle.std.proofs.Common.{◌≡◌, ◌+◌, ◌-◌, ◌*◌, ◌/◌, ◌≤◌, ◌<◌, sym, ◌∙◌, ap, subst, arith, length, take, drop}
use Rattle.tape_base.specs.Place.{block_of, device_blocks_of}
use Rattle.device_log.specs.Calls.{Wrote}
use Rattle.agg_buffer.specs.Buffer.{filled_of}
use Rattle.logged_disk.specs.Device.{Keeps, Logs}
use Rattle.logged_disk.proofs.GoingOn.{cause_of}
use Rattle.cyclone.specs.Cyclone.{seen_cyclone}
use Rattle.cyclone.specs.Syncing.{rest_written}
use Rattle.cyclone.proofs.Turning.{block_fits}
use Rattle.cyclone.proofs.Rest.{left_blocks, rest_at, rest_is, rest_puts}
use Rattle.cyclone.proofs.cyclone.Cyclone.write_rest.Goals as goal

pub write-requires-clause-within : goal.write-requires-clause-within
write-requires-clause-within g c =
    let b = c.args.self.now.buffer in
    let geometry = c.args.self.now.geometry in
    let t = c.requires.turns in
    let fits : block_of geometry b.cursor + filled_of b ≤ device_blocks_of geometry = block_fits geometry b.cursor (filled_of b) t.lap t.few in
    let less : c.args.durable < filled_of b = omega (arith, c.if-from-bytes.false, c.requires.front, c.bytes.ensures.whole) in
    let first : c.block-first.result ≡ block_of geometry b.cursor + c.args.durable =
    c.block-first.ensures.value ∙ (ap (λ n. block_of geometry (n + c.args.durable)) c.cursor.ensures ∙ rest_at geometry b.cursor c.args.durable (filled_of b) t.lap t.few less) in
    omega (arith, fits, first, c.bytes-2.ensures.whole, t.sized)

pub returns-clause-device : goal.returns-clause-device
returns-clause-device g c =
    let b = c.args.self.now.buffer in
    let geometry = c.args.self.now.geometry in
    let t = c.requires.turns in
    let before = seen_cyclone c.args.self.now in
    let old = g.D.Disk.state c.args.self.now.disk in
    let new = g.D.Disk.state c.write.new.self in
    let less : c.args.durable < filled_of b = omega (arith, c.if-from-bytes.false, c.requires.front, c.bytes.ensures.whole) in
    let first : c.block-first.result ≡ block_of geometry b.cursor + c.args.durable =
    c.block-first.ensures.value ∙ (ap (λ n. block_of geometry (n + c.args.durable)) c.cursor.ensures ∙ rest_at geometry b.cursor c.args.durable (filled_of b) t.lap t.few less) in
    let rest = rest_is c.args.durable c.bytes-2.result.now ∙ ap (λ l. drop (512 * c.args.durable) l) c.bytes-2.ensures.bytes in
    let logs : Logs (rest_written c.args.durable before) c.write.result old new =
    subst (λ bytes. Logs (Wrote (block_of geometry b.cursor + c.args.durable) bytes) c.write.result old new) rest
    (subst (λ at. Logs (Wrote at (take (length c.bytes-2.result.now - c.args.durable * 512) (drop (c.args.durable * 512) c.bytes-2.result.now))) c.write.result old new) first c.write.ensures.logs) in
    record {
      keeps = subst (λ n. Keeps 1 n old new)
          (ap (λ l. length l / 512) rest ∙ left_blocks c.args.durable (filled_of b) b.bytes (ap length (sym c.bytes-2.ensures.bytes) ∙ c.bytes-2.ensures.whole)) c.write.ensures.keeps;
      logs = λ some. logs;
      none = λ all. absurd (omega (arith, all, less));
      cause = cause_of c.write.result (rest_written c.args.durable before) old new (g.met.D.Disk.counted c.args.self.now.disk) logs;
    }

pub returns-clause-whole : goal.returns-clause-whole
returns-clause-whole g c = λ front.
    let b = c.args.self.now.buffer in
    let device = returns-clause-device g c in
    rest_puts c.write.result (g.D.Disk.state c.args.self.now.disk) (g.D.Disk.state c.write.new.self) (block_of c.args.self.now.geometry b.cursor) c.args.durable (filled_of b) b.bytes
    (ap length (sym c.bytes-2.ensures.bytes) ∙ c.bytes-2.ensures.whole) c.requires.front c.write.ensures.keeps.first
    (device.logs (omega (arith, c.if-from-bytes.false, c.requires.front, c.bytes.ensures.whole))) front
