use Rattle.std.proofs.Common.{ℕ, ◌/◌, ◌∙◌, ap}
use Rattle.device_log.specs.Image.{span}
use Rattle.device_log.specs.Seen.{seen_of}
use Rattle.device_log.specs.DeviceLog.{calls_of}
use Rattle.logged_disk.proofs.FileLemmas.{trusted_read}
use Rattle.logged_disk.proofs.file_disk.FileDiskDisk.read.Goals as goal

pub returns-in-Ok-clause-gives : goal.returns-in-Ok-clause-gives
returns-in-Ok-clause-gives g c trusted =
    let past = calls_of c.args.self.now.log in
    let first = g.S.FileStart.first c.args.self.now.number in
    trusted_read first c.args.block c.read_exact_at-answer.new.buf past (calls_of c.read.new.self) c.read.ensures trusted
    ∙ ap (λ (n : ℕ). span (seen_of first past) c.args.block (n / 512)) c.read_exact_at-answer.auto.buf
