use Rattle.std.proofs.Common.{ℕ, ◌/◌, ◌∙◌, ap}
use Rattle.device_log.specs.Image.{blank, span}
use Rattle.device_log.specs.Seen.{seen_of}
use Rattle.device_log.specs.DeviceLog.{calls_of}
use Rattle.logged_disk.proofs.FileLemmas.{trusted_read}
use Rattle.word_disk.proofs.disk.WordDiskDisk.read.Goals as goal

pub returns-clause-gives : goal.returns-clause-gives
returns-clause-gives c trusted =
    let past = calls_of c.args.self.now.log in
    trusted_read blank c.args.block c.read_words.new.into past (calls_of c.read.new.self) c.read.ensures trusted
    ∙ ap (λ (n : ℕ). span (seen_of blank past) c.args.block (n / 512)) c.read_words.auto.into
