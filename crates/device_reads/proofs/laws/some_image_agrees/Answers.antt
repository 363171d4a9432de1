use Rattle.device_reads.proofs.Telling.{some_image_law}
use Rattle.device_reads.proofs.laws.some_image_agrees.Goals as goal

pub returns : goal.returns
returns c = some_image_law
