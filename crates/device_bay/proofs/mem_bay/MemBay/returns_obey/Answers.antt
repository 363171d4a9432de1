use Rattle.device_bay.proofs.BayLemmas.{mem_returns}
use Rattle.device_bay.proofs.mem_bay.MemBay.returns_obey.Goals as goal

pub returns : goal.returns
returns c = mem_returns c.args.self.now.register.entries.entries
