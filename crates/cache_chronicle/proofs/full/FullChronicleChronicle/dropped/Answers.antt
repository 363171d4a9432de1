use Rattle.cache_model.specs.State.{after_all, nothing_yet}
use Rattle.cache_chronicle.proofs.full.FullChronicleChronicle.dropped.Goals as goal

pub returns : goal.returns
returns c = rw (← c.self.view_is) (c.dropped.ensures (after_all nothing_yet c.self.inside.records.list) c.self.invariant.tables.tape)
