use Rattle.cache_chronicle.proofs.full.FullChronicleChronicle.reserve.Goals as goal

pub invariant_of-self : goal.invariant_of-self
invariant_of-self c = record {
  tables = c.reserve.ensures.has _ c.self.invariant.tables;
  count = c.self.invariant.count;
}
