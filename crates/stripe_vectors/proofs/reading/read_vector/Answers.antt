use Rattle.stripe_vectors.proofs.reading.read_vector.Goals as goal

pub read_live-requires-clause-vector : goal.read_live-requires-clause-vector
read_live-requires-clause-vector g c = record { vector = c.in-Some.ensures.some.0; live = c.in-Some.ensures.some.1 }
