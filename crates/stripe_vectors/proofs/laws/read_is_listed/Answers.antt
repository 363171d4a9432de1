use Rattle.stripe_vectors.proofs.Listing.{read_is_listed}
use Rattle.stripe_vectors.proofs.laws.read_is_listed.Goals as goal

pub returns : goal.returns
returns c = read_is_listed c.live_vector_is_listed.ensures c.vector_is_read_back.ensures
