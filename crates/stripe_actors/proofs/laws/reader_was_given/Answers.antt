use Rattle.cache_model.specs.State.{ReaderRow}
use Rattle.stripe_actors.proofs.Telling.{was_given}
use Rattle.stripe_actors.proofs.laws.reader_was_given.Goals as goal

pub returns : goal.returns
returns c s a h reader some = was_given (λ (r : ReaderRow). r.reader) reader s.next_reader s.readers h.readers_fall some
