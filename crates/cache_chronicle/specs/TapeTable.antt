-- What a `Tape` has of a state.
use Rattle.std.specs.Prelude.{◌≡◌}
use Rattle.cache_model.specs.State.{State}
use Rattle.cache_chronicle.specs.declared.tape.Tape.{Tape}

-- the numbers are those of the state
pub record HasTape (t : Tape) (s : State) : Type 0 where
  pub cursor : t.cursor ≡ s.cursor
  pub content : t.content ≡ s.geometry.content
  pub agg : t.agg ≡ s.geometry.agg
  pub least : t.least ≡ s.least
  pub opened : t.opened ≡ s.opened
  pub dropped : s.dropped ≡ 0
