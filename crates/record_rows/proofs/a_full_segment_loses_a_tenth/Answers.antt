use Rattle.std.proofs.Common.{[], ◌∷◌, refl, arith}
use Rattle.std.specs.Prelude.{All, Contains, length, slice_index_or}
use Rattle.std.proofs.lemmas.List.Elements.{All-from_recursion}
use Rattle.cache_model.specs.Room.{rows_of_segment}
use Rattle.cache_model.specs.State.{Row, row_of, vector_piece}
use Rattle.record_rows.specs.Worked.{a, no_digest}
use Rattle.record_rows.specs.Rows.{with_four}
use Rattle.record_rows.proofs.a_full_segment_loses_a_tenth.Goals as goal

-- the vector of the first object
abbrev first_row : Row
first_row = record {
  id = vector_piece a 1;
  place = 32;
  blocks = 1;
  digest = no_digest;
  payload = Rattle.std.specs.Prelude.None;
  pin = 0;
  alternates = Rattle.std.specs.Prelude.Some (Rattle.cache_model.specs.State.list_of_put with_four 1);
}

pub returns : goal.returns
returns c = (
  record {
    purged = first_row ∷ [];
    full = λ h. record {
      each = All-from_recursion (Contains (rows_of_segment with_four 0)) (first_row ∷ []) ((0, omega arith, refl), tt);
      apart = λ i j d below within. absurd (omega (arith, below, within));
      tenth = refl;
      slot = refl;
    };
    free = λ h. cc;
    is = refl;
  },
  refl,
  refl,
  refl,
  refl,
)
