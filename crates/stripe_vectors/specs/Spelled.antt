-- The vector that a put is to have, as bytes.
use Rattle.std.specs.Prelude.{◌≡◌, ◌≤◌, List, length}
use Rattle.tape_base.specs.declared.geometries.Geometry.{Geometry}
use Rattle.tape_base.specs.Blocks.{blocks_of}
use Rattle.tape_base.specs.Geometry.{budget_of}
use Rattle.alternate_vector.specs.Alternates.{Stored, merged, vector_size}
use Rattle.alternate_vector.specs.Spelling.{IsSpelling, vector_bytes}
use Rattle.cache_model.specs.State.{most_payload}
use Rattle.cache_model.specs.Room.{greatest_pin}
use Rattle.stripe_vectors.specs.declared.spelling.Spelled.{Spelled}

-- what a vector lists when a new alternate comes to those of a list
abbrev pub listed_with : Geometry → List Stored → Stored → List Stored
listed_with g list new = merged g.alternates (most_payload g) list new

-- the bytes and the pin of that vector, which is a piece, and its list
pub record IsSpelled (g : Geometry) (list : List Stored) (new : Stored) (spelled : Spelled) : Type 0 where
  pub bytes : spelled.bytes.items ≡ vector_bytes (listed_with g list new)
  pub size : length spelled.bytes.items ≡ vector_size (listed_with g list new)
  pub pin : spelled.pin ≡ greatest_pin (listed_with g list new)
  pub small : blocks_of (length spelled.bytes.items) ≤ budget_of g
  pub lists : spelled.list ≡ listed_with g list new
  -- and is read back as that
  pub again : IsSpelling (vector_bytes (listed_with g list new)) (listed_with g list new)
