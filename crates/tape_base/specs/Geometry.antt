-- What contracts see of a geometry.
use Rattle.std.specs.Prelude.{ℕ, ◌≡◌, ◌/◌}
use Rattle.tape_base.specs.declared.geometries.Geometry.{Geometry}

-- the geometry has these numbers
pub record HasNumbers (g : Geometry) (segments buckets content agg reach fragment generation alternates : ℕ) : Type 0 where
  pub has_segments : g.segments ≡ segments
  pub has_buckets : g.buckets ≡ buckets
  pub has_content : g.content ≡ content
  pub has_agg : g.agg ≡ agg
  pub has_reach : g.reach ≡ reach
  pub has_fragment : g.fragment ≡ fragment
  pub has_generation : g.generation ≡ generation
  pub has_alternates : g.alternates ≡ alternates

-- the most blocks of one document, and the most that one flush moves
abbrev pub budget_of : Geometry → ℕ
budget_of g = g.agg / 2
