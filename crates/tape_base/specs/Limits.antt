-- Which numbers a geometry may have, and which of them is refused first.
use Rattle.std.specs.Prelude.{ℕ, ◌≡◌, ◌<◌, ◌≤◌, ◌-◌, ◌*◌, ◌/◌, ◌%◌, ◌^◌, ◌==◌, ◌||◌, nat_lt, Bool, if◌then◌else◌, List, [], ◌∷◌, Option, Some, None}
use Rattle.std.specs.Option.{option_map, option_or}
use Rattle.std.specs.List.{find}
use Rattle.tape_base.specs.Blocks.{blocks_of}
use Rattle.tape_base.specs.declared.geometries.BadGeometry.{BadGeometry}
use Rattle.tape_base.specs.declared.geometries.BadGeometry.TheVariants.{Segments, Buckets, Agg, Content, Reach, Fragment, Alternates}

-- what the numbers of a geometry keep
pub record IsGeometry (segments buckets content agg reach fragment : ℕ) : Type 0 where
  pub segments_fit : (1 ≤ segments) × (segments ≤ 4096)
  pub buckets_fit : (1 ≤ buckets) × (buckets ≤ 16383)
  pub agg_fits : (8 ≤ agg) × (agg ≤ 8192) × (agg % 2 ≡ 0)
  pub content_fits : (4 * agg ≤ content) × (content < 2 ^ 40)
  pub reach_fits : (agg ≤ reach) × (reach < 2 ^ 40)
  pub fragment_fits : (1 ≤ fragment) × (blocks_of fragment ≤ agg / 2)

-- how many alternates an object may keep
pub record MayKeep (alternates : ℕ) : Type 0 where
  pub some : 1 ≤ alternates
  pub few : alternates ≤ 16

-- below the least number that may be or above the most; these two are inside
abbrev pub is_outside : ℕ → ℕ → ℕ → Bool
is_outside least most n = nat_lt n least || nat_lt most n

-- whether each number is to be refused, in the order in which the refusals are looked for
abbrev pub refusals : ℕ → ℕ → ℕ → ℕ → ℕ → ℕ → ℕ → List (Bool × BadGeometry)
refusals segments buckets content agg reach fragment alternates =
    (is_outside 1 4096 segments, Segments)
    ∷ (is_outside 1 16383 buckets, Buckets)
    ∷ (is_outside 8 8192 agg || agg % 2 == 1, Agg)
    ∷ (is_outside (4 * agg) (2 ^ 40 - 1) content, Content)
    ∷ (is_outside agg (2 ^ 40 - 1) reach, Reach)
    ∷ (fragment == 0 || nat_lt (agg / 2) (blocks_of fragment), Fragment)
    ∷ (is_outside 1 16 alternates, Alternates)
    ∷ []

-- the first refusal, if there is one
abbrev pub first_refusal : ℕ → ℕ → ℕ → ℕ → ℕ → ℕ → ℕ → Option BadGeometry
first_refusal segments buckets content agg reach fragment alternates =
    option_map (λ r. r.1) (find (λ r. r.0) (refusals segments buckets content agg reach fragment alternates))

-- the refusal of a number of alternates, where all others are accepted
abbrev pub alternates_refusal : ℕ → Option BadGeometry
alternates_refusal alternates = if is_outside 1 16 alternates then Some Alternates else None

-- the number of alternates is looked at last: where five may be kept, so that no refusal is for it
abbrev pub AlternatesAreLast : Type 0
AlternatesAreLast = (segments buckets content agg reach fragment alternates : ℕ)
    → first_refusal segments buckets content agg reach fragment alternates
    ≡ option_or (first_refusal segments buckets content agg reach fragment 5) (alternates_refusal alternates)
