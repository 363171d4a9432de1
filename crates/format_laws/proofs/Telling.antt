-- The span of an area, read back.
use Rattle.std.proofs.Common.{◌≡◌, ◌<◌, ◌^◌, ℕ, List, length, Option, Some, None, Err, refl, sym, arith}
use Rattle.sha2.specs.Sha256.{sha256, digest_bytes}
use Rattle.stripe_header.specs.declared.area.Area.{Area}
use Rattle.stripe_header.specs.declared.states.SpanFault.{SpanFault}
use Rattle.stripe_header.specs.Accepted.{FitsFields}
use Rattle.stripe_header.specs.Layout.{stripe_blocks}
use Rattle.stripe_header.specs.Reading.{block_bytes, span_blocks, span_fault, span_numbers, version_in}
use Rattle.stripe_header.specs.Spelling.{Numbers, numbers_of, span_bytes, span_fields}
use Rattle.stripe_header.proofs.CopyLaws.{number_32_is, number_64_is}
use Rattle.stripe_header.proofs.SpanLaws.{have_fields, is_again, written}
use Rattle.reopening.specs.Device.{TellsArea}

pub span_length : (n : Numbers) (blocks : ℕ) → length (span_bytes 2 n blocks) ≡ 512
unfolding span_fields sha256 digest_bytes
span_length n blocks = refl

module _ (n : Numbers) (blocks : ℕ) (fits : FitsFields n blocks) where
  abbrev bytes : List ℕ
  bytes = span_bytes 2 n blocks

  version : version_in bytes ≡ 2
  unfolding block_bytes span_fields
  version = number_32_is 8 2 bytes (omega arith) refl

  blocks_again : span_blocks bytes ≡ blocks
  unfolding block_bytes span_fields
  blocks_again = number_64_is 64 blocks bytes fits.count refl

  numbers_again : span_numbers bytes ≡ n
  unfolding block_bytes span_fields
  numbers_again =
      let segments = number_32_is 12 n.segments bytes fits.segments refl in
      let buckets = number_32_is 16 n.buckets bytes fits.buckets refl in
      let agg = number_32_is 20 n.agg bytes fits.agg refl in
      let fragment = number_32_is 24 n.fragment bytes fits.fragment refl in
      let alternates : (span_numbers bytes).alternates ≡ n.alternates =
      rw version (number_32_is 28 n.alternates bytes fits.alternates refl) in
      let content = number_64_is 32 n.content bytes fits.content refl in
      let reach = number_64_is 40 n.reach bytes fits.reach refl in
      let generation = number_64_is 48 n.generation bytes fits.generation refl in
      λ i. record {
        segments = segments i;
        buckets = buckets i;
        agg = agg i;
        fragment = fragment i;
        alternates = alternates i;
        content = content i;
        reach = reach i;
        generation = generation i;
      }

-- what is no fault is none
none_of : {F : Type 0} (fault : Option F) → ((x : F) → fault ≡ Some x → ⊥) → fault ≡ None
none_of None never = refl
none_of (Some x) never = absurd (never x refl)

module _ (a : Area) (generation : a.geometry.generation < 2 ^ 64) where
  have : FitsFields (numbers_of a.geometry) (stripe_blocks a)
  have =
      let g = a.geometry.accepted in
      have_fields a (omega (arith, g.fragment_fits.1, g.agg_fits.1)) generation (omega (arith, a.few, g.content_fits.1))

  abbrev span : List ℕ
  span = span_bytes 2 (numbers_of a.geometry) (stripe_blocks a)

  no_fault : (x : SpanFault) → span_fault span ≡ Some x → ⊥
  no_fault x is =
      let e : None ≡ Some x = is_again span (Err x) is 2 (numbers_of a.geometry) (stripe_blocks a) have (written a span refl) in
      absurd (cc e)

  -- the span of an area tells it
  pub span_tells : TellsArea span a
  span_tells = record {
    accepted = none_of (span_fault span) no_fault;
    numbers = sym (numbers_again (numbers_of a.geometry) (stripe_blocks a) have);
    blocks = blocks_again (numbers_of a.geometry) (stripe_blocks a) have;
  }
