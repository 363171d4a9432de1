-- An accepted span is spelled as one is written, and what is spelled so is accepted.
use Rattle.std.proofs.Common.{◌≡◌, ◌≤◌, ◌<◌, ◌+◌, ◌-◌, ◌^◌, ◌⊎◌, inl, inr, ℕ, zero, suc, Bool, true, false, List, ◌++◌, length, Option, None, Result, Ok, Err, refl, sym, ap, subst, ◌∙◌, append_assoc, arith}
use Rattle.std.specs.Prelude.{◌*◌, ◌/◌, codes, not, nat_lt, ◌==◌, ◌||◌, IfOk, replicate, if◌then◌else◌}
use Rattle.std.specs.Int.{w32, w64, to_le_bytes}
use Rattle.std.specs.Str.{bytes_eq}
use Rattle.std.proofs.lemmas.Bool.{eqb-true, and_parts, ltb-false, le-ltb}
use Rattle.std.proofs.lemmas.List.{take_at}
use Rattle.std.proofs.Math.Dec.{eqb-suc-zero}
use Rattle.sha2.specs.Sha256.{sha256}
use Rattle.stripe_header.specs.declared.states.Span.{Span}
use Rattle.stripe_header.specs.declared.states.SpanFault.{SpanFault}
use Rattle.stripe_header.specs.Spelling.{Numbers, numbers_of, spelled_alternates, span_fields, span_bytes}
use Rattle.stripe_header.specs.Reading.{block_bytes, is_version, version_in, span_numbers, span_blocks, are_accepted, is_laid, seal_fault, span_fault, SpanAnswers}
use Rattle.stripe_header.specs.Accepted.{IsSpan, FitsFields}
use Rattle.stripe_header.specs.Layout.{stripe_blocks}
use Rattle.stripe_header.specs.declared.area.Area.{Area}
use Rattle.tape_base.specs.declared.geometries.Geometry.{Geometry}
use Rattle.tape_base.specs.Limits.{is_outside}
use Rattle.tape_base.specs.Blocks.{blocks_of}
use Rattle.stripe_header.proofs.CopyLaws.{not_none, neither, kept_none, same, equal, not_false, length-sha256, number_64_is, number_32_is}

-- ---- what is accepted is spelled so

versions_by : (one two : Bool) (v told : ℕ) → (v == 1) ≡ one → (v == 2) ≡ two → (one || two) ≡ true → (v ≡ 2) ⊎ ((v ≡ 1) × ((if v == 1 then 5 else told) ≡ 5))
versions_by true two v told h1 h2 h =
    let e = eqb-true v 1 h1 in
    inr (e, ap (λ k. if k == 1 then 5 else told) e)
versions_by false true v told h1 h2 h = inl (eqb-true v 2 h2)
versions_by false false v told h1 h2 h = absurd cc

versions : (v told : ℕ) → is_version v ≡ true → (v ≡ 2) ⊎ ((v ≡ 1) × ((if v == 1 then 5 else told) ≡ 5))
versions v told h = versions_by (v == 1) (v == 2) v told refl refl h

sealed : (bytes : List ℕ) → seal_fault bytes ≡ None → is_version (version_in bytes) ≡ true
unfolding seal_fault
sealed bytes h = (not_none _ _ _ (not_none _ _ _ h).1).0

accepted : (bytes : List ℕ) → span_fault bytes ≡ None → IsSpan bytes (version_in bytes) (span_numbers bytes) (span_blocks bytes)
unfolding span_fault
accepted bytes h =
    let a = neither _ _ h in
    let b = and_parts (are_accepted (span_numbers bytes)) (is_laid bytes) (kept_none _ _ a.1) in
    let c = and_parts (not (nat_lt (span_blocks bytes) ((span_numbers bytes).content + 6))) (bytes_eq bytes (span_bytes (version_in bytes) (span_numbers bytes) (span_blocks bytes))) b.1 in
    record {
      accepted = b.0;
      room = ltb-false _ _ (not_false _ c.0);
      of_version = versions (version_in bytes) _ (sealed bytes a.0);
      spelled = same _ _ c.1;
    }

pub is_accepted : (bytes : List ℕ) (r : Result Span SpanFault) → SpanAnswers r (span_fault bytes) (span_numbers bytes) (span_blocks bytes)
    → IfOk r (λ span. IsSpan bytes (version_in bytes) (numbers_of span.geometry) span.blocks)
is_accepted bytes (Ok span) given =
    subst (λ (n : Numbers). IsSpan bytes (version_in bytes) n span.blocks) (sym given.1)
    (subst (λ (k : ℕ). IsSpan bytes (version_in bytes) (span_numbers bytes) k) (sym given.2) (accepted bytes given.0))
is_accepted bytes (Err fault) given = tt

-- ---- what is spelled so is accepted

-- the fields of a span
record Fields (bytes : List ℕ) (version : ℕ) (n : Numbers) (blocks : ℕ) : Type 0 where
  magic : block_bytes 0 8 bytes ≡ codes "TSCSPAN1"
  version_is : block_bytes 8 4 bytes ≡ to_le_bytes w32 version
  segments : block_bytes 12 4 bytes ≡ to_le_bytes w32 n.segments
  buckets : block_bytes 16 4 bytes ≡ to_le_bytes w32 n.buckets
  agg : block_bytes 20 4 bytes ≡ to_le_bytes w32 n.agg
  fragment : block_bytes 24 4 bytes ≡ to_le_bytes w32 n.fragment
  alternates : block_bytes 28 4 bytes ≡ to_le_bytes w32 (spelled_alternates version n)
  content : block_bytes 32 8 bytes ≡ to_le_bytes w64 n.content
  reach : block_bytes 40 8 bytes ≡ to_le_bytes w64 n.reach
  generation : block_bytes 48 8 bytes ≡ to_le_bytes w64 n.generation
  blocks_are : block_bytes 64 8 bytes ≡ to_le_bytes w64 blocks
  all : block_bytes 0 72 bytes ≡ span_fields version n blocks

fields : (version : ℕ) (n : Numbers) (blocks : ℕ) (rest : List ℕ) → Fields (span_fields version n blocks ++ rest) version n blocks
unfolding block_bytes span_fields
fields version n blocks rest =
    record { magic = refl; version_is = refl; segments = refl; buckets = refl; agg = refl; fragment = refl; alternates = refl; content = refl; reach = refl; generation = refl; blocks_are = refl; all = refl }

digest_there : (version : ℕ) (n : Numbers) (blocks : ℕ) (digest rest : List ℕ) → length digest ≡ 32 → block_bytes 72 32 (span_fields version n blocks ++ (digest ++ rest)) ≡ digest
unfolding block_bytes span_fields
digest_there version n blocks digest rest wide = take_at digest rest 32 wide

told_alternates : (bytes : List ℕ) (version : ℕ) (n : Numbers) → (version ≡ 2) ⊎ ((version ≡ 1) × (n.alternates ≡ 5)) → version_in bytes ≡ version → n.alternates < 2 ^ 32
    → block_bytes 28 4 bytes ≡ to_le_bytes w32 (spelled_alternates version n) → (span_numbers bytes).alternates ≡ n.alternates
told_alternates bytes version n (inl two) v fits h =
    let spelled : spelled_alternates version n ≡ n.alternates = ap (λ k. spelled_alternates k n) two in
    let told = number_32_is 28 n.alternates bytes fits (h ∙ ap (to_le_bytes w32) spelled) in
    rw (v ∙ two) told
told_alternates bytes version n (inr one) v fits h = rw (v ∙ one.0) (sym one.1)

numbers_again : (bytes : List ℕ) (version : ℕ) (n : Numbers) (blocks : ℕ) → (version ≡ 2) ⊎ ((version ≡ 1) × (n.alternates ≡ 5)) → version_in bytes ≡ version → FitsFields n blocks → Fields bytes version n blocks → span_numbers bytes ≡ n
numbers_again bytes version n blocks kind v f h =
    let segments = number_32_is 12 n.segments bytes f.segments h.segments in
    let buckets = number_32_is 16 n.buckets bytes f.buckets h.buckets in
    let agg = number_32_is 20 n.agg bytes f.agg h.agg in
    let fragment = number_32_is 24 n.fragment bytes f.fragment h.fragment in
    let content = number_64_is 32 n.content bytes f.content h.content in
    let reach = number_64_is 40 n.reach bytes f.reach h.reach in
    let generation = number_64_is 48 n.generation bytes f.generation h.generation in
    let alternates : (span_numbers bytes).alternates ≡ n.alternates = told_alternates bytes version n kind v f.alternates h.alternates in
    λ i. record { segments = segments i; buckets = buckets i; agg = agg i; fragment = fragment i; alternates = alternates i; content = content i; reach = reach i; generation = generation i }

few_versions : (version : ℕ) (n : Numbers) → (version ≡ 2) ⊎ ((version ≡ 1) × (n.alternates ≡ 5)) → (version ≤ 2) × (is_version version ≡ true)
few_versions version n (inl two) = (omega (arith, two), ap is_version two)
few_versions version n (inr one) = (omega (arith, one.0), ap is_version one.0)

seals : (bytes : List ℕ) → block_bytes 0 8 bytes ≡ codes "TSCSPAN1" → is_version (version_in bytes) ≡ true → block_bytes 72 32 bytes ≡ sha256 (block_bytes 0 72 bytes) → seal_fault bytes ≡ None
unfolding seal_fault
seals bytes magic version digest = rw (equal _ _ magic, version, equal _ _ digest) refl

passes : (bytes : List ℕ) → seal_fault bytes ≡ None → are_accepted (span_numbers bytes) ≡ true → is_laid bytes ≡ true → span_fault bytes ≡ None
unfolding span_fault
passes bytes seal accepted laid = rw (seal, accepted, laid) refl

-- reading meets no fault, and gives the numbers
record IsRead (bytes : List ℕ) (n : Numbers) (blocks : ℕ) : Type 0 where
  faultless : span_fault bytes ≡ None
  numbers_read : span_numbers bytes ≡ n
  blocks_read : span_blocks bytes ≡ blocks

again : (bytes : List ℕ) (version : ℕ) (n : Numbers) (blocks : ℕ) → FitsFields n blocks → IsSpan bytes version n blocks → IsRead bytes n blocks
again bytes version n blocks f s =
    let front = span_fields version n blocks in
    let digest = sha256 front in
    let parts : bytes ≡ front ++ (digest ++ replicate 408 0) = s.spelled ∙ append_assoc front digest (replicate 408 0) in
    let h : Fields bytes version n blocks = subst (λ (b : List ℕ). Fields b version n blocks) (sym parts) (fields version n blocks (digest ++ replicate 408 0)) in
    let few = few_versions version n s.of_version in
    let v : version_in bytes ≡ version = number_32_is 8 version bytes (omega (arith, few.0)) h.version_is in
    let numbers = numbers_again bytes version n blocks s.of_version v f h in
    let blocks_are : span_blocks bytes ≡ blocks = number_64_is 64 blocks bytes f.count h.blocks_are in
    let kept : block_bytes 72 32 bytes ≡ sha256 (block_bytes 0 72 bytes) =
    ap (block_bytes 72 32) parts ∙ (digest_there version n blocks digest (replicate 408 0) (length-sha256 front) ∙ ap sha256 (sym h.all)) in
    let spelled : bytes ≡ span_bytes (version_in bytes) (span_numbers bytes) (span_blocks bytes) =
    s.spelled ∙ (ap (λ k. span_bytes k n blocks) (sym v) ∙ (ap (λ m. span_bytes (version_in bytes) m blocks) (sym numbers)
    ∙ ap (span_bytes (version_in bytes) (span_numbers bytes)) (sym blocks_are))) in
    let least : nat_lt (span_blocks bytes) ((span_numbers bytes).content + 6) ≡ false =
    le-ltb _ _ (omega (arith, s.room, blocks_are, ap (λ (m : Numbers). m.content) numbers)) in
    let laid : is_laid bytes ≡ true = rw (least, equal _ _ spelled) refl in
    record {
      faultless = passes bytes (seals bytes h.magic (ap is_version v ∙ few.1) kept) (ap are_accepted numbers ∙ s.accepted) laid;
      numbers_read = numbers;
      blocks_read = blocks_are;
    }

pub is_again : (bytes : List ℕ) (r : Result Span SpanFault) → SpanAnswers r (span_fault bytes) (span_numbers bytes) (span_blocks bytes)
    → (version : ℕ) (n : Numbers) (blocks : ℕ) → FitsFields n blocks → IsSpan bytes version n blocks → SpanAnswers r None n blocks
is_again bytes r given version n blocks f s =
    let read = again bytes version n blocks f s in
    subst (λ (k : ℕ). SpanAnswers r None n k) read.blocks_read
    (subst (λ (m : Numbers). SpanAnswers r None m (span_blocks bytes)) read.numbers_read
    (subst (λ (x : Option SpanFault). SpanAnswers r x (span_numbers bytes) (span_blocks bytes)) read.faultless given))

-- ---- what is written is a span

-- a number from the least that may be to the most is inside
inside : (least most n : ℕ) → least ≤ n → n ≤ most → is_outside least most n ≡ false
inside least most n low high = rw (le-ltb n least low, le-ltb most n high) refl

some_is_not_none : (n : ℕ) → 1 ≤ n → (n == 0) ≡ false
some_is_not_none zero h = absurd (omega (arith, h))
some_is_not_none (suc n) h = eqb-suc-zero n

-- no number of a geometry is refused
are_fit : (g : Geometry) → are_accepted (numbers_of g) ≡ true
are_fit g = rw (
  inside 1 4096 g.segments g.accepted.segments_fit.0 g.accepted.segments_fit.1,
  inside 1 16383 g.buckets g.accepted.buckets_fit.0 g.accepted.buckets_fit.1,
  inside 8 8192 g.agg g.accepted.agg_fits.0 g.accepted.agg_fits.1,
  ap (λ k. k == 1) g.accepted.agg_fits.2,
  inside (4 * g.agg) (2 ^ 40 - 1) g.content g.accepted.content_fits.0 (omega (arith, g.accepted.content_fits.1)),
  inside g.agg (2 ^ 40 - 1) g.reach g.accepted.reach_fits.0 (omega (arith, g.accepted.reach_fits.1)),
  some_is_not_none g.fragment g.accepted.fragment_fits.0,
  le-ltb (g.agg / 2) (blocks_of g.fragment) g.accepted.fragment_fits.1,
  inside 1 16 g.alternates g.keeps.some g.keeps.few,
) refl

pub written : (a : Area) (bytes : List ℕ) → bytes ≡ span_bytes 2 (numbers_of a.geometry) (stripe_blocks a) → IsSpan bytes 2 (numbers_of a.geometry) (stripe_blocks a)
written a bytes h = record {
  accepted = are_fit a.geometry;
  room = omega arith;
  of_version = inl refl;
  spelled = h;
}

-- the numbers of a geometry have fields
pub have_fields : (a : Area) → a.geometry.fragment < 2 ^ 32 → a.geometry.generation < 2 ^ 64 → stripe_blocks a < 2 ^ 64 → FitsFields (numbers_of a.geometry) (stripe_blocks a)
have_fields a fragment generation count =
    let g = a.geometry.accepted in
    record {
      segments = omega (arith, g.segments_fit.1);
      buckets = omega (arith, g.buckets_fit.1);
      agg = omega (arith, g.agg_fits.1);
      fragment = fragment;
      alternates = omega (arith, a.geometry.keeps.few);
      content = omega (arith, g.content_fits.1);
      reach = omega (arith, g.reach_fits.1);
      generation = generation;
      count = count;
    }
