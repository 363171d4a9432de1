use Rattle.std.proofs.Common.{◌≡◌, ◌<◌, ◌*◌, ℕ, List, [], length, take, sym, ap, subst, ◌∙◌, arith, inl, inr}
use Rattle.std.proofs.lemmas.Bool.{cases_eq}
use Rattle.std.proofs.lemmas.List.{get_or_default}
use Rattle.std.proofs.lemmas.List.Elements.{All-get_or}
use Rattle.dir_segment.specs.Lists.{Lists}
use Rattle.dir_segment.specs.Image.{image_lists, image_walk, WalkIsSound}
use Rattle.packed_directory.specs.Packed.{segment_at}
use Rattle.packed_directory.specs.PackedImage.{segment_length, segment_image}
use Rattle.packed_directory.proofs.Spelling.{part_ends, image_same, all_spelled}
use Rattle.packed_directory.proofs.image.write_segments.Goals as goal

pub loop-i-preserved : goal.loop-i-preserved
loop-i-preserved c =
    let g = c.args.g.now in
    let i = c.loop-i.i in
    let segments = c.args.segments.now in
    let new = c.put.new.into in
    let old = c.loop-i.into in
    let len-is : c.segment_length-len.result ≡ segment_length g = c.segment_length-len.ensures in
    let lt : i < length segments = c.loop-i-test.true in
    let it = c.index-segments-i.result in
    let same : it ≡ segment_at segments i = c.index-segments-i.is ∙ get_or_default segments i it (record { chains = []; free = [] }) lt in
    let wide : length it.chains ≡ g.buckets = subst (λ (l : Lists). length l.chains ≡ g.buckets) (sym same) (All-get_or (λ (l : Lists). length l.chains ≡ g.buckets) segments i (record { chains = []; free = [] }) lt c.requires.widths) in
    let before : take (i * segment_length g) new ≡ take (i * segment_length g) old = rw len-is at c.put.ensures.before in
    let kept : (n : ℕ) → n < i → segment_image g n new ≡ segment_image g n old = λ n below. image_same g n (i * segment_length g) new old (part_ends n i (segment_length g) below) before in
    let lists : image_lists g.buckets (segment_image g i new) ≡ segment_at segments i = (rw (len-is, wide) at c.put.ensures.lists) ∙ same in
    let sound : WalkIsSound (image_walk g.buckets (segment_image g i new)) = rw (len-is, wide) at c.put.ensures.sound in
    record {
      size = c.put.ensures.len ∙ c.loop-i.invariant.size;
      lists = λ n below. elim (cases_eq n i) [
        | inl e ↦ subst (λ m. image_lists g.buckets (segment_image g m new) ≡ segment_at segments m) (sym e) lists
        | inr ne ↦ let less : n < i = omega (arith, below, ne) in ap (image_lists g.buckets) (kept n less) ∙ c.loop-i.invariant.lists n less
      ];
      sound = λ n below. elim (cases_eq n i) [
        | inl e ↦ subst (λ m. WalkIsSound (image_walk g.buckets (segment_image g m new))) (sym e) sound
        | inr ne ↦ let less : n < i = omega (arith, below, ne) in subst (λ (b : List ℕ). WalkIsSound (image_walk g.buckets b)) (sym (kept n less)) (c.loop-i.invariant.sound n less)
      ];
    }

pub returns-clause-segments : goal.returns-clause-segments
returns-clause-segments c =
    let g = c.args.g.now in
    let segments = c.args.segments.now in
    let new = c.clear_from.new.into in
    let old = c.loop-i.into in
    let len-is : c.segment_length-len.result ≡ segment_length g = c.segment_length-len.ensures in
    let before : take (length segments * segment_length g) new ≡ take (length segments * segment_length g) old = rw len-is at c.clear_from.ensures.before in
    all_spelled g new segments c.requires.count (λ n below.
    let less : n < length segments = omega (arith, below, c.requires.count) in
    let done : n < c.loop-i.i = omega (arith, less, c.loop-i-test.false) in
    ap (image_lists g.buckets) (image_same g n (length segments * segment_length g) new old (part_ends n (length segments) (segment_length g) less) before)
    ∙ c.loop-i.invariant.lists n done)

pub returns-clause-sound : goal.returns-clause-sound
returns-clause-sound c = λ n below.
    let g = c.args.g.now in
    let segments = c.args.segments.now in
    let new = c.clear_from.new.into in
    let old = c.loop-i.into in
    let len-is : c.segment_length-len.result ≡ segment_length g = c.segment_length-len.ensures in
    let before : take (length segments * segment_length g) new ≡ take (length segments * segment_length g) old = rw len-is at c.clear_from.ensures.before in
    let less : n < length segments = omega (arith, below, c.requires.count) in
    let done : n < c.loop-i.i = omega (arith, less, c.loop-i-test.false) in
    subst (λ (b : List ℕ). WalkIsSound (image_walk g.buckets b)) (sym (image_same g n (length segments * segment_length g) new old (part_ends n (length segments) (segment_length g) less) before)) (c.loop-i.invariant.sound n done)
