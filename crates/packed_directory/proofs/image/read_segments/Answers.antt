use Rattle.std.proofs.Common.{◌≡◌, ℕ, [], ◌∷◌, ◌++◌, length, sym, subst, ◌∙◌, arith, inl, inr}
use Rattle.std.specs.Prelude.{All}
use Rattle.std.proofs.lemmas.Bool.{cases_eq}
use Rattle.std.proofs.lemmas.List.Elements.{All-push}
use Rattle.dir_segment.specs.Lists.{Lists}
use Rattle.dir_segment.specs.Image.{image_lists, image_walk, WalkIsSound}
use Rattle.packed_directory.specs.PackedImage.{segment_image}
use Rattle.packed_directory.proofs.Spelling.{range_more}
use Rattle.packed_directory.proofs.image.read_segments.Goals as goal

pub loop-number-preserved : goal.loop-number-preserved
loop-number-preserved c =
    let g = c.args.g.now in
    let bytes = c.args.bytes.now in
    let k = c.loop-number.number in
    let old = c.loop-number.segments.items in
    let f : ℕ → Lists = λ n. image_lists g.buckets (segment_image g n bytes) in
    record {
      segments = c.in_ok-push.ensures ∙ (λ i. c.loop-number.invariant.segments i ++ c.in_ok-segment.ensures.lists i ∷ []) ∙ range_more f k;
      sound = λ n lt. elim (cases_eq n k) [
        | inl e ↦ subst (λ m. WalkIsSound (image_walk g.buckets (segment_image g m bytes))) (sym e) c.in_ok-segment.ensures.sound
        | inr ne ↦ c.loop-number.invariant.sound n (omega (arith, lt, ne))
      ];
      widths = subst (All (λ (s : Lists). length s.chains ≡ g.buckets)) (sym c.in_ok-push.ensures) (All-push (λ (s : Lists). length s.chains ≡ g.buckets) old c.in_ok-segment.segment c.loop-number.invariant.widths c.in_ok-segment.ensures.width);
    }
