use Rattle.std.proofs.Common.{◌≡◌, ◌<◌, ◌^◌, ◌*◌, ◌∙◌, ◌++◌, List, ℕ, Ok, length, refl, sym, ap, subst, arith}
use Rattle.std.specs.Int.{w16, to_le_bytes}
use Rattle.dir_segment.proofs.Inserting.{head_small}
use Rattle.dir_segment.specs.Image.{image_lists, image_walk, entries_in_bytes, WalkIsSound}
use Rattle.dir_segment.proofs.Accepting.{walks_all}
use Rattle.dir_segment.proofs.Moves.{free_le}
use Rattle.dir_segment.proofs.Bytes.{joined, written, written_walk}
use Rattle.dir_segment.proofs.Walks.{seen}
use Rattle.dir_segment.proofs.segment.Segment.to_bytes.Goals as goal

pub returns-clause-lists : goal.returns-clause-lists
returns-clause-lists c =
    let s = c.self.inside in
    let h = seen s.slots s.free s.free_count s.used s.buckets c.args.self.now c.self.view_is c.self.invariant in
    let front : List ℕ = c.copy_from_slice.new.self in
    let middle : List ℕ = c.copy_from_slice-2.new.self in
    let rest : List ℕ = c.copy_from_slice-3.new.self in
    let front-is : front ≡ to_le_bytes w16 s.free = c.copy_from_slice.ensures.after ∙ c.to_le_bytes.ensures in
    let two : length front ≡ 2 = ap (λ (q : List ℕ). length q) front-is in
    let two' : length middle ≡ 2 = ap (λ (q : List ℕ). length q) (c.copy_from_slice-2.ensures.after ∙ c.to_le_bytes-2.ensures) in
    let rest-is : rest ≡ c.bytes.result.now = c.copy_from_slice-3.ensures.after in
    let long : length rest ≡ 40 * length c.args.self.now.chains = ap (λ (q : List ℕ). length q) rest-is ∙ omega (arith, c.bytes.ensures.len, h.size, h.width) in
    let whole = joined c.args.into.now front middle rest (40 * length c.args.self.now.chains) _ c.requires.len two two' long refl in
    let spelled : entries_in_bytes (4 * s.buckets) rest ≡ s.slots = ap (entries_in_bytes (4 * s.buckets)) rest-is ∙ ap (λ k. entries_in_bytes k c.bytes.result.now) (sym h.size) ∙ c.bytes.ensures.bytes in
    ap (image_lists (length c.args.self.now.chains)) whole ∙ ap (λ k. image_lists k (front ++ (middle ++ rest))) h.width ∙ written front middle rest s.free s.buckets s.slots front-is (head_small s.slots s.free s.free_count s.used s.buckets c.args.self.now h) two two' spelled ∙ c.self.view_is

pub returns-clause-sound : goal.returns-clause-sound
returns-clause-sound c =
    let s = c.self.inside in
    let h = seen s.slots s.free s.free_count s.used s.buckets c.args.self.now c.self.view_is c.self.invariant in
    let front : List ℕ = c.copy_from_slice.new.self in
    let middle : List ℕ = c.copy_from_slice-2.new.self in
    let rest : List ℕ = c.copy_from_slice-3.new.self in
    let front-is : front ≡ to_le_bytes w16 s.free = c.copy_from_slice.ensures.after ∙ c.to_le_bytes.ensures in
    let two : length front ≡ 2 = ap (λ (q : List ℕ). length q) front-is in
    let two' : length middle ≡ 2 = ap (λ (q : List ℕ). length q) (c.copy_from_slice-2.ensures.after ∙ c.to_le_bytes-2.ensures) in
    let rest-is : rest ≡ c.bytes.result.now = c.copy_from_slice-3.ensures.after in
    let long : length rest ≡ 40 * length c.args.self.now.chains = ap (λ (q : List ℕ). length q) rest-is ∙ omega (arith, c.bytes.ensures.len, h.size, h.width) in
    let whole = joined c.args.into.now front middle rest (40 * length c.args.self.now.chains) _ c.requires.len two two' long refl in
    let spelled : entries_in_bytes (4 * s.buckets) rest ≡ s.slots = ap (entries_in_bytes (4 * s.buckets)) rest-is ∙ ap (λ k. entries_in_bytes k c.bytes.result.now) (sym h.size) ∙ c.bytes.ensures.bytes in
    let middle-is : middle ≡ to_le_bytes w16 s.free_count = c.copy_from_slice-2.ensures.after ∙ c.to_le_bytes-2.ensures in
    let small : s.free_count < 2 ^ 16 = omega (arith, free_le s.slots s.free s.free_count s.used s.buckets c.args.self.now h, h.few) in
    let walk = walks_all s.slots s.free s.free_count s.used s.buckets c.args.self.now h in
    let same = written_walk front middle rest s.free s.free_count s.buckets s.slots front-is (head_small s.slots s.free s.free_count s.used s.buckets c.args.self.now h) middle-is small two two' spelled in
    let image : image_walk (length c.args.self.now.chains) _ ≡ Ok walk.0 = ap (image_walk (length c.args.self.now.chains)) whole ∙ ap (λ k. image_walk k (front ++ (middle ++ rest))) h.width ∙ sym same ∙ walk.1 in
    subst WalkIsSound (sym image) tt
