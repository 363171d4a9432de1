-- Bytes are an image, or have one first fault.
use Rattle.std.specs.Prelude.{ℕ, ◌≡◌, ◌<◌, List, Result, Ok, Err}
use Rattle.std.proofs.Common.{sym, ap, subst, ◌∙◌, inl, inr}
use Rattle.std.proofs.lemmas.Bool.{cases_lt}
use Rattle.std.proofs.Math.Nat.{le_antisymm}
use Rattle.tape_base.specs.declared.geometries.Geometry.{Geometry}
use Rattle.dir_segment.specs.Image.{Marks, image_walk, WalkIsSound}
use Rattle.dir_segment.specs.declared.fault.SegmentFault.{SegmentFault}
use Rattle.packed_directory.specs.PackedImage.{segment_image, IsImageOfSegments, IsFirstFault}

-- a walk that ends with a fault is not sound
abbrev pub unsound : (walk : Result Marks SegmentFault) (fault : SegmentFault) → walk ≡ Err fault → WalkIsSound walk → ⊥
unsound walk fault is sound = subst WalkIsSound is sound

-- the fault of a walk, or another
abbrev pub fault_of : SegmentFault → Result Marks SegmentFault → SegmentFault
fault_of other (Ok marks) = other
fault_of other (Err fault) = fault

-- no image has a first fault
abbrev pub no_image : (g : Geometry) (bytes : List ℕ) (n : ℕ) (fault : SegmentFault)
    → IsImageOfSegments g bytes → IsFirstFault g bytes n fault → ⊥
no_image g bytes n fault image first =
    unsound (image_walk g.buckets (segment_image g n bytes)) fault first.is (image n first.within)

-- a segment below that of a first fault has none
abbrev pub none_before : (g : Geometry) (bytes : List ℕ) (n m : ℕ) (f h : SegmentFault)
    → IsFirstFault g bytes n f → IsFirstFault g bytes m h → n < m → ⊥
none_before g bytes n m f h one other lt =
    unsound (image_walk g.buckets (segment_image g n bytes)) f one.is (other.before n lt)

-- so the segment is one
abbrev pub one_segment : (g : Geometry) (bytes : List ℕ) (n m : ℕ) (f h : SegmentFault)
    → IsFirstFault g bytes n f → IsFirstFault g bytes m h → n ≡ m
one_segment g bytes n m f h one other = elim (cases_lt n m) [
  | inl lt ↦ absurd (none_before g bytes n m f h one other lt)
  | inr ge ↦ elim (cases_lt m n) [
    | inl lt ↦ absurd (none_before g bytes m n h f other one lt)
    | inr le ↦ le_antisymm le ge
  ]
]

-- and so is its fault
abbrev pub one_fault : (g : Geometry) (bytes : List ℕ) (n m : ℕ) (f h : SegmentFault)
    → IsFirstFault g bytes n f → IsFirstFault g bytes m h → (n ≡ m) × (f ≡ h)
one_fault g bytes n m f h one other =
    let same = one_segment g bytes n m f h one other in
    (same, ap (fault_of f) (sym one.is ∙ ap (λ k. image_walk g.buckets (segment_image g k bytes)) same ∙ other.is))
