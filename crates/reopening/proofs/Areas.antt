-- The first block of a device and its size decide where a stripe lies.
use Rattle.std.proofs.Common.{◌≡◌, ◌≤◌, ◌<◌, ◌/◌, ◌%◌, ◌^◌, ℕ, List, length, take, sym, ap, subst, ◌∙◌, arith}
use Rattle.std.proofs.Props.{props}
use Rattle.std.proofs.Math.Nat.{mod-add-div, mod-lt}
use Rattle.tape_base.specs.declared.geometries.Geometry.{Geometry}
use Rattle.tape_base.specs.Limits.{IsGeometry, MayKeep}
use Rattle.stripe_header.specs.declared.area.Area.{Area}
use Rattle.stripe_header.specs.Spelling.{Numbers, numbers_of}
use Rattle.packed_directory.specs.PackedImage.{image_blocks_of}
use Rattle.reopening.specs.Device.{AreasByBlock, FaultsByBlock, IsArea, IsAreaOn, OneArea}

module _ (bytes : List ℕ) where
  abbrev size : ℕ
  size = length bytes / 512

  -- the bytes of the whole blocks, and what is left of one
  whole : length bytes % 512 < 512
  whole = mod-lt (length bytes) (omega arith)

  by_block : (a : Area) → IsArea bytes a → IsAreaOn (take 512 bytes) size a
  by_block a is = record {
    tells = is.tells;
    directory = is.directory;
    room = omega (arith, is.room, mod-add-div (length bytes) 512, whole);
  }

  by_bytes : (a : Area) → IsAreaOn (take 512 bytes) size a → IsArea bytes a
  by_bytes a is = record {
    tells = is.tells;
    directory = is.directory;
    room = omega (arith, is.room, mod-add-div (length bytes) 512, whole);
  }

pub areas_by_block : AreasByBlock
areas_by_block bytes a = (by_block bytes a, by_bytes bytes a)

pub faults_by_block : FaultsByBlock
faults_by_block bytes fault = (
  λ is. record {
    short = λ none. is.short (omega (arith, none, mod-add-div (length bytes) 512, whole bytes));
    faulty = λ told some. is.faulty told (omega (arith, some, mod-add-div (length bytes) 512, whole bytes));
    unlaid = λ some accepted.
        let e = is.unlaid (omega (arith, some, mod-add-div (length bytes) 512, whole bytes)) accepted in
        (e.0, λ a on. e.1 a (by_bytes bytes a on));
  },
  λ is. record {
    short = λ few. is.short (omega (arith, few, mod-add-div (length bytes) 512, whole bytes));
    faulty = λ told some. is.faulty told (omega (arith, some, mod-add-div (length bytes) 512, whole bytes));
    unlaid = λ some accepted.
        let e = is.unlaid (omega (arith, some, mod-add-div (length bytes) 512, whole bytes)) accepted in
        (e.0, λ a on. e.1 a (by_block bytes a on));
  },
)

-- ---- no block tells two stripes

abbrev AreAccepted : Numbers → Type 0
AreAccepted n = IsGeometry n.segments n.buckets n.content n.agg n.reach n.fragment × MayKeep n.alternates

AreAccepted-prop : (n : Numbers) → IsProp (AreAccepted n)
AreAccepted-prop n = hlevel props

abbrev with_numbers : (n : Numbers) → AreAccepted n → Geometry
with_numbers n accepted = record {
  segments = n.segments;
  buckets = n.buckets;
  content = n.content;
  agg = n.agg;
  reach = n.reach;
  fragment = n.fragment;
  generation = n.generation;
  alternates = n.alternates;
  accepted = accepted.0;
  keeps = accepted.1;
}

same_geometry : (g h : Geometry) → numbers_of g ≡ numbers_of h → g ≡ h
same_geometry g h same =
    subst (λ (n : Numbers). (accepted : AreAccepted n) → g ≡ with_numbers n accepted) same
    (λ accepted. ap (with_numbers (numbers_of g)) (AreAccepted-prop (numbers_of g) (g.accepted, g.keeps) accepted)) (h.accepted, h.keeps)

abbrev DirectoryFits : ℕ → Type 0
DirectoryFits n = (1 ≤ n) × (n ≤ 2 ^ 40)

DirectoryFits-prop : (n : ℕ) → IsProp (DirectoryFits n)
DirectoryFits-prop n = hlevel props

abbrev with_directory : Geometry → (n : ℕ) → DirectoryFits n → Area
with_directory g n fits = record { geometry = g; directory = n; some = fits.0; few = fits.1 }

same_area : (a b : Area) → a.geometry ≡ b.geometry → a.directory ≡ b.directory → a ≡ b
same_area a b geometry directory =
    ap (λ g. with_directory g a.directory (a.some, a.few)) geometry
    ∙ subst (λ (n : ℕ). (fits : DirectoryFits n) → with_directory b.geometry a.directory (a.some, a.few) ≡ with_directory b.geometry n fits) directory
    (λ fits. ap (with_directory b.geometry a.directory) (DirectoryFits-prop a.directory (a.some, a.few) fits)) (b.some, b.few)

pub one_area : OneArea
one_area first one other a b is also =
    let geometry : a.geometry ≡ b.geometry = same_geometry a.geometry b.geometry (is.tells.numbers ∙ sym also.tells.numbers) in
    same_area a b geometry (is.directory ∙ (ap image_blocks_of geometry ∙ sym also.directory))
