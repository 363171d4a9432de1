-- Whether a stripe opens, by its copies.
use Rattle.std.proofs.Common.{◌≡◌, ℕ, Bool, true, false, Option, Some, None, refl, ap, ◌∙◌}
use Rattle.std.specs.Prelude.{nat_lt, if◌then◌else◌}
use Rattle.std.specs.Option.{is_some}
use Rattle.device_log.specs.Image.{Image}
use Rattle.stripe_header.specs.declared.area.Area.{Area}
use Rattle.stripe_header.specs.declared.area.Side.{Side}
use Rattle.stripe_header.specs.declared.area.Side.TheVariants as sides
use Rattle.stripe_header.specs.declared.states.CopyState.{CopyState}
use Rattle.stripe_header.specs.declared.states.CopyFault.{CopyFault}
use Rattle.stripe_header.specs.Reading.{copy_told}
use Rattle.packed_directory.specs.PackedImage.{entries_in, image_segments}
use Rattle.reopening.specs.declared.newest.Newest.{Newest}
use Rattle.reopening.specs.Newest.{body_at, directory_at, fault_at, newer, unless_fault}
use Rattle.reopening.specs.Opens.{is_sound, opened, opening_at, opens_to}
use Rattle.inspections.specs.Copies.{copy_by, copy_of, entries_in_bytes}
use Rattle.inspections.specs.Lines.{newest_count, opens_by, state_in}

-- a copy tells a state where an opening accepts it
state_by : (f : Option CopyFault) (s : CopyState) (e : Option ℕ) → state_in (copy_by f s e) ≡ unless_fault f s
state_by None s e = refl
state_by (Some fault) s e = refl

some_by : {A B : Type 0} (b : Bool) (x : A) (y : B) → is_some (if b then Some x else None) ≡ is_some (if b then Some y else None)
some_by true x y = refl
some_by false x y = refl

module _ (a : Area) (c : Image) where
  count : Side → Option ℕ
  count side = entries_in_bytes a.geometry (directory_at a c side)

  counted : (n : Newest) → is_some (count n.side) ≡ is_some (opened a c (Some n))
  unfolding count entries_in_bytes
  counted n = let bytes = directory_at a c n.side in
      some_by (is_sound a.geometry bytes) (entries_in (image_segments a.geometry bytes)) (opening_at a c n)

  abbrev Agree : (f g : Option CopyFault) (s t : CopyState) → Option Newest → Type 0
  Agree f g s t n = is_some (newest_count n (copy_by f s (count sides.A)) (copy_by g t (count sides.B))) ≡ is_some (opened a c n)

  of_two : (s t : CopyState) (b : Bool) → Agree None None s t (if b then Some (record { side = sides.B; told = t }) else Some (record { side = sides.A; told = s }))
  of_two s t true = counted (record { side = sides.B; told = t })
  of_two s t false = counted (record { side = sides.A; told = s })

  agree : (f g : Option CopyFault) (s t : CopyState) → Agree f g s t (newer (unless_fault f s) (unless_fault g t))
  agree None None s t = of_two s t (nat_lt s.serial t.serial)
  agree None (Some g) s t = counted (record { side = sides.A; told = s })
  agree (Some f) None s t = counted (record { side = sides.B; told = t })
  agree (Some f) (Some g) s t = refl

  -- the lines have a newest copy with its entries exactly where the image opens
  pub opens_as_image : opens_by (copy_of a c sides.A) (copy_of a c sides.B) ≡ is_some (opens_to a c)
  unfolding opens_to count
  opens_as_image =
      let f = fault_at a c sides.A in
      let g = fault_at a c sides.B in
      let s = copy_told (body_at a c sides.A) in
      let t = copy_told (body_at a c sides.B) in
      let one = copy_of a c sides.A in
      let other = copy_of a c sides.B in
      ap (λ x. is_some (newest_count (newer x (state_in other)) one other)) (state_by f s (count sides.A))
      ∙ (ap (λ x. is_some (newest_count (newer (unless_fault f s) x) one other)) (state_by g t (count sides.B))
      ∙ agree f g s t)
