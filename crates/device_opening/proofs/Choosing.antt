-- The newest of the copies that were read.
use Rattle.std.proofs.Common.{◌≡◌, ℕ, ◌-◌, length, Bool, true, false, List, Option, Some, None, refl, sym, ap, subst, ◌∙◌}
use Rattle.std.specs.Prelude.{nat_lt, if◌then◌else◌}
use Rattle.std.specs.List.Sorted.{IsPermutation}
use Rattle.device_log.specs.Image.{Image, IsImage}
use Rattle.stripe_header.specs.declared.area.Area.{Area}
use Rattle.stripe_header.specs.declared.area.Side.{Side}
use Rattle.stripe_header.specs.declared.area.Side.TheVariants as sides
use Rattle.stripe_header.specs.declared.states.CopyState.{CopyState}
use Rattle.stripe_header.specs.declared.states.CopyFault.{CopyFault}
use Rattle.stripe_header.specs.Layout.{other_side}
use Rattle.stripe_header.specs.Reading.{block_bytes, copy_told}
use Rattle.dir_table.specs.declared.rows.StoredRow.{StoredRow}
use Rattle.packed_directory.specs.PackedImage.{IsFirstFault, IsImageFault, IsImageOfSegments}
use Rattle.packed_directory.specs.declared.fault.ImageFault.{ImageFault}
use Rattle.packed_directory.specs.declared.fault.ImageFault.TheVariants.{Segment, Memory as NoImage}
use Rattle.reopening.specs.Faults.{IsOpenFault, opening_fault}
use Rattle.reopening.specs.Opens.{rows_told}
use Rattle.reopening.proofs.Whole.{image_is_sound}
use Rattle.reopening.specs.Newest.{body_at, copy_at, directory_at, fault_at, newer, newest_of, unless_fault}
use Rattle.device_opening.specs.declared.newest.Taken.{Taken}
use Rattle.device_opening.specs.Copies.{AreRowsOf, IsTaken, is_shut, is_shut_at}
use Rattle.device_opening.proofs.Copying.{directory_of_body}

-- a copy that is accepted has no fault
faultless : (f : Option CopyFault) (told s : CopyState) → unless_fault f told ≡ Some s → f ≡ None
faultless None told s is = refl
faultless (Some fault) told s is = absurd cc

none_shut : (a : Area) (c : Image) (side : Side) (s : CopyState) → copy_at a c side ≡ Some s → false ≡ is_shut_at (fault_at a c side)
none_shut a c side s is = sym (ap is_shut_at (faultless (fault_at a c side) (copy_told (body_at a c side)) s is))

refused : (a : Area) (c : Image) (side : Side) (f : CopyFault) → fault_at a c side ≡ Some f → copy_at a c side ≡ None
refused a c side f is = ap (λ x. unless_fault x (copy_told (body_at a c side))) is

module _ (a : Area) (c : Image) (t : Taken) where
  -- only copy A is accepted
  pub takes_a : (s : CopyState) (f : CopyFault) → copy_at a c sides.A ≡ Some s → fault_at a c sides.B ≡ Some f
      → t.newest ≡ record { side = sides.A; told = s } → t.body.items ≡ body_at a c sides.A → t.shut ≡ is_shut f → IsTaken a c t
  takes_a s f one other newest body shut = record {
    newest = (λ i. newer (one i) (refused a c sides.B f other i)) ∙ ap Some (sym newest);
    body = body ∙ ap (λ n. body_at a c n.side) (sym newest);
    shut = shut ∙ (sym (ap is_shut_at other) ∙ ap (λ n. is_shut_at (fault_at a c (other_side n.side))) (sym newest));
  }

  -- only copy B is
  pub takes_b : (s : CopyState) (f : CopyFault) → fault_at a c sides.A ≡ Some f → copy_at a c sides.B ≡ Some s
      → t.newest ≡ record { side = sides.B; told = s } → t.body.items ≡ body_at a c sides.B → t.shut ≡ is_shut f → IsTaken a c t
  takes_b s f one other newest body shut = record {
    newest = (λ i. newer (refused a c sides.A f one i) (other i)) ∙ ap Some (sym newest);
    body = body ∙ ap (λ n. body_at a c n.side) (sym newest);
    shut = shut ∙ (sym (ap is_shut_at one) ∙ ap (λ n. is_shut_at (fault_at a c (other_side n.side))) (sym newest));
  }

  module _ (x y : CopyState) (one : copy_at a c sides.A ≡ Some x) (other : copy_at a c sides.B ≡ Some y) where
    newest_is : (b : Bool) → nat_lt x.serial y.serial ≡ b
        → newest_of a c ≡ (if b then Some (record { side = sides.B; told = y }) else Some (record { side = sides.A; told = x }))
    newest_is b is =
        (λ i. newer (one i) (other i))
        ∙ ap (λ later. if later then Some (record { side = sides.B; told = y }) else Some (record { side = sides.A; told = x })) is

    pub takes_later : nat_lt x.serial y.serial ≡ true → t.newest ≡ record { side = sides.B; told = y } → t.body.items ≡ body_at a c sides.B → t.shut ≡ false → IsTaken a c t
    takes_later later newest body shut = record {
      newest = newest_is true later ∙ ap Some (sym newest);
      body = body ∙ ap (λ n. body_at a c n.side) (sym newest);
      shut = shut ∙ (none_shut a c sides.A x one ∙ ap (λ n. is_shut_at (fault_at a c (other_side n.side))) (sym newest));
    }

    pub takes_first : nat_lt x.serial y.serial ≡ false → t.newest ≡ record { side = sides.A; told = x } → t.body.items ≡ body_at a c sides.A → t.shut ≡ false → IsTaken a c t
    takes_first later newest body shut = record {
      newest = newest_is false later ∙ ap Some (sym newest);
      body = body ∙ ap (λ n. body_at a c n.side) (sym newest);
      shut = shut ∙ (none_shut a c sides.B y other ∙ ap (λ n. is_shut_at (fault_at a c (other_side n.side))) (sym newest));
    }

-- ---- its directory

-- the bytes between the first and the last block of its body are its directory
pub directory_read : (a : Area) (c : Image) → IsImage c → (t : Taken) → IsTaken a c t → (body bytes : List ℕ) → body ≡ t.body.items → bytes ≡ block_bytes 512 (length body - 1024) body
    → bytes ≡ directory_at a c t.newest.side
directory_read a c image t is body bytes same read =
    read ∙ (ap (λ b. block_bytes 512 (length b - 1024) b) (same ∙ is.body) ∙ directory_of_body a c image t.newest.side)

-- a fault of those bytes is why the image does not open
pub directory_refused : (a : Area) (c : Image) (t : Taken) → IsTaken a c t → (bytes : List ℕ) → bytes ≡ directory_at a c t.newest.side
    → (f : ImageFault) → IsImageFault a.geometry bytes f → IsOpenFault a c (opening_fault t.newest.side f)
directory_refused a c t is bytes read (Segment number fault) first =
    (t.newest, is.newest, refl, subst (λ (l : List ℕ). IsFirstFault a.geometry l number fault) read first)
directory_refused a c t is bytes read (NoImage e) first = tt

pub rows_read : (a : Area) (c : Image) (t : Taken) (bytes : List ℕ) → bytes ≡ directory_at a c t.newest.side → IsImageOfSegments a.geometry bytes
    → (rows : List StoredRow) → IsPermutation (rows_told a.geometry t.newest.told bytes) rows → AreRowsOf a c t rows
rows_read a c t bytes read sound rows same = record {
  sound = image_is_sound a.geometry (directory_at a c t.newest.side) (subst (IsImageOfSegments a.geometry) read sound);
  rows_are = subst (λ (l : List ℕ). IsPermutation (rows_told a.geometry t.newest.told l) rows) read same;
}
