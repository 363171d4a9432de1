use Rattle.std.proofs.Common.{◌-◌, List, length, sym, ap, subst, ◌∙◌}
use Rattle.std.specs.Prelude.{Some}
use Rattle.std.specs.List.Sorted.{IsPermutation}
use Rattle.dir_table.specs.declared.rows.StoredRow.{StoredRow}
use Rattle.packed_directory.specs.PackedImage.{IsImageOfSegments}
use Rattle.reopening.specs.Slices.{image_of}
use Rattle.reopening.specs.Newest.{directory_at}
use Rattle.reopening.specs.Opens.{found_of, opening_with, rows_at, rows_told, dropped_at}
use Rattle.reopening.proofs.Whole.{image_is_sound, opens_newest, found_same, as_many}
use Rattle.reopening.proofs.reader.open_newest.Goals as goal

pub returns-in_ok-open_with-in-Ok-clause-opened : goal.returns-in_ok-open_with-in-Ok-clause-opened
returns-in_ok-open_with-in-Ok-clause-opened c =
    let a = c.args.area.now in
    let g = a.geometry in
    let image = image_of c.args.image.now in
    let n = c.args.newest in
    let rows = c.in-Ok.rows.items in
    let bytes = c.directory_at-bytes.ensures.bytes in
    let same : IsPermutation (rows_at a image n) rows = subst (λ b. IsPermutation (rows_told g n.told b) rows) bytes c.in-Ok.ensures.rows in
    let sound = image_is_sound g (directory_at a image n.side) (subst (IsImageOfSegments g) bytes c.in-Ok.ensures.sound) in
    let found = found_same (rows_at a image n) rows same a n.told image ∙ ap (λ l. found_of a n.told l image) (sym c.deref.ensures.value) in
    opens_newest a image n c.requires.newest sound
    ∙ ap Some (ap (opening_with g n.told) found ∙ sym c.in_ok-open_with-in-Ok.ensures.opened)

pub returns-in_ok-open_with-in-Ok-clause-dropped : goal.returns-in_ok-open_with-in-Ok-clause-dropped
returns-in_ok-open_with-in-Ok-clause-dropped c =
    let a = c.args.area.now in
    let image = image_of c.args.image.now in
    let n = c.args.newest in
    let rows = c.in-Ok.rows.items in
    let same : IsPermutation (rows_at a image n) rows = subst (λ b. IsPermutation (rows_told a.geometry n.told b) rows) c.directory_at-bytes.ensures.bytes c.in-Ok.ensures.rows in
    record {
      newest = c.requires.newest ∙ ap Some (sym c.in_ok-open_with-in-Ok.ensures.newest);
      dropped = c.in_ok-open_with-in-Ok.ensures.dropped
          ∙ (ap (λ (l : List StoredRow). length l - length (found_of a n.told l image)) c.deref.ensures.value
          ∙ (ap (λ k. k - length (found_of a n.told rows image)) (sym (as_many (rows_at a image n) rows same))
          ∙ (ap (λ f. length (rows_at a image n) - length f) (sym (found_same (rows_at a image n) rows same a n.told image))
          ∙ ap (dropped_at a image) (sym c.in_ok-open_with-in-Ok.ensures.newest))));
    }
