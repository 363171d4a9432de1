use Rattle.std.proofs.Common.{◌≡◌, ◌*◌, [], length, take, sym, ap, subst, arith}
use Rattle.std.specs.Prelude.{IsPermutation}
use Rattle.std.proofs.lemmas.List.{length-take-le}
use Rattle.tape_base.specs.declared.geometries.Geometry.{Geometry}
use Rattle.tape_base.specs.Place.{directory_blocks_of}
use Rattle.dir_table.specs.declared.window.Window.{Window}
use Rattle.dir_table.specs.Wrap.{stored_from}
use Rattle.packed_directory.specs.PackedImage.{IsImageOfSegments, means}
use Rattle.stripe_copies.specs.Format.{IsEmptyImage}
use Rattle.stripe_copies.proofs.Copy.{front_is, none_permuted}
use Rattle.stripe_copies.proofs.format.put_image.Goals as goal

pub returns-clause-image : goal.returns-clause-image
returns-clause-image c =
    let g : Geometry = c.args.g.now in
    let image = c.image.new.into in
    let same : c.args.directory.now.geometry ≡ g = ap (λ (w : Window). w.geometry) c.requires.window in
    let part : length (take (c.directory_blocks.result * 512) c.args.behind.now) ≡ c.directory_blocks.result * 512 =
    length-take-le (c.directory_blocks.result * 512) c.args.behind.now (omega (arith, c.directory_blocks.ensures.value, c.requires.room)) in
    let long : length image ≡ 512 * directory_blocks_of g = omega (arith, c.image.auto.into, c.directory_blocks.ensures.value, part) in
    let told = c.image.ensures.rows in
    let none : means c.args.directory.now.geometry g.content image ≡ [] =
    none_permuted (means c.args.directory.now.geometry g.content image)
    (subst (λ rows. IsPermutation (stored_from told.low rows) (means c.args.directory.now.geometry g.content image)) c.requires.rows told.from) in
    subst (IsEmptyImage g) (sym (front_is (512 * directory_blocks_of g) image _ long)) (record {
      whole = long;
      sound = subst (λ h. IsImageOfSegments h image) same c.image.ensures.sound;
      rows = subst (λ h. means h g.content image ≡ []) same none;
    })
