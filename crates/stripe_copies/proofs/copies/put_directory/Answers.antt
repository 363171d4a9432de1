use Rattle.std.proofs.Common.{◌≡◌, ◌*◌, ◌-◌, length, sym, ◌∙◌, ap, subst, arith}
use Rattle.tape_base.specs.declared.geometries.Geometry.{Geometry}
use Rattle.packed_directory.specs.PackedImage.{IsImageOfSegments, means}
use Rattle.packed_directory.specs.Stored.{Tells}
use Rattle.stripe_copies.specs.Copies.{IsImageOf}
use Rattle.stripe_copies.proofs.Copy.{directory_put}
use Rattle.stripe_copies.proofs.copies.put_directory.Goals as goal

pub returns-clause-image : goal.returns-clause-image
returns-clause-image g c =
    let a = c.args.area.now in
    let cursor = c.args.cursor in
    let image = c.image.new.into in
    let stored = g.R.Directory.rows c.args.directory.now in
    let own : Geometry = (g.R.Directory.window c.args.directory.now).geometry in
    let size : length image ≡ 512 * a.directory = omega (arith, c.image.auto.into, c.requires.whole) in
    subst (IsImageOf a.geometry cursor stored) (sym (directory_put a c.args.body.now image c.requires.whole size)) (record {
      whole = size ∙ ap (λ n. 512 * n) c.requires.blocks;
      sound = subst (λ h. IsImageOfSegments h image) c.requires.geometry (g.met.R.PacksEntries.packed_image own image c.image.ensures.sound);
      told = subst (λ h. Tells (cursor - h.content) stored (means h cursor image)) c.requires.geometry
          (subst (Tells (cursor - own.content) stored) (g.met.R.PacksEntries.packed_means own cursor image) c.image.ensures.rows);
    })
