-- How many blocks the image of a packed directory has.
use Rattle.std.specs.Prelude.{◌≡◌, refl}
use Rattle.tape_base.specs.declared.geometries.Geometry.{Geometry}
use Rattle.tape_base.specs.Place.{directory_blocks, directory_blocks_of}
use Rattle.packed_directory.specs.PackedImage.{image_blocks_of}

pub blocks_packed : (g : Geometry) → image_blocks_of g ≡ directory_blocks_of g
unfolding directory_blocks
blocks_packed g = refl
