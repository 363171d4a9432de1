-- Bytes of whole blocks as an image of a device.
use Rattle.std.specs.Prelude.{ℕ, ◌*◌, List, take, drop}
use Rattle.device_log.specs.Image.{Image}

-- the blocks of the bytes; behind them stand none
abbrev pub image_of : List ℕ → Image
image_of bytes j = take 512 (drop (512 * j) bytes)
