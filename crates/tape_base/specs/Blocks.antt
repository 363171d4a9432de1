-- How many blocks a document takes.
use Rattle.std.specs.Prelude.{ℕ, ◌+◌, ◌/◌}

-- the blocks of 512 bytes, rounded up, of a payload of this length with the 128 bytes before it
abbrev pub blocks_of : ℕ → ℕ
blocks_of length = (128 + length + 511) / 512
