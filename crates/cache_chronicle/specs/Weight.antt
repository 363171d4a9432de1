-- How much room a record takes in a chronicle.
use Rattle.std.specs.Prelude.{ℕ, ◌+◌, length}
use Rattle.cache_model.specs.declared.record.Rec.{Rec}
use Rattle.cache_model.specs.declared.record.Rec.TheVariants as rec

-- one, and for an opening one more for each piece that it found
abbrev pub weight_of : Rec → ℕ
weight_of (rec.Opened geometry serial cursor floor next_put clean list) = 1 + length list
weight_of _ = 1
