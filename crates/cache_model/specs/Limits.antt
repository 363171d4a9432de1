-- Which number is told where a piece has no place below the limit.
use Rattle.std.specs.Prelude.{ℕ, ◌≡◌, ◌+◌, ◌≤◌, if◌then◌else◌}
use Rattle.tape_base.specs.Blocks.{blocks_of}
use Rattle.cache_model.specs.State.{State, place_now}
use Rattle.cache_model.specs.Room.{copies_end, has_room, limit}

-- where a piece of so many bytes would end; or where it has no room, where the copies of the flush that it needs would end at most
abbrev pub number_over : State → ℕ → ℕ
number_over t bytes = if has_room t bytes then place_now t + blocks_of bytes else copies_end t

-- that is the number, and it is the limit or above
abbrev pub ReachesLimit : State → ℕ → ℕ → Type 0
ReachesLimit t bytes number = (number ≡ number_over t bytes) × (limit ≤ number)
