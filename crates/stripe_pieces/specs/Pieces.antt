-- What contracts see of the pieces of a stripe: the records, and what a cyclone holds of them.
use Rattle.logged_disk.specs.declared.device.Disk.{Ghosts as DiskGhosts}
use Rattle.dir_table.specs.declared.directory.Directory.{Ghosts as DirectoryGhosts}
use Rattle.cyclone.specs.Cyclone.{Seen, seen_cyclone}
use Rattle.cache_model.specs.State.{State}
use Rattle.cache_model.specs.Kept.{Kept, state_of}
use Rattle.cache_chronicle.specs.declared.chronicle.Chronicle.{Ghosts as ChronicleGhosts}
use Rattle.cache_model.specs.Contents.{AnyContents, Contents}
use Rattle.held_pieces.specs.Held.{IsHeld}
use Rattle.piece_answers.specs.Standing.{AreStanding}
use Rattle.stripe_pieces.specs.declared.pieces.Pieces.{Pieces}

module _ {D R C : Type 0} {d : DiskGhosts D} {r : DirectoryGhosts R} {c : ChronicleGhosts C} where
  -- the records of the pieces, as their chronicle keeps them
  abbrev pub kept_now : Pieces D R C d r c → Kept
  kept_now p = c.kept p.chronicle

  -- what these records stand for
  abbrev pub state_now : Pieces D R C d r c → State
  state_now p = state_of (kept_now p)

  -- the cyclone that has the pieces, as contracts see it
  abbrev pub seen_now : Pieces D R C d r c → Seen
  seen_now p = seen_cyclone p.cyclone

  -- what holds of the pieces between calls
  abbrev pub ArePieces : Pieces D R C d r c → Type 0
  ArePieces p = IsHeld (state_now p) (seen_now p)

  -- what is told of the pieces stands
  abbrev pub Stand : Contents → Pieces D R C d r c → Type 0
  Stand contents p = AreStanding contents (state_now p) (seen_now p)

  -- what a call of the pieces keeps: they are held, and what is told of them goes on to stand, where it tells this of what is
  -- placed or copied
  pub record GoOnWith (Told : Contents → Type 0) (old new : Pieces D R C d r c) : Type 0 where
    pub held : ArePieces new
    pub contents : (contents : Contents) → Told contents → Stand contents old → Stand contents new

  -- of one that places and copies nothing
  abbrev pub GoOn : (old new : Pieces D R C d r c) → Type 0
  GoOn old new = GoOnWith AnyContents old new
