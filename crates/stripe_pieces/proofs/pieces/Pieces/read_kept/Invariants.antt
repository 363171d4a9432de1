use Rattle.std.proofs.Common.{◌≡◌, ◌≤◌, List, length, take}
use Rattle.tape_base.specs.Geometry.{budget_of}
use Rattle.logged_disk.specs.Device.{IsAsked, SeenStays}
use Rattle.power_cuts.specs.Surviving.{LeaveCopies}
use Rattle.cyclone.specs.Cyclone.{SameTape}
use Rattle.evacuator.specs.Choice.{blocks_of_all, kept_blocks}
use Rattle.cache_model.specs.State.{Row}
use Rattle.piece_answers.specs.Ahead.{IsMadeFor}
use Rattle.piece_answers.specs.Looks.{AreOfRows, HasLookedAhead}
use Rattle.stripe_pieces.specs.Pieces.{ArePieces, seen_now, state_now}
use Rattle.stripe_pieces.proofs.pieces.Pieces.read_kept.Given as goal

abbrev pub invariant-loop-i : goal.invariant-loop-i
invariant-loop-i g l =
    let s = state_now l.fn.self in
    let before = seen_now l.fn.self in
    let after = seen_now l.self in
    record {
      pieces : ArePieces l.self;
      chronicle : l.self.chronicle ≡ l.fn.self.chronicle;
      same : SameTape before after;
      asked : IsAsked before.device after.device;
      leaves : LeaveCopies before.geometry before.device.past after.device.past;
      seen : SeenStays before.device after.device;
      made : IsMadeFor s.geometry l.ahead;
      due : l.ahead.due ≡ l.fn.ahead.due;
      kept : l.ahead.kept ≡ l.fn.ahead.kept;
      fates : length l.ahead.fates.items ≡ l.i;
      at : l.at ≡ kept_blocks (take l.i (blocks_of_all l.fn.ahead.due.items)) (take l.i l.fn.ahead.kept.items);
      room : l.at ≤ budget_of s.geometry;
      looked : (rows : List Row) → AreOfRows s l.fn.ahead.due.items rows → HasLookedAhead s before.device after.device (take l.i rows) l.at l.ahead;
    }
