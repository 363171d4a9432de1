-- The copy that a sync writes may open, where the sync is due.
use Rattle.std.proofs.Common.{◌≡◌, ℕ, List, ap, ◌∙◌}
use Rattle.hex.specs.Hex.{IsBytes}
use Rattle.tape_base.specs.declared.pieces.PieceId.{PieceId}
use Rattle.tape_base.specs.Place.{directory_blocks_of}
use Rattle.device_log.specs.Image.{Image, IsImage}
use Rattle.stripe_header.specs.declared.states.CopyState.{CopyState}
use Rattle.dir_table.specs.declared.rows.StoredRow.{StoredRow}
use Rattle.stripe_copies.specs.Copies.{IsBodyOf, target_of}
use Rattle.cache_model.specs.Contents.{Content}
use Rattle.cache_model.specs.State.{Mark}
use Rattle.reopening.specs.Opens.{is_sound}
use Rattle.reopening.specs.Guards.{MayOpen}
use Rattle.reopening.specs.Lasting.{TakesUpOne}
use Rattle.reopening.proofs.Named.{taken_up}
use Rattle.reopening.proofs.Whole.{image_is_sound}
use Rattle.sync_laws.specs.KnownCopies.{IsDue, KnownCopies, copy_to_come, held_to_come, with_copy}
use Rattle.sync_laws.proofs.Laying.{directory_is, tells, there_is_image}
use Rattle.sync_laws.proofs.Naming.{ends_by, names_all}

pub may_open : (w : KnownCopies) (s : CopyState) (stored : List StoredRow) (body : List ℕ) (of : IsBodyOf w.copies.area.geometry s stored body)
    → w.copies.area.directory ≡ directory_blocks_of w.copies.area.geometry → (c : Image) → IsImage c → IsBytes body
    → (m : Mark) (content : PieceId → Content) → IsDue w s stored m content c
    → MayOpen w.copies.area (TakesUpOne w.marks) (held_to_come w.copies s m.end body c)
may_open w s stored body of directory c image bytes m content due =
    let k = w.copies in
    let g = k.area.geometry in
    let there = with_copy k.area (target_of k) body c in
    let whole = there_is_image k s stored body of directory c image bytes in
    record {
      image = whole;
      tells = tells k s stored body of directory c;
      sound = ap (is_sound g) (directory_is k s stored body of directory c image bytes) ∙ image_is_sound g of.image of.of.sound;
      ends = ends_by w s stored body of directory c image bytes m content due;
      found = (m, due.among, taken_up k.area there (copy_to_come k s) whole content m due.tells (names_all w s stored body of directory c image bytes m content due));
    }
