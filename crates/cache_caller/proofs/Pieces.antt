-- A piece that is given stands in what it was read to.
use Rattle.std.proofs.Common.{◌≡◌, ℕ, ◌≤◌, List, [], Ok, length, take, sym, ◌∙◌, ap, arith}
use Rattle.std.specs.Prelude.{min}
use Rattle.std.proofs.lemmas.List.{length-take}
use Rattle.logged_disk.specs.Device.{IsAfter}
use Rattle.call_laws.specs.Moments.{At, permit_of}
use Rattle.cache_answers.specs.declared.answers.NextPiece.TheVariants as piece
use Rattle.cache_calls.specs.Actors.{ReaderSeen}
use Rattle.cache_calls.specs.Keeping.{state_at}
use Rattle.cache_calls.specs.Readers.{IsFragment, ReadsNext}
use Rattle.call_laws.proofs.Whole.{encloses_own}

pub stands_in : (old new : At) (r : ReaderSeen) (index size : ℕ) (into : List ℕ) → IsAfter old.device new.device
    → ReadsNext old new r (Ok (piece.Piece index size)) into → size ≤ length into
stands_in old new r index size into goes reads =
    let given : IsFragment (permit_of 0 old goes.made) (state_at old) r index size into =
    reads.given 0 (permit_of 0 old goes.made) [] goes.made goes.past (encloses_own 0 old goes.made) in
    let long : length (take size into) ≡ size = ap length given.document.payload ∙ sym given.document.size_is in
    let short : length (take size into) ≡ min size (length into) = length-take size into in
    omega (arith, long, short)
