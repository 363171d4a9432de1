-- A buffer of one block as it is written.
use Rattle.std.proofs.Common.{◌≡◌, ◌∙◌, ℕ, ◌<◌, List, [], ◌∷◌, ◌++◌, refl, sym, ap, arith}
use Rattle.std.specs.Prelude.{Some, ◌+◌, ◌*◌, ◌/◌, drop, length, take}
use Rattle.std.proofs.Math.Seq.{take-length}
use Rattle.tape_base.specs.Place.{directory_blocks}
use Rattle.device_log.specs.Calls.{Call, Wrote}
use Rattle.doc_header.specs.Reading.{document_digest}
use Rattle.cache_model.specs.Given.{AreUpTo, StandsWritten, written_of}
use Rattle.record_rows.specs.Steps.{with_calls, with_one}
use Rattle.record_rows.specs.Worked.{IsBlock}

-- a block that is taken alone
pub taken : (block : List ℕ) → IsBlock block → take 512 block ≡ block
taken block whole = ap (λ n. take n block) (sym whole) ∙ take-length block

written : (block : List ℕ) → IsBlock block → (i : ℕ) → i < length block / 512
    → written_of (Wrote 19 block ∷ []) (19 + i) ≡ Some (take 512 (drop (512 * i) block))
written block whole i less =
    let none : i ≡ 0 = omega (arith, whole, less) in
    rw (none, whole) refl

-- it is taken before all else
pub takes_it : (later : List Call) (block : List ℕ) → IsBlock block → AreUpTo (with_calls later) (Wrote 19 block ∷ []) → StandsWritten (with_calls later) (with_one (document_digest block))
unfolding directory_blocks
takes_it later block whole upto = record {
  calls = Wrote 19 block ∷ [];
  upto = upto;
  each = ((λ high. record { bytes = block; whole = whole; written = written block whole; digest = refl }), tt);
}
