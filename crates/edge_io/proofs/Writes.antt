-- A write that failed, and what memory gives.
use Rattle.std.proofs.Common.{◌≡◌, ℕ, ◌+◌, ◌-◌, ◌^◌, ◌<◌, min, List, [], ◌∷◌, ◌++◌, length, take, drop, sym, ◌∙◌, ap, arith, take-append-drop, drop-drop, length-drop}
use Rattle.device_log.specs.Streams.{SinkWrite, RefusedWrite, write_faults}
use Rattle.edge_io.specs.Sink.{FailsToWrite}
use Rattle.edge_io.proofs.Ranges.{is_none}

pub fails_front : (old new : List SinkWrite) (piece : List ℕ) (n faults : ℕ) → new ≡ RefusedWrite (take n piece) (min (faults + 1) (2 ^ 64 - 1)) ∷ old → faults ≡ write_faults old → FailsToWrite old new piece
fails_front old new piece n faults is counted = record {
  front = take n piece;
  rest = drop n piece;
  split = sym (take-append-drop n piece);
  is = is ∙ ap (λ (k : ℕ). RefusedWrite (take n piece) (min (k + 1) (2 ^ 64 - 1)) ∷ old) counted;
}

-- what is left of the bytes of a memory source
pub source_left : (bytes place : List ℕ) (at n most : ℕ) → 0 < most → n ≡ min most (min (length (drop at bytes)) (length place)) → take n place ≡ take n (drop at bytes)
    → (drop at bytes ≡ take n place ++ drop (at + n) bytes) × (n ≡ 0 → 0 < length place → drop (at + n) bytes ≡ [])
source_left bytes place at n most some count copied = (
  sym (take-append-drop n (drop at bytes)) ∙ (ap (λ l. l ++ drop n (drop at bytes)) (sym copied) ∙ ap (λ l. take n place ++ l) (drop-drop n at bytes)),
  λ none room. is_none (drop (at + n) bytes) (omega (arith, length-drop (at + n) bytes, length-drop at bytes)),
)
