-- A buffer that was written last stands as the records have its pieces.
use Rattle.std.proofs.Common.{◌≡◌, ℕ, ◌+◌, ◌-◌, ◌*◌, ◌/◌, ◌<◌, ◌≤◌, List, [], ◌∷◌, ◌++◌, Some, length, take, drop, refl, sym, ◌∙◌, ap, subst, arith, append_assoc, length-take-le, take-take}
use Rattle.std.specs.List.{AllByRecursion}
use Rattle.std.proofs.lemmas.List.{drop-drop, drop-take, length-drop}
use Rattle.device_log.specs.Calls.{Call}
use Rattle.tape_base.specs.Place.{block_of}
use Rattle.write_cursor.specs.Plan.{FitsInLap}
use Rattle.doc_header.specs.Reading.{document_digest}
use Rattle.agg_buffer.specs.Buffer.{Buffer, IsFilled, bytes_at, filled_of}
use Rattle.cyclone.proofs.Rest.{rest_at}
use Rattle.cache_model.specs.State.{Row, State}
use Rattle.cache_model.specs.Permit.{Permit}
use Rattle.cache_model.specs.Given.{IsWrittenLast, StandsWritten, written_of}
use Rattle.buffer_sync.specs.OnDevice.{WroteLast}
use Rattle.buffer_sync.specs.Covering.{CoversSyncing, HasPieces, StandsInBuffer}

-- one block of some bytes within others
block_within : (before blocks i : ℕ) (bytes : List ℕ) → i < blocks
    → take 512 (drop (512 * i) (take (512 * blocks) (drop (512 * before) bytes))) ≡ take 512 (drop (512 * (before + i)) bytes)
block_within before blocks i bytes within =
    let parts : 512 * blocks ≡ 512 * i + 512 * (blocks - i) = omega (arith, within) in
    let place : 512 * before + 512 * i ≡ 512 * (before + i) = omega arith in
    ap (λ n. take 512 (drop (512 * i) (take n (drop (512 * before) bytes)))) parts
    ∙ (ap (take 512) (drop-take (512 * i) (512 * (blocks - i)) (drop (512 * before) bytes))
    ∙ (take-take 512 (512 * (blocks - i)) (drop (512 * i) (drop (512 * before) bytes)) (omega (arith, within))
    ∙ ap (take 512) (drop-drop (512 * i) (512 * before) bytes ∙ ap (λ n. drop n bytes) place)))

module _ (p : Permit) (s : State) (b : Buffer) (past : List Call) (lap : FitsInLap s.geometry b.cursor) (few : filled_of b ≤ s.geometry.agg)
    (last : WroteLast past (block_of s.geometry b.cursor) (filled_of b) b.bytes) where
  row_written : (row : Row) → b.cursor ≤ row.place → IsFilled b row.place row.blocks → document_digest (bytes_at b row.place row.blocks) ≡ row.digest → IsWrittenLast p s past row
  row_written row above filled digest =
      let before : ℕ = row.place - b.cursor in
      let within : before + row.blocks ≤ filled_of b = omega (arith, above, filled.within) in
      let whole : length (bytes_at b row.place row.blocks) ≡ 512 * row.blocks =
      length-take-le (512 * row.blocks) (drop (512 * before) b.bytes) (omega (arith, length-drop (512 * before) b.bytes, within)) in
      record {
        bytes = bytes_at b row.place row.blocks;
        whole = whole;
        written = λ i low.
            let lower : i < row.blocks = omega (arith, low, whole) in
            let from : b.cursor + before ≡ row.place = omega (arith, above) in
            let at : block_of s.geometry row.place + i ≡ block_of s.geometry b.cursor + (before + i) =
            ap (λ n. n + i) (ap (block_of s.geometry) (sym from) ∙ rest_at s.geometry b.cursor before (filled_of b) lap few (omega (arith, within, lower)))
            ∙ (let sum : block_of s.geometry b.cursor + before + i ≡ block_of s.geometry b.cursor + (before + i) = omega arith in sum) in
            ap (written_of past) at ∙ (last (before + i) (omega (arith, within, lower)) ∙ ap Some (sym (block_within before row.blocks i b.bytes lower)));
        digest = digest;
      }

  pub rows_written : b.cursor ≡ s.cursor → (rows : List Row) → AllByRecursion (StandsInBuffer b) rows → AllByRecursion (λ (row : Row). s.cursor ≤ row.place → IsWrittenLast p s past row) rows
  rows_written same [] all = tt
  rows_written same (row ∷ rows) all = (
    λ from.
        let above : b.cursor ≤ row.place = omega (arith, same, from) in
        row_written row above (all.0 above).0 (all.0 above).1,
    rows_written same rows all.1,
  )

pub covered_stands : (p : Permit) (s : State) (b : Buffer) (before mid after front rest : List Call) → CoversSyncing p before after → mid ≡ front ++ before
    → after ≡ rest ++ mid → HasPieces s b → WroteLast mid (block_of s.geometry b.cursor) (filled_of b) b.bytes → StandsWritten p s
covered_stands p s b before mid after front rest covers first then pieces last =
    let all : after ≡ (rest ++ front) ++ before = then ∙ (ap (λ calls. rest ++ calls) first ∙ sym (append_assoc rest front before)) in
    let past : (front ++ covers.earlier) ++ p.past ≡ mid = append_assoc front covers.earlier p.past ∙ (ap (λ calls. front ++ calls) covers.began ∙ sym first) in
    record {
      calls = front ++ covers.earlier;
      upto = record {
        later = covers.later ++ rest;
        is = covers.knows (rest ++ front) all
            ∙ (ap (λ calls. covers.later ++ calls) (append_assoc rest front covers.earlier) ∙ sym (append_assoc covers.later rest (front ++ covers.earlier)));
      };
      each = subst (λ calls. AllByRecursion (λ (row : Row). s.cursor ≤ row.place → IsWrittenLast p s calls row) s.rows) (sym past)
          (rows_written p s b mid pieces.lap pieces.few last pieces.cursor s.rows pieces.each);
    }
