-- What a reader's table lists of the fragment that it takes next, beside its payload, and what was read of it.
use Rattle.std.proofs.Common.{◌≡◌, ℕ, zero, suc, ◌+◌, ◌-◌, ◌<◌, List, [], length, take, refl, sym, ◌∙◌, ap, arith, inl, inr, ◌⊎◌}
use Rattle.std.specs.Prelude.{Option, Some, None, option_map, slice_get, unwrap_or}
use Rattle.tape_base.specs.Digest.{digest_of}
use Rattle.tape_base.specs.declared.digests.Digest.{Digest}
use Rattle.tape_base.specs.declared.pieces.PieceId.{PieceId}
use Rattle.fragment_table.specs.Table.{TableRow}
use Rattle.cache_model.specs.State.{State, Row, PutRow, ReaderRow, live_row_of, put_of, reader_of}
use Rattle.cache_model.specs.Verdict.{cuts_of, digest_in, next_piece, next_row}
use Rattle.cache_model.specs.Pair.{IsPairOf}
use Rattle.cache_model.specs.Permit.{Permit}
use Rattle.cache_model.specs.Given.{IsDocumentOf}
use Rattle.cache_model.specs.Legal.{IsUnlike}
use Rattle.cache_model.proofs.Found.{none_is, number_of, same_some}
use Rattle.script_run.specs.Run.{Stream}
use Rattle.script_run.specs.Own.{AreOwn, ArePayloadsOwn, HasCutPayload, IsOwnReader, IsPlacedAs, IsTableOfHit, row_of_part, rows_of_parts}
use Rattle.script_run.proofs.Finding.{found_in}
use Rattle.script_run.proofs.Fragments.{own_is_kept}
use Rattle.script_run.proofs.Reading.{IsLiveRow, live_row, read_is_own}

-- the rows of a body tell each of its fragments
nth_row : (fragment : ℕ) (body : List ℕ) (index n k : ℕ) (entry : TableRow) → slice_get (rows_of_parts fragment body index n) k ≡ Some entry → entry ≡ row_of_part fragment body (index + k)
nth_row fragment body index zero k entry h = none_is h
nth_row fragment body index (suc n) zero entry h =
    let e : index ≡ index + 0 = omega arith in
    same_some entry (row_of_part fragment body index) (Some (row_of_part fragment body index)) h refl ∙ ap (row_of_part fragment body) e
nth_row fragment body index (suc n) (suc k) entry h =
    let e : index + 1 + k ≡ index + suc k = omega arith in
    nth_row fragment body (index + 1) n k entry h ∙ ap (row_of_part fragment body) e

-- what a put has cut as a fragment is that part of what its writer took
cut_row : (s : State) (streams : ℕ → Stream) (put index : ℕ) (w : PutRow) (entry : TableRow) → ArePayloadsOwn s streams → put_of s put ≡ Some w → 0 < index
    → slice_get w.cuts (index - 1) ≡ Some entry → entry ≡ row_of_part s.geometry.fragment (streams put).bytes index
cut_row s streams put index w entry kept found some listed =
    let number : w.put ≡ put = number_of s put w found in
    let place : 1 + (index - 1) ≡ index = omega arith in
    nth_row s.geometry.fragment (streams w.put).bytes 1 (length w.cuts) (index - 1) entry (ap (λ (rows : List TableRow). slice_get rows (index - 1)) (sym (kept.puts put w found).cuts.rows) ∙ listed)
    ∙ (ap (row_of_part s.geometry.fragment (streams w.put).bytes) place
    ∙ ap (λ n. row_of_part s.geometry.fragment (streams n).bytes index) number)

-- so it is where a put is followed
followed_row : (s : State) (streams : ℕ → Stream) (put index : ℕ) (entry : TableRow) (o : Option PutRow) → ArePayloadsOwn s streams → put_of s put ≡ o → 0 < index
    → slice_get (unwrap_or (option_map (λ (w : PutRow). w.cuts) o) []) (index - 1) ≡ Some entry → entry ≡ row_of_part s.geometry.fragment (streams put).bytes index
followed_row s streams put index entry None kept found some listed = none_is listed
followed_row s streams put index entry (Some w) kept found some listed = cut_row s streams put index w entry kept found some listed

-- and in the table of what was hit
table_row : (s : State) (streams : ℕ → Stream) (r : ReaderRow) (entry : TableRow) (o : Option (List TableRow)) → ArePayloadsOwn s streams → 0 < r.next → IsTableOfHit s r o
    → slice_get (unwrap_or o (cuts_of s r.put)) (r.next - 1) ≡ Some entry
    → entry ≡ row_of_part s.geometry.fragment (streams r.put).bytes r.next
table_row s streams r entry None kept some hit listed = followed_row s streams r.put r.next entry (put_of s r.put) kept refl some listed
table_row s streams r entry (Some table) kept some hit listed =
    cut_row s streams r.put r.next hit.w entry kept hit.found some (ap (λ (rows : List TableRow). slice_get rows (r.next - 1)) hit.cuts ∙ listed)

-- and so it is listed of the fragment that a reader takes next
next_listed : (s : State) (streams : ℕ → Stream) (reader : ℕ) (r : ReaderRow) (entry : TableRow) → ArePayloadsOwn s streams → 0 < r.next
    → reader_of s reader ≡ Some r → next_row s r ≡ Some entry → entry ≡ row_of_part s.geometry.fragment (streams r.put).bytes r.next
next_listed s streams reader r entry kept some found next =
    let o : IsOwnReader s r = found_in (IsOwnReader s) _ s.readers r kept.readers found in
    table_row s streams r entry r.table kept some o.table next

pub given_is_listed : (p : Permit) (s : State) (streams : ℕ → Stream) (reader : ℕ) (r : ReaderRow) (entry : TableRow) (row : Row) (size : ℕ) (into : List ℕ) → AreOwn s streams → 0 < r.next
    → reader_of s reader ≡ Some r → next_row s r ≡ Some entry → live_row_of s (next_piece r) ≡ Some row
    → IsDocumentOf p s row size into → (digest_of (take size into) ≡ digest_in entry) ⊎ IsPairOf (IsPlacedAs streams) p s row
given_is_listed p s streams reader r entry row size into own some found next live d =
    let listed : entry ≡ row_of_part s.geometry.fragment (streams r.put).bytes r.next = next_listed s streams reader r entry (own_is_kept s streams own) some found next in
    elim (read_is_own p s streams r row size into own some live d) [
      | inl same ↦ inl (ap digest_of same ∙ sym (ap digest_in listed))
      | inr other ↦ inr other
    ]

-- its payload is that
pub own_is_as_listed : (s : State) (streams : ℕ → Stream) (reader : ℕ) (r : ReaderRow) (entry : TableRow) (row : Row) → ArePayloadsOwn s streams → 0 < r.next
    → reader_of s reader ≡ Some r → next_row s r ≡ Some entry → live_row_of s (next_piece r) ≡ Some row → row.payload ≡ Some entry
own_is_as_listed s streams reader r entry row kept some found next live =
    let l : IsLiveRow (HasCutPayload s streams) (next_piece r) row = live_row (HasCutPayload s streams) s (next_piece r) row kept.payloads live in
    let index : row.id.index ≡ r.next = ap (λ (i : PieceId). i.index) l.piece in
    (l.own (omega (arith, index, some))).payload
    ∙ (ap (λ (i : PieceId). Some (row_of_part s.geometry.fragment (streams i.put).bytes i.index)) l.piece ∙ ap Some (sym (next_listed s streams reader r entry kept some found next)))

-- so it is not unlike that
pub none_is_unlike : (s : State) (streams : ℕ → Stream) (reader : ℕ) (r : ReaderRow) (entry : TableRow) (row : Row) (found : Digest) → ArePayloadsOwn s streams → 0 < r.next
    → reader_of s reader ≡ Some r → next_row s r ≡ Some entry → live_row_of s (next_piece r) ≡ Some row → IsUnlike row entry found → ⊥
none_is_unlike s streams reader r entry row found kept some is next live unlike =
    let has : row.payload ≡ Some entry = own_is_as_listed s streams reader r entry row kept some is next live in
    unlike.differ (sym (unlike.found_is ∙ ap digest_in (same_some unlike.payload entry row.payload unlike.has has)))
