-- What is read of a session's pieces is what was put.
use Rattle.std.proofs.Common.{◌≡◌, ℕ, ◌-◌, ◌*◌, ◌<◌, ◌≤◌, List, length, take, refl, sym, ◌∙◌, ap, subst, arith, inl, inr, ◌⊎◌}
use Rattle.std.specs.Prelude.{min, Option, Some, None, slice_get, unwrap_or}
use Rattle.std.specs.List.{AllByRecursion}
use Rattle.std.proofs.Math.Nat.{mul-le-mul_left, mul_comm}
use Rattle.std.proofs.lemmas.List.{take_all}
use Rattle.std.proofs.lemmas.Option.{cond_some, option_and_then_some, slice_get_cases}
use Rattle.tape_base.specs.declared.geometries.Geometry.{Geometry}
use Rattle.tape_base.specs.declared.pieces.PieceId.{PieceId}
use Rattle.tape_base.proofs.Bytes.{IsBytes-take}
use Rattle.tape_base.proofs.DigestLaw.{digests_tell_lem}
use Rattle.doc_header.specs.Reading.{extent_of}
use Rattle.doc_header.proofs.MovingLaws.{document_small}
use Rattle.doc_header.proofs.ReadingLaws.{payload_told}
use Rattle.fragment_table.specs.Table.{TableRow, total_length}
use Rattle.cache_model.specs.State.{State, Row, PutRow, ReaderRow, Closed, after_all, is_live, live_row_of, only_live, put_of, reader_of, row_of}
use Rattle.cache_model.specs.Verdict.{cuts_of, next_piece, next_row}
use Rattle.cache_model.specs.Pair.{IsPairOf}
use Rattle.cache_model.specs.Permit.{Permit}
use Rattle.cache_model.specs.Legal.{IsQuiet, format_records}
use Rattle.cache_model.proofs.Found.{cuts_found, none_is, number_of}
use Rattle.cache_model.proofs.Lists.{found_row, own_piece}
use Rattle.cache_model.specs.Given.{IsDocumentOf}
use Rattle.script_run.specs.Run.{Stream}
use Rattle.script_run.specs.Own.{ArePayloadsOwn, AreOwn, IsOwnFragment, IsOwnPut, IsOwnReader, IsOwnRow, IsTableOf, IsTableOfHit, IsPlacedAs, fragment_doc, fragment_document, piece_of}
use Rattle.script_run.proofs.Cuts.{total_cuts}
use Rattle.script_run.proofs.Fragments.{own_is_kept, piece_bytes}
use Rattle.script_run.proofs.Finding.{found_in}

pub formats_own : (s : State) (geometry : Geometry) (streams : ℕ → Stream) → AreOwn (after_all s (format_records geometry)) streams
formats_own s geometry streams = record { puts = λ put w found. none_is found; rows = tt; readers = tt }

pub formats_keep : (s : State) (geometry : Geometry) (streams : ℕ → Stream) → ArePayloadsOwn (after_all s (format_records geometry)) streams
formats_keep s geometry streams = own_is_kept (after_all s (format_records geometry)) streams (formats_own s geometry streams)

-- ---- a fragment that was read

pub record IsLiveRow (says : Row → Type 0) (id : PieceId) (row : Row) : Type 0 where
  pub own : says row
  pub piece : row.id ≡ id

-- what is said of each piece is said of one that is live
pub live_row : (says : Row → Type 0) (s : State) (id : PieceId) (row : Row) → AllByRecursion says s.rows → live_row_of s id ≡ Some row → IsLiveRow says id row
live_row says s id row each live =
    let found : row_of s id ≡ Some row = option_and_then_some (only_live s) (row_of s id) row live (λ x e is. e ∙ ap Some (cond_some (is_live s x) x row is).1) in
    record { own = found_row says id s.rows row each found; piece = own_piece id s.rows row found }

pub read_is_own : (p : Permit) (s : State) (streams : ℕ → Stream) (r : ReaderRow) (row : Row) (size : ℕ) (into : List ℕ) → AreOwn s streams → 0 < r.next
    → live_row_of s (next_piece r) ≡ Some row → IsDocumentOf p s row size into
    → (take size into ≡ piece_of s.geometry.fragment (streams r.put).bytes r.next) ⊎ IsPairOf (IsPlacedAs streams) p s row
read_is_own p s streams r row size into own some live d =
    let l : IsLiveRow (IsOwnRow s streams) (next_piece r) row = live_row (IsOwnRow s streams) s (next_piece r) row own.rows live in
    let index : row.id.index ≡ r.next = ap (λ (i : PieceId). i.index) l.piece in
    let fragment : 0 < row.id.index = omega (arith, index, some) in
    let f : IsOwnFragment s streams row = l.own.0 fragment in
    let payload : List ℕ = piece_of s.geometry.fragment (streams row.id.put).bytes row.id.index in
    let same_payload : payload ≡ piece_of s.geometry.fragment (streams r.put).bytes r.next =
    ap (λ (i : PieceId). piece_of s.geometry.fragment (streams i.put).bytes i.index) l.piece in
    elim (digests_tell_lem (take (extent_of d.bytes) d.bytes) (fragment_document s row payload) (IsBytes-take (extent_of d.bytes) d.bytes d.of_bytes)
    (document_small (fragment_doc s row) payload (piece_bytes s streams row fragment own.puts f)) (sym d.digest ∙ f.digest)) [
      | inl same ↦ inl (d.payload ∙ (payload_told d.bytes (fragment_doc s row) payload same ∙ same_payload))
      | inr collide ↦ inr (record {
        document = fragment_document s row payload;
        bytes = d.bytes;
        live = subst (λ i. live_row_of s i ≡ Some row) (sym l.piece) live;
        placed = inr (record { fragment = fragment; is = refl });
        given = d.given;
        collide = collide;
      })
    ]

-- ---- all that a table lists

past : (table : List TableRow) (i : ℕ) → slice_get table i ≡ None → length table ≤ i
past table i h = elim (slice_get_cases table i).1 [ inl within ↦ none_is (sym h ∙ within.2) | inr beyond ↦ beyond.0 ]

record IsWhole (s : State) (streams : ℕ → Stream) (put : ℕ) (table : List TableRow) : Type 0 where
  total : length (streams put).bytes ≤ length table * s.geometry.fragment

closed_by : (s : State) (streams : ℕ → Stream) (put : ℕ) (table : List TableRow) → IsQuiet s → ArePayloadsOwn s streams → IsTableOf s put table → IsWhole s streams put table
closed_by s streams put table quiet kept t =
    let w : PutRow = t.w in
    let p : IsOwnPut s streams w = kept.puts put w t.found in
    let number : w.put ≡ put = number_of s put w t.found in
    let whole : total_length w.cuts ≡ length (streams w.put).bytes = elim t.complete [ inl closed ↦ p.whole closed | inr pending ↦ none_is (sym quiet ∙ pending) ] in
    let most : total_length w.cuts ≡ min (length w.cuts * s.geometry.fragment) (length (streams w.put).bytes) = total_cuts s.geometry.fragment (streams w.put).bytes w.cuts p.cuts in
    let within : length (streams w.put).bytes ≤ length w.cuts * s.geometry.fragment = omega (arith, whole, most) in
    record {
      total = subst (λ n. length (streams n).bytes ≤ length table * s.geometry.fragment) number
          (subst (λ (rows : List TableRow). length (streams w.put).bytes ≤ length rows * s.geometry.fragment) t.cuts within);
    }

given_whole : (s : State) (streams : ℕ → Stream) (put next : ℕ) (table : List TableRow) → IsWhole s streams put table → slice_get table (next - 1) ≡ None
    → take ((next - 1) * s.geometry.fragment) (streams put).bytes ≡ (streams put).bytes
given_whole s streams put next table w none =
    let all : length table ≤ next - 1 = past table (next - 1) none in
    let below : s.geometry.fragment * length table ≤ s.geometry.fragment * (next - 1) = mul-le-mul_left s.geometry.fragment all in
    take_all ((next - 1) * s.geometry.fragment) (streams put).bytes
    (omega (arith, w.total, below, mul_comm s.geometry.fragment (length table), mul_comm s.geometry.fragment (next - 1)))

pub kept_is_given : (s : State) (streams : ℕ → Stream) (reader : ℕ) (r : ReaderRow) (table : List TableRow) → ArePayloadsOwn s streams → IsQuiet s → 0 < r.next
    → reader_of s reader ≡ Some r → r.table ≡ Some table → next_row s r ≡ None
    → take ((r.next - 1) * s.geometry.fragment) (streams r.put).bytes ≡ (streams r.put).bytes
kept_is_given s streams reader r table kept quiet some found hit none =
    let o : IsOwnReader s r = found_in (IsOwnReader s) _ s.readers r kept.readers found in
    let t : IsTableOf s r.put table = subst (IsTableOfHit s r) hit o.table in
    given_whole s streams r.put r.next table (closed_by s streams r.put table quiet kept t)
    (subst (λ (o : Option (List TableRow)). slice_get (unwrap_or o (cuts_of s r.put)) (r.next - 1) ≡ None) hit none)

pub kept_is_followed : (s : State) (streams : ℕ → Stream) (r : ReaderRow) (w : PutRow) → ArePayloadsOwn s streams → IsQuiet s → 0 < r.next
    → r.table ≡ None → put_of s r.put ≡ Some w → w.writing ≡ Closed → next_row s r ≡ None
    → take ((r.next - 1) * s.geometry.fragment) (streams r.put).bytes ≡ (streams r.put).bytes
kept_is_followed s streams r w kept quiet some follows found closed none =
    let t : IsTableOf s r.put w.cuts = record { w = w; found = found; cuts = refl; complete = inl closed } in
    let cut : cuts_of s r.put ≡ w.cuts = cuts_found s r.put w found in
    let last : slice_get (cuts_of s r.put) (r.next - 1) ≡ None =
    subst (λ (o : Option (List TableRow)). slice_get (unwrap_or o (cuts_of s r.put)) (r.next - 1) ≡ None) follows none in
    given_whole s streams r.put r.next w.cuts (closed_by s streams r.put w.cuts quiet kept t)
    (subst (λ (rows : List TableRow). slice_get rows (r.next - 1) ≡ None) cut last)

-- ---- where each fragment is that of what its writer took

pub all_is_given : (s : State) (streams : ℕ → Stream) (reader : ℕ) (r : ReaderRow) (table : List TableRow) → AreOwn s streams → IsQuiet s → 0 < r.next
    → reader_of s reader ≡ Some r → r.table ≡ Some table → next_row s r ≡ None
    → take ((r.next - 1) * s.geometry.fragment) (streams r.put).bytes ≡ (streams r.put).bytes
all_is_given s streams reader r table own = kept_is_given s streams reader r table (own_is_kept s streams own)

pub all_is_followed : (s : State) (streams : ℕ → Stream) (r : ReaderRow) (w : PutRow) → AreOwn s streams → IsQuiet s → 0 < r.next
    → r.table ≡ None → put_of s r.put ≡ Some w → w.writing ≡ Closed → next_row s r ≡ None
    → take ((r.next - 1) * s.geometry.fragment) (streams r.put).bytes ≡ (streams r.put).bytes
all_is_followed s streams r w own = kept_is_followed s streams r w (own_is_kept s streams own)
