-- What is told of all pieces by what their writers took, what the records say of them then, and what a device gives that told its content.
use Rattle.std.proofs.Common.{◌≡◌, ℕ, ◌<◌, ◌≤◌, List, [], ◌∷◌, length, take, refl, sym, ◌∙◌, ap, subst, arith, true, false}
use Rattle.std.specs.Prelude.{IfSome, Ok, Option, Some, None, ◌==◌, option_and_then}
use Rattle.std.specs.List.{AllByRecursion}
use Rattle.std.proofs.lemmas.Bool.{ne_eqb}
use Rattle.alternate_vector.specs.Alternates.{Stored}
use Rattle.fragment_table.specs.Table.{TableRow}
use Rattle.tape_base.specs.declared.pieces.PieceId.{PieceId}
use Rattle.tape_base.specs.declared.keys.Key.{Key}
use Rattle.tape_base.specs.Piece.{is_vector}
use Rattle.cache_model.specs.State.{Row, State, fragment_piece, live_row_of}
use Rattle.cache_model.specs.Verdict.{next_piece, next_row}
use Rattle.cache_model.specs.Legal.{live_next}
use Rattle.cache_model.specs.Contents.{AreRecordedAs, Content, IsRecordedAs, doc_of_row, spelled_content}
use Rattle.doc_header.specs.Document.{digest_of_document}
use Rattle.cache_answers.specs.declared.answers.NextPiece.TheVariants as piece
use Rattle.cache_calls.specs.Actors.{ReaderSeen, as_row}
use Rattle.cache_calls.specs.Standing.{GivesPayload}
use Rattle.script_run.specs.Run.{Stream}
use Rattle.script_run.specs.Own.{AreAlternates, AreOwn, ArePayloadsOwn, HasCutPayload, IsOwnRow, piece_of}
use Rattle.script_run.proofs.Reading.{live_row}
use Rattle.line_calls.specs.Standing.{TellsOwn, own_contents, piece_content}

-- the index of a fragment is not that of a vector
no_vector : (n : ℕ) → 0 < n → (n == 0) ≡ false
no_vector n some = ne_eqb n 0 (λ e. omega (arith, some, e))

-- that is told of a vector
of_vector : (fragment : ℕ) (streams : ℕ → Stream) (id : PieceId) (list : List Stored) → is_vector id ≡ true
    → IfSome (own_contents fragment streams id (Some list)) (λ c. c ≡ spelled_content list)
of_vector fragment streams id list vector = rw vector refl

-- and of a fragment
of_fragment : (fragment : ℕ) (streams : ℕ → Stream) (key : Key) (put index : ℕ) (alternates : Option (List Stored)) → 0 < index
    → own_contents fragment streams (fragment_piece key put index) alternates ≡ Some (piece_content fragment (streams put).bytes index)
of_fragment fragment streams key put index alternates some = rw (no_vector index some) refl

-- so it is told of what each put has cut
pub tells_own : (streams : ℕ → Stream) (s : State) → TellsOwn streams s (own_contents s.geometry.fragment streams)
tells_own streams s = record {
  vectors = record { spell = λ id list vector. of_vector s.geometry.fragment streams id list vector };
  puts = λ put w found index some within.
      subst (λ o. IfSome o (λ c. c ≡ piece_content s.geometry.fragment (streams put).bytes index))
      (sym (of_fragment s.geometry.fragment streams w.key put index None some)) refl;
}

-- ---- what is recorded as it is told

own_rows : (s : State) (streams : ℕ → Stream) (rows : List Row) → AllByRecursion (HasCutPayload s streams) rows
    → AllByRecursion (AreAlternates s) rows → AllByRecursion (IsRecordedAs (own_contents s.geometry.fragment streams) s.geometry) rows
    → AllByRecursion (IsOwnRow s streams) rows
own_rows s streams [] payloads listed recorded = tt
own_rows s streams (row ∷ rows) payloads listed recorded = (
  (
    λ some.
        let f = payloads.0 some in
        let none : (row.id.index == 0) ≡ false = no_vector row.id.index some in
        let is = rw none at recorded.0.content in
        let body : List ℕ = (piece_content s.geometry.fragment (streams row.id.put).bytes row.id.index).payload in
        record {
          w = f.w;
          found = f.found;
          cut = f.cut;
          payload = f.payload;
          digest = is.document.digest ∙ ap (λ (n : ℕ). digest_of_document (doc_of_row s.geometry row n) body) (is.starts none);
        },
    listed.0,
  ),
  own_rows s streams rows payloads.1 listed.1 recorded.1,
)

-- what stands so belongs to what writers took, as soon as it does but for the documents of fragments
pub kept_is_own : (s : State) (streams : ℕ → Stream) → ArePayloadsOwn s streams → AreRecordedAs (own_contents s.geometry.fragment streams) s
    → AreOwn s streams
kept_is_own s streams kept recorded = record {
  puts = kept.puts;
  rows = own_rows s streams s.rows kept.payloads kept.alternates recorded;
  readers = kept.readers;
}

-- ---- what is given as it is told

next_live : (s : State) (r : ReaderSeen) (entry : TableRow) (row : Row) → next_row s (as_row r) ≡ Some entry → live_row_of s (next_piece (as_row r)) ≡ Some row
    → live_next s (as_row r) ≡ Some row
next_live s r entry row cut live = ap (option_and_then (λ (e : TableRow). live_row_of s (next_piece (as_row r)))) cut ∙ live

-- so many bytes are given, and these
abbrev Gives : ℕ → List ℕ → Content → Type 0
Gives size into c = (size ≡ length c.payload) × (take size into ≡ c.payload)

-- the payload that is given as that is told is that part of what the put's writer took
pub given_is_own : (s : State) (streams : ℕ → Stream) (r : ReaderSeen) (fragment index size : ℕ) (into : List ℕ) (entry : TableRow) (row : Row) → AreOwn s streams
    → 1 ≤ r.next → next_row s (as_row r) ≡ Some entry → live_row_of s (next_piece (as_row r)) ≡ Some row
    → GivesPayload (own_contents fragment streams) (live_next s (as_row r)) (Ok (piece.Piece index size)) into
    → take size into ≡ piece_of fragment (streams r.put).bytes r.next
given_is_own s streams r fragment index size into entry row own some cut live gives =
    let given : IfSome (own_contents fragment streams row.id row.alternates) (Gives size into) =
    subst (λ o. GivesPayload (own_contents fragment streams) o (Ok (piece.Piece index size)) into) (next_live s r entry row cut live) gives in
    let id : row.id ≡ next_piece (as_row r) = (live_row (IsOwnRow s streams) s (next_piece (as_row r)) row own.rows live).piece in
    let there : own_contents fragment streams row.id row.alternates ≡ Some (piece_content fragment (streams r.put).bytes r.next) =
    ap (λ i. own_contents fragment streams i row.alternates) id ∙ of_fragment fragment streams r.key r.put r.next row.alternates some in
    (subst (λ o. IfSome o (Gives size into)) there given).1
