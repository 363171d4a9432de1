-- Each fragment is that part of what the writer of its put took: it stays so where its put goes on, where its
-- writer is told otherwise, and where it is copied, or the copy shows two documents of one SHA-256.
use Rattle.std.proofs.Common.{◌≡◌, ℕ, ◌<◌, ◌^◌, List, length, refl, sym, ◌∙◌, ap, subst, arith, inl, inr, ◌⊎◌}
use Rattle.std.specs.Prelude.{Some}
use Rattle.std.proofs.lemmas.Bool.{cases_lt}
use Rattle.hex.specs.Hex.{IsBytes}
use Rattle.tape_base.specs.declared.geometries.Geometry.{Geometry}
use Rattle.tape_base.specs.Digest.{digest_of}
use Rattle.doc_header.specs.Document.{digest_of_document}
use Rattle.fragment_table.specs.Table.{made_row}
use Rattle.doc_header.proofs.MovingLaws.{moved_is_same_lem}
use Rattle.cache_model.specs.State.{State, Row}
use Rattle.cache_model.specs.Pair.{IsPairOf}
use Rattle.cache_model.specs.Permit.{Permit}
use Rattle.cache_model.specs.Outcomes.{Copy}
use Rattle.cache_model.proofs.Found.{number_of}
use Rattle.cache_model.proofs.Steps.{all_as}
use Rattle.step_laws.proofs.Pairs.{AreAlso}
use Rattle.step_laws.proofs.ToldFlush.{moved}
use Rattle.script_run.specs.Run.{Stream}
use Rattle.script_run.specs.Own.{AreOwn, AreOwnPuts, ArePayloadsOwn, HasCutPayload, IsOwnFragment, IsPlacedAs, fragment_doc, fragment_document, piece_of}
use Rattle.script_run.proofs.Carried.{fragment_carried}
use Rattle.script_run.proofs.Cuts.{length-piece}
use Rattle.script_run.proofs.Payloads.{piece_told}
use Rattle.script_run.proofs.Saying.{AllTellAlike, IsCopied, IsRow, Kind, SameBytes, Stands, alternates_of_rows}

abbrev IsOwn : State → (ℕ → Stream) → Row → Type 0
IsOwn s streams row = 0 < row.id.index → IsOwnFragment s streams row

pub fragment_told : (s : State) (a b : ℕ → Stream) (row : Row) → AllTellAlike s a b → IsOwn s a row → IsOwn s b row
fragment_told s a b row told is some =
    let f : IsOwnFragment s a row = is some in
    let same : piece_of s.geometry.fragment (a row.id.put).bytes row.id.index ≡ piece_of s.geometry.fragment (b row.id.put).bytes row.id.index =
    piece_told s a b row f.w told f.found some f.cut in
    record {
      w = f.w;
      found = f.found;
      cut = f.cut;
      payload = f.payload ∙ ap (λ (piece : List ℕ). Some (made_row (length piece) (digest_of piece).0)) same;
      digest = f.digest ∙ ap (digest_of_document _) same;
    }

-- ---- copies

-- that part of what its writer took is bytes
abbrev AreBytes : State → (ℕ → Stream) → Row → Type 0
AreBytes s streams row = IsBytes (piece_of s.geometry.fragment (streams row.id.put).bytes row.id.index)

pub piece_bytes : (s : State) (streams : ℕ → Stream) (row : Row) → 0 < row.id.index → AreOwnPuts s streams → IsOwnFragment s streams row
    → IsBytes (piece_of s.geometry.fragment (streams row.id.put).bytes row.id.index)
piece_bytes s streams row some puts f =
    let number : f.w.put ≡ row.id.put = number_of s row.id.put f.w f.found in
    subst (λ n. IsBytes (piece_of s.geometry.fragment (streams n).bytes row.id.index)) number ((puts row.id.put f.w f.found).cuts.of_bytes row.id.index some f.cut)

-- a fragment is within half a buffer
short_piece : (g : Geometry) (body : List ℕ) (index : ℕ) → length (piece_of g.fragment body index) < 2 ^ 32
short_piece g body index = omega (arith, length-piece g.fragment body index, g.accepted.fragment_fits.1, g.accepted.agg_fits.1)

-- a copy of a fragment is the document of the same part at its place
moved_fragment : (p : Permit) (s : State) (streams : ℕ → Stream) (place : ℕ) (c : Copy) → 0 < c.row.id.index → AreBytes s streams c.row → IsOwnFragment s streams c.row → IsCopied p s c
    → IsOwnFragment s streams (moved place c) ⊎ IsPairOf (IsPlacedAs streams) p s c.row
moved_fragment p s streams place c some small f copied =
    let payload : List ℕ = piece_of s.geometry.fragment (streams c.row.id.put).bytes c.row.id.index in
    elim (moved_is_same_lem place c.bytes (fragment_doc s c.row) payload copied.given.of_bytes small (short_piece s.geometry (streams c.row.id.put).bytes c.row.id.index) (sym copied.digest ∙ f.digest)) [
      | inl same ↦ inl (record { w = f.w; found = f.found; cut = f.cut; payload = f.payload; digest = same })
      | inr collide ↦ inr (record {
        document = fragment_document s c.row payload;
        bytes = c.bytes;
        live = copied.live;
        placed = inr (record { fragment = some; is = refl });
        given = λ written. copied.given;
        collide = collide;
      })
    ]

pub fragment_copied : (p : Permit) (s : State) (streams : ℕ → Stream) (place : ℕ) (c : Copy) → AreOwnPuts s streams → IsCopied p s c → IsOwn s streams c.row
    → IsOwn s streams (moved place c) ⊎ IsPairOf (IsPlacedAs streams) p s c.row
fragment_copied p s streams place c puts copied is = elim (cases_lt 0 c.row.id.index) [
  | inl some ↦ elim (moved_fragment p s streams place c some (piece_bytes s streams c.row some puts (is some)) (is some) copied) [
    | inl f ↦ inl (λ x. f)
    | inr other ↦ inr other
  ]
  | inr none ↦ inl (λ some. absurd (omega (arith, some, none)))
]

-- by streams of the same bytes it was placed as the same document
pub placed_alike : (a b : ℕ → Stream) → SameBytes a b → AreAlso (IsPlacedAs a) (IsPlacedAs b)
placed_alike a b same s row document (inl vector) = inl vector
placed_alike a b same s row document (inr f) = inr (record {
  fragment = f.fragment;
  is = f.is ∙ ap (λ (body : List ℕ). fragment_document s row (piece_of s.geometry.fragment body row.id.index)) (same row.id.put);
})

-- ---- what is said

abbrev pub own_kind : Kind
own_kind = record {
  says = IsOwn;
  documents = IsPlacedAs;
  own = λ s streams row is. is;
  carried = λ s t c streams row is some. fragment_carried s t c streams row (is some);
  told = fragment_told;
  copied = fragment_copied;
  alike = placed_alike;
}

pub stands_own : (s : State) (streams : ℕ → Stream) → AreOwn s streams → Stands own_kind s streams
stands_own s streams own = record { puts = own.puts; rows = own.rows; readers = own.readers }

pub own_stands : (s : State) (streams : ℕ → Stream) → Stands own_kind s streams → AreOwn s streams
own_stands s streams own = record { puts = own.puts; rows = own.rows; readers = own.readers }

pub own_is_kept : (s : State) (streams : ℕ → Stream) → AreOwn s streams → ArePayloadsOwn s streams
own_is_kept s streams own = record {
  puts = own.puts;
  payloads = all_as (IsRow own_kind s streams) (HasCutPayload s streams) (λ row is some. let f = is.0 some in record { w = f.w; found = f.found; cut = f.cut; payload = f.payload }) s.rows own.rows;
  alternates = alternates_of_rows own_kind s streams s.rows own.rows;
  readers = own.readers;
}
