-- Each piece goes on to stand as some document: where nothing is placed, and where a new piece is.
use Rattle.std.proofs.Common.{◌≡◌, ℕ, List, [], ◌∷◌, Bool, true, false, Option, Some, None, refl, sym, ap, subst, cond}
use Rattle.std.specs.Prelude.{IfSome, if◌then◌else◌}
use Rattle.std.specs.List.{AllByRecursion}
use Rattle.tape_base.specs.declared.pieces.PieceId.{PieceId}
use Rattle.tape_base.specs.Piece.{same_piece}
use Rattle.tape_base.specs.Place.{block_of}
use Rattle.tape_base.proofs.NameLaws.{same_piece-same}
use Rattle.device_log.specs.Image.{span}
use Rattle.logged_disk.specs.Device.{TellsAll, seen as content_of}
use Rattle.alternate_vector.specs.Spelling.{IsSpelling, vector_bytes}
use Rattle.agg_buffer.specs.Buffer.{bytes_at}
use Rattle.cyclone.specs.Cyclone.{Seen}
use Rattle.cache_model.specs.State.{Row, State, listed, row_in, row_of}
use Rattle.cache_model.specs.Contents.{Content, Contents, IsRecordedAs, IsRecordedWith}
use Rattle.piece_answers.specs.Standing.{AreDocuments, AreStanding, BeginsAs, IsToldPlaced, StandsInBuffer, StandsOnDevice, contents_of_all}

-- ---- nothing is placed

pub documents_stay : {s t : State} {c new : Seen} → AreDocuments s c
    → ((contents : Contents) → AreStanding contents s c → AreStanding contents t new) → AreDocuments t new
documents_stay documents stay =
    record { content = documents.content; stand = stay (contents_of_all documents.content) documents.stand }

-- ---- a new piece is placed

not_found : (row : Row) (other : Option Row) (b : Bool) → (if b then Some row else other) ≡ None → (b ≡ false) × (other ≡ None)
not_found row other true none = cc
not_found row other false none = (refl, none)

-- what holds of the rows, none of which is that of the piece
rows_stay : (P Q : Row → Type 0) (id : PieceId) (rows : List Row) → row_in rows id ≡ None
    → ((row : Row) → same_piece row.id id ≡ false → P row → Q row) → AllByRecursion P rows → AllByRecursion Q rows
rows_stay P Q id [] none step all = tt
rows_stay P Q id (row ∷ rows) none step all =
    let apart = not_found row (row_in rows id) (same_piece row.id id) none in
    (step row apart.0 all.0, rows_stay P Q id rows apart.1 step all.1)

-- the same contents, but of one piece this one
abbrev with_content : PieceId → Content → (PieceId → Content) → PieceId → Content
with_content id x content other = if same_piece other id then x else content other

module _ (id : PieceId) (x : Content) (content : PieceId → Content) where
  same_content : (row : Row) → same_piece row.id id ≡ false → (P : Content → Type 0) → P (content row.id) → P (with_content id x content row.id)
  same_content row apart P h = subst (λ (b : Bool). P (if b then x else content row.id)) (sym apart) h

  -- the pieces that stand do so by both
  also_stand : (s : State) (c : Seen) → row_of s id ≡ None → AreStanding (contents_of_all content) s c
      → AreStanding (contents_of_all (with_content id x content)) s c
  also_stand s c none stands = record {
    buffered = λ tells.
        rows_stay (StandsInBuffer (contents_of_all content) s.geometry c.buffer)
        (StandsInBuffer (contents_of_all (with_content id x content)) s.geometry c.buffer) id s.rows none
        (λ row apart h from. same_content row apart (BeginsAs s.geometry row (bytes_at c.buffer row.place row.blocks)) (h from))
        (stands.buffered tells);
    written = λ tells.
        rows_stay (StandsOnDevice (contents_of_all content) s (content_of c.device))
        (StandsOnDevice (contents_of_all (with_content id x content)) s (content_of c.device)) id s.rows none
        (λ row apart h low below.
        same_content row apart (BeginsAs s.geometry row (span (content_of c.device) (block_of s.geometry row.place) row.blocks)) (h low below))
        (stands.written tells);
    recorded = λ tells.
        rows_stay (IsRecordedAs (contents_of_all content) s.geometry) (IsRecordedAs (contents_of_all (with_content id x content)) s.geometry)
        id s.rows none
        (λ row apart h. record {
          content = same_content row apart (IsRecordedWith s.geometry row) h.content;
          lists = h.lists;
          unlisted = h.unlisted;
          spelled = h.spelled;
        })
        (stands.recorded tells);
  }

pub documents_placed : {s t : State} {c new : Seen} (id : PieceId) (start : ℕ) (payload : List ℕ) → row_of s id ≡ None
    → (TellsAll new.device → IfSome (listed s id) (λ list. IsSpelling (vector_bytes list) list)) → AreDocuments s c
    → ((contents : Contents) → IsToldPlaced new.device s id start payload contents → AreStanding contents s c → AreStanding contents t new)
    → AreDocuments t new
documents_placed {s} {t} {c} {new} id start payload none spelled documents stay =
    let x : Content = record { start = start; payload = payload } in
    let content : PieceId → Content = with_content id x documents.content in
    let own : content id ≡ x = ap (λ (b : Bool). if b then x else documents.content id) (same_piece-same id) in
    record {
      content = content;
      stand = stay (contents_of_all content) (λ tells. record { content = own; spelled = spelled tells })
          (also_stand id x documents.content s c none documents.stand);
    }
