-- A copy that names the pieces of a sync, which stand as the records have them, opens to that sync.
use Rattle.std.specs.Prelude.{◌<◌, ◌-◌, AllPairs, IfSome, slice_get, ◌≡◌, ℕ, ◌≤◌, ◌==◌, Bool, true, List, Some}
use Rattle.std.specs.List.{AllByRecursion, list_any}
use Rattle.device_log.specs.Image.{Image, IsImage}
use Rattle.tape_base.specs.declared.pieces.PieceId.{PieceId}
use Rattle.stripe_header.specs.declared.area.Area.{Area}
use Rattle.packed_directory.specs.PackedImage.{IsImageOfSegments}
use Rattle.tape_base.specs.Key.{same_key}
use Rattle.fragment_table.specs.Table.{TableRow}
use Rattle.alternate_vector.specs.Alternates.{Stored}
use Rattle.cache_model.specs.declared.findings.FoundRow.{FoundRow}
use Rattle.cache_model.specs.Contents.{Content}
use Rattle.cache_model.specs.State.{Mark, Row, most_fragments}
use Rattle.cache_model.specs.Openings.{AreOfTwoKeys}
use Rattle.cache_model.specs.Tape.{AreApart, AreRising}
use Rattle.cache_model.specs.Syncs.{IsTakenUp}
use Rattle.reopening.specs.declared.newest.Newest.{Newest}
use Rattle.reopening.specs.Newest.{bound_of, directory_at, newest_of}
use Rattle.reopening.specs.Documents.{document_at, standing_of}
use Rattle.reopening.specs.Tests.{has_put, is_entered, is_inside, lists_puts}
use Rattle.reopening.specs.Opens.{opening_at, opens_to, rows_at}
use Rattle.reopening.specs.Alike.{has_place}
use Rattle.reopening.specs.Found.{StandsRecorded}

-- the piece of a row stands as the records have it, and passes by itself the tests of an opening of this copy
pub record StandsNamed (a : Area) (c : Image) (n : Newest) (row : Row) (x : Content) : Type 0 where
  pub from : a.geometry.content ≤ row.place
  pub stands : StandsRecorded a c row x
  pub inside : is_inside a.geometry n.told.cursor row.place row.blocks ≡ true
  pub entered : is_entered a.geometry (rows_at a c n) row.place row.id ≡ true
  pub put : has_put n.told.next_put row.id ≡ true
  pub lists : lists_puts n.told.next_put row.id x.payload ≡ true

-- what is found at the place of a row
abbrev pub found_row : Area → Image → Row → FoundRow
found_row a c row = standing_of row.place (document_at a c row.place)

-- one of the rows is at this place
abbrev pub is_row_at : List Row → ℕ → Bool
is_row_at rows place = list_any (λ row. row.place == place) rows

-- where a listed alternate is of a fragment's put, its entry for that, if it has one, states the fragment's length
abbrev pub StatesRow : Row → Stored → Type 0
StatesRow y s = s.put ≡ y.id.put → 0 < y.id.index → y.id.index ≤ most_fragments
    → (entry : TableRow) → slice_get s.table (y.id.index - 1) ≡ Some entry
    → IfSome y.payload (λ p. entry.length ≡ p.length)

-- so do all that a row lists, of a fragment of its object
abbrev pub StatesRows : Row → Row → Type 0
StatesRows x y = (list : List Stored) → x.alternates ≡ Some list → same_key x.id.first y.id.first ≡ true
    → AllByRecursion (StatesRow y) list

-- no later test of an opening refuses one of these rows beside the others: no two are one piece, or vectors of one object,
-- and lists state the lengths of the fragments
pub record AreNotAtOdds (rows : List Row) : Type 0 where
  pub apart : AreApart rows
  pub keys : AllPairs AreOfTwoKeys rows
  pub lengths : AllByRecursion (λ (x : Row). AllByRecursion (StatesRows x) rows) rows

-- a copy names just these rows, each stands with its content, and they are not at odds
pub record NamesAll (a : Area) (c : Image) (n : Newest) (content : PieceId → Content) (rows : List Row) : Type 0 where
  pub rising : AreRising (bound_of a.geometry n.told) rows n.told.cursor
  pub stand : AllByRecursion (λ (row : Row). StandsNamed a c n row (content row.id)) rows
  pub no_more : (p : ℕ) → has_place p (rows_at a c n) ≡ true → is_row_at rows p ≡ true
  pub even : AreNotAtOdds rows

-- a copy tells the numbers of a sync
pub record TellsMark (a : Area) (n : Newest) (m : Mark) : Type 0 where
  pub serial : n.told.serial ≡ m.serial
  pub cursor : n.told.cursor ≡ m.cursor
  pub low : bound_of a.geometry n.told ≡ m.low
  pub next_put : n.told.next_put ≡ m.next_put
  pub clean : n.told.clean ≡ m.clean

-- an image whose newest copy tells a sync and names its pieces opens to that sync
abbrev pub MarksAreTakenUp : Type 0
MarksAreTakenUp = (a : Area) (c : Image) (n : Newest) (content : PieceId → Content) (m : Mark)
    → IsImage c → newest_of a c ≡ Some n → IsImageOfSegments a.geometry (directory_at a c n.side)
    → TellsMark a n m → NamesAll a c n content m.rows
    → (opens_to a c ≡ Some (opening_at a c n)) × IsTakenUp m (opening_at a c n)
