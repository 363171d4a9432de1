-- What is said of each piece beside the alternates that it lists. What is proved of what stands is proved
-- for any such saying: that a fragment stands as that part of what its writer took, or that it has the payload of that.
use Rattle.std.proofs.Common.{◌≡◌, ℕ, ◌*◌, ◌<◌, ◌≤◌, ◌⊎◌, length, false, subst, sym, arith}
use Rattle.std.specs.Prelude.{Some, List}
use Rattle.std.specs.List.{AllByRecursion}
use Rattle.doc_header.specs.Reading.{document_digest}
use Rattle.fragment_table.specs.Table.{total_length}
use Rattle.cache_model.specs.State.{State, Row, PutRow, Open, Closed, put_of}
use Rattle.cache_model.specs.Pair.{Documents, IsPairOf}
use Rattle.cache_model.specs.Permit.{Permit}
use Rattle.cache_model.specs.Given.{IsGiven}
use Rattle.cache_model.specs.Outcomes.{Copy}
use Rattle.cache_model.proofs.Live.{IsFound}
use Rattle.step_laws.proofs.Pairs.{AreAlso}
use Rattle.cache_model.proofs.Steps.{all_as}
use Rattle.cache_model.proofs.Rows.{each_part}
use Rattle.step_laws.proofs.ToldFlush.{moved}
use Rattle.script_run.specs.Run.{Stream}
use Rattle.script_run.specs.Own.{AreAlternates, AreOwnPuts, IsOwnFragment, IsOwnReader}
use Rattle.script_run.proofs.Carried.{AreAlike, Carries, alike_carries, listed_carried, puts_stay, readers_carried}
use Rattle.script_run.proofs.Cuts.{HaveCut}

-- ---- what writers took, told otherwise

-- what the put of w has cut is told alike by both streams
pub record TellAlike (fragment : ℕ) (w : PutRow) (a b : Stream) : Type 0 where
  pub cut : HaveCut fragment (length w.cuts) a.bytes b.bytes
  pub within : total_length w.cuts ≤ length b.bytes
  pub whole : w.writing ≡ Closed → total_length w.cuts ≡ length b.bytes
  pub full : w.writing ≡ Open → b.sealed ≡ false → total_length w.cuts ≡ length w.cuts * fragment

abbrev pub AllTellAlike : State → (ℕ → Stream) → (ℕ → Stream) → Type 0
AllTellAlike s a b = (put : ℕ) (w : PutRow) → put_of s put ≡ Some w → TellAlike s.geometry.fragment w (a w.put) (b w.put)

-- the writers of each put took the same bytes
abbrev pub SameBytes : (ℕ → Stream) → (ℕ → Stream) → Type 0
SameBytes a b = (put : ℕ) → (a put).bytes ≡ (b put).bytes

-- ---- copies

-- the piece of a copy is live, and its document was given
pub record IsCopied (p : Permit) (s : State) (c : Copy) : Type 0 where
  pub live : IsFound s c.row
  pub given : IsGiven p s c.row c.bytes
  pub digest : c.row.digest ≡ document_digest c.bytes

-- ---- kinds

pub record Kind : Type 1 where
  -- what is said of a piece
  pub says : State → (ℕ → Stream) → Row → Type 0
  -- the document as which a piece was placed, where that cannot be said of a copy at its new place
  pub documents : (ℕ → Stream) → Documents
  -- it is said of each fragment that is that of what its writer took, and of each vector
  pub own : (s : State) (streams : ℕ → Stream) (row : Row) → (0 < row.id.index → IsOwnFragment s streams row) → says s streams row
  -- it is said still where puts go on, where a writer is told otherwise, and behind a copy
  pub carried : (s t : State) → Carries s t → (streams : ℕ → Stream) (row : Row) → says s streams row → says t streams row
  pub told : (s : State) (a b : ℕ → Stream) (row : Row) → AllTellAlike s a b → says s a row → says s b row
  pub copied : (p : Permit) (s : State) (streams : ℕ → Stream) (place : ℕ) (c : Copy) → AreOwnPuts s streams → IsCopied p s c → says s streams c.row → says s streams (moved place c) ⊎ IsPairOf (documents streams) p s c.row
  -- streams of the same bytes tell the same documents
  pub alike : (a b : ℕ → Stream) → SameBytes a b → AreAlso (documents a) (documents b)

abbrev pub IsRow : Kind → State → (ℕ → Stream) → Row → Type 0
IsRow kind s streams row = kind.says s streams row × AreAlternates s row

-- what stands, where this is said of each piece
pub record Stands (kind : Kind) (s : State) (streams : ℕ → Stream) : Type 0 where
  pub puts : AreOwnPuts s streams
  pub rows : AllByRecursion (IsRow kind s streams) s.rows
  pub readers : AllByRecursion (IsOwnReader s) s.readers

pub rows_carried : (kind : Kind) (s t : State) → Carries s t → (streams : ℕ → Stream) (rows : List Row) → AllByRecursion (IsRow kind s streams) rows → AllByRecursion (IsRow kind t streams) rows
rows_carried kind s t c streams rows each =
    all_as (IsRow kind s streams) (IsRow kind t streams) (λ row is. (kind.carried s t c streams row is.0, listed_carried s t c row.id.first row.alternates is.1)) rows each

pub stands_alike : (kind : Kind) (s t : State) (streams : ℕ → Stream) → AreAlike s t → Stands kind s streams → Stands kind t streams
stands_alike kind s t streams a own =
    let c : Carries s t = alike_carries s t a in
    record {
      puts = puts_stay s t streams a.geometry a.next_put a.puts own.puts;
      rows = each_part (IsRow kind t streams) a.rows (rows_carried kind s t c streams s.rows own.rows);
      readers = subst (AllByRecursion (IsOwnReader t)) (sym a.readers) (readers_carried s t c (omega (arith, a.next_reader)) s.readers own.readers);
    }

pub alternates_of_rows : (kind : Kind) (s : State) (streams : ℕ → Stream) (rows : List Row) → AllByRecursion (IsRow kind s streams) rows → AllByRecursion (AreAlternates s) rows
alternates_of_rows kind s streams rows each = all_as (IsRow kind s streams) (AreAlternates s) (λ row own. own.1) rows each
