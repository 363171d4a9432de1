-- What a sync names passes the tests of an opening: of which puts its pieces are, what they list, and that none is at odds
-- with another.
use Rattle.std.specs.Prelude.{◌≡◌, ◌≤◌, ◌<◌, ℕ, false, AllPairs, List, Some, None, ◌-◌, true, IfSome, slice_get}
use Rattle.std.specs.List.{AllByRecursion}
use Rattle.device_log.specs.Calls.{Call}
use Rattle.tape_base.specs.Key.{same_key}
use Rattle.tape_base.specs.Piece.{is_vector}
use Rattle.fragment_table.specs.Table.{TableRow}
use Rattle.alternate_vector.specs.Alternates.{Stored}
use Rattle.cache_model.specs.declared.record.Rec.{Rec}
use Rattle.cache_model.specs.Openings.{AreOfTwoKeys}
use Rattle.cache_model.specs.Tape.{AreApart}
use Rattle.cache_model.specs.State.{Mark, Row, after_all, most_fragments, nothing_yet}
use Rattle.cache_model.specs.Permit.{Setting}
use Rattle.cache_model.specs.Legal.{Course, IsLegal}

-- a put was begun before the next one, of this number
abbrev pub IsBegunBefore : ℕ → ℕ → Type 0
IsBegunBefore next put = (0 < put) × (put < next)

-- so was that of a piece, up to the most fragments of a put, and those of the alternates that it lists; a fragment lists none
pub record IsOfBegun (next : ℕ) (row : Row) : Type 0 where
  pub put : row.id.index ≤ most_fragments → IsBegunBefore next row.id.put
  pub listed : (list : List Stored) → row.alternates ≡ Some list → AllByRecursion (λ (a : Stored). IsBegunBefore next a.put) list
  pub lists : is_vector row.id ≡ false → row.alternates ≡ None

-- a sync names none but such pieces
abbrev pub NamesBegun : Mark → Type 0
NamesBegun m = AllByRecursion (IsOfBegun m.next_put) m.rows

-- no two of these are one piece, or vectors of one object
pub record AreOneOfEach (rows : List Row) : Type 0 where
  pub apart : AreApart rows
  pub keys : AllPairs AreOfTwoKeys rows

-- where an alternate of a fragment's put has an entry for it, that states the length with which the fragment is recorded
abbrev pub StatesFragment : Row → Stored → Type 0
StatesFragment y a = a.put ≡ y.id.put → 0 < y.id.index → y.id.index ≤ most_fragments
    → (entry : TableRow) → slice_get a.table (y.id.index - 1) ≡ Some entry → IfSome y.payload (λ p. entry.length ≡ p.length)

-- so does each alternate that a row lists, of a fragment of its object
abbrev pub StatesFragments : Row → Row → Type 0
StatesFragments x y = (list : List Stored) → x.alternates ≡ Some list → same_key x.id.first y.id.first ≡ true
    → AllByRecursion (StatesFragment y) list

-- and each of these rows, of each of them
abbrev pub StateLengths : List Row → Type 0
StateLengths rows = AllByRecursion (λ (x : Row). AllByRecursion (StatesFragments x) rows) rows

-- no test of an opening drops a piece that the sync names
pub record IsOpenable (m : Mark) : Type 0 where
  pub begun : NamesBegun m
  pub one : AreOneOfEach m.rows
  pub lengths : StateLengths m.rows

-- in each legal chronicle each sync is such
abbrev pub MarksAreOpenable : Type 0
MarksAreOpenable = (setting : Setting) (past : List Call) (courses : List Course) (recs : List Rec) → IsLegal setting past courses recs
    → AllByRecursion IsOpenable (after_all nothing_yet recs).marks
