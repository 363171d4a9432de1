-- How rows are kept: each under a number, which no other ever has, linked to the next older row of
-- its spot. A spot's newest row begins its chain.
use Rattle.std.specs.Prelude.{ℕ, suc, zero, ◌≡◌, ◌-◌, ◌≤◌, ◌<◌, ◌^◌, ◌==◌, not, min, nat_eq, nat_le, Bool, true, false, if◌then◌else◌, List, [], ◌∷◌, map, filter, Option, Some, None, option_map}
use Rattle.std.specs.List.{AllByRecursion}
use Rattle.std.specs.HashMap.{get, spare}
use Rattle.dir_table.specs.declared.rows.StoredRow.{StoredRow}
use Rattle.dir_table.specs.declared.rows.Spot.{Spot}
use Rattle.dir_table.specs.declared.links.Node.{Node}
use Rattle.dir_table.specs.declared.links.Links.{Links}
use Rattle.dir_table.specs.declared.rows.DirRow.{DirRow}
use Rattle.dir_table.specs.Rows.{spot_of, same_spot, is_at, plain_row}

-- the spot that a row stands under
abbrev pub spot_under : StoredRow → Spot
spot_under row = spot_of (plain_row row)

-- the row stands under that spot
abbrev pub stands_at : Spot → StoredRow → Bool
stands_at spot row = is_at spot (plain_row row)

-- what stands under a number: a row, and the number of the next older one of its spot
abbrev pub node_at : Links → ℕ → Option Node
node_at links k = get nat_eq links.nodes k

-- the number of a spot's newest row, where its chain begins
abbrev pub newest_at : Links → Spot → Option ℕ
newest_at links spot = get same_spot links.newest spot

-- what stands there without its link
abbrev pub row_of_node : Option Node → Option StoredRow
row_of_node node = option_map (λ n. n.row) node

-- the row of a number: none where no row had it yet, or where the row was taken out
abbrev pub row_at : Links → ℕ → Option StoredRow
row_at links k = row_of_node (node_at links k)

-- the row of a number before the others, where there is one
abbrev pub with_entry : ℕ → Option StoredRow → List (ℕ × StoredRow) → List (ℕ × StoredRow)
with_entry k None entries = entries
with_entry k (Some row) entries = (k, row) ∷ entries

-- the rows with their numbers that stand below a number, the newest first
abbrev pub entries_below : (ℕ → Option StoredRow) → ℕ → List (ℕ × StoredRow)
entries_below at zero = []
entries_below at (suc k) = with_entry k (at k) (entries_below at k)

-- all rows with their numbers, the newest first
abbrev pub entries_of : Links → List (ℕ × StoredRow)
entries_of links = entries_below (row_at links) links.next

-- the rows alone, in the same order
abbrev pub rows_of : List (ℕ × StoredRow) → List StoredRow
rows_of entries = map (λ e. e.1) entries

-- all rows, the newest first
abbrev pub rows_in : Links → List StoredRow
rows_in links = rows_of (entries_of links)

-- the number of the first row of a spot
abbrev pub first_at : Spot → List (ℕ × StoredRow) → Option ℕ
first_at spot [] = None
first_at spot (e ∷ es) = if stands_at spot e.1 then Some e.0 else first_at spot es

-- a row of this segment, bucket, tag and place stands under a number
pub record IsPlainAt (links : Links) (k : ℕ) (row : DirRow) : Type 0 where
  pub it : StoredRow
  pub stands : row_at links k ≡ Some it
  pub is : plain_row it ≡ row

-- without the row of a number
abbrev pub links_without : ℕ → List (ℕ × StoredRow) → List (ℕ × StoredRow)
links_without number entries = filter (λ e. not (number == e.0)) entries

-- each link leads to the next older row of the spot, and newer rows stand at higher places
pub record IsLinkedBy (node : ℕ → Option Node) (head : Spot → Option ℕ) (next : ℕ) : Type 0 where
  pub newest : (spot : Spot) → head spot ≡ first_at spot (entries_below (λ k. row_of_node (node k)) next)
  pub older : (k : ℕ) (n : Node) → node k ≡ Some n → n.older ≡ first_at (spot_under n.row) (entries_below (λ j. row_of_node (node j)) k)
  pub below : (k : ℕ) (n : Node) → node k ≡ Some n → k < next
  pub rising : (j k : ℕ) (m n : Node) → j < k → node j ≡ Some m → node k ≡ Some n → m.row.place ≤ n.row.place

-- what holds of the links between calls
abbrev pub IsLinked : Links → Type 0
IsLinked links = IsLinkedBy (node_at links) (newest_at links) links.next

-- a row of the spot stands under a number, and its link leads to another number, or to none
pub record LeadsOn (node : ℕ → Option Node) (spot : Spot) (from : ℕ) (to : Option ℕ) : Type 0 where
  pub it : Node
  pub stands : node from ≡ Some it
  pub there : stands_at spot it.row ≡ true
  pub leads : it.older ≡ to

-- the link that leads to a number: the spot's newest, or that of a newer row of the spot
abbrev pub PointsBy : (ℕ → Option Node) → (Spot → Option ℕ) → Spot → Option ℕ → Option ℕ → Type 0
PointsBy node head spot None to = head spot ≡ to
PointsBy node head spot (Some from) to = LeadsOn node spot from to

-- the same by the links as they are kept
abbrev pub PointsTo : Links → Spot → Option ℕ → Option ℕ → Type 0
PointsTo links spot before to = PointsBy (node_at links) (newest_at links) spot before to

-- a row with another link to the next older one
abbrev pub with_older : Option ℕ → Node → Node
with_older older n = record n { older = older }

-- what a change of that link makes of what stands under a number: only the node that has it changes
abbrev pub relinked : Option ℕ → Option ℕ → ℕ → Option Node → Option Node
relinked None older k node = node
relinked (Some from) older k node = if from == k then option_map (with_older older) node else node

-- what it makes of the newest of a spot, which changes only where that is the link
abbrev pub renewed : Option ℕ → Option ℕ → Spot → Spot → Option ℕ → Option ℕ
renewed None older spot s newest = if same_spot spot s then older else newest
renewed (Some from) older spot s newest = newest

-- how many rows can be added without memory, and with numbers that are left
abbrev pub room_in_links : Links → ℕ
room_in_links links = min (min (spare links.nodes) (spare links.newest)) (2 ^ 64 - 1 - links.next)

-- no row stands under a number below this one
abbrev pub AllFrom : ℕ → List (ℕ × StoredRow) → Type 0
AllFrom first entries = AllByRecursion (λ e. first ≤ e.0) entries

-- a row is there, at or above a place
abbrev pub stands_from : ℕ → Option StoredRow → Bool
stands_from low None = false
stands_from low (Some row) = nat_le low row.place
