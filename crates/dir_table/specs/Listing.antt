-- What the fields of a `ListDirectory` keep.
use Rattle.std.specs.Prelude.{◌≡◌, ◌<◌, ◌≤◌, ◌^◌, All}
use Rattle.dir_table.specs.Displacement.{none_displaced}
use Rattle.dir_table.specs.Links.{IsLinked, AllFrom, entries_of, rows_in, room_in_links}
use Rattle.dir_table.specs.Listed.{Listed}
use Rattle.dir_table.specs.declared.list.ListDirectory.TheInside.{Inside}

-- what the fields stand for, but for the number below which no row stands, and what was displaced
abbrev pub listed_of : Inside → Listed
listed_of d = record { window = d.window; entries = entries_of d.links; spare = room_in_links d.links }

-- the chains lead to the rows, whose places are below the end of the last piece
pub record IsListing (d : Inside) : Type 0 where
  pub linked : IsLinked d.links
  pub above : AllFrom d.first (entries_of d.links)
  pub within : d.first ≤ d.links.next
  pub ended : All (λ r. r.place < d.window.end) (rows_in d.links)
  pub cursor : d.window.cursor < 2 ^ 62
  pub none : d.displaced.told ≡ none_displaced
