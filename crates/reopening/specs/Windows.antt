-- What a copy names, and what is written behind its sync.
use Rattle.std.specs.Prelude.{◌≡◌, ◌≢◌, ℕ, ◌+◌, ◌≤◌, ◌<◌, false, true, IsTrue}
use Rattle.tape_base.specs.Place.{reach_of}
use Rattle.stripe_header.specs.declared.area.Area.{Area}
use Rattle.stripe_header.specs.declared.states.CopyState.{CopyState}
use Rattle.stripe_header.specs.Layout.{block_of_place}
use Rattle.stripe_header.specs.Spelling.{may_say}
use Rattle.reopening.specs.Newest.{bound_of}

-- places from the bound up to an end, and places from that end up to the reach, have no block in common
abbrev pub WindowsAreApart : Type 0
WindowsAreApart = (a : Area) (told : CopyState) (end p q : ℕ)
    → IsTrue (may_say a.geometry told) → told.clean ≡ false
    → bound_of a.geometry told ≤ p → p < end → end ≤ q → q < reach_of a.geometry told.cursor
    → block_of_place a p ≢ block_of_place a q

-- behind a clean copy so do places up to the end of the next buffer
abbrev pub CleanWindowsAreApart : Type 0
CleanWindowsAreApart = (a : Area) (told : CopyState) (end p q : ℕ)
    → IsTrue (may_say a.geometry told) → told.clean ≡ true
    → bound_of a.geometry told ≤ p → p < end → end ≤ q → q < told.cursor + a.geometry.agg
    → block_of_place a p ≢ block_of_place a q
