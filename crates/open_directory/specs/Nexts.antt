-- The next indices of the readers of one put, as a tree by the numbers of the readers.
use Rattle.std.specs.Prelude.{◌≡◌, ℕ, ◌/◌, ◌%◌, ◌==◌, if◌then◌else◌, min, Bool, true, false, ◌&&◌, nat_eq, List, Option, Some, None}
use Rattle.std.specs.Map.{lookup}
use Rattle.open_directory.specs.declared.kept.Reader.{Reader}
use Rattle.open_directory.specs.Directory.{Held, IsHeldDirectory, is_number}
use Rattle.open_directory.specs.declared.nexts.Nexts.{Nexts}
use Rattle.open_directory.specs.declared.nexts.Nexts.TheVariants.{Nobody, One, Fork'}

-- the lesser of two numbers that may be there
abbrev pub lesser : Option ℕ → Option ℕ → Option ℕ
lesser None other = other
lesser (Some a) None = Some a
lesser (Some a) (Some b) = Some (min a b)

-- the least next index, as the tree keeps it
abbrev pub least_of : Nexts → Option ℕ
least_of Nobody = None
least_of (One reader next) = Some next
least_of (Fork' least p even q odd) = least

-- the tree of no reader, which no fork is, not even of two such trees
abbrev pub is_nobody : Nexts → Bool
is_nobody Nobody = true
is_nobody (One reader next) = false
is_nobody (Fork' least p even q odd) = false

-- the next index of a reader: even numbers stand on one side and odd ones on the other, each by its half
abbrev pub next_at : ℕ → Nexts → Option ℕ
next_at reader Nobody = None
next_at reader (One one next) = if reader == one then Some next else None
next_at reader (Fork' least p even q odd) = if reader % 2 == 0 then next_at (reader / 2) even else next_at (reader / 2) odd

-- each fork keeps the least of its sides
abbrev pub HasLeast : Nexts → Type 0
HasLeast Nobody = Unit {0}
HasLeast (One reader next) = Unit {0}
HasLeast (Fork' least p even q odd) = (least ≡ lesser (least_of even) (least_of odd)) × HasLeast even × HasLeast odd

-- the sides of a fork keep their least
abbrev pub SidesHaveLeast : Nexts → Type 0
SidesHaveLeast Nobody = Unit {0}
SidesHaveLeast (One reader next) = Unit {0}
SidesHaveLeast (Fork' least p even q odd) = HasLeast even × HasLeast odd

-- one reader has this next index or is gone, and the others are as they were
abbrev pub SetsNext : ℕ → Option ℕ → Nexts → Nexts → Type 0
SetsNext reader next before after = (q : ℕ) → next_at q after ≡ (if q == reader then next else next_at q before)

-- each reader is as it was
abbrev pub KeepsNexts : Nexts → Nexts → Type 0
KeepsNexts before after = (q : ℕ) → next_at q after ≡ next_at q before

-- the tree of one reader alone
abbrev pub is_one : ℕ → ℕ → Nexts
is_one reader next = One reader next

-- a put that has no tree has no reader
abbrev pub nexts_in : Option Nexts → Nexts
nexts_in None = Nobody
nexts_in (Some nexts) = nexts

-- the readers of a put
abbrev pub nexts_of : ℕ → List (ℕ × Nexts) → Nexts
nexts_of put index = nexts_in (lookup (nat_eq put) index)

-- the next index of a reader of a put
abbrev pub next_of : ℕ → ℕ → List (ℕ × Nexts) → Option ℕ
next_of put reader index = next_at reader (nexts_of put index)

-- each put has the least at hand
abbrev pub AllLeast : List (ℕ × Nexts) → Type 0
AllLeast index = (put : ℕ) → HasLeast (nexts_of put index)

-- one reader of a put has this next index or is gone, and the others are as they were
abbrev pub SetsIndex : ℕ → ℕ → Option ℕ → List (ℕ × Nexts) → List (ℕ × Nexts) → Type 0
SetsIndex put reader next before after = (p q : ℕ) → next_of p q after ≡ (if nat_eq put p && q == reader then next else next_of p q before)

-- each reader is as it was
abbrev pub KeepsIndex : List (ℕ × Nexts) → List (ℕ × Nexts) → Type 0
KeepsIndex before after = (p q : ℕ) → next_of p q after ≡ next_of p q before

-- the next index of a reader of the put
abbrev pub next_for : ℕ → Option Reader → Option ℕ
next_for put None = None
next_for put (Some reader) = if reader.put == put then Some reader.next else None

-- the readers of each put are at hand by their numbers, with their next indices and the least of them
pub record IsIndexOfReaders (index : List (ℕ × Nexts)) (readers : List (ℕ × Reader)) : Type 0 where
  pub least : AllLeast index
  pub nexts : (put reader : ℕ) → next_of put reader index ≡ next_for put (lookup (is_number reader) readers)

-- what is kept agrees, and the readers are at hand
pub record IsKeptDirectory (lists : Held) (trees : List (ℕ × Nexts)) : Type 0 where
  pub held : IsHeldDirectory lists
  pub index : IsIndexOfReaders trees lists.readers

-- a tree of two sides
abbrev pub IsFork : Nexts → Nexts → Nexts → Type 0
IsFork even odd nexts = (q : ℕ) → next_at q nexts ≡ (if q % 2 == 0 then next_at (q / 2) even else next_at (q / 2) odd)
