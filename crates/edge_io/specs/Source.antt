-- What reads do to the log of a source, and to what it tells.
use Rattle.std.specs.Prelude.{◌≡◌, ℕ, ◌==◌, true, if◌then◌else◌, List, [], ◌∷◌, ◌++◌, take, Option, None, Some, Result, MatchResult, ⊤}
use Rattle.device_log.specs.Faults.{next_count}
use Rattle.device_log.specs.Streams.{SourceRead, GaveBytes, CameToEnd, RefusedRead, given_by, has_ended, refused_reads, read_faults}

-- these bytes were given, or the end was met where the count is 0
abbrev pub gave : (count : ℕ) (bytes : List ℕ) → SourceRead
gave count bytes = if count == 0 then CameToEnd else GaveBytes bytes

-- what is noted of a read that put so many bytes into a place: one that is not empty gets none at
-- the end alone
abbrev pub gave_into : (count : ℕ) (place : List ℕ) → SourceRead
gave_into count [] = GaveBytes []
gave_into count (byte ∷ place) = gave count (take count (byte ∷ place))

-- one more read was made: it gave bytes, or it met the end, or it failed and was counted
abbrev pub NotesRead : {E : Type 0} → (old new : List SourceRead) → Result ℕ E → (place : List ℕ)
    → Type 0
NotesRead old new result place = MatchResult result
    (λ count. new ≡ gave_into count place ∷ old)
    (λ _. new ≡ RefusedRead (next_count (read_faults old)) ∷ old)

-- Where a source tells what is left: what these reads gave and what is left now are together what
-- was left, and they met the end only where nothing is left.
abbrev pub LeavesOver : (before : Option (List ℕ)) (reads : List SourceRead) (now : Option (List ℕ))
    → Type 0
LeavesOver None reads now = ⊤
LeavesOver (Some before) reads None = ⊥
LeavesOver (Some before) reads (Some now) =
    (before ≡ given_by reads ++ now) × (has_ended reads ≡ true → now ≡ [])

-- What calls did to a source: its log grew by these reads, which left what it tells to be left.
pub record Draws {S : Type 0} (reads : S → List SourceRead) (left : S → Option (List ℕ))
    (old new : S) : Type 0 where
  -- the newest first
  pub more : List SourceRead
  pub grew : reads new ≡ more ++ reads old
  pub leaves : LeavesOver (left old) more (left new)

-- it was one read, this one
pub record ReadsSource {S : Type 0} (reads : S → List SourceRead) (left : S → Option (List ℕ))
    (read : SourceRead) (old new : S) : Type 0 where
  pub grew : reads new ≡ read ∷ reads old
  pub leaves : LeavesOver (left old) (read ∷ []) (left new)

-- it was one read, which gave these bytes where it did not fail
abbrev pub ReadsOnce : {S E : Type 0} → (S → List SourceRead) → (S → Option (List ℕ))
    → (bytes : ℕ → List ℕ) → (old new : S) → Result ℕ E → Type 0
ReadsOnce reads left bytes old new result = MatchResult result
    (λ count. ReadsSource reads left (gave count (bytes count)) old new)
    (λ _. ReadsSource reads left (RefusedRead (next_count (read_faults (reads old)))) old new)

-- no read failed between the two
abbrev pub NoReadFailed : (old new : List SourceRead) → Type 0
NoReadFailed old new = refused_reads new ≡ refused_reads old

-- the last read failed, by this count, which is the next one, and no other did
pub record LastReadFailed (old new : List SourceRead) (count : ℕ) : Type 0 where
  pub older : List SourceRead
  pub is : new ≡ RefusedRead count ∷ older
  pub counted : count ≡ next_count (read_faults old)
  pub others : NoReadFailed old older

-- the last read met the end
abbrev pub IsEnded : List SourceRead → Type 0
IsEnded reads = (older : List SourceRead) × (reads ≡ CameToEnd ∷ older)
