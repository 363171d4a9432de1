-- The alternates of an object (Traffic Server guide, "Cache Architecture"): which is chosen, and what a new
-- one leaves of them.
use Rattle.std.specs.Prelude.{◌≡◌, ℕ, ◌+◌, ◌*◌, ◌^◌, ◌<◌, ◌≤◌, nat_le, Bool, true, false, not, ◌&&◌, if◌then◌else◌, List, [], ◌∷◌, ◌++◌, length, map, filter, sum_by, Option, Some, None}
use Rattle.std.specs.List.{AllByRecursion}
use Rattle.fragment_table.specs.Table.{TableRow, AreRows, total_length}
use Rattle.alternate_vector.specs.declared.alternate.Alternate.{Alternate}
use Rattle.alternate_vector.specs.Field.{Field, AreFields}
use Rattle.alternate_vector.specs.Vary.{request_matches}

-- an alternate without where it lies in memory
pub record Stored : Type 0 where
  pub put : ℕ
  pub pin : ℕ
  pub length : ℕ
  pub request : List Field
  pub response : List Field
  pub table : List TableRow

-- an alternate as a vector spells it: of its table the rows, without the room for more
abbrev pub stored_of : Alternate → Stored
stored_of a = record { put = a.put; pin = a.pin; length = a.length; request = a.request; response = a.response; table = a.table.rows }

-- the same of each, in the order in which a vector lists them
abbrev pub all_stored : List Alternate → List Stored
all_stored alternates = map stored_of alternates

-- the request may be answered with the alternate (RFC 9111, section 4.1)
abbrev pub is_match : List Field → Stored → Bool
is_match request a = request_matches request a.request a.response

-- the later place, where there is one
abbrev pub or_first : Option ℕ → Bool → Option ℕ
or_first (Some i) matches = Some (i + 1)
or_first None true = Some 0
or_first None false = None

-- the place of the last alternate that matches
abbrev pub chosen : List Field → List Stored → Option ℕ
chosen request [] = None
chosen request (a ∷ alternates) = or_first (chosen request alternates) (is_match request a)

-- the bytes of spelled lines: two of their count, and of each six of lengths, its name and its value
abbrev pub fields_size : List Field → ℕ
fields_size fields = 2 + sum_by (λ field. 6 + length field.name + length field.value) fields

-- the bytes of a spelled alternate: three numbers of eight, both lists of lines, and the table
abbrev pub alternate_size : Stored → ℕ
alternate_size a = 24 + fields_size a.request + fields_size a.response + (4 + 36 * length a.table)

-- the bytes of a spelled vector: four of the count, and the alternates
abbrev pub vector_size : List Stored → ℕ
vector_size alternates = 4 + sum_by alternate_size alternates

-- what may be kept
pub record IsStored (a : Stored) : Type 0 where
  pub put : a.put < 2 ^ 64
  pub pin : a.pin < 2 ^ 64
  pub request : AreFields a.request
  pub response : AreFields a.response
  pub table : AreRows a.table
  pub length : total_length a.table ≡ a.length

-- the alternates that may be kept together
pub record AreStoredAlternates (alternates : List Stored) : Type 0 where
  pub few : length alternates ≤ 16
  pub each : AllByRecursion IsStored alternates

-- at most so many, and so many bytes
abbrev pub is_within : ℕ → ℕ → List Stored → Bool
is_within most bytes alternates = nat_le (length alternates) most && nat_le (vector_size alternates) bytes

-- the longest end that is within the limits
abbrev pub longest_within : ℕ → ℕ → List Stored → List Stored
longest_within most bytes [] = []
longest_within most bytes (a ∷ alternates) =
    if is_within most bytes (a ∷ alternates) then a ∷ alternates else longest_within most bytes alternates

-- the alternates that the new request does not match, and behind them the new one
abbrev pub with_new : List Stored → Stored → List Stored
with_new before new = filter (λ a. not (is_match new.request a)) before ++ new ∷ []

-- the alternates with the new one, less the oldest until they are within the limits; none where it alone is not
abbrev pub merged : ℕ → ℕ → List Stored → Stored → List Stored
merged most bytes before new = longest_within most bytes (with_new before new)
