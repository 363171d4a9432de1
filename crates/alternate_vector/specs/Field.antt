-- Field lines in order, and which are refused (RFC 9110, sections 5.1, 5.5 and 5.6.2).
use Rattle.std.specs.Prelude.{◌≡◌, ℕ, ◌≤◌, nat_lt, nat_le, Bool, true, false, not, ◌&&◌, if◌then◌else◌, List, [], ◌∷◌, length, Option, Some, None, Result, Ok, Err, ⊤}
use Rattle.std.specs.List.{list_all, AllByRecursion}
use Rattle.std.specs.Ordering.{nat_cmp, is_gt}
use Rattle.std.specs.Cmp.Lexicographic.{slice_cmp}
use Rattle.hex.specs.Hex.{IsBytes}
use Rattle.http_header.specs.Token.{is_token_byte, is_value_byte, lowercase}
use Rattle.alternate_vector.specs.declared.fault.FieldFault.{FieldFault}
use Rattle.alternate_vector.specs.declared.fault.FieldFault.TheVariants.{Name, Value, TooMany, Memory}

-- one line, by its bytes; lines of the same name are not joined
pub record Field : Type 0 where
  pub name : List ℕ
  pub value : List ℕ

-- a line as it is kept, with its name in lower case
abbrev pub made_field : List ℕ → List ℕ → Field
made_field name value = record { name = lowercase name; value = value }

-- a line whose name stays as it is: one that was read in lower case
abbrev pub plain_field : List ℕ → List ℕ → Field
plain_field name value = record { name = name; value = value }

-- 1 to 256 bytes of a token
abbrev pub is_name : List ℕ → Bool
is_name bytes = nat_lt 0 (length bytes) && nat_le (length bytes) 256 && list_all is_token_byte bytes

-- at most 8,192 bytes that a value may have
abbrev pub is_value : List ℕ → Bool
is_value bytes = nat_le (length bytes) 8192 && list_all is_value_byte bytes

-- the first name stands above the second, by bytes
abbrev pub is_above : List ℕ → List ℕ → Bool
is_above a b = is_gt (slice_cmp nat_cmp a b)

-- a line behind those of its name and of lesser names
abbrev pub with_field : List Field → Field → List Field
with_field [] field = field ∷ []
with_field (first ∷ fields) field =
    if is_above first.name field.name then field ∷ first ∷ fields else first ∷ with_field fields field

-- names that rise, or stay
abbrev pub IsRising : List Field → Type 0
IsRising [] = ⊤
IsRising (field ∷ fields) = AllByRecursion (λ other. is_above field.name other.name ≡ false) fields × IsRising fields

-- a line that may be kept; its name is bytes as each of a token is, and so is its value
pub record IsKept (field : Field) : Type 0 where
  pub name : is_name field.name ≡ true
  pub lower : lowercase field.name ≡ field.name
  pub value : is_value field.value ≡ true
  pub bytes : IsBytes field.value

-- the lines that a request or a response may have
pub record AreFields (fields : List Field) : Type 0 where
  pub few : length fields ≤ 128
  pub each : AllByRecursion IsKept fields
  pub rising : IsRising fields

-- the first reason to refuse a line
abbrev pub field_refusal : List Field → List ℕ → List ℕ → Option FieldFault
field_refusal fields name value =
    if not (is_name name) then Some Name
    else (if not (is_value value) then Some Value
    else (if nat_le 128 (length fields) then Some TooMany else None))

-- a call answered as the reason says, unless memory ran out
abbrev pub RefusesField : {X : Type 0} → Result X FieldFault → Option FieldFault → Type 0
RefusesField (Ok x) refusal = refusal ≡ None
RefusesField (Err (Memory e)) refusal = ⊤
RefusesField (Err fault) refusal = refusal ≡ Some fault

-- the two faults that come of a name alone: it is no name, or memory ran out
abbrev pub IsNameOrMemory : FieldFault → Type 0
IsNameOrMemory Name = ⊤
IsNameOrMemory (Memory e) = ⊤
IsNameOrMemory fault = ⊥
