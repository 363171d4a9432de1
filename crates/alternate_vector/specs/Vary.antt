-- Which stored response a request may be answered with (RFC 9111, section 4.1).
use Rattle.std.specs.Prelude.{◌≡◌, ◌+◌, ◌<◌, length, take, drop, ℕ, ◌==◌, Bool, true, false, not, ◌&&◌, ◌||◌, if◌then◌else◌, bytes_eq, codes, List, [], ◌∷◌, ◌++◌, map, filter, reverse, Option, Some, None}
use Rattle.std.specs.List.{flat_map, list_all}
use Rattle.http_header.specs.Token.{lowercase}
use Rattle.alternate_vector.specs.Field.{Field, is_name}

-- a space or a tab
abbrev pub is_blank : ℕ → Bool
is_blank b = b == 32 || b == 9

-- without the blanks in front; those behind another byte stay
abbrev pub skip_blanks : List ℕ → List ℕ
skip_blanks [] = []
skip_blanks (b ∷ bytes) = if is_blank b then skip_blanks bytes else b ∷ bytes

-- without the blanks at both ends
abbrev pub trimmed : List ℕ → List ℕ
trimmed bytes = reverse (skip_blanks (reverse (skip_blanks bytes)))

-- a byte in front of the first part
abbrev pub onto_first_part : ℕ → List (List ℕ) → List (List ℕ)
onto_first_part b [] = (b ∷ []) ∷ []
onto_first_part b (part ∷ parts) = (b ∷ part) ∷ parts

-- the parts between commas
abbrev pub comma_parts : List ℕ → List (List ℕ)
comma_parts [] = [] ∷ []
comma_parts (b ∷ bytes) = if b == 44 then [] ∷ comma_parts bytes else onto_first_part b (comma_parts bytes)

-- the first comma
pub record IsCommaAt (bytes : List ℕ) (end : ℕ) : Type 0 where
  pub within : end < length bytes
  pub parts : comma_parts bytes ≡ take end bytes ∷ comma_parts (drop (end + 1) bytes)

-- an element of no bytes, which a list may have and which counts for nothing (RFC 9110, section 5.6.1)
abbrev pub is_empty : List ℕ → Bool
is_empty [] = true
is_empty (b ∷ bytes) = false

-- the elements of a comma-separated value (RFC 9110, section 5.6.1)
abbrev pub elements_of : List ℕ → List (List ℕ)
elements_of value = filter (λ element. not (is_empty element)) (map trimmed (comma_parts value))

-- the lines of a name, which is in lower case
abbrev pub named : List ℕ → List Field → List Field
named name fields = filter (λ field. bytes_eq field.name name) fields

-- the values in the order of their lines, with blanks and commas as they came
abbrev pub values_of : List Field → List (List ℕ)
values_of fields = map (λ field. field.value) fields

-- the names in the Vary lines of a response
abbrev pub vary_names : List Field → List (List ℕ)
vary_names response = flat_map elements_of (values_of (named (codes "vary") response))

-- a value that follows another one
abbrev pub following : List ℕ → List ℕ
following value = 44 ∷ 32 ∷ trimmed value

-- absent, or the trimmed values with a comma and a space between them
abbrev pub joined : List (List ℕ) → Option (List ℕ)
joined [] = None
joined (value ∷ values) = Some (trimmed value ++ flat_map following values)

-- the value of a name in any case
abbrev pub field_value : List Field → List ℕ → Option (List ℕ)
field_value fields name = joined (values_of (named (lowercase name) fields))

-- absent in both, or the same bytes in both
abbrev pub same_value : Option (List ℕ) → Option (List ℕ) → Bool
same_value None None = true
same_value None (Some b) = false
same_value (Some a) None = false
same_value (Some a) (Some b) = bytes_eq a b

-- both requests have one value of a name that may stand in a Vary line
abbrev pub agrees_on : List Field → List Field → List ℕ → Bool
agrees_on request stored name =
    not (bytes_eq name (codes "*")) && is_name name
    && same_value (field_value request name) (field_value stored name)

-- the request matches what was stored for the other request with this response
abbrev pub request_matches : List Field → List Field → List Field → Bool
request_matches request stored response = list_all (agrees_on request stored) (vary_names response)
