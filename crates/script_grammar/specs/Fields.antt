-- What the field words of a line spell: `>name:value` of a request, `<name:value` of a response.
use Rattle.std.specs.Prelude.{ℕ, ◌+◌, ◌==◌, Bool, true, false, not, ◌&&◌, ◌||◌, if◌then◌else◌, List, [], ◌∷◌, take, drop, position, slice_index, Option, Some, None, is_some, Result, Ok, Err}
use Rattle.hex.specs.Hex.{is_hex_digit}
use Rattle.percent_encoding.specs.Percent.{percent_decode}
use Rattle.alternate_vector.specs.Field.{Field, field_refusal, made_field, with_field}
use Rattle.script_grammar.specs.declared.line.BadKind.TheVariants as kind
use Rattle.script_grammar.specs.declared.line.BadLine.{BadLine}
use Rattle.script_grammar.specs.declared.sides.FieldKinds.{FieldKinds}
use Rattle.script_grammar.specs.declared.sides.FieldKinds.TheVariants.{Request, Both}
use Rattle.script_grammar.specs.declared.sides.Sides.{Sides}
use Rattle.script_grammar.specs.Words.{WordAt, bad, is_word, ◌>>=◌}

-- ---- values

-- two hex digits of either case stand first
abbrev pub begins_with_digits : List ℕ → Bool
begins_with_digits (high ∷ low ∷ rest) = is_hex_digit high && is_hex_digit low
begins_with_digits _ = false

-- behind each `%` stand two hex digits
abbrev pub is_escaped : List ℕ → Bool
is_escaped [] = true
is_escaped (byte ∷ bytes) = (not (byte == 37) || begins_with_digits bytes) && is_escaped bytes

-- the bytes that a text stands for, in which `%` and two hex digits are one byte
abbrev pub unescaped : List ℕ → Option (List ℕ)
unescaped text = if is_escaped text then Some (percent_decode text) else None

-- ---- one field

-- `:`, of which the first ends the name
abbrev pub is_colon : ℕ → Bool
is_colon byte = byte == 58

-- a name and a text on either side of a place, whose byte belongs to neither
abbrev pub parted_at : List ℕ → Option ℕ → Option (List ℕ × List ℕ)
parted_at text None = None
parted_at text (Some at) = Some (take at text, drop (at + 1) text)

-- parted at the first colon; none where there is none
abbrev pub parted : List ℕ → Option (List ℕ × List ℕ)
parted text = parted_at text (position is_colon text)

-- the fields with one more, where it may stand among them (RFC 9110, section 5)
abbrev pub with_line : List Field → WordAt → List ℕ → Option (List ℕ) → Result (List Field) BadLine
with_line fields w name None = Err (bad w.column kind.Field)
with_line fields w name (Some value) =
    if is_some (field_refusal fields name value) then Err (bad w.column kind.Field) else Ok (with_field fields (made_field name value))

-- a word without a colon is no field; the text behind it is unescaped, and the name is not
abbrev pub with_parts : List Field → WordAt → Option (List ℕ × List ℕ) → Result (List Field) BadLine
with_parts fields w None = Err (bad w.column kind.Field)
with_parts fields w (Some parts) = with_line fields w parts.0 (unescaped parts.1)

-- the fields with the one that stands behind the first byte of a word
unfoldable pub with_word : List Field → WordAt → Result (List Field) BadLine
with_word fields w = with_parts fields w (parted (drop 1 w.bytes))

-- ---- the fields of a line

-- the word, which is not empty, begins with `>`
abbrev pub is_request : WordAt → Bool
is_request w = slice_index w.bytes 0 == 62

-- the word begins with `<`
abbrev pub is_response : WordAt → Bool
is_response w = slice_index w.bytes 0 == 60

-- whether a step takes lines of a response: those that store do, lookups do not
abbrev pub takes_response : FieldKinds → Bool
takes_response Request = false
takes_response Both = true

-- the request's lines made anew, and the response's as they were; a fault stays the fault
abbrev pub with_request : Sides → Result (List Field) BadLine → Result Sides BadLine
with_request sides (Ok fields) = Ok (record sides { request = fields })
with_request sides (Err fault) = Err fault

-- the response's lines made anew, and the request's as they were; a fault stays the fault
abbrev pub with_response : Sides → Result (List Field) BadLine → Result Sides BadLine
with_response sides (Ok fields) = Ok (record sides { response = fields })
with_response sides (Err fault) = Err fault

-- the fields of a line with the one that a word spells
abbrev pub with_field_of : FieldKinds → Sides → WordAt → Result Sides BadLine
with_field_of kinds sides w =
    if is_request w then with_request sides (with_word sides.request w)
    else if is_response w && takes_response kinds then with_response sides (with_word sides.response w)
    else Err (bad w.column kind.Field)

-- the fields of a line with those that its last words spell, each of which has to be one
abbrev pub fields_after : FieldKinds → Sides → List WordAt → Result Sides BadLine
fields_after kinds sides [] = Ok sides
fields_after kinds sides (w ∷ words) =
    (if is_word w.bytes then with_field_of kinds sides w else Err (bad w.column kind.Word)) >>= (λ more. fields_after kinds more words)

-- before the first field word of a line
abbrev pub no_fields : Sides
no_fields = record { request = []; response = [] }
