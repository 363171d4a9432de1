-- What single words spell: numbers, objects and bodies.
use Rattle.std.specs.Prelude.{ℕ, ◌+◌, ◌-◌, ◌*◌, ◌/◌, ◌^◌, ◌==◌, nat_le, nat_lt, Bool, not, ◌&&◌, ◌||◌, if◌then◌else◌, List, [], ◌∷◌, length, take, drop, position, replicate, codes, slice_index, Option, Some, None, Result, Ok, Err}
use Rattle.std.specs.List.{list_all, starts_with}
use Rattle.std.specs.Prelude.{nat_eq}
use Rattle.hex.specs.Hex.{decode_sized}
use Rattle.hex.specs.declared.error.FromHexError.{FromHexError}
use Rattle.tape_base.specs.declared.keys.Key.{Key}
use Rattle.tape_base.specs.Key.{key_of_bytes, key_of_url}
use Rattle.script_grammar.specs.declared.line.BadKind.TheVariants as kind
use Rattle.script_grammar.specs.declared.line.BadLine.{BadLine}
use Rattle.script_grammar.specs.Words.{WordAt, bad, ◌>>=◌}

-- ---- numbers

-- `0` to `9`
abbrev pub is_digit : ℕ → Bool
is_digit byte = nat_le 48 byte && nat_le byte 57

-- the number that decimal digits write behind those of n
abbrev pub value_after : ℕ → List ℕ → ℕ
value_after n [] = n
value_after n (digit ∷ digits) = value_after (10 * n + (digit - 48)) digits

-- the number that decimal digits write: 0 where there are none
abbrev pub value_of : List ℕ → ℕ
value_of digits = value_after 0 digits

-- digits alone, without a zero before others
abbrev pub is_number_word : List ℕ → Bool
is_number_word bytes = list_all is_digit bytes && (length bytes == 1 || not (slice_index bytes 0 == 48))

-- the number of one or more digits, if it is below 2^64
abbrev pub number_of_digits : List ℕ → Option ℕ
number_of_digits digits = if nat_lt 0 (length digits) && nat_lt (value_of digits) (2 ^ 64) then Some (value_of digits) else None

-- the number that a word spells
unfoldable pub number_of_word : List ℕ → Option ℕ
number_of_word bytes = if is_number_word bytes then number_of_digits bytes else None

-- a number below a limit
abbrev pub below : ℕ → WordAt → Option ℕ → Result ℕ BadLine
below limit w (Some n) = if nat_lt n limit then Ok n else Err (bad w.column kind.Number)
below limit w None = Err (bad w.column kind.Number)

-- a word as a number below a limit; any other is a `number` fault at its column
unfoldable pub number_below : ℕ → WordAt → Result ℕ BadLine
number_below limit w = below limit w (number_of_word w.bytes)

-- a number from 1 on
unfoldable pub count_below : ℕ → WordAt → Result ℕ BadLine
count_below limit w = do
  n ← number_below limit w
  if n == 0 then Err (bad w.column kind.Number) else Ok n

-- ---- objects

-- `0` to `9` or `a` to `f`
abbrev pub is_lower_hex : ℕ → Bool
is_lower_hex byte = is_digit byte || (nat_le 97 byte && nat_le byte 102)

-- `key:` and 32 lower-case hex digits
abbrev pub is_key_word : List ℕ → Bool
is_key_word bytes = length bytes == 36 && starts_with nat_eq bytes (codes "key:") && list_all is_lower_hex (drop 4 bytes)

-- the 16 bytes are the key itself, and no digest is taken
abbrev pub key_by : Result (List ℕ) FromHexError → Option Key
key_by (Ok bytes) = Some (key_of_bytes bytes)
key_by (Err fault) = None

-- the key behind `key:`; any other word spells none
unfoldable pub key_in : List ℕ → Option Key
key_in bytes = if is_key_word bytes then key_by (decode_sized (drop 4 bytes) 16) else None

-- a word that spells no key is a URL of at most 4,096 bytes, with a key of its SHA-256 (FIPS 180-4)
abbrev pub object_by : WordAt → Option Key → Result Key BadLine
object_by w (Some key) = Ok key
object_by w None = if nat_le (length w.bytes) 4096 then Ok (key_of_url w.bytes) else Err (bad w.column kind.Word)

-- the key that a word spells, or that of the URL that it is
unfoldable pub object_of : WordAt → Result Key BadLine
object_of w = object_by w (key_in w.bytes)

-- ---- bodies

-- `*`, which parts a count from the byte that is repeated
abbrev pub is_star : ℕ → Bool
is_star byte = byte == 42

-- the bytes that the digits spell; an odd count or another byte among them is a `body` fault
abbrev pub by_hex : WordAt → Result (List ℕ) FromHexError → Result (List ℕ) BadLine
by_hex w (Ok bytes) = Ok bytes
by_hex w (Err fault) = Err (bad w.column kind.Body)

-- bytes in pairs of hex digits of either case
unfoldable pub hex_body : WordAt → Result (List ℕ) BadLine
hex_body w = by_hex w (decode_sized w.bytes (length w.bytes / 2))

-- the greatest count of a repeated byte
abbrev pub most_repeats : ℕ
most_repeats = 67108864

-- so often the one byte that the digits spell, or a `body` fault
abbrev pub repeat_by : WordAt → ℕ → Result (List ℕ) FromHexError → Result (List ℕ) BadLine
repeat_by w count (Ok bytes) = Ok (replicate count (slice_index bytes 0))
repeat_by w count (Err fault) = Err (bad w.column kind.Body)

-- the count is a number from 1 to `most_repeats`, and the digits spell one byte; else a `body` fault
abbrev pub repeat_times : WordAt → List ℕ → Option ℕ → Result (List ℕ) BadLine
repeat_times w digits (Some count) =
    if nat_le 1 count && nat_le count most_repeats then repeat_by w count (decode_sized digits 1) else Err (bad w.column kind.Body)
repeat_times w digits None = Err (bad w.column kind.Body)

-- a count, a star and the two hex digits of a byte
unfoldable pub repeated_body : WordAt → ℕ → Result (List ℕ) BadLine
repeated_body w star = repeat_times w (drop (star + 1) w.bytes) (number_of_word (take star w.bytes))

-- `-` alone, which stands for no bytes
abbrev pub is_dash : List ℕ → Bool
is_dash bytes = length bytes == 1 && slice_index bytes 0 == 45

-- a word with a star is a byte repeated, parted at the first star; any other is hex digits
abbrev pub body_by : WordAt → Option ℕ → Result (List ℕ) BadLine
body_by w (Some star) = repeated_body w star
body_by w None = hex_body w

-- `-` for no bytes, else a byte repeated, else hex digits
unfoldable pub body_of_word : WordAt → Result (List ℕ) BadLine
body_of_word w = if is_dash w.bytes then Ok [] else body_by w (position is_star w.bytes)

-- ---- actors

-- a letter, a digit or `-`
abbrev pub is_actor_byte : ℕ → Bool
is_actor_byte byte = is_digit byte || (nat_le 65 byte && nat_le byte 90) || (nat_le 97 byte && nat_le byte 122) || byte == 45

-- 1 to 32 of these name an actor
abbrev pub is_actor : List ℕ → Bool
is_actor bytes = nat_le 1 (length bytes) && nat_le (length bytes) 32 && list_all is_actor_byte bytes

-- a word as an actor's name, as it stands: case counts
unfoldable pub actor_of_word : WordAt → Result (List ℕ) BadLine
actor_of_word w = if is_actor w.bytes then Ok w.bytes else Err (bad w.column kind.Word)
