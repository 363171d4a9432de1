-- Objects, bodies and fields as they are written: each is a word, and is read as what it was.
use Rattle.std.proofs.Common.{◌≡◌, ℕ, zero, suc, ◌*◌, ◌/◌, ◌%◌, ◌<◌, ◌^◌, true, false, List, [], ◌∷◌, length, get_or, slice_index, None, Ok, refl, ap, ◌∙◌, arith}
use Rattle.std.specs.Prelude.{position}
use Rattle.std.specs.List.{list_all}
use Rattle.std.specs.Int.{bytes_low_first, byte_at}
use Rattle.std.specs.Fmt.{decimal}
use Rattle.std.proofs.lemmas.Bool.Decides.{nat_tests}
use Rattle.std.proofs.lemmas.List.Sums.{AllPass-from_list_all, position_or_len_is}
use Rattle.hex.specs.Hex.{encode_lower, encode_with, lower_digits, IsBytes}
use Rattle.hex.proofs.HexLemmas.{decode_sized-encode_lower, length-encode_with}
use Rattle.tape_base.specs.declared.keys.Key.{Key}
use Rattle.tape_base.specs.Key.{key_bytes}
use Rattle.script_grammar.specs.Words.{is_word_byte}
use Rattle.script_grammar.specs.Tokens.{is_digit, is_lower_hex, is_key_word, key_in, object_of, is_star, is_dash, hex_body, body_of_word}
use Rattle.script_lang.specs.Spelled.{IsKey, key_word, body_word}
use Rattle.script_lang.proofs.Joined.{IsWord, all_wider}
use Rattle.script_lang.proofs.Numbers.{all_digits-decimal}
use Rattle.std.proofs.lemmas.Fmt.{decimal_nonempty}

-- ---- numbers

digit_in_word : (b : ℕ) → is_digit b ≡ true → is_word_byte b ≡ true
digit_in_word b h = grind (arith, nat_tests)

pub decimal_is_word : (n : ℕ) → n < 2 ^ 64 → IsWord (decimal n)
decimal_is_word n h =
    let bytes = all_wider is_digit is_word_byte digit_in_word (decimal n) (all_digits-decimal n h) in
    let some = decimal_nonempty n h in
    grind (arith, nat_tests)

-- ---- hex digits

lower_digit : (d : ℕ) → d < 16 → is_lower_hex (slice_index lower_digits d) ≡ true
lower_digit d h = AllPass-from_list_all is_lower_hex lower_digits refl d 0 h

pub all_hex : (bytes : List ℕ) → IsBytes bytes → list_all is_lower_hex (encode_lower bytes) ≡ true
unfolding encode_with
all_hex [] h = refl
all_hex (b ∷ bytes) h =
    let fits : b < 256 = h 0 in
    let high = lower_digit (b / 16) (omega arith) in
    let low = lower_digit (b % 16) (omega arith) in
    let rest = all_hex bytes (λ i. h (suc i)) in
    rw (high, low, rest) refl

hex_in_word : (b : ℕ) → is_lower_hex b ≡ true → is_word_byte b ≡ true
hex_in_word b h = grind (arith, nat_tests)

hex_all_word : (bytes : List ℕ) → IsBytes bytes → list_all is_word_byte (encode_lower bytes) ≡ true
hex_all_word bytes h = all_wider is_lower_hex is_word_byte hex_in_word (encode_lower bytes) (all_hex bytes h)

-- ---- objects

byte_at-small : (i n : ℕ) → byte_at i n < 256
byte_at-small zero n = omega arith
byte_at-small (suc i) n = omega arith

low_bytes-small : (i k n : ℕ) → IsBytes (bytes_low_first i k n)
low_bytes-small i zero n j = omega arith
low_bytes-small i (suc k) n zero = byte_at-small i n
low_bytes-small i (suc k) n (suc j) = low_bytes-small (suc i) k n j

key_bytes-small : (key : Key) → IsBytes (key_bytes key)
unfolding key_bytes
key_bytes-small key = low_bytes-small 0 16 key.number

length-key_bytes : (key : Key) → length (key_bytes key) ≡ 16
unfolding key_bytes
length-key_bytes key = refl

pub key_word_is_word : (key : Key) → IsWord (key_word key)
key_word_is_word key = rw (hex_all_word (key_bytes key) (key_bytes-small key)) (grind (arith, nat_tests))

is_key_word-key_word : (key : Key) → is_key_word (key_word key) ≡ true
is_key_word-key_word key =
    let size : length (encode_lower (key_bytes key)) ≡ 32 = length-encode_with lower_digits (key_bytes key) ∙ ap (λ n. 2 * n) (length-key_bytes key) in
    rw (size, all_hex (key_bytes key) (key_bytes-small key)) refl

pub object_of-key_word : (column : ℕ) (key : Key) → IsKey key → object_of (record { column = column; bytes = key_word key }) ≡ Ok key
unfolding object_of key_in
object_of-key_word column key h =
    let decoded = decode_sized-encode_lower (key_bytes key) 16 (length-key_bytes key) (key_bytes-small key) in
    rw (is_key_word-key_word key, decoded, h) refl

-- ---- bodies

hex_is_no_star : (b : ℕ) → is_lower_hex b ≡ true → is_star b ≡ false
hex_is_no_star b h = grind (arith, nat_tests)

no_star : (bytes : List ℕ) → IsBytes bytes → position is_star (encode_lower bytes) ≡ None
no_star bytes h =
    let w = encode_lower bytes in
    let none = position_or_len_is is_star w (length w) 0 (omega arith) (λ k l. hex_is_no_star (get_or w k 0) (AllPass-from_list_all is_lower_hex w (all_hex bytes h) k 0 l)) (λ l. absurd (omega arith)) in
    grind (arith, nat_tests)

pub body_word_is_word : (body : List ℕ) → IsBytes body → IsWord (body_word body)
body_word_is_word [] h = refl
body_word_is_word (b ∷ bytes) h =
    let size = length-encode_with lower_digits (b ∷ bytes) in
    let all = hex_all_word (b ∷ bytes) h in
    grind (arith, nat_tests)

pub body_of-body_word : (column : ℕ) (body : List ℕ) → IsBytes body
    → body_of_word (record { column = column; bytes = body_word body }) ≡ Ok body
unfolding body_of_word hex_body
body_of-body_word column [] h = refl
body_of-body_word column (b ∷ bytes) h =
    let w = encode_lower (b ∷ bytes) in
    let size : length w ≡ 2 * length (b ∷ bytes) = length-encode_with lower_digits (b ∷ bytes) in
    let plain : is_dash w ≡ false = grind (arith, nat_tests) in
    let decoded = decode_sized-encode_lower (b ∷ bytes) (length w / 2) (omega (arith, size)) h in
    rw (plain, no_star (b ∷ bytes) h, decoded) refl
