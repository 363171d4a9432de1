-- Fields as they are written: each is a word, and those of a line are read as what they were.
use Rattle.std.proofs.Common.{◌≡◌, ℕ, suc, ◌+◌, ◌/◌, ◌%◌, ◌<◌, true, false, not, List, [], ◌∷◌, ◌++◌, length, take, drop, get_or, Some, None, Ok, refl, sym, ap, ◌∙◌, append_assoc, append-nil, inl, inr, length-append, arith}
use Rattle.std.specs.Prelude.{◌≢◌, ◌==◌, ◌&&◌, map, position}
use Rattle.std.specs.List.{AllByRecursion, list_all, position_or_len}
use Rattle.std.specs.Fmt.{digit_glyph}
use Rattle.std.proofs.lemmas.Bool.{and_parts, cases_Bool, cond_both}
use Rattle.std.proofs.lemmas.Bool.Decides.{nat_tests}
use Rattle.std.proofs.lemmas.Grind.{common_steps}
use Rattle.std.proofs.lemmas.List.Sums.{AllPass-from_list_all, position_or_len_is}
use Rattle.http_header.specs.Token.{is_token_byte}
use Rattle.http_header.proofs.TokenLemmas.{token_byte_range}
use Rattle.hex.specs.Hex.{IsBytes, is_hex_digit}
use Rattle.percent_encoding.specs.Percent.{percent_decode, percent_encode_byte}
use Rattle.percent_encoding.proofs.PercentLemmas.{percent_decode-nil, percent_decode_not_percent, percent_decode-percent_encode_byte}
use Rattle.alternate_vector.specs.Field.{Field, IsKept, IsRising, is_above, field_refusal, made_field, with_field}
use Rattle.script_grammar.specs.declared.sides.FieldKinds.{FieldKinds}
use Rattle.script_grammar.specs.declared.sides.FieldKinds.TheVariants.{Both}
use Rattle.script_grammar.specs.declared.sides.Sides.{Sides}
use Rattle.script_grammar.specs.Words.{is_word_byte, located}
use Rattle.script_grammar.specs.Fields.{is_escaped, unescaped, is_colon, parted, with_word, fields_after, no_fields}
use Rattle.script_lang.specs.Spelled.{HasBytes, HoldsFields, field_word, request_words, response_words, written_byte, written_value}
use Rattle.script_lang.proofs.Joined.{IsWord, all_wider}
use Rattle.cache_model.proofs.Steps.{all_append}

-- ---- values

glyph_is_hex : (d : ℕ) → d < 16 → is_hex_digit (digit_glyph true d) ≡ true
glyph_is_hex d small = grind (arith, nat_tests)

glyph_in_word : (d : ℕ) → d < 16 → is_word_byte (digit_glyph true d) ≡ true
glyph_in_word d small = grind (arith, nat_tests)

glyph_is_no_sign : (d : ℕ) → d < 16 → (digit_glyph true d == 37) ≡ false
glyph_is_no_sign d small = grind (arith, nat_tests)

escape_is_escaped : (b : ℕ) (rest : List ℕ) → is_escaped (percent_encode_byte b ++ rest) ≡ is_escaped rest
unfolding percent_encode_byte
escape_is_escaped b rest =
    let high : b / 16 % 16 < 16 = omega arith in
    let low : b % 16 < 16 = omega arith in
    rw (glyph_is_hex _ high, glyph_is_hex _ low, glyph_is_no_sign _ high, glyph_is_no_sign _ low) refl

escape_in_word : (b : ℕ) → list_all is_word_byte (percent_encode_byte b) ≡ true
unfolding percent_encode_byte
escape_in_word b =
    let high : b / 16 % 16 < 16 = omega arith in
    let low : b % 16 < 16 = omega arith in
    rw (glyph_in_word _ high, glyph_in_word _ low) refl

byte_is_escaped : (b : ℕ) (rest : List ℕ) → is_escaped (written_byte b ++ rest) ≡ is_escaped rest
byte_is_escaped b rest =
    cond_both (is_word_byte b && not (b == 37)) (b ∷ []) (percent_encode_byte b) (λ w. is_escaped (w ++ rest) ≡ is_escaped rest)
    (λ plain. rw ((and_parts (is_word_byte b) (not (b == 37)) plain).1) refl) (λ _. escape_is_escaped b rest)

plain_is_no_sign : (b : ℕ) → not (b == 37) ≡ true → b ≢ 37
plain_is_no_sign b h = grind (arith, nat_tests)

byte_is_decoded : (b : ℕ) (rest : List ℕ) → b < 256 → percent_decode (written_byte b ++ rest) ≡ b ∷ percent_decode rest
byte_is_decoded b rest small =
    cond_both (is_word_byte b && not (b == 37)) (b ∷ []) (percent_encode_byte b) (λ w. percent_decode (w ++ rest) ≡ b ∷ percent_decode rest)
    (λ plain. percent_decode_not_percent b rest (plain_is_no_sign b (and_parts (is_word_byte b) (not (b == 37)) plain).1)) (λ _. percent_decode-percent_encode_byte b rest small)

byte_in_word : (b : ℕ) → list_all is_word_byte (written_byte b) ≡ true
byte_in_word b =
    cond_both (is_word_byte b && not (b == 37)) (b ∷ []) (percent_encode_byte b) (λ w. list_all is_word_byte w ≡ true)
    (λ plain. rw ((and_parts (is_word_byte b) (not (b == 37)) plain).0) refl) (λ _. escape_in_word b)

value_is_escaped : (value : List ℕ) → is_escaped (written_value value) ≡ true
value_is_escaped [] = refl
value_is_escaped (b ∷ value) = byte_is_escaped b (written_value value) ∙ value_is_escaped value

value_is_decoded : (value : List ℕ) → IsBytes value → percent_decode (written_value value) ≡ value
value_is_decoded [] h = percent_decode-nil
value_is_decoded (b ∷ value) h = byte_is_decoded b (written_value value) (h 0) ∙ ap (λ (v : List ℕ). b ∷ v) (value_is_decoded value (λ i. h (suc i)))

value_in_word : (value : List ℕ) → list_all is_word_byte (written_value value) ≡ true
value_in_word [] = refl
value_in_word (b ∷ value) =
    let first = byte_in_word b in
    let rest = value_in_word value in
    grind (arith, common_steps)

unescaped-written : (value : List ℕ) → IsBytes value → unescaped (written_value value) ≡ Some value
unescaped-written value h = rw (value_is_escaped value, value_is_decoded value h) refl

-- ---- names

token_in_word : (b : ℕ) → is_token_byte b ≡ true → is_word_byte b ≡ true
token_in_word b h = let range = token_byte_range b h in grind (arith, nat_tests)

colon_is_no_token : is_token_byte 58 ≡ false
unfolding is_token_byte
colon_is_no_token = refl

token_is_no_colon : (b : ℕ) → is_token_byte b ≡ true → is_colon b ≡ false
token_is_no_colon b h =
    elim (cases_Bool (is_colon b)) [
      | inl colon ↦ let e : b ≡ 58 = grind (arith, nat_tests) in cc (e, h, colon_is_no_token)
      | inr other ↦ other
    ]

behind_name : (name text : List ℕ) (c : ℕ) → drop (length name + 1) (name ++ (c ∷ text)) ≡ text
behind_name [] text c = refl
behind_name (x ∷ name) text c =
    let e : length (x ∷ name) + 1 ≡ suc (length name + 1) = omega arith in
    ap (λ n. drop n (x ∷ (name ++ (c ∷ text)))) e ∙ behind_name name text c

-- a name and a text are parted at the colon between them
parted_at_colon : (name text : List ℕ) → list_all is_token_byte name ≡ true → parted (name ++ (58 ∷ text)) ≡ Some (name, text)
parted_at_colon name text h =
    let w = name ++ (58 ∷ text) in
    let before : (k : ℕ) → k < length name → is_colon (get_or w k 0) ≡ false =
    λ k l. let c = token_is_no_colon (get_or name k 0) (AllPass-from_list_all is_token_byte name h k 0 l) in grind (arith, common_steps) in
    let at : position_or_len is_colon w ≡ length name = position_or_len_is is_colon w (length name) 0 (grind (arith, common_steps)) before (λ _. grind (arith, common_steps)) in
    let found : position is_colon w ≡ Some (length name) = grind (arith, common_steps) in
    let front : take (length name) w ≡ name = grind (arith, common_steps) in
    let behind : drop (length name + 1) w ≡ text = behind_name name text 58 in
    rw (found, front, behind) refl

-- ---- one field

pub field_word_is_word : (sign : ℕ) (field : Field) → is_word_byte sign ≡ true → IsKept field → IsWord (field_word sign field)
field_word_is_word sign field s kept =
    let token = (and_parts _ (list_all is_token_byte field.name) kept.name).1 in
    let name = all_wider is_token_byte is_word_byte token_in_word field.name token in
    let value = value_in_word field.value in
    grind (arith, common_steps)

-- a field that is not below the others goes behind them
placed_last : (before : List Field) (field : Field) → AllByRecursion (λ other. is_above other.name field.name ≡ false) before → with_field before field ≡ before ++ field ∷ []
placed_last [] field h = refl
placed_last (x ∷ xs) field h = rw h.0 (ap (λ (fs : List Field). x ∷ fs) (placed_last xs field h.1))

within : (P : Field → Type 0) (before : List Field) (field : Field) (behind : List Field) → AllByRecursion P (before ++ field ∷ behind) → P field
within P [] field behind h = h.0
within P (x ∷ xs) field behind h = within P xs field behind h.1

none_above : (before : List Field) (field : Field) (behind : List Field) → IsRising (before ++ field ∷ behind) → AllByRecursion (λ other. is_above other.name field.name ≡ false) before
none_above [] field behind h = tt
none_above (x ∷ xs) field behind h = (within (λ other. is_above x.name other.name ≡ false) xs field behind h.0, none_above xs field behind h.1)

pub with_word-field_word : (sign column : ℕ) (before : List Field) (field : Field) (behind : List Field) → HoldsFields (before ++ field ∷ behind)
    → with_word before (record { column = column; bytes = field_word sign field }) ≡ Ok (before ++ field ∷ [])
unfolding with_word
with_word-field_word sign column before field behind h =
    let kept = within IsKept before field behind h.are.each in
    let token = (and_parts _ (list_all is_token_byte field.name) kept.name).1 in
    let parts = parted_at_colon field.name (written_value field.value) token in
    let value = unescaped-written field.value (within HasBytes before field behind h.bytes) in
    let few : length before < 128 = omega (arith, h.are.few, length-append before (field ∷ behind)) in
    let free : field_refusal before field.name field.value ≡ None = rw (kept.name, kept.value) (grind (arith, nat_tests)) in
    let made : made_field field.name field.value ≡ field = ap (λ (name : List ℕ). let f : Field = record { name = name; value = field.value } in f) kept.lower in
    rw (parts, value, free, made) (ap (λ (fs : List Field). Ok fs) (placed_last before field (none_above before field behind h.are.rising)))

-- ---- the fields of a line

abbrev pub sides_of : List Field → List Field → Sides
sides_of request response = record { request = request; response = response }

together : (before : List Field) (field : Field) (behind : List Field) → (before ++ field ∷ []) ++ behind ≡ before ++ field ∷ behind
together before field behind = append_assoc before (field ∷ []) behind

-- the fields of a request are read as they were, and the words behind them are left
requests_read : (kinds : FieldKinds) (column : ℕ) (before fields response : List Field) (words : List (List ℕ)) → HoldsFields (before ++ fields)
    → (next : ℕ) × (fields_after kinds (sides_of before response) (located column (request_words fields ++ words)) ≡ fields_after kinds (sides_of (before ++ fields) response) (located next words))
requests_read kinds column before [] response words h = (column, rw (append-nil before) refl)
requests_read kinds column before (f ∷ fields) response words h =
    let word = field_word_is_word 62 f refl (within IsKept before f fields h.are.each) in
    let first = with_word-field_word 62 column before f fields h in
    let rest = requests_read kinds (column + length (field_word 62 f) + 1) (before ++ f ∷ []) fields response words (rw (together before f fields) h) in
    (rest.0, rw (word, first) (rest.1 ∙ ap (λ (fs : List Field). fields_after kinds (sides_of fs response) (located rest.0 words)) (together before f fields)))

-- and so are those of a response, where the line takes them
responses_read : (column : ℕ) (request before fields : List Field) → HoldsFields (before ++ fields)
    → fields_after Both (sides_of request before) (located column (response_words fields)) ≡ Ok (sides_of request (before ++ fields))
responses_read column request before [] h = rw (append-nil before) refl
responses_read column request before (f ∷ fields) h =
    let word = field_word_is_word 60 f refl (within IsKept before f fields h.are.each) in
    let first = with_word-field_word 60 column before f fields h in
    let rest = responses_read (column + length (field_word 60 f) + 1) request (before ++ f ∷ []) fields (rw (together before f fields) h) in
    rw (word, first) (rest ∙ ap (λ (fs : List Field). Ok (sides_of request fs)) (together before f fields))

pub request_read : (kinds : FieldKinds) (column : ℕ) (request : List Field) → HoldsFields request
    → fields_after kinds no_fields (located column (request_words request)) ≡ Ok (sides_of request [])
request_read kinds column request h =
    let all = requests_read kinds column [] request [] [] h in
    ap (λ ws. fields_after kinds no_fields (located column ws)) (sym (append-nil (request_words request))) ∙ all.1

pub both_read : (column : ℕ) (request response : List Field) → HoldsFields request → HoldsFields response
    → fields_after Both no_fields (located column (request_words request ++ response_words response)) ≡ Ok (sides_of request response)
both_read column request response h k =
    let first = requests_read Both column [] request [] (response_words response) h in
    first.1 ∙ responses_read first.0 request [] response k

-- each is a word
each_word : (sign : ℕ) → is_word_byte sign ≡ true → (fields : List Field) → AllByRecursion IsKept fields → AllByRecursion IsWord (map (field_word sign) fields)
each_word sign s [] h = tt
each_word sign s (f ∷ fields) h = (field_word_is_word sign f s h.0, each_word sign s fields h.1)

pub request_words_are : (request : List Field) → HoldsFields request → AllByRecursion IsWord (request_words request)
request_words_are request h = each_word 62 refl request h.are.each

pub both_words_are : (request response : List Field) → HoldsFields request → HoldsFields response → AllByRecursion IsWord (request_words request ++ response_words response)
both_words_are request response h k = all_append IsWord (request_words request) (response_words response) (request_words_are request h) (each_word 60 refl response k.are.each)
