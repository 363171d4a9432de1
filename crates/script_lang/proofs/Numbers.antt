-- What the standard library's parse says of digits.
use Rattle.std.proofs.Common.{◌≡◌, ℕ, zero, suc, ◌<◌, ◌^◌, Bool, true, List, length, nat_lt, get_or, Some, None, Result, Ok, Err, refl, arith, rules}
use Rattle.std.specs.Fmt.{decimal}
use Rattle.std.proofs.lemmas.Fmt.{decimal_digit, decimal_nonempty, digits_decimal, digits_value-decimal, first_decimal}
use Rattle.std.specs.Prelude.{◌&&◌, if◌then◌else◌}
use Rattle.std.specs.List.{list_all}
use Rattle.std.specs.Result.{OkIff, result_ok}
use Rattle.std.specs.Str.Parse.{ParsesUnsigned}
use Rattle.std.proofs.lemmas.Str.Parse.{IsNumeralModel, numerals_by_fold, parse_digits}
use Rattle.std.proofs.lemmas.Bool.Decides.{nat_tests}
use Rattle.std.proofs.lemmas.Grind.{common_steps}
use Rattle.std.specs.Str.{IsUtf8}
use Rattle.std.proofs.lemmas.Str.{IsUtf8-from_ascii}
use Rattle.std.proofs.lemmas.Fmt.{IsAscii-from_digits}
use Rattle.script_grammar.specs.Tokens.{is_digit, value_after, value_of, number_of_digits, is_number_word, number_of_word, number_below}

own : IsNumeralModel (λ digits. list_all is_digit digits ≡ true) (value_after 0)
own = numerals_by_fold _ (search rules) value_after (search rules)

ok_by_tests : {E : Type 0} (r : Result ℕ E) (n v : ℕ) → OkIff r ((0 < n) × (v < 2 ^ 64)) v → result_ok r ≡ (if nat_lt 0 n && nat_lt v (2 ^ 64) then Some v else None)
ok_by_tests (Ok x) n v h = grind (arith, nat_tests)
ok_by_tests (Err e) n v h = grind (arith, nat_tests)

pub parse-number_of : {E : Type 0} (digits : List ℕ) (r : Result ℕ E) → ParsesUnsigned 64 10 digits r → list_all is_digit digits ≡ true → result_ok r ≡ number_of_digits digits
parse-number_of digits r h p = ok_by_tests r (length digits) (value_of digits) (parse_digits own 64 digits r h p)

left_of_and : (a b : Bool) → (a && b) ≡ true → a ≡ true
left_of_and a b h = grind (arith, common_steps)

pub IsUtf8-number : (bytes : List ℕ) → is_number_word bytes ≡ true → IsUtf8 bytes
IsUtf8-number bytes h = IsUtf8-from_ascii bytes (IsAscii-from_digits bytes (own.to bytes (left_of_and _ _ h)))

-- ---- a number as it is written

is_number-decimal : (n : ℕ) → n < 2 ^ 64 → is_number_word (decimal n) ≡ true
is_number-decimal zero h = rw (decimal_digit zero (omega arith)) refl
is_number-decimal (suc n) h =
    let digits : list_all is_digit (decimal (suc n)) ≡ true = digits_decimal own (suc n) h in
    let first : 48 < get_or (decimal (suc n)) 0 0 = first_decimal (suc n) (omega arith) h in
    grind (arith, nat_tests)

pub number_in-decimal : (n : ℕ) → n < 2 ^ 64 → number_of_word (decimal n) ≡ Some n
unfolding number_of_word
number_in-decimal n h =
    let number = is_number-decimal n h in
    let value : value_of (decimal n) ≡ n = digits_value-decimal own n h in
    let some : 0 < length (decimal n) = decimal_nonempty n h in
    rw (number, value) (grind (arith, nat_tests))

pub number_below-decimal : (limit column n : ℕ) → n < limit → n < 2 ^ 64 → number_below limit (record { column = column; bytes = decimal n }) ≡ Ok n
unfolding number_below
number_below-decimal limit column n h k = rw (number_in-decimal n k) (grind (arith, nat_tests))

pub all_digits-decimal : (n : ℕ) → n < 2 ^ 64 → list_all is_digit (decimal n) ≡ true
all_digits-decimal n h = digits_decimal own n h
