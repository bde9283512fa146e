-- Numbers of 1 to 20 digits.
use Rattle.std.proofs.Common.{◌≡◌, ℕ, ◌^◌, ◌<◌, List, length, true, Result, Ok, Err, nat_lt, arith, rules}
use Rattle.std.proofs.lemmas.Bool.Decides.{nat_tests}
use Rattle.std.proofs.lemmas.Str.Parse.{IsNumeralModel, numerals_by_value, parse_digits}
use Rattle.std.specs.Char.{is_ascii_digit}
use Rattle.std.specs.List.{list_all}
use Rattle.std.specs.Result.{result_ok, OkIff}
use Rattle.std.specs.Str.Parse.{ParsesUnsigned, digits_value}
use Rattle.mon_words.specs.Options.{is_numeral, number_if}

pub own : IsNumeralModel (λ digits. list_all is_ascii_digit digits ≡ true) (digits_value 10)
own = numerals_by_value _ (search rules)

by_result : {E : Type 0} (value : List ℕ) (result : Result ℕ E) → is_numeral value ≡ true
    → OkIff result ((0 < length value) × (digits_value 10 value < 2 ^ 64)) (digits_value 10 value)
    → result_ok result ≡ number_if (λ number. nat_lt number (2 ^ 64)) value
by_result value (Ok number) numeral gives = grind (arith, nat_tests)
by_result value (Err fault) numeral gives = grind (arith, nat_tests)

-- what `parse` reads of digits
pub read_number : {E : Type 0} (value : List ℕ) (result : Result ℕ E) → is_numeral value ≡ true
    → ParsesUnsigned 64 10 value result → result_ok result ≡ number_if (λ number. nat_lt number (2 ^ 64)) value
read_number value result numeral parses =
    let digits : list_all is_ascii_digit value ≡ true = grind (arith, nat_tests) in
    by_result value result numeral (parse_digits own 64 value result parses digits)
