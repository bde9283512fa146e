-- The eight digits of a magic number.
use Rattle.std.proofs.Common.{◌≡◌, ◌<◌, ◌^◌, ◌/◌, ◌%◌, ℕ, false, List, [], ◌∷◌, ◌++◌, length, ◌∙◌, ap, arith}
use Rattle.std.specs.Char.{digit_value}
use Rattle.std.specs.Fmt.{digit_glyph}
use Rattle.std.specs.Str.Parse.{digits_value}
use Rattle.std.proofs.lemmas.Bool.Decides.{nat_tests}
use Rattle.std.proofs.lemmas.Fmt.{hex_one_digit}
use Rattle.mon_command.specs.Status.{eight_digits, nibble}

abbrev glyph : ℕ → ℕ
glyph d = digit_glyph false d

-- the value of a digit
glyph_value : (d : ℕ) → d < 16 → digit_value (glyph d) ≡ d
glyph_value d small = grind (arith, nat_tests)

-- a number by its eight digits
abbrev digit_of : ℕ → ℕ → ℕ
digit_of number k = number / k % 16

row : ℕ → List ℕ
row number =
    glyph (number / 268435456) ∷ glyph (number / 16777216 % 16) ∷ glyph (number / 1048576 % 16)
    ∷ glyph (number / 65536 % 16) ∷ glyph (number / 4096 % 16) ∷ glyph (number / 256 % 16) ∷ glyph (number / 16 % 16)
    ∷ glyph (number % 16) ∷ []

digits_are : (number : ℕ) → number < 2 ^ 32 → eight_digits number ≡ row number
unfolding eight_digits row
digits_are number fits =
    let top : number / 268435456 < 16 = omega (arith, fits) in
    let one : (n : ℕ) → nibble (n % 16) ≡ glyph (n % 16) ∷ [] = λ n. hex_one_digit false (n % 16) (omega arith) in
    λ i. hex_one_digit false (number / 268435456) top i ++ (one (number / 16777216) i ++ (one (number / 1048576) i
    ++ (one (number / 65536) i ++ (one (number / 4096) i ++ (one (number / 256) i ++ (one (number / 16) i ++ one number i))))))

pub eight_are : (number : ℕ) → number < 2 ^ 32 → length (eight_digits number) ≡ 8
unfolding row
eight_are number fits = ap length (digits_are number fits)

pub they_write : (number : ℕ) → number < 2 ^ 32 → digits_value 16 (eight_digits number) ≡ number
unfolding row
they_write number fits =
    let top : number / 268435456 < 16 = omega (arith, fits) in
    let one : (n : ℕ) → digit_value (glyph (n % 16)) ≡ n % 16 = λ n. glyph_value (n % 16) (omega arith) in
    ap (digits_value 16) (digits_are number fits)
    ∙ omega (
      arith,
      fits,
      glyph_value (number / 268435456) top,
      one (number / 16777216),
      one (number / 1048576),
      one (number / 65536),
      one (number / 4096),
      one (number / 256),
      one (number / 16),
      one number,
    )
