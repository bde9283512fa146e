-- Lemmas on hexadecimal numbers below 65536.
use Rattle.std.proofs.Common.{◌≡◌, ℕ, zero, suc, ◌/◌, ◌%◌, ◌^◌, ◌<◌, ◌≤◌, ◌==◌, Bool, true, false, cond, List, [], ◌∷◌, ◌++◌, length, refl, sym, ap, ◌∙◌, arith, append_assoc, length-append, ⊎_elim}
use Rattle.std.specs.Fmt.{digits, digits_onto, digit_glyph}
use Rattle.std.proofs.lemmas.Bool.{cases_lt}
use Rattle.std.proofs.lemmas.Fmt.{hex_one_digit}
use borrow.Author.Tests.{eq-eqb, ne_eqb}
use Rattle.flow_keys.specs.Text.{hexadecimal}

cond-append : (b : Bool) (xs ys zs acc : List ℕ) → ys ≡ zs ++ acc → cond b (xs ++ acc) ys ≡ cond b xs zs ++ acc
cond-append true xs ys zs acc e = refl
cond-append false xs ys zs acc e = e

cond-else : (b : Bool) (xs ys zs : List ℕ) → ys ≡ zs → cond b xs ys ≡ cond b xs zs
cond-else true xs ys zs e = refl
cond-else false xs ys zs e = e

cond-true : (b : Bool) (xs ys : List ℕ) → b ≡ true → cond b xs ys ≡ xs
cond-true true xs ys e = refl
cond-true false xs ys e = cc

cond-false : (b : Bool) (xs ys : List ℕ) → b ≡ false → cond b xs ys ≡ ys
cond-false true xs ys e = cc
cond-false false xs ys e = refl

-- digits before others
onto : (k n : ℕ) (acc : List ℕ) → digits_onto k 16 false n acc ≡ digits_onto k 16 false n [] ++ acc
onto zero n acc = refl
onto (suc k) n acc =
    let last = digit_glyph false (n % 16) ∷ [] in
    cond-append (n / 16 == 0) last _ _ acc
    (onto k (n / 16) (digit_glyph false (n % 16) ∷ acc) ∙ sym (append_assoc _ last acc)
    ∙ ap (λ x. x ++ acc) (sym (onto k (n / 16) last)))

-- more places than a number wants
enough : (k n : ℕ) (acc : List ℕ) → n < 16 ^ suc k
    → digits_onto (suc k) 16 false n acc ≡ digits_onto (suc (suc k)) 16 false n acc
enough zero n acc small =
    let one : (n / 16 == 0) ≡ true = eq-eqb (n / 16) 0 (omega arith) in
    cond-true (n / 16 == 0) _ _ one ∙ sym (cond-true (n / 16 == 0) _ _ one)
enough (suc k) n acc small =
    cond-else (n / 16 == 0) _ _ _ (enough k (n / 16) (digit_glyph false (n % 16) ∷ acc) (omega arith))

first_digit : (k n : ℕ) (acc : List ℕ) → 16 ≤ n
    → digits_onto (suc k) 16 false n acc ≡ digits_onto k 16 false (n / 16) (digit_glyph false (n % 16) ∷ acc)
first_digit k n acc large = cond-false (n / 16 == 0) _ _ (ne_eqb (n / 16) 0 (omega arith))

-- a number below 16 is its digit
pub hexadecimal_digit : (n : ℕ) → n < 16 → hexadecimal n ≡ digit_glyph false n ∷ []
hexadecimal_digit n small = hex_one_digit false n small

-- the last digit stands behind the number without it
pub hexadecimal_step : (n : ℕ) → 16 ≤ n → n < 65536
    → hexadecimal n ≡ hexadecimal (n / 16) ++ (digit_glyph false (n % 16) ∷ [])
unfolding digits
hexadecimal_step n large small =
    let last = digit_glyph false (n % 16) ∷ [] in
    first_digit 63 n [] large ∙ enough 62 (n / 16) last (omega arith) ∙ onto 64 (n / 16) last

length_le : (k n : ℕ) → n < 16 ^ suc k → n < 65536 → length (hexadecimal n) ≤ suc k
length_le zero n few small = omega (arith, ap length (hexadecimal_digit n (omega arith)))
length_le (suc k) n few small = ⊎_elim
    (λ one. omega (arith, ap length (hexadecimal_digit n one)))
    (λ more. let whole =
    ap length (hexadecimal_step n more small) in omega
    (arith, simp length-append at whole, length_le k (n / 16) (omega arith) (omega arith)))
    (cases_lt n 16)

-- at most four digits
pub length_hexadecimal : (n : ℕ) → n < 65536 → length (hexadecimal n) ≤ 4
length_hexadecimal n small = length_le 3 n (omega arith) small
