-- Linear forms, summed product by product.
use Rattle.std.proofs.Common.{◌≡◌, ℕ, ◌+◌, ◌*◌, ◌^◌, ◌%◌, ◌≤◌, ◌<◌, zero, suc, List, slice_index, take, drop, length}
use Rattle.std.proofs.Common.{refl, sym, ◌∙◌, ap, arith, length-take, length-drop}
use Rattle.std.proofs.lemmas.List.{get_or-take, get_or-drop}
use Rattle.std.proofs.lemmas.Nat.{mod_below}
use Rattle.hash_family.specs.Hash.{sum_below, coefficient, word, prime, hash}
use Rattle.hash_family.specs.Row.{IsRow, linear_form}
use Rattle.hash_family.specs.Stream.{AreOfSeed, drawn}

-- the sum of coefficient 0 and n products, and a bound on it
pub record SumUpTo (row words : List ℕ) (n sum : ℕ) : Type 0 where
  pub value : sum ≡ slice_index row 0 + sum_below (λ i. slice_index row (i + 1) * slice_index words i) n
  pub bound : sum ≤ 2 ^ 61 + n * 2 ^ 93

-- sums of equal terms are equal
sum_below-same : (f g : ℕ → ℕ) (n : ℕ) → ((i : ℕ) → i < n → f i ≡ g i) → sum_below f n ≡ sum_below g n
sum_below-same f g zero same = refl
sum_below-same f g (suc n) same =
    let before = sum_below-same f g n (λ i below. same i (omega arith)) in
    let last = same n (omega arith) in
    omega arith

-- the coefficients that are drawn through are those of one function after another
drawn-coefficient : (seed function i : ℕ) → drawn seed (12 * function + i) ≡ coefficient seed function i
unfolding drawn coefficient
drawn-coefficient seed function i =
    ap (λ (n : ℕ). (word seed n + 2 ^ 32 * word seed (n + 1)) % prime) (omega arith)

drawn-lt : (seed n : ℕ) → drawn seed n < prime
unfolding drawn
drawn-lt seed n = mod_below _ prime (omega arith)

-- the twelve coefficients of a function
pub record IsRowOf (seed function : ℕ) (row : List ℕ) : Type 0 where
  pub size : length row ≡ 12
  pub each : (i : ℕ) → i < 12 → slice_index row i ≡ coefficient seed function i

pub row_of : (seed function n : ℕ) (coefficients : List ℕ) → AreOfSeed seed coefficients → function < 254 → n ≡ 12
    → IsRowOf seed function (take n (drop (12 * function) coefficients))
row_of seed function n coefficients are below twelve = record {
  size = simp (length-take, length-drop) (omega (arith, are.size));
  each = λ i small. get_or-take n (drop (12 * function) coefficients) i 0 (omega arith)
      ∙ get_or-drop (12 * function) coefficients i 0 ∙ are.each (12 * function + i) (omega arith)
      ∙ drawn-coefficient seed function i;
}

pub is_row : {seed function : ℕ} {row : List ℕ} → IsRowOf seed function row → IsRow row
is_row {seed} {function} {row} of = record {
  size = of.size;
  below = λ i small. let value =
      of.each i small ∙ sym (drawn-coefficient seed function i) in omega
      (arith, value, drawn-lt seed (12 * function + i));
}

pub linear_form-hash : {seed function : ℕ} {row : List ℕ} (words : List ℕ) → IsRowOf seed function row
    → linear_form row words % prime ≡ hash seed function words
unfolding linear_form hash
linear_form-hash {seed} {function} {row} words of =
    let first = of.each 0 (omega arith) in
    let rest = sum_below-same (λ i. slice_index row (i + 1) * slice_index words i)
    (λ i. coefficient seed function (i + 1) * slice_index words i) 11
    (λ i small. ap (λ (a : ℕ). a * slice_index words i) (of.each (i + 1) (omega arith))) in
    ap (λ (n : ℕ). n % prime) (omega (arith, first, rest))

-- the form where the words are 0 that only long addresses have
pub linear_form-short : (row words : List ℕ)
    → slice_index words 2 ≡ 0 → slice_index words 3 ≡ 0 → slice_index words 4 ≡ 0
    → slice_index words 6 ≡ 0 → slice_index words 7 ≡ 0 → slice_index words 8 ≡ 0
    → linear_form row words
    ≡ slice_index row 0 + slice_index row 1 * slice_index words 0 + slice_index row 2 * slice_index words 1
    + slice_index row 6 * slice_index words 5 + slice_index row 10 * slice_index words 9
    + slice_index row 11 * slice_index words 10
unfolding linear_form
linear_form-short row words a b c d e f =
    let nothing : (n w : ℕ) → w ≡ 0 → n * w ≡ 0 = λ n w none. ap (λ (k : ℕ). n * k) none ∙ omega arith in
    omega (
      arith,
      nothing (slice_index row 3) (slice_index words 2) a,
      nothing (slice_index row 4) (slice_index words 3) b,
      nothing (slice_index row 5) (slice_index words 4) c,
      nothing (slice_index row 7) (slice_index words 6) d,
      nothing (slice_index row 8) (slice_index words 7) e,
      nothing (slice_index row 9) (slice_index words 8) f,
    )
