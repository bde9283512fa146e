-- Sums over the numbers below n.
use Rattle.std.proofs.Common.{◌≡◌, ℕ, zero, suc, zero-mul, ◌+◌, ◌*◌, ◌≤◌, ◌<◌, Bool, true, false, cond, ◌==◌, List, [], ◌∷◌, length, slice_index, inl, inr, refl, sym, ◌∙◌, ap, arith}
use Rattle.std.specs.Prelude.{sum}
use Rattle.std.proofs.lemmas.Bool.{eq-eqb}
use Rattle.std.proofs.lemmas.Bool.Decides.{nat_tests}
use Rattle.bound_certificate.specs.Sums.{sum_below}
use Rattle.bound_certificate.proofs.Below.{below_or_last}
use Rattle.bound_certificate.proofs.Counted.{sum-cons}

-- sums of lesser terms are less, and those of equal terms are equal
pub sum_below-le : (f g : ℕ → ℕ) (n : ℕ) → ((i : ℕ) → i < n → f i ≤ g i) → sum_below f n ≤ sum_below g n
sum_below-le f g zero each = omega arith
sum_below-le f g (suc n) each =
    let before = sum_below-le f g n (λ i below. each i (omega arith)) in
    let last = each n (omega arith) in
    omega (arith, before, last)

pub sum_below-same : (f g : ℕ → ℕ) (n : ℕ) → ((i : ℕ) → i < n → f i ≡ g i) → sum_below f n ≡ sum_below g n
sum_below-same f g zero each = refl
sum_below-same f g (suc n) each =
    let before = sum_below-same f g n (λ i below. each i (omega arith)) in
    let last = each n (omega arith) in
    omega (arith, before, last)

-- a sum of sums
pub sum_below-plus : (f g : ℕ → ℕ) (n : ℕ) → sum_below (λ i. f i + g i) n ≡ sum_below f n + sum_below g n
sum_below-plus f g zero = omega arith
sum_below-plus f g (suc n) = omega (arith, sum_below-plus f g n)

pub sum_below-zero : (f : ℕ → ℕ) (n : ℕ) → ((i : ℕ) → i < n → f i ≡ 0) → sum_below f n ≡ 0
sum_below-zero f zero each = refl
sum_below-zero f (suc n) each =
    let before = sum_below-zero f n (λ i below. each i (omega arith)) in
    let last = each n (omega arith) in
    omega (arith, before, last)

-- a factor of each term is one of the sum
pub sum_below-times : (f : ℕ → ℕ) (k n : ℕ) → sum_below (λ i. f i * k) n ≡ sum_below f n * k
sum_below-times f k zero = sym (zero-mul k)
sum_below-times f k (suc n) = grind (arith, sum_below-times f k n)

-- a sum in two parts
pub sum_below-split : (f : ℕ → ℕ) (m n : ℕ) → sum_below f (m + n) ≡ sum_below f m + sum_below (λ j. f (m + j)) n
sum_below-split f m zero = let none : m + 0 ≡ m = omega arith in ap (sum_below f) none ∙ omega arith
sum_below-split f m (suc n) =
    let more : m + suc n ≡ suc (m + n) = omega arith in
    ap (sum_below f) more ∙ omega (arith, sum_below-split f m n)

-- the one term of a sum that is not 0
pub sum_below-pick : (f : ℕ → ℕ) (x m : ℕ) → x < m → sum_below (λ s. cond (x == s) (f s) 0) m ≡ f x
sum_below-pick f x zero below = absurd (omega arith)
sum_below-pick f x (suc m) below = elim (below_or_last x m below) [
  | inl lower ↦
      let before = sum_below-pick f x m lower in
      let differs : (x == m) ≡ false = grind (arith, nat_tests) in
      let last = ap (λ (b : Bool). cond {A = ℕ} b (f m) 0) differs in
      omega (arith, before, last)
  | inr same ↦
      let none = sum_below-zero (λ s. cond (x == s) (f s) 0) m (λ s small.
      let differs : (x == s) ≡ false = grind (arith, nat_tests) in
      ap (λ (b : Bool). cond {A = ℕ} b (f s) 0) differs) in
      let here : (x == m) ≡ true = eq-eqb x m same in
      let last = ap (λ (b : Bool). cond {A = ℕ} b (f m) 0) here in
      let value = ap f same in
      omega (arith, none, last, value)
]

-- a sum over i of a term at c i is one over the values of c, each with the terms that have it
pub sum_below-swap : (f : ℕ → ℕ → ℕ) (c : ℕ → ℕ) (m n : ℕ) → ((i : ℕ) → i < n → c i < m)
    → sum_below (λ i. f i (c i)) n ≡ sum_below (λ s. sum_below (λ i. cond (c i == s) (f i s) 0) n) m
sum_below-swap f c m zero known = sym (sum_below-zero (λ s. 0) m (λ i below. refl))
sum_below-swap f c m (suc n) known =
    let before = sum_below-swap f c m n (λ i below. known i (omega arith)) in
    let last = sum_below-pick (f n) (c n) m (known n (omega arith)) in
    let both = sum_below-plus (λ s. sum_below (λ i. cond (c i == s) (f i s) 0) n) (λ s. cond (c n == s) (f n s) 0) m in
    omega (arith, before, last, both)

-- the first term apart
pub sum_below-first : (f : ℕ → ℕ) (n : ℕ) → sum_below f (suc n) ≡ f 0 + sum_below (λ j. f (suc j)) n
sum_below-first f zero = omega arith
sum_below-first f (suc n) = omega (arith, sum_below-first f n)

-- the sum of a list
pub sum-index : (xs : List ℕ) → sum xs ≡ sum_below (λ i. slice_index xs i) (length xs)
sum-index [] = refl
sum-index (x ∷ xs) =
    sum-cons x xs ∙ ap (λ (rest : ℕ). x + rest) (sum-index xs)
    ∙ sym (sum_below-first (λ i. slice_index (x ∷ xs) i) (length xs))
