-- A sum over a list in parts, by a number of each element.
use Rattle.std.proofs.Common.{◌≡◌, ℕ, ◌+◌, ◌<◌, ◌≤◌, ◌==◌, zero, suc, Bool, true, false, cond, List, [], ◌∷◌, map, ℤ, pos, ◌+ℤ◌, refl, sym, ◌∙◌, ap, arith, inl, inr}
use Rattle.std.specs.List.{AllByRecursion, filter, range_with_len, sum_by}
use Rattle.std.proofs.lemmas.Bool.{cases_eq, eq-eqb, ne_eqb}
use Rattle.std.proofs.lemmas.Int.{ints}
use Rattle.std.proofs.lemmas.List.Sums.{sum_by-cons}
use Rattle.count_sketch.specs.Counters.{int_sum_by}
use Rattle.recursive_sum.proofs.Sums.{int_sum_by-cons}

pub int_sum_by-map : {X Y : Type 0} (f : Y → ℤ) (g : X → Y) (xs : List X)
    → int_sum_by f (map g xs) ≡ int_sum_by (λ x. f (g x)) xs
int_sum_by-map f g [] = refl
int_sum_by-map f g (x ∷ xs) =
    int_sum_by-cons f (g x) (map g xs) ∙ ap (λ (t : ℤ). f (g x) +ℤ t) (int_sum_by-map f g xs)
    ∙ sym (int_sum_by-cons (λ y. f (g y)) x xs)

-- the sum of what passes a test
pub int_sum_by-filter : {X : Type 0} (p : X → Bool) (f : X → ℤ) (xs : List X)
    → int_sum_by f (filter p xs) ≡ int_sum_by (λ x. cond (p x) (f x) (pos 0)) xs
int_sum_by-filter p f [] = refl
int_sum_by-filter p f (x ∷ xs) =
    step (p x) (int_sum_by-filter p f xs) ∙ sym (int_sum_by-cons (λ y. cond (p y) (f y) (pos 0)) x xs)
  where
    step : (b : Bool) → int_sum_by f (filter p xs) ≡ int_sum_by (λ y. cond (p y) (f y) (pos 0)) xs
        → int_sum_by f (cond b (x ∷ filter p xs) (filter p xs))
        ≡ cond b (f x) (pos 0) +ℤ int_sum_by (λ y. cond (p y) (f y) (pos 0)) xs
    step true rest = int_sum_by-cons f x (filter p xs) ∙ ap (λ (t : ℤ). f x +ℤ t) rest
    step false rest = omega (arith, ints, rest)

int_sum_by-both : {X : Type 0} (f g : X → ℤ) (xs : List X)
    → int_sum_by (λ x. f x +ℤ g x) xs ≡ int_sum_by f xs +ℤ int_sum_by g xs
int_sum_by-both f g [] = omega (arith, ints)
int_sum_by-both f g (x ∷ xs) =
    let rest = int_sum_by-both f g xs in
    let both = int_sum_by-cons (λ y. f y +ℤ g y) x xs in
    let one = int_sum_by-cons f x xs in
    let two = int_sum_by-cons g x xs in
    omega (arith, ints, rest, both, one, two)

int_sum_by-zeros : {X : Type 0} (xs : List X) → int_sum_by (λ (x : X). pos 0) xs ≡ pos 0
int_sum_by-zeros [] = refl
int_sum_by-zeros (x ∷ xs) = int_sum_by-zeros xs

-- a number below a range does not stand in it
int_sum_by-past : (k a n : ℕ) (v : ℤ) → k < a
    → int_sum_by (λ s. cond (k == s) v (pos 0)) (range_with_len a n) ≡ pos 0
int_sum_by-past k a zero v below = refl
int_sum_by-past k a (suc n) v below =
    let apart : (k == a) ≡ false = ne_eqb k a (omega arith) in
    let rest = int_sum_by-past k (a + 1) n v (omega arith) in
    int_sum_by-cons (λ s. cond (k == s) v (pos 0)) a (range_with_len (a + 1) n)
    ∙ rw apart (omega (arith, ints, rest))

-- a number of a range stands in it once
int_sum_by-once : (k a n : ℕ) (v : ℤ) → a ≤ k → k < a + n
    → int_sum_by (λ s. cond (k == s) v (pos 0)) (range_with_len a n) ≡ v
int_sum_by-once k a zero v above below = absurd (omega arith)
int_sum_by-once k a (suc n) v above below =
    int_sum_by-cons (λ s. cond (k == s) v (pos 0)) a (range_with_len (a + 1) n)
    ∙ elim (cases_eq k a) [
      | inl same ↦
          let rest = int_sum_by-past k (a + 1) n v (omega arith) in
          rw (eq-eqb k a same) (omega (arith, ints, rest))
      | inr other ↦
          let rest = int_sum_by-once k (a + 1) n v (omega arith) (omega arith) in
          rw (ne_eqb k a other) (omega (arith, ints, rest))
    ]

-- the sums over the elements of each number are together the sum over all
pub int_sum_by-parts : {X : Type 0} (f : X → ℤ) (number : X → ℕ) (n : ℕ) (xs : List X)
    → AllByRecursion (λ x. number x < n) xs
    → int_sum_by (λ s. int_sum_by f (filter (λ x. number x == s) xs)) (range_with_len 0 n) ≡ int_sum_by f xs
int_sum_by-parts f number n [] all = int_sum_by-zeros (range_with_len 0 n)
int_sum_by-parts {X} f number n (x ∷ xs) all =
    (λ i. int_sum_by (λ s. first s i) (range_with_len 0 n))
    ∙ int_sum_by-both (λ s. cond (number x == s) (f x) (pos 0)) (λ s. int_sum_by f (filter (λ y. number y == s) xs))
    (range_with_len 0 n)
    ∙ joined (int_sum_by-parts f number n xs all.1)
  where
    first : (s : ℕ) → int_sum_by f (filter (λ y. number y == s) (x ∷ xs))
        ≡ cond (number x == s) (f x) (pos 0) +ℤ int_sum_by f (filter (λ y. number y == s) xs)
    first s = step (number x == s)
      where
        step : (b : Bool) → int_sum_by f (cond b (x ∷ filter (λ y. number y == s) xs) (filter (λ y. number y == s) xs))
            ≡ cond b (f x) (pos 0) +ℤ int_sum_by f (filter (λ y. number y == s) xs)
        step true = int_sum_by-cons f x (filter (λ y. number y == s) xs)
        step false = omega (arith, ints)

    joined : int_sum_by (λ s. int_sum_by f (filter (λ y. number y == s) xs)) (range_with_len 0 n) ≡ int_sum_by f xs
        → int_sum_by (λ s. cond (number x == s) (f x) (pos 0)) (range_with_len 0 n)
        +ℤ int_sum_by (λ s. int_sum_by f (filter (λ y. number y == s) xs)) (range_with_len 0 n)
        ≡ int_sum_by f (x ∷ xs)
    joined rest =
        let once = int_sum_by-once (number x) 0 n (f x) (omega arith) (omega (arith, all.0)) in
        let whole = int_sum_by-cons f x xs in
        omega (arith, ints, once, rest, whole)

-- ---- sums of natural numbers

int_sum_by-pos : {X : Type 0} (f : X → ℕ) (xs : List X) → int_sum_by (λ x. pos (f x)) xs ≡ pos (sum_by f xs)
int_sum_by-pos f [] = refl
int_sum_by-pos f (x ∷ xs) =
    let rest = int_sum_by-pos f xs in
    let one = int_sum_by-cons (λ y. pos (f y)) x xs in
    let two = sum_by-cons f x xs in
    omega (arith, ints, rest, one, two)

-- the same of a sum of natural numbers
pub sum_by-parts : {X : Type 0} (f : X → ℕ) (number : X → ℕ) (n : ℕ) (xs : List X)
    → AllByRecursion (λ x. number x < n) xs
    → sum_by (λ s. sum_by f (filter (λ x. number x == s) xs)) (range_with_len 0 n) ≡ sum_by f xs
sum_by-parts f number n xs all =
    let parts : int_sum_by (λ s. pos (sum_by f (filter (λ x. number x == s) xs))) (range_with_len 0 n)
    ≡ pos (sum_by f xs) =
    (λ i. int_sum_by (λ s. sym (int_sum_by-pos f (filter (λ x. number x == s) xs)) i) (range_with_len 0 n))
    ∙ int_sum_by-parts (λ x. pos (f x)) number n xs all ∙ int_sum_by-pos f xs in
    let whole = int_sum_by-pos (λ s. sum_by f (filter (λ x. number x == s) xs)) (range_with_len 0 n) in
    omega (arith, ints, parts, whole)
