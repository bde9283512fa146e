-- A test of a list in parts, by a number of each element.
use Rattle.std.proofs.Common.{◌≡◌, ℕ, ◌+◌, ◌<◌, ◌≤◌, ◌==◌, ◌&&◌, ◌||◌, zero, suc, Bool, true, false, cond, List, [], ◌∷◌, refl, ◌∙◌, ap, arith, inl, inr}
use Rattle.std.specs.List.{AllByRecursion, filter, flat_map, list_any, range_with_len}
use Rattle.std.proofs.Math.Bool.{or-false}
use Rattle.std.proofs.lemmas.Bool.{cases_eq, eq-eqb, ne_eqb, or_parts}
use Rattle.std.proofs.lemmas.List.Folds.{list_any-append}

pub list_any-flat_map : {X Y : Type 0} (p : Y → Bool) (f : X → List Y) (xs : List X)
    → list_any p (flat_map f xs) ≡ list_any (λ x. list_any p (f x)) xs
list_any-flat_map p f [] = refl
list_any-flat_map p f (x ∷ xs) =
    list_any-append p (f x) (flat_map f xs) ∙ ap (λ (b : Bool). list_any p (f x) || b) (list_any-flat_map p f xs)

pub list_any-filter : {X : Type 0} (p q : X → Bool) (xs : List X)
    → list_any q (filter p xs) ≡ list_any (λ x. p x && q x) xs
list_any-filter p q [] = refl
list_any-filter {X} p q (x ∷ xs) = step (p x) (list_any-filter p q xs)
  where
    step : (b : Bool) → list_any q (filter p xs) ≡ list_any (λ y. p y && q y) xs
        → list_any q (cond b (x ∷ filter p xs) (filter p xs)) ≡ ((b && q x) || list_any (λ y. p y && q y) xs)
    step true rest = ap (λ (b : Bool). q x || b) rest
    step false rest = rest

or_shuffle : (a b c d : Bool) → ((a || b) || (c || d)) ≡ ((a || c) || (b || d))
or_shuffle true b c d = refl
or_shuffle false true true d = refl
or_shuffle false true false d = refl
or_shuffle false false c d = refl

list_any-both : {X : Type 0} (p q : X → Bool) (xs : List X)
    → list_any (λ x. p x || q x) xs ≡ (list_any p xs || list_any q xs)
list_any-both p q [] = refl
list_any-both p q (x ∷ xs) =
    ap (λ (b : Bool). (p x || q x) || b) (list_any-both p q xs)
    ∙ or_shuffle (p x) (q x) (list_any p xs) (list_any q xs)

list_any-never : {X : Type 0} (xs : List X) → list_any (λ (x : X). false) xs ≡ false
list_any-never [] = refl
list_any-never (x ∷ xs) = list_any-never xs

-- a number below a range does not stand in it
list_any-past : (k a n : ℕ) (v : Bool) → k < a → list_any (λ s. cond (k == s) v false) (range_with_len a n) ≡ false
list_any-past k a zero v below = refl
list_any-past k a (suc n) v below =
    rw (ne_eqb k a (omega arith)) (list_any-past k (a + 1) n v (omega arith))

-- a number of a range stands in it
list_any-once : (k a n : ℕ) (v : Bool) → a ≤ k → k < a + n
    → list_any (λ s. cond (k == s) v false) (range_with_len a n) ≡ v
list_any-once k a zero v above below = absurd (omega arith)
list_any-once k a (suc n) v above below = elim (cases_eq k a) [
  | inl same ↦ rw (eq-eqb k a same)
      (ap (λ (b : Bool). v || b) (list_any-past k (a + 1) n v (omega arith)) ∙ or-false v)
  | inr other ↦ rw (ne_eqb k a other) (list_any-once k (a + 1) n v (omega arith) (omega arith))
]

-- some element of some number passes where some element does
pub list_any-parts : {X : Type 0} (p : X → Bool) (number : X → ℕ) (n : ℕ) (xs : List X)
    → AllByRecursion (λ x. number x < n) xs
    → list_any (λ s. list_any p (filter (λ x. number x == s) xs)) (range_with_len 0 n) ≡ list_any p xs
list_any-parts p number n [] all = list_any-never (range_with_len 0 n)
list_any-parts {X} p number n (x ∷ xs) all =
    (λ i. list_any (λ s. first s i) (range_with_len 0 n))
    ∙ list_any-both (λ s. cond (number x == s) (p x) false) (λ s. list_any p (filter (λ y. number y == s) xs))
    (range_with_len 0 n)
    ∙ ap (λ (b : Bool). b || list_any (λ s. list_any p (filter (λ y. number y == s) xs)) (range_with_len 0 n))
    (list_any-once (number x) 0 n (p x) (omega arith) (omega (arith, all.0)))
    ∙ ap (λ (b : Bool). p x || b) (list_any-parts p number n xs all.1)
  where
    first : (s : ℕ) → list_any p (filter (λ y. number y == s) (x ∷ xs))
        ≡ (cond (number x == s) (p x) false || list_any p (filter (λ y. number y == s) xs))
    first s = step (number x == s)
      where
        step : (b : Bool) → list_any p (cond b (x ∷ filter (λ y. number y == s) xs) (filter (λ y. number y == s) xs))
            ≡ (cond b (p x) false || list_any p (filter (λ y. number y == s) xs))
        step true = refl
        step false = refl

-- ---- tests of a range of numbers

-- a test that no number of a range passes
pub none_passes : (p : ℕ → Bool) (a n k : ℕ) → list_any p (range_with_len a n) ≡ false → a ≤ k → k < a + n
    → p k ≡ false
none_passes p a zero k h above below = absurd (omega arith)
none_passes p a (suc n) k h above below =
    let parts = or_parts (p a) (list_any p (range_with_len (a + 1) n)) h in
    elim (cases_eq k a) [
      | inl here ↦ ap p here ∙ parts.0
      | inr other ↦ none_passes p (a + 1) n k parts.1 (omega arith) (omega arith)
    ]

-- two tests that agree on a range
pub list_any-agree : (p q : ℕ → Bool) (a n : ℕ) → ((k : ℕ) → a ≤ k → k < a + n → p k ≡ q k)
    → list_any p (range_with_len a n) ≡ list_any q (range_with_len a n)
list_any-agree p q a zero agree = refl
list_any-agree p q a (suc n) agree =
    let first : p a ≡ q a = agree a (omega arith) (omega arith) in
    let rest = list_any-agree p q (a + 1) n (λ k above below. agree k (omega arith) (omega arith)) in
    λ i. first i || rest i
