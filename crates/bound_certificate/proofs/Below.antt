-- Tests of the numbers below n.
use Rattle.std.proofs.Common.{◌≡◌, ℕ, zero, suc, ◌+◌, ◌≤◌, ◌<◌, Bool, true, false, cond, ◌⊎◌, inl, inr, [], ◌∷◌, ◌++◌, Option, None, Some, get_or, sym, ◌∙◌, ap, subst, arith, add-one}
use Rattle.std.specs.List.{range_with_len, All}
use Rattle.std.specs.Option.{option_or}
use Rattle.std.proofs.lemmas.Bool.{and_left, and_right, and_parts}
use Rattle.std.proofs.lemmas.List.FromFn.{length-range_with_len, get_or-range_with_len}
use Rattle.bound_certificate.specs.Sums.{all_below, first_below}

-- a number below n + 1 is below n or is n
pub below_or_last : (i n : ℕ) → i < suc n → (i < n) ⊎ (i ≡ n)
below_or_last i n h = grind arith

-- a test that each number passes is passed by one of them
pub all_below-at : (test : ℕ → Bool) (n i : ℕ) → all_below test n ≡ true → i < n → test i ≡ true
all_below-at test zero i all below = absurd (omega arith)
all_below-at test (suc n) i all below =
    let parts = and_parts _ _ all in
    elim (below_or_last i n below) [
      | inl lower ↦ all_below-at test n i parts.0 lower
      | inr same ↦ subst (λ (k : ℕ). test k ≡ true) (sym same) parts.1
    ]

-- one number that does not pass settles it
pub all_below_fails : (test : ℕ → Bool) (n i : ℕ) → i < n → test i ≡ false → all_below test n ≡ false
all_below_fails test zero i below fails = absurd (omega arith)
all_below_fails test (suc n) i below fails =
    elim (below_or_last i n below) [
      | inl lower ↦ and_left _ _ (all_below_fails test n i lower fails)
      | inr same ↦ and_right _ _ (subst (λ (k : ℕ). test k ≡ false) same fails)
    ]

first_here : (test : ℕ → Bool) (n i : ℕ) → i ≡ n → first_below test i ≡ None → test i ≡ true
    → first_below test (suc n) ≡ Some i
first_here test n i same none passes =
    subst (λ (k : ℕ). first_below test (suc k) ≡ Some i) same
    (ap (λ found. option_or found (cond (test i) (Some i) None)) none
    ∙ ap (λ (b : Bool). cond {A = Option ℕ} b (Some i) None) passes)

-- the first number that passes stays the first
pub first_below_found : (test : ℕ → Bool) (n i : ℕ) → first_below test i ≡ None → test i ≡ true → i < n
    → first_below test n ≡ Some i
first_below_found test zero i none passes below = absurd (omega arith)
first_below_found test (suc n) i none passes below =
    elim (below_or_last i n below) [
      | inl lower ↦ ap (λ found. option_or found (cond (test n) (Some n) None))
          (first_below_found test n i none passes lower)
      | inr same ↦ first_here test n i same none passes
    ]

-- one more number behind those from a on
range_with_len_last : (a n : ℕ) → range_with_len a (suc n) ≡ range_with_len a n ++ (a + n) ∷ []
range_with_len_last a zero = ap (λ (k : ℕ). k ∷ []) (omega arith)
range_with_len_last a (suc n) =
    let shifted : (a + 1) + n ≡ a + suc n = omega arith in
    ap (λ xs. a ∷ xs) (range_with_len_last (a + 1) n ∙ ap (λ (k : ℕ). range_with_len (a + 1) n ++ k ∷ []) shifted)

pub range_with_len-more : (a n : ℕ) → range_with_len a (n + 1) ≡ range_with_len a n ++ (a + n) ∷ []
range_with_len-more a n = rw add-one (range_with_len_last a n)

pub range_with_len-below : (a n m : ℕ) → a + n ≤ m → All (λ x. x < m) (range_with_len a n)
range_with_len-below a n m within k d below =
    let small : k < n = rw length-range_with_len at below in
    let value : get_or (range_with_len a n) k d ≡ a + k = get_or-range_with_len a n k d small in
    omega (arith, value)
