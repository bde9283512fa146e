-- Counts over a list of integers, and the first member that passes a test.
use Rattle.std.proofs.Common.{◌≡◌, ℕ, ◌+◌, ◌≤◌, ◌<◌, zero, suc, Bool, true, false, cond, List, [], ◌∷◌, length, get_or}
use Rattle.std.proofs.Common.{Option, Some, ℤ, ◌<ℤ◌, int_lt, int_le, count_by, refl, ◌∙◌, ap, arith}
use Rattle.std.specs.List.{All, find}
use Rattle.std.specs.Prelude.{unwrap_or}
use Rattle.std.proofs.lemmas.Bool.{cond-true, cond-false, cond_both}
use Rattle.std.proofs.lemmas.Bool.Decides.{nat_tests}
use Rattle.std.proofs.lemmas.Int.{ints}
use Rattle.std.proofs.lemmas.List.Elements.{All-head, All-tail}
use Rattle.std.proofs.lemmas.List.Sums.{sum_by-cons}

-- no member passes
pub count_none : {X : Type 0} (p : X → Bool) (xs : List X)
    → ((k : ℕ) (d : X) → k < length xs → p (get_or xs k d) ≡ false) → count_by p xs ≡ 0
count_none p [] none = refl
count_none p (x ∷ xs) none =
    let here : p x ≡ false = none 0 x (omega arith) in
    let rest = count_none p xs (λ k d below. none (suc k) d (omega arith)) in
    let step = sum_by-cons (λ y. cond {A = ℕ} (p y) 1 0) x xs in
    step ∙ ap (λ (b : Bool). cond {A = ℕ} b 1 0 + count_by p xs) here ∙ omega (arith, rest)

-- a number is below the greater of two, or above the lesser
one_side : (x y z : ℤ) → x <ℤ y → 1 ≤ cond {A = ℕ} (int_lt z y) 1 0 + cond {A = ℕ} (int_lt x z) 1 0
one_side x y z less = grind (arith, ints, nat_tests)

-- so together they count each member
pub both_sides : (x y : ℤ) → x <ℤ y → (xs : List ℤ)
    → length xs ≤ count_by (λ z. int_lt z y) xs + count_by (λ z. int_lt x z) xs
both_sides x y less [] = omega arith
both_sides x y less (z ∷ xs) =
    let rest = both_sides x y less xs in
    let here = one_side x y z less in
    let below = sum_by-cons (λ w. cond {A = ℕ} (int_lt w y) 1 0) z xs in
    let above = sum_by-cons (λ w. cond {A = ℕ} (int_lt x w) 1 0) z xs in
    omega (arith, rest, here, below, above)

-- where each member passes one of two tests, the counts are together those of all
pub both_counts : {X : Type 0} (p q : X → Bool) → ((x : X) → cond {A = ℕ} (p x) 1 0 + cond {A = ℕ} (q x) 1 0 ≡ 1)
    → (xs : List X) → count_by p xs + count_by q xs ≡ length xs
both_counts p q each [] = refl
both_counts p q each (x ∷ xs) =
    let rest = both_counts p q each xs in
    let first = sum_by-cons (λ y. cond {A = ℕ} (p y) 1 0) x xs in
    let second = sum_by-cons (λ y. cond {A = ℕ} (q y) 1 0) x xs in
    omega (arith, rest, each x, first, second)

-- a number is below another, or the other is at most it
pub one_order : (x y : ℤ) → cond {A = ℕ} (int_lt x y) 1 0 + cond {A = ℕ} (int_le y x) 1 0 ≡ 1
one_order x y = grind (arith, ints, nat_tests)

-- a member was found that passes
pub record Found {X : Type 0} (p : X → Bool) (xs : List X) : Type 0 where
  pub member : X
  pub first : find p xs ≡ Some member
  pub passes : p member ≡ true

found_from : {X : Type 0} (p : X → Bool) (x : X) (xs : List X) (b : Bool) → p x ≡ b → Found p xs → Found p (x ∷ xs)
found_from p x xs true here rest =
    record { member = x; first = cond-true (p x) (Some x) (find p xs) here; passes = here }
found_from p x xs false here rest = record {
  member = rest.member;
  first = cond-false (p x) (Some x) (find p xs) here ∙ rest.first;
  passes = rest.passes;
}

pub found : {X : Type 0} (p : X → Bool) (xs : List X) (k : ℕ) (d : X) → k < length xs → p (get_or xs k d) ≡ true
    → Found p xs
found p [] k d below passes = absurd (omega arith)
found p (x ∷ xs) zero d below passes =
    record { member = x; first = cond-true (p x) (Some x) (find p xs) passes; passes = passes }
found p (x ∷ xs) (suc k) d below passes = found_from p x xs (p x) refl (found p xs k d (omega arith) passes)

-- what holds of each member and of the default holds of what was found
pub All-find : {X : Type 0} (P : X → Type 0) (p : X → Bool) (xs : List X) (d : X) → All P xs → P d
    → P (unwrap_or (find p xs) d)
All-find P p [] d all at_default = at_default
All-find {X} P p (x ∷ xs) d all at_default =
    cond_both (p x) (Some x) (find p xs) (λ (o : Option X). P (unwrap_or o d)) (λ _. All-head P x xs all)
    (λ _. All-find P p xs d (All-tail P x xs all) at_default)
