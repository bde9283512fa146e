-- The middle one of a list with an odd number of members.
use Rattle.std.proofs.Common.{◌≡◌, ℕ, ◌+◌, ◌*◌, ◌≤◌, ◌<◌, Bool, true, false, cond, ltb, List, length, get_or, take}
use Rattle.std.proofs.Common.{drop, Option, ℤ, pos, ◌<ℤ◌, int_lt, int_le, unsigned_abs, count_by, refl, sym, ◌∙◌, ap}
use Rattle.std.proofs.Common.{arith, length-take, length-drop, Less, Equal, Greater}
use Rattle.std.specs.Prelude.{unwrap_or}
use Rattle.std.specs.List.{Contains}
use Rattle.std.specs.List.Sorted.{IsPermutation, IsSorted}
use Rattle.std.specs.Ordering.{int_cmp, is_lt}
use Rattle.std.proofs.lemmas.Bool.{and_parts, and_from, ltb-true, lt-ltb}
use Rattle.std.proofs.lemmas.Cmp.{int_cmp_total}
use Rattle.std.proofs.lemmas.Int.{ints, by_lt_z}
use Rattle.std.proofs.lemmas.List.{get_or-take, get_or-drop, get_or_default}
use Rattle.std.proofs.lemmas.List.Elements.{Contains-get_or}
use Rattle.std.proofs.lemmas.List.Sorted.{ranks_by, sorted_far, sum_by-IsPermutation, length_permutation}
use Rattle.std.proofs.lemmas.List.Sorted.{Contains-permutation, IsPermutation-sym}
use Rattle.std.proofs.lemmas.List.Sums.{sum_by-take-drop, count_by-le-length}
use Rattle.count_sketch.specs.Counters.{AllUpTo}
use Rattle.count_sketch.specs.Estimate.{IsMiddle, is_middle, middle}
use Rattle.count_sketch.proofs.Counting.{both_counts, both_sides, count_none, one_order, found, All-find}

is_lt-cond : (b c : Bool) → is_lt (cond b Less (cond c Greater Equal)) ≡ b
is_lt-cond true c = refl
is_lt-cond false true = refl
is_lt-cond false false = refl

-- in ascending order no number is less than an earlier one
rises : (ys : List ℤ) → IsSorted int_cmp ys → (i j : ℕ) (d : ℤ) → i ≤ j → j < length ys
    → int_lt (get_or ys j d) (get_or ys i d) ≡ false
rises ys sorted i j d order below =
    let x = get_or ys j d in
    let y = get_or ys i d in
    sym (is_lt-cond (int_lt x y) (int_lt y x))
    ∙ sorted_far (λ a b. is_lt (int_cmp a b)) (ranks_by int_cmp_total (λ (a : ℤ). a)) ys sorted i j d order below

-- at most as many numbers pass a test as stand before n, where none from n on passes
count_front : (p : ℤ → Bool) (ys : List ℤ) (n : ℕ) → n ≤ length ys
    → ((k : ℕ) (d : ℤ) → n ≤ k → k < length ys → p (get_or ys k d) ≡ false) → count_by p ys ≤ n
count_front p ys n within none =
    let parts = sum_by-take-drop (λ y. cond {A = ℕ} (p y) 1 0) ys n in
    let front = count_by-le-length p (take n ys) in
    let back = count_none p (drop n ys)
    (λ k d below. ap p (get_or-drop n ys k d) ∙ none (n + k) d (omega arith) (omega (arith, length-drop n ys))) in
    omega (arith, parts, front, back, length-take n ys)

-- the same for the numbers from n on
count_back : (p : ℤ → Bool) (ys : List ℤ) (n : ℕ) → n ≤ length ys
    → ((k : ℕ) (d : ℤ) → k < n → p (get_or ys k d) ≡ false) → count_by p ys + n ≤ length ys
count_back p ys n within none =
    let parts = sum_by-take-drop (λ y. cond {A = ℕ} (p y) 1 0) ys n in
    let back = count_by-le-length p (drop n ys) in
    let front = count_none p (take n ys)
    (λ k d below. ap p (get_or-take n ys k d (omega (arith, length-take n ys)))
    ∙ none k d (omega (arith, length-take n ys))) in
    omega (arith, parts, front, back, length-drop n ys)

-- the number at half the length of the ascending list is in the middle of the list
middle_at_half : (xs ys : List ℤ) (half : ℕ) (d : ℤ) → length xs ≡ 2 * half + 1 → IsPermutation xs ys
    → IsSorted int_cmp ys → is_middle xs (get_or ys half d) ≡ true
unfolding is_middle
middle_at_half xs ys half d odd moved sorted =
    let m = get_or ys half d in
    let size = length_permutation xs ys moved in
    let below = count_front (λ y. int_lt y m) ys half (omega arith)
    (λ k e after within. ap (λ (z : ℤ). int_lt z m) (get_or_default ys k e d within)
    ∙ rises ys sorted half k d after within) in
    let above = count_back (λ y. int_lt m y) ys (half + 1) (omega arith)
    (λ k e before. ap (λ (z : ℤ). int_lt m z) (get_or_default ys k e d (omega arith))
    ∙ rises ys sorted k half d (omega arith) (omega arith)) in
    let same_below = sum_by-IsPermutation (λ y. cond {A = ℕ} (int_lt y m) 1 0) xs ys moved in
    let same_above = sum_by-IsPermutation (λ y. cond {A = ℕ} (int_lt m y) 1 0) xs ys moved in
    let few_below : 2 * count_by (λ y. int_lt y m) xs < length xs = omega (arith, below, same_below) in
    let few_above : 2 * count_by (λ y. int_lt m y) xs < length xs = omega (arith, above, same_above, size) in
    and_from (ltb (2 * count_by (λ y. int_lt y m) xs) (length xs)) (ltb (2 * count_by (λ y. int_lt m y) xs) (length xs))
    (lt-ltb _ _ few_below) (lt-ltb _ _ few_above)

-- two numbers in the middle don't stand apart
not_apart : (xs : List ℤ) (x y : ℤ) → is_middle xs x ≡ true → is_middle xs y ≡ true → x <ℤ y → ⊥
unfolding is_middle
not_apart xs x y at_x at_y less =
    let of_x = and_parts (ltb (2 * count_by (λ z. int_lt z x) xs) (length xs))
    (ltb (2 * count_by (λ z. int_lt x z) xs) (length xs)) at_x in
    let of_y = and_parts (ltb (2 * count_by (λ z. int_lt z y) xs) (length xs))
    (ltb (2 * count_by (λ z. int_lt y z) xs) (length xs)) at_y in
    let above : 2 * count_by (λ z. int_lt x z) xs < length xs = ltb-true _ _ of_x.1 in
    let below : 2 * count_by (λ z. int_lt z y) xs < length xs = ltb-true _ _ of_y.0 in
    omega (arith, both_sides x y less xs)

one_middle : (xs : List ℤ) (x y : ℤ) → is_middle xs x ≡ true → is_middle xs y ≡ true → x ≡ y
one_middle xs x y at_x at_y =
    by_lt_z x y (λ less. absurd (not_apart xs x y at_x at_y less)) (λ least.
    by_lt_z y x (λ less. absurd (not_apart xs y x at_y at_x less)) (λ most. omega (arith, ints)))

-- a number that is in the middle and in the list is the middle one
middle_is : (xs : List ℤ) (m : ℤ) → Contains xs m → is_middle xs m ≡ true → m ≡ middle xs
unfolding middle
middle_is xs m contains at_m =
    let first = found (is_middle xs) xs contains.0 m contains.1 (ap (is_middle xs) contains.2 ∙ at_m) in
    one_middle xs m first.member at_m first.passes ∙ sym (ap (λ (o : Option ℤ). unwrap_or o (pos 0)) first.first)

-- so the middle one stands at half the length of the ascending list
pub middle-sorted : (xs ys : List ℤ) (half : ℕ) (d : ℤ) → length xs ≡ 2 * half + 1 → IsPermutation xs ys
    → IsSorted int_cmp ys → get_or ys half d ≡ middle xs
middle-sorted xs ys half d odd moved sorted =
    middle_is xs (get_or ys half d)
    (Contains-permutation ys xs _ (IsPermutation-sym xs ys moved)
    (Contains-get_or ys half d (omega (arith, length_permutation xs ys moved))))
    (middle_at_half xs ys half d odd moved sorted)

-- and more than half of the numbers are at most it, and more than half at least it
is_middle-parts : (xs : List ℤ) (m : ℤ) → Contains xs m → is_middle xs m ≡ true → IsMiddle xs m
unfolding is_middle
is_middle-parts xs m contains at_m =
    let parts = and_parts (ltb (2 * count_by (λ y. int_lt y m) xs) (length xs))
    (ltb (2 * count_by (λ y. int_lt m y) xs) (length xs)) at_m in
    let below : 2 * count_by (λ y. int_lt y m) xs < length xs = ltb-true _ _ parts.0 in
    let above : 2 * count_by (λ y. int_lt m y) xs < length xs = ltb-true _ _ parts.1 in
    record {
      one = contains;
      low = omega (arith, above, both_counts (λ y. int_lt m y) (λ y. int_le y m) (λ y. one_order m y) xs);
      high = omega (arith, below, both_counts (λ y. int_lt y m) (λ y. int_le m y) (λ y. one_order y m) xs);
    }

pub IsMiddle-sorted : (xs ys : List ℤ) (half : ℕ) (d : ℤ) → length xs ≡ 2 * half + 1 → IsPermutation xs ys
    → IsSorted int_cmp ys → IsMiddle xs (get_or ys half d)
IsMiddle-sorted xs ys half d odd moved sorted =
    is_middle-parts xs (get_or ys half d)
    (Contains-permutation ys xs _ (IsPermutation-sym xs ys moved)
    (Contains-get_or ys half d (omega (arith, length_permutation xs ys moved))))
    (middle_at_half xs ys half d odd moved sorted)

-- the middle one is no greater than the numbers are
pub middle-upto : (xs : List ℤ) (n : ℕ) → AllUpTo n xs → unsigned_abs (middle xs) ≤ n
unfolding middle
middle-upto xs n all = All-find (λ x. unsigned_abs x ≤ n) (is_middle xs) xs (pos 0) all.each (omega arith)
