-- The floor's own dual is right, and its value is at least the floor.
use Rattle.std.proofs.Common.{◌≡◌, ℕ, zero, suc, ◌+◌, ◌-◌, ◌*◌, ◌≤◌, ◌<◌, Bool, true, false, cond, ◌==◌, List, length, slice_index, slice_index_or, Option, None, Some, pos, ◌-ℤ◌, inl, inr, refl, ◌∙◌, ap, subst, arith, mul-zero}
use Rattle.std.specs.Prelude.{int_le, nat_lt}
use Rattle.std.specs.Option.{option_or}
use Rattle.std.proofs.lemmas.Bool.{cases_Bool}
use Rattle.std.proofs.lemmas.Bool.Decides.{nat_tests}
use Rattle.std.proofs.lemmas.Int.{ints}
use Rattle.std.proofs.lemmas.List.{get_or_default}
use Rattle.bound_certificate.specs.Sums.{sum_below, first_below, has}
use Rattle.bound_certificate.specs.Problem.{Problem, site_count, need_count, capacity, load, via}
use Rattle.bound_certificate.specs.Placement.{AreChoices, service, cost}
use Rattle.bound_certificate.specs.Node.{excess, dual_sum, dual_limit, is_breached, dual_breach, priced_capacity_by, dual_credit, dual_debit, dual_value}
use Rattle.bound_certificate.specs.Floor.{least_by, need_price, floor_by, floor}
use Rattle.bound_certificate.proofs.FloorLaw.{least_at}
use Rattle.bound_certificate.proofs.Fitting.{has-place}
use Rattle.bound_certificate.proofs.Sums.{sum_below-le, sum_below-same, sum_below-zero, sum-index}
use Rattle.placement_search.specs.Leaf.{IsFloorDual, IsDual}

-- the least number of a list is at most each
least_by-le : (f : ℕ → ℕ) (xs : List ℕ) (x : ℕ) → has xs x ≡ true → least_by f xs ≤ f x
least_by-le f xs x stands =
    let place = has-place xs x stands in
    subst (λ (y : ℕ). least_by f xs ≤ f y) place.1.is (least_at f xs place.0 place.1.within)

-- no number below n passes
first_below-none : (test : ℕ → Bool) (n : ℕ) → ((i : ℕ) → i < n → test i ≡ false) → first_below test n ≡ None
first_below-none test zero each = refl
first_below-none test (suc n) each =
    let before = first_below-none test n (λ i below. each i (omega arith)) in
    let last = each n (omega arith) in
    ap (λ found. option_or found (cond (test n) (Some n) None)) before
    ∙ ap (λ (b : Bool). cond {A = Option ℕ} b (Some n) None) last

-- a sum whose terms but the first are 0
not_first : (n : ℕ) → (suc n == 0) ≡ false
not_first n = grind (arith, nat_tests)

first_term : (k n : ℕ) → sum_below (λ j. cond {A = ℕ} (j == 0) k 0) n ≤ k
first_term k zero = omega arith
first_term k (suc zero) = omega arith
first_term k (suc (suc n)) =
    let before = first_term k (suc n) in
    let last = ap (λ (b : Bool). cond {A = ℕ} b k 0) (not_first n) in
    omega (arith, before, last)

-- the excess of a least price is at most the opening, and only that of the first need is above 0
excess_le : (p : Problem) (cs lambda mu : List ℕ) (s j : ℕ) → slice_index lambda j ≡ floor_by p cs j
    → slice_index mu s ≡ 0 → excess p cs lambda mu s j ≤ cond {A = ℕ} (j == 0) (dual_limit p cs s) 0
unfolding excess floor_by need_price
excess_le p cs lambda mu s j least free = elim (cases_Bool (has (via p (length cs + j)) s)) [
  | inl stands ↦
      let lower : least_by (need_price p cs j) (via p (length cs + j)) ≤ need_price p cs j s =
      least_by-le (need_price p cs j) (via p (length cs + j)) s stands in
      let none : load p (length cs + j) * slice_index mu s ≡ 0 =
      ap (λ (x : ℕ). load p (length cs + j) * x) free ∙ mul-zero (load p (length cs + j)) in
      let value = ap (λ (b : Bool). cond {A = ℕ} b
      (slice_index lambda j - (service p s (length cs + j) + load p (length cs + j) * slice_index mu s)) 0) stands in
      omega (arith, value, least, none, lower)
  | inr misses ↦
      let value = ap (λ (b : Bool). cond {A = ℕ} b
      (slice_index lambda j - (service p s (length cs + j) + load p (length cs + j) * slice_index mu s)) 0) misses in
      omega (arith, value)
]

sum_le : (p : Problem) (cs lambda mu : List ℕ) (s : ℕ) → IsFloorDual p cs lambda mu
    → dual_sum p cs lambda mu s ≤ dual_limit p cs s
unfolding dual_sum
sum_le p cs lambda mu s is =
    let each = sum_below-le (excess p cs lambda mu s) (λ j. cond {A = ℕ} (j == 0) (dual_limit p cs s) 0)
    (length lambda) (λ j below. excess_le p cs lambda mu s j (is.least j below) (is.free s)) in
    let first = first_term (dual_limit p cs s) (length lambda) in
    omega (arith, each, first)

not_less : (a b : ℕ) → b ≤ a → nat_lt a b ≡ false
not_less a b h = grind (arith, nat_tests)

floor_right : (p : Problem) (cs lambda mu : List ℕ) → IsFloorDual p cs lambda mu → dual_breach p cs lambda mu ≡ None
unfolding dual_breach is_breached
floor_right p cs lambda mu is =
    first_below-none (is_breached p cs lambda mu) (site_count p)
    (λ s below. not_less (dual_limit p cs s) (dual_sum p cs lambda mu s) (sum_le p cs lambda mu s is))

no_debit : (c d b : ℕ) → b ≡ 0 → c ≤ d → int_le (pos c) (pos d -ℤ pos b) ≡ true
no_debit c d b none h = grind (arith, ints, nat_tests)

free_capacity : (p : Problem) (mu : List ℕ) (s : ℕ) → slice_index mu s ≡ 0 → priced_capacity_by p mu s ≡ 0
unfolding priced_capacity_by
free_capacity p mu s free = ap (λ (x : ℕ). capacity p s * x) free ∙ mul-zero (capacity p s)

zero_at : (mu : List ℕ) (k d : ℕ) → k < length mu → slice_index_or mu k d ≡ slice_index mu k
zero_at mu k d below = get_or_default mu k d 0 below

floor_tight : (p : Problem) (cs lambda mu : List ℕ) → IsFloorDual p cs lambda mu
    → int_le (pos (floor p cs)) (dual_value p cs lambda mu) ≡ true
unfolding floor dual_value dual_credit dual_debit priced_capacity_by
floor_tight p cs lambda mu is =
    let total = sum-index lambda in
    let each = sum_below-same (λ j. slice_index lambda j) (floor_by p cs) (length lambda) is.least in
    let size = ap (sum_below (floor_by p cs)) is.lambdas in
    let none = sum_below-zero (priced_capacity_by p mu) (site_count p) (λ s below. free_capacity p mu s (is.free s)) in
    no_debit (cost p cs + sum_below (floor_by p cs) (need_count p - length cs)) (dual_credit p cs lambda mu)
    (sum_below (priced_capacity_by p mu) (site_count p)) none (omega (arith, total, each, size))

pub floor_dual : (p : Problem) (cs lambda mu : List ℕ) → AreChoices p cs → IsFloorDual p cs lambda mu
    → IsDual p cs lambda mu
floor_dual p cs lambda mu are is = record {
  prices = record {
    lambdas = omega (arith, is.lambdas, are.few);
    mus = is.mus;
    small_lambdas = is.small;
    small_mus = λ k d below. omega (arith, is.free k, zero_at mu k d below);
  };
  right = floor_right p cs lambda mu is;
  tight = floor_tight p cs lambda mu is;
}
