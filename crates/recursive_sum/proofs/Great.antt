-- Which absolute values are great.
use Rattle.std.proofs.Common.{◌≡◌, ℕ, zero, suc, ◌+◌, ◌*◌, ◌/◌, ◌%◌, ◌<◌, min, ◌&&◌, leb, ltb, ℤ, pos, negsuc, ◌*ℤ◌}
use Rattle.std.proofs.Common.{◌≤ℤ◌, ◌<ℤ◌, int_le, unsigned_abs, arith}
use Rattle.std.proofs.lemmas.Bool.Decides.{nat_tests}
use Rattle.std.proofs.lemmas.Int.{ints}
use Rattle.recursive_sum.specs.Select.{is_great}

at_least_one : (z : ℤ) (size : ℕ) → z ≤ℤ pos 0 → leb 1 size ≡ (ltb 0 size && int_le z (pos (size * 1000)))
at_least_one z size below = grind (arith, ints, nat_tests)

at_least : (n least size : ℕ) → 0 < n → least ≡ n / 1000 + min 1 (n % 1000)
    → leb least size ≡ (ltb 0 size && int_le (pos n) (pos (size * 1000)))
at_least n least size above is = grind (arith, ints, nat_tests)

product_below : (n : ℕ) (z : ℤ) → z ≤ℤ pos 0 → (pos n *ℤ z) ≤ℤ pos 0
product_below n (pos zero) below = omega (arith, ints)
product_below n (pos (suc k)) below = omega (arith, ints)
product_below zero (negsuc k) below = omega (arith, ints)
product_below (suc n) (negsuc k) below = omega (arith, ints)

product_above : (n : ℕ) (z : ℤ) → pos 0 <ℤ z → pos n *ℤ z ≡ pos (n * unsigned_abs z)
product_above n (pos k) above = omega (arith, ints)
product_above n (negsuc k) above = omega (arith, ints)

-- where the total is not above 0, or no thousandths are asked for, each absolute value above 0 is great
pub is_great-any : (per_mille size : ℕ) (total : ℤ) → total ≤ℤ pos 0 → leb 1 size ≡ is_great per_mille total size
unfolding is_great
is_great-any per_mille size total below =
    at_least_one (pos per_mille *ℤ total) size (product_below per_mille total below)

pub is_great-none : (per_mille size : ℕ) (total : ℤ) → per_mille ≡ 0 → leb 1 size ≡ is_great per_mille total size
unfolding is_great
is_great-none per_mille size total none = at_least_one (pos per_mille *ℤ total) size (rw none (omega (arith, ints)))

pub is_great-above : (per_mille size least : ℕ) (total : ℤ) → 0 < per_mille → pos 0 <ℤ total
    → least ≡ (per_mille * unsigned_abs total) / 1000 + min 1 ((per_mille * unsigned_abs total) % 1000)
    → leb least size ≡ is_great per_mille total size
unfolding is_great
is_great-above per_mille size least total some above is =
    let size_above : 0 < unsigned_abs total = omega (arith, ints) in
    let product : 0 < per_mille * unsigned_abs total = grind arith in
    rw (product_above per_mille total above) (at_least (per_mille * unsigned_abs total) least size product is)
