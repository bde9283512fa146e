-- How large the sum of changes is.
use Rattle.std.proofs.Common.{ℕ, ◌+◌, ◌*◌, ◌^◌, ◌≤◌, ℤ, unsigned_abs, arith}
use Rattle.std.specs.Bool.{IsTrue}
use Rattle.std.proofs.Math.Pow.{pow_mono}
use Rattle.std.proofs.lemmas.Bool.Decides.{nat_tests}
use Rattle.hash_family.specs.Limits.{are_within}

-- within the limits the highest level is at most 16
pub levels_within : (levels rows width heap : ℕ) → IsTrue (are_within levels rows width heap) → levels ≤ 16
levels_within levels rows width heap within = grind (arith, nat_tests)

-- the sum over the keys of two sketches of at most 2^20 keys a level
pub total_within : (levels : ℕ) (total : ℤ) → levels ≤ 16
    → unsigned_abs total ≤ 2 ^ (levels + 1) * (1048576 + 1048576) * 2 ^ 45 → unsigned_abs total ≤ 2 ^ 100
total_within levels total high bound =
    let power : 2 ^ (levels + 1) ≤ 2 ^ 17 = pow_mono {i = levels + 1} {j = 17} (omega arith) in
    omega (arith, power, bound)
