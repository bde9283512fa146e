-- The whole tree's count: how many Branch nodes a tree can have.
use Rattle.std.specs.Prelude.{ℕ, zero, suc, ◌*◌, length}
use Rattle.bound_certificate.specs.Problem.{Problem, need_count, via}
use Rattle.bound_certificate.specs.Sums.{sum_below}

-- f 0 * f 1 * .. up to below n
abbrev pub product_below : (ℕ → ℕ) → ℕ → ℕ
product_below f zero = 1
product_below f (suc n) = product_below f n * f n

-- the number of sites in a need's via
abbrev pub via_size : Problem → ℕ → ℕ
via_size p i = length (via p i)

-- the sum over the depths of how many nodes a depth can have
unfoldable pub whole : Problem → ℕ
whole p = sum_below (λ d. product_below (via_size p) d) (need_count p)
