-- The coefficients of one function.
use Rattle.std.specs.Prelude.{◌≡◌, ℕ, ◌+◌, ◌*◌, ◌<◌, List, length, slice_index}
use Rattle.hash_family.specs.Hash.{prime, sum_below}

-- twelve coefficients below the prime
pub record IsRow (row : List ℕ) : Type 0 where
  pub size : length row ≡ 12
  pub below : (i : ℕ) → i < 12 → slice_index row i < prime

-- coefficient 0, and coefficient i + 1 times word i of the key
unfoldable pub linear_form : List ℕ → List ℕ → ℕ
linear_form row words = slice_index row 0 + sum_below (λ i. slice_index row (i + 1) * slice_index words i) 11
